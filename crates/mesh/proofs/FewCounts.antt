-- The counts of a header and those that a claim's lines go by are few, whatever mesh they are of: their types say so.
use Rattle.mesh.specs.declared.sizes.Sizes.{Sizes}
use Rattle.mesh.specs.declared.pairs.ClaimSizes.{ClaimSizes}
use Rattle.mesh.specs.MeshContracts.{FewSizes}
use Rattle.mesh.specs.ClaimContracts.{FewThings}

pub few_sizes : (s : Sizes) → FewSizes s
few_sizes s = record {
  few_soils = s.few_soils;
  few_nodes = s.few_nodes;
  few_elements = s.few_elements;
  few_edges = s.few_edges;
  some_side = s.some_side;
  few_sides = s.few_sides;
  few_jumps = s.few_jumps;
}

pub few_things : (s : ClaimSizes) → FewThings s
few_things s =
    let sizes = few_sizes s.sizes in record {
      few_soils = sizes.few_soils;
      few_nodes = sizes.few_nodes;
      few_elements = sizes.few_elements;
      few_edges = sizes.few_edges;
      some_side = sizes.some_side;
      few_sides = sizes.few_sides;
      few_jumps = sizes.few_jumps;
      few_pairs = s.few_pairs;
    }
