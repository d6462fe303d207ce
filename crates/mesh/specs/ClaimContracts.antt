-- What contracts say of the counts that the lines of a claim go by.
use Rattle.std.specs.Prelude.{◌≡◌, List, ◌≤◌, ◌<◌, ℤ}
use Rattle.mesh.specs.declared.pairs.ClaimSizes.{ClaimSizes}
use Rattle.scope.specs.Mesh.{most_nodes, most_elements, most_soils, most_edges, most_sides, most_jumps, most_pairs}
use Rattle.scope.specs.Rows.{pair_count}
use Rattle.mesh.specs.MeshContracts.{SizesAre}

-- the counts of the mesh m, its node-and-soil pairs among them
pub record Counted (m : List ℤ) (s : ClaimSizes) : Type 0 where
  pub sizes : SizesAre m s.sizes
  pub pairs_are : s.pairs ≡ pair_count m

-- counts so small that no place of a number leaves 64 bits: what the ghost fields of `ClaimSizes` and of `Sizes` say,
-- so that it is true of every value of the type (law `few_things`)
pub record FewThings (s : ClaimSizes) : Type 0 where
  pub few_soils : s.sizes.soils ≤ most_soils
  pub few_nodes : s.sizes.nodes ≤ most_nodes
  pub few_elements : s.sizes.elements ≤ most_elements
  pub few_edges : s.sizes.edges ≤ most_edges
  pub some_side : 0 < s.sizes.sides
  pub few_sides : s.sizes.sides ≤ most_sides
  pub few_jumps : s.sizes.jumps ≤ most_jumps
  pub few_pairs : s.pairs ≤ most_pairs
