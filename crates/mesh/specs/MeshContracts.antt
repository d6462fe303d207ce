-- What contracts say of the counts of a mesh and of what is read of it: the sizes of its header, that they are few,
-- where its groups begin, a node that is there.
use Rattle.std.specs.Prelude.{◌≡◌, List, ℕ, ◌+◌, ◌*◌, ◌-◌, ◌≤◌, ◌<◌, ℤ, length}
use Rattle.mesh.specs.declared.sizes.Sizes.{Sizes}
use Rattle.scope.specs.Layout.{count}
use Rattle.scope.specs.Mesh.{most_nodes, most_elements, most_soils, most_edges, most_sides, most_jumps}
use Rattle.scope.specs.Mesh.{mesh_header_columns, soil_columns, node_columns, element_columns, edge_columns, nodes}
use Rattle.scope.specs.Mesh.{elements, soils, edges, sides, jumps, jump_entry}
use Rattle.scope.specs.NumberRanges.{MeshFacts, Counts}

-- ---- sizes: the counts of a mesh whose lines have passed, and where its groups begin

pub record Sized (m : List ℤ) (s : Sizes) : Type 0 where
  pub facts : MeshFacts m
  pub nodes_are : s.nodes ≡ nodes m
  pub elements_are : s.elements ≡ elements m
  pub soils_are : s.soils ≡ soils m
  pub edges_are : s.edges ≡ edges m
  pub sides_are : s.sides ≡ sides m
  pub jumps_are : s.jumps ≡ jumps m

-- the header of a mesh is there, and its counts are within their limits
pub record HeaderThere (m : List ℤ) : Type 0 where
  pub there : mesh_header_columns ≤ length m
  pub counts : Counts m

-- the counts of such a header
pub record SizesAre (m : List ℤ) (s : Sizes) : Type 0 where
  pub counts : Counts m
  pub nodes_are : s.nodes ≡ nodes m
  pub elements_are : s.elements ≡ elements m
  pub soils_are : s.soils ≡ soils m
  pub edges_are : s.edges ≡ edges m
  pub sides_are : s.sides ≡ sides m
  pub jumps_are : s.jumps ≡ jumps m

-- counts so small that no place of a number leaves 64 bits: what the ghost fields of `Sizes` say, so that it is true of
-- every value of the type (law `few_sizes`)
pub record FewSizes (s : Sizes) : Type 0 where
  pub few_soils : s.soils ≤ most_soils
  pub few_nodes : s.nodes ≤ most_nodes
  pub few_elements : s.elements ≤ most_elements
  pub few_edges : s.edges ≤ most_edges
  pub some_side : 0 < s.sides
  pub few_sides : s.sides ≤ most_sides
  pub few_jumps : s.jumps ≤ most_jumps

-- the place of the first number of the nodes, of the elements, of the edges and of the jumps
abbrev pub nodes_from : Sizes → ℕ
nodes_from s = mesh_header_columns + s.soils * soil_columns

abbrev pub elements_from : Sizes → ℕ
elements_from s = nodes_from s + s.nodes * node_columns

abbrev pub edges_from : Sizes → ℕ
edges_from s = elements_from s + s.elements * element_columns

abbrev pub jumps_from : Sizes → ℕ
jumps_from s = edges_from s + s.edges * edge_columns

-- node c of jump j: from, to, facing from, facing to
abbrev pub jump_node : List ℤ → ℕ → ℕ → ℕ
jump_node m j c = count (jump_entry m j c) - 1

-- r is the node v of the mesh m, which is there
pub record NodeAt (r : ℕ) (m : List ℤ) (v : ℕ) : Type 0 where
  pub same : r ≡ v
  pub there : r < nodes m
  pub few : nodes m ≤ most_nodes
