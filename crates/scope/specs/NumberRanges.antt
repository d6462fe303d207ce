-- What sound lines say of a mesh and of a claim, by what their numbers are: counts, limits, names. Every sum is
-- bounded by these.
use Rattle.std.specs.Prelude.{◌≡◌, ◌⊎◌, List, ℕ, ◌+◌, ◌*◌, ◌≤◌, ◌<◌, ℤ, pos, ◌+ℤ◌, ◌*ℤ◌, neg_ℤ, ◌≤ℤ◌, length}
use Rattle.scope.specs.Columns.{at, has_field, has_multipliers, n, l}
use Rattle.scope.specs.Layout.{entry}
use Rattle.scope.specs.Claim.{claim_header_columns, stress_columns, if_there, stress, multiplier}
use Rattle.scope.specs.Polygon.{SidesListed}
use Rattle.scope.specs.Rows.{pair_count}
use Rattle.scope.specs.Statements.{PartsFit}
use Rattle.scope.specs.Mesh.{most_nodes, most_elements, most_soils, most_edges, most_jumps, nodes_with}
use Rattle.scope.specs.Mesh.{strength_multiplier, mesh_header_columns, soil_columns, node_columns, element_columns}
use Rattle.scope.specs.Mesh.{edge_columns, jump_columns, element_rows, edge_rows, rows_per_jump, mesh_groups, nodes}
use Rattle.scope.specs.Mesh.{elements, soils, edges, sides, jumps, p, q, h, cohesion, soil_entry, x, y, corner}
use Rattle.scope.specs.Mesh.{element_soil, edge_entry, from_node, to_node, jump_entry, jump_from, jump_to}
use Rattle.scope.specs.Mesh.{facing_from, facing_to, equality_count, kind_with, soil_kind, cohesion_across}

-- z is from lo to hi
pub record Between (lo hi z : ℤ) : Type 0 where
  pub least : lo ≤ℤ z
  pub most : z ≤ℤ hi

-- "nodes 4 to 100, elements 1 to 100, soils 1 to 16, edges 0 to 60, sides 12, 20 or 36", or 108 (document 02, N9),
-- "jumps 0 to 60"; a count of edges or of jumps below 0 would be read as 0, so the number itself is bounded
pub record Counts (m : List ℤ) : Type 0 where
  pub nodes_least : 4 ≤ nodes m
  pub nodes_most : nodes m ≤ most_nodes
  pub elements_least : 1 ≤ elements m
  pub elements_most : elements m ≤ most_elements
  pub soils_least : 1 ≤ soils m
  pub soils_most : soils m ≤ most_soils
  pub edges_least : pos 0 ≤ℤ at m 3
  pub edges_most : edges m ≤ most_edges
  pub sides_listed : SidesListed (sides m)
  pub nodes_fit : nodes m ≤ nodes_with (sides m)
  pub jumps_least : pos 0 ≤ℤ at m 5
  pub jumps_most : jumps m ≤ most_jumps

-- soil s
pub record SoilFacts (m : List ℤ) (s : ℕ) : Type 0 where
  pub p_range : Between (pos 0) (pos 1000) (p m s)
  pub q_range : Between (pos 1) (pos 1000) (q m s)
  pub h_range : Between (pos 1) (pos 1000) (h m s)
  pub cohesion_range : Between (pos 0) (pos 10000) (cohesion m s)
  pub force_range : (c : ℕ) → c < 4 → Between (neg_ℤ (pos 1000)) (pos 1000) (soil_entry m s (4 + c))
  pub kind_range : Between (pos 0) (pos (kind_with (sides m))) (soil_kind m s)
  pub across_range : Between (pos 0) (pos 10000) (cohesion_across m s)
  pub right_angle : p m s *ℤ p m s +ℤ q m s *ℤ q m s ≡ h m s *ℤ h m s

-- node v
pub record NodeFacts (m : List ℤ) (v : ℕ) : Type 0 where
  pub x_range : Between (pos 0) (pos 1000) (x m v)
  pub y_range : Between (pos 0) (pos 1000) (y m v)

-- element e: its numbers count from 1
pub record ElementFacts (m : List ℤ) (e : ℕ) : Type 0 where
  pub from_one : (c : ℕ) → c < element_columns → pos 1 ≤ℤ entry (mesh_groups m) m 3 e c
  pub corner_there : (i : ℕ) → i < 4 → corner m e i < nodes m
  pub soil_there : element_soil m e < soils m

-- edge g: its nodes count from 1
pub record EdgeFacts (m : List ℤ) (g : ℕ) : Type 0 where
  pub from_one : (c : ℕ) → c < 2 → pos 1 ≤ℤ edge_entry m g c
  pub from_there : from_node m g < nodes m
  pub to_there : to_node m g < nodes m
  pub fixed_range : Between (pos 1) (pos 3) (edge_entry m g 2)
  pub load_range : (c : ℕ) → c < 4 → Between (neg_ℤ (pos 10000)) (pos 10000) (edge_entry m g (3 + c))

-- jump j: its nodes count from 1
pub record JumpFacts (m : List ℤ) (j : ℕ) : Type 0 where
  pub from_one : (c : ℕ) → c < jump_columns → pos 1 ≤ℤ jump_entry m j c
  pub from_there : jump_from m j < nodes m
  pub to_there : jump_to m j < nodes m
  pub facing_from_there : facing_from m j < nodes m
  pub facing_to_there : facing_to m j < nodes m

-- a mesh whose lines are sound: all its numbers are there, and none is left over
pub record MeshFacts (m : List ℤ) : Type 0 where
  pub counts : Counts m
  pub size : length m
      ≡ mesh_header_columns + soils m * soil_columns + nodes m * node_columns + elements m * element_columns
      + edges m * edge_columns + jumps m * jump_columns
  pub soil : (s : ℕ) → s < soils m → SoilFacts m s
  pub node : (v : ℕ) → v < nodes m → NodeFacts m v
  pub element : (e : ℕ) → e < elements m → ElementFacts m e
  pub edge : (g : ℕ) → g < edges m → EdgeFacts m g
  pub jump : (j : ℕ) → j < jumps m → JumpFacts m j

-- ---- a claim whose lines are sound, on a mesh whose lines are

pub record ClaimFacts (m c : List ℤ) : Type 0 where
  pub field_flag : (at c 0 ≡ pos 0) ⊎ (at c 0 ≡ pos 1)
  pub multipliers_flag : (at c 1 ≡ pos 0) ⊎ (at c 1 ≡ pos 1)
  pub n_range : Between (pos 0) (pos 100000) (n c)
  pub l_range : Between (neg_ℤ (pos 100000000)) (pos 100000000) (l c)
  pub parts_fit : PartsFit c
  pub size : length c
      ≡ claim_header_columns
      + if_there (has_field c) (nodes m) * stress_columns
      + if_there (has_multipliers c) (elements m) * element_rows
      + if_there (has_multipliers c) (edges m) * edge_rows
      + if_there (has_multipliers c) (jumps m) * rows_per_jump
      + if_there (has_multipliers c) (pair_count m) * sides m
  pub stress_range : at c 0 ≡ pos 1 → (j : ℕ) → j < nodes m * stress_columns
      → Between (neg_ℤ (pos 1000000000)) (pos 1000000000) (stress m c j)
  pub equality_range : at c 1 ≡ pos 1 → (k : ℕ) → k < equality_count m
      → Between (neg_ℤ (pos 100000)) (pos 100000) (multiplier m c k)
  pub strength_range : at c 1 ≡ pos 1 → (k : ℕ) → k < pair_count m * sides m
      → Between (pos 0) (pos (strength_multiplier (sides m))) (multiplier m c (equality_count m + k))
