-- A mesh (document 01, 'The two files', "Mesh, in this order"): its lines, and what its numbers are.
-- Soils, nodes, elements, edges and jumps are counted from 0 here; the file counts from 1.
use Rattle.std.specs.Prelude.{Bool, false, cond, List, [], ◌∷◌, ℕ, ◌+◌, ◌-◌, ◌*◌, ◌%◌, ℤ, pos, eqb, replicate, ◌≡◌, ◌<◌}
use Rattle.integer.specs.Tests.{eq_z}
use Rattle.scope.specs.Checks.{some_below}
use Rattle.scope.specs.Columns.{between, one_of, free, up_to, right_angle, naming, at_most_where, at}
use Rattle.scope.specs.Layout.{Group, Layout, groups, lines_before, count, entry}

-- the limits that bounds are made of: the most nodes, pairs of a node and a soil ("Pairs are at most 100", document
-- 02, N2), elements, soils, edges, sides and jumps
abbrev pub most_nodes : ℕ
most_nodes = 100

abbrev pub most_pairs : ℕ
most_pairs = 100

abbrev pub most_elements : ℕ
most_elements = 100

abbrev pub most_soils : ℕ
most_soils = 16

abbrev pub most_edges : ℕ
most_edges = 60

abbrev pub most_sides : ℕ
most_sides = 108

abbrev pub most_jumps : ℕ
most_jumps = 60

-- "sides 12, 20 or 36"; "Sides may also be 108" (document 02, N9)
abbrev pub listed_sides : List ℤ
listed_sides = pos 12 ∷ pos 20 ∷ pos 36 ∷ pos most_sides ∷ []

-- the largest multiplier of a strength row, "0 to 10,000"
abbrev pub most_strength : ℕ
most_strength = 10000

-- "x, y, 0 to 1,000"
abbrev pub most_coordinate : ℕ
most_coordinate = 1000

-- p, q and h of a soil, its cohesion and a force of it
abbrev pub most_friction : ℕ
most_friction = 1000

abbrev pub most_cohesion : ℕ
most_cohesion = 10000

abbrev pub most_force : ℕ
most_force = 1000

-- a normal or a shear of an edge
abbrev pub most_traction : ℕ
most_traction = 10000

-- "Such a mesh has at most 40 nodes and 40 node-and-soil pairs, and its strength multipliers are at most 300"
-- (document 02, N9): with 108 sides
abbrev pub nodes_for_108 : ℕ
nodes_for_108 = 40

abbrev pub pairs_for_108 : ℕ
pairs_for_108 = 40

abbrev pub strength_for_108 : ℕ
strength_for_108 = 300

-- the most nodes, the most pairs and the largest multiplier of a strength row, of a mesh with so many sides
unfoldable pub nodes_with : ℕ → ℕ
nodes_with k = cond (eqb k most_sides) nodes_for_108 most_nodes

unfoldable pub pairs_with : ℕ → ℕ
pairs_with k = cond (eqb k most_sides) pairs_for_108 most_pairs

unfoldable pub strength_multiplier : ℕ → ℕ
strength_multiplier k = cond (eqb k most_sides) strength_for_108 most_strength

-- the largest kind of a soil: "a kind (0 as before, 1 by direction)", and "Kind 1 with 108 sides gets 2" (document 02,
-- N14)
unfoldable pub kind_with : ℕ → ℕ
kind_with k = cond (eqb k most_sides) 0 1

-- "Header: nodes 4 to 100, elements 1 to 100, soils 1 to 16, edges 0 to 60, sides 12, 20 or 36"; "The mesh header gains
-- a sixth column, jumps 0 to 60" (document 02, N6); with 108 sides "at most 40 nodes" (N9)
unfoldable pub mesh_header : Group
mesh_header = record {
  lines = 1;
  limits =
      between (pos 4) (pos most_nodes)
      ∷ between (pos 1) (pos most_elements)
      ∷ between (pos 1) (pos most_soils)
      ∷ between (pos 0) (pos most_edges)
      ∷ one_of listed_sides
      ∷ between (pos 0) (pos most_jumps)
      ∷ [];
  rules = at_most_where 0 nodes_for_108 4 most_sides ∷ [];
}

-- how many columns each line has: of the header, of a soil, of a node, of an element, of an edge, of a jump
-- (`MeshFacts` counts a mesh's numbers by them)
abbrev pub mesh_header_columns : ℕ
mesh_header_columns = 6

abbrev pub soil_columns : ℕ
soil_columns = 10

abbrev pub node_columns : ℕ
node_columns = 2

abbrev pub element_columns : ℕ
element_columns = 5

abbrev pub edge_columns : ℕ
edge_columns = 7

abbrev pub jump_columns : ℕ
jump_columns = 4

unfoldable pub nodes : List ℤ → ℕ
nodes m = count (at m 0)

unfoldable pub elements : List ℤ → ℕ
elements m = count (at m 1)

unfoldable pub soils : List ℤ → ℕ
soils m = count (at m 2)

unfoldable pub edges : List ℤ → ℕ
edges m = count (at m 3)

unfoldable pub sides : List ℤ → ℕ
sides m = count (at m 4)

unfoldable pub jumps : List ℤ → ℕ
jumps m = count (at m 5)

-- "Each soil: p 0 to 1,000, q 1 to 1,000, h 1 to 1,000, cohesion C 0 to 10,000, dead force x and y, live force x and y
-- (each -1,000 to 1,000)"; "Soil lines gain at their end a kind (0 as before, 1 by direction) and cv 0 to 10,000"
-- (document 02, N14), in a mesh with so many sides
unfoldable pub soil_lines : ℕ → ℕ → Group
soil_lines n side_count = record {
  lines = n;
  limits =
      between (pos 0) (pos most_friction)
      ∷ between (pos 1) (pos most_friction)
      ∷ between (pos 1) (pos most_friction)
      ∷ between (pos 0) (pos most_cohesion)
      ∷ up_to most_force
      ∷ up_to most_force
      ∷ up_to most_force
      ∷ up_to most_force
      ∷ between (pos 0) (pos (kind_with side_count))
      ∷ between (pos 0) (pos most_cohesion)
      ∷ [];
  rules = right_angle ∷ [];
}

-- "Each node: x, y, 0 to 1,000"
unfoldable pub node_lines : ℕ → Group
node_lines n =
    record { lines = n; limits = replicate node_columns (between (pos 0) (pos most_coordinate)); rules = [] }

-- "Each element: four nodes, counterclockwise; a soil", whose least number is given
unfoldable pub element_lines : ℕ → ℕ → ℕ → ℕ → Group
element_lines n ns least ss = record {
  lines = n;
  limits = replicate element_columns free;
  rules = naming ((0, 1, ns) ∷ (1, 1, ns) ∷ (2, 1, ns) ∷ (3, 1, ns) ∷ (4, least, ss) ∷ []) ∷ [];
}

-- "Each edge: from-node, to-node, what is fixed (1 normal, 2 shear, 3 both), dead normal, dead shear, live normal,
-- live shear (-10,000 to 10,000)"
unfoldable pub edge_lines : ℕ → ℕ → Group
edge_lines n ns = record {
  lines = n;
  limits = free ∷ free ∷ between (pos 1) (pos 3) ∷ replicate 4 (up_to most_traction);
  rules = naming ((0, 1, ns) ∷ (1, 1, ns) ∷ []) ∷ [];
}

-- "a line each after the edges: from and to on one side, then the two facing nodes in the same order" (document 02,
-- N6)
unfoldable pub jump_lines : ℕ → ℕ → Group
jump_lines n ns = record {
  lines = n;
  limits = replicate jump_columns free;
  rules = naming ((0, 1, ns) ∷ (1, 1, ns) ∷ (2, 1, ns) ∷ (3, 1, ns) ∷ []) ∷ [];
}

-- the lines after the header, in a mesh of so many things whose elements name soils from the least number on
abbrev pub mesh_lines : ℕ → ℕ → ℕ → ℕ → ℕ → ℕ → ℕ → List Group
mesh_lines least node_count element_count soil_count edge_count side_count jump_count =
    soil_lines soil_count side_count
    ∷ node_lines node_count
    ∷ element_lines element_count node_count least soil_count
    ∷ edge_lines edge_count node_count
    ∷ jump_lines jump_count node_count
    ∷ []

-- 2 "mesh number outside its limits", with or without a table
abbrev pub mesh_limit : ℕ
mesh_limit = 2

-- the lines of a mesh that has a table, or has none: refusals 1 to 4; "Without a table, soil 0 still gets 4" (document
-- 02, N8)
unfoldable pub layout_with : Bool → Layout
layout_with tabled = record {
  form_number = 1;
  limit_number = mesh_limit;
  header = mesh_header;
  body = λ m. mesh_lines (cond tabled 0 1) (nodes m) (elements m) (soils m) (edges m) (sides m) (jumps m);
}

abbrev pub mesh_layout : Layout
mesh_layout = layout_with false

unfoldable pub mesh_groups : List ℤ → List Group
mesh_groups m = groups mesh_layout m

-- ---- what the numbers are

-- soil s: p, q and h ("The friction angle has sine p/h and cosine q/h"), cohesion, dead force F and live force f, kind
-- and cv: "Bedded clay has cohesion ch along and cv across .. C is then ch" (document 02, N14)
unfoldable pub soil_entry : List ℤ → ℕ → ℕ → ℤ
soil_entry m s c = entry (mesh_groups m) m 1 s c

unfoldable pub p : List ℤ → ℕ → ℤ
p m s = soil_entry m s 0

unfoldable pub q : List ℤ → ℕ → ℤ
q m s = soil_entry m s 1

unfoldable pub h : List ℤ → ℕ → ℤ
h m s = soil_entry m s 2

unfoldable pub cohesion : List ℤ → ℕ → ℤ
cohesion m s = soil_entry m s 3

unfoldable pub dead_x : List ℤ → ℕ → ℤ
dead_x m s = soil_entry m s 4

unfoldable pub dead_y : List ℤ → ℕ → ℤ
dead_y m s = soil_entry m s 5

unfoldable pub live_x : List ℤ → ℕ → ℤ
live_x m s = soil_entry m s 6

unfoldable pub live_y : List ℤ → ℕ → ℤ
live_y m s = soil_entry m s 7

unfoldable pub soil_kind : List ℤ → ℕ → ℤ
soil_kind m s = soil_entry m s 8

unfoldable pub cohesion_across : List ℤ → ℕ → ℤ
cohesion_across m s = soil_entry m s 9

-- "1 by direction": as a test, and of a mesh that "lists one, used or not"
unfoldable pub by_direction : List ℤ → ℕ → Bool
by_direction m s = eq_z (soil_kind m s) (pos 1)

unfoldable pub some_by_direction : List ℤ → Bool
some_by_direction m = some_below (by_direction m) (soils m)

-- the same as statements
abbrev pub ByDirection : List ℤ → ℕ → Type 0
ByDirection m s = soil_kind m s ≡ pos 1

abbrev pub ListsDirection : List ℤ → Type 0
ListsDirection m = (s : ℕ) × (s < soils m) × ByDirection m s

-- node v
unfoldable pub x : List ℤ → ℕ → ℤ
x m v = entry (mesh_groups m) m 2 v 0

unfoldable pub y : List ℤ → ℕ → ℤ
y m v = entry (mesh_groups m) m 2 v 1

-- element e: the node at its corner i, for i from 0 to 3, the third and the fourth of which may be the same
unfoldable pub corner : List ℤ → ℕ → ℕ → ℕ
corner m e i = count (entry (mesh_groups m) m 3 e i) - 1

-- "An element whose third and fourth nodes are the same is to be read as a triangle" (document 02, N1): how many
-- corners it has
unfoldable pub corner_count : List ℤ → ℕ → ℕ
corner_count m e = cond (eqb (corner m e 2) (corner m e 3)) 3 4

-- its corners in order, after the last the first again: left turns and sides go by these, so that "The repeat makes no
-- side"
unfoldable pub around : List ℤ → ℕ → ℕ → ℕ
around m e i = corner m e (i % corner_count m e)

unfoldable pub element_soil : List ℤ → ℕ → ℕ
element_soil m e = count (entry (mesh_groups m) m 3 e 4) - 1

-- edge g: its two nodes, what is fixed, and the dead and live numbers
unfoldable pub edge_entry : List ℤ → ℕ → ℕ → ℤ
edge_entry m g c = entry (mesh_groups m) m 4 g c

unfoldable pub from_node : List ℤ → ℕ → ℕ
from_node m g = count (edge_entry m g 0) - 1

unfoldable pub to_node : List ℤ → ℕ → ℕ
to_node m g = count (edge_entry m g 1) - 1

-- the line of edge g, counted from 0
unfoldable pub edge_line : List ℤ → ℕ → ℕ
edge_line m g = lines_before (mesh_groups m) 4 + g

-- jump j: its two nodes on one side of the joint, and those that face them
unfoldable pub jump_entry : List ℤ → ℕ → ℕ → ℤ
jump_entry m j c = entry (mesh_groups m) m 5 j c

unfoldable pub jump_from : List ℤ → ℕ → ℕ
jump_from m j = count (jump_entry m j 0) - 1

unfoldable pub jump_to : List ℤ → ℕ → ℕ
jump_to m j = count (jump_entry m j 1) - 1

unfoldable pub facing_from : List ℤ → ℕ → ℕ
facing_from m j = count (jump_entry m j 2) - 1

unfoldable pub facing_to : List ℤ → ℕ → ℕ
facing_to m j = count (jump_entry m j 3) - 1

-- the line of jump j, counted from 0
unfoldable pub jump_line : List ℤ → ℕ → ℕ
jump_line m j = lines_before (mesh_groups m) 5 + j

-- ---- what is counted

-- the equality rows: two for each element, then four for each edge, then "four rows after the edge rows" for each jump
abbrev pub element_rows : ℕ
element_rows = 2

abbrev pub edge_rows : ℕ
edge_rows = 4

abbrev pub rows_per_jump : ℕ
rows_per_jump = 4

abbrev pub equality_count : List ℤ → ℕ
equality_count m = elements m * element_rows + edges m * edge_rows + jumps m * rows_per_jump

abbrev pub most_equality_rows : ℕ
most_equality_rows = most_elements * element_rows + most_edges * edge_rows + most_jumps * rows_per_jump
