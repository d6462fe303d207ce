-- A claim (document 01, 'The two files', "Claim"): its lines, and what its numbers are. It is read against a mesh m.
use Rattle.std.specs.Prelude.{Bool, cond, List, [], ◌∷◌, ℕ, ◌+◌, ℤ, pos, replicate}
use Rattle.scope.specs.Columns.{between, up_to, parts, at, has_field, has_multipliers}
use Rattle.scope.specs.Layout.{Group, Layout, groups, numbers_before}
use Rattle.scope.specs.Mesh.{strength_multiplier, nodes, elements, edges, sides, jumps, element_rows, edge_rows}
use Rattle.scope.specs.Mesh.{rows_per_jump}
use Rattle.scope.specs.Rows.{pair_count}

-- the largest n, and the largest load, stress and multiplier of an equality row in size
abbrev pub most_scale : ℕ
most_scale = 100000

abbrev pub most_load : ℕ
most_load = 100000000

abbrev pub most_stress : ℕ
most_stress = 1000000000

abbrev pub most_multiplier : ℕ
most_multiplier = 100000

-- "Header: field there (0 or 1), multipliers there (0 or 1), n 0 to 100,000, l within ±100,000,000"
unfoldable pub claim_header : Group
claim_header = record {
  lines = 1;
  limits =
      between (pos 0) (pos 1)
      ∷ between (pos 0) (pos 1)
      ∷ between (pos 0) (pos most_scale)
      ∷ up_to most_load
      ∷ [];
  rules = parts ∷ [];
}

-- how many columns each line has: of the header, of a node's stresses; a line of multipliers has one for each row
abbrev pub claim_header_columns : ℕ
claim_header_columns = 4

abbrev pub stress_columns : ℕ
stress_columns = 3

-- k lines where the part is there, else none
unfoldable pub if_there : Bool → ℕ → ℕ
if_there b k = cond b k 0

-- "With a field: for each node sx, sy, t (x stress, y stress, shear), within ±1,000,000,000"
unfoldable pub stress_lines : ℕ → Group
stress_lines k = record { lines = k; limits = replicate stress_columns (up_to most_stress); rules = [] }

-- "With multipliers: for each element 2, for each edge 4, within ±100,000; then for each node a line of as many as
-- there are sides, 0 to 10,000"; with 108 sides "at most 300" (document 02, N9)
-- "multiplier lines are numbered by node-and-soil pairs" (document 02, N2): a line for each pair
-- "for each jump a line of four multipliers, within ±100,000, after the edge lines" (document 02, N6)
unfoldable pub element_multipliers : ℕ → Group
element_multipliers k = record { lines = k; limits = replicate element_rows (up_to most_multiplier); rules = [] }

unfoldable pub edge_multipliers : ℕ → Group
edge_multipliers k = record { lines = k; limits = replicate edge_rows (up_to most_multiplier); rules = [] }

unfoldable pub jump_multipliers : ℕ → Group
jump_multipliers k = record { lines = k; limits = replicate rows_per_jump (up_to most_multiplier); rules = [] }

unfoldable pub strength_multipliers : ℕ → ℕ → Group
strength_multipliers k s =
    record { lines = k; limits = replicate s (between (pos 0) (pos (strength_multiplier s))); rules = [] }

-- the lines after the header, on a mesh of so many things, by the parts that are there
abbrev pub claim_lines : ℕ → ℕ → ℕ → ℕ → ℕ → ℕ → Bool → Bool → List Group
claim_lines node_count element_count edge_count jump_count pairs side_count field multipliers =
    stress_lines (if_there field node_count)
    ∷ element_multipliers (if_there multipliers element_count)
    ∷ edge_multipliers (if_there multipliers edge_count)
    ∷ jump_multipliers (if_there multipliers jump_count)
    ∷ strength_multipliers (if_there multipliers pairs) side_count
    ∷ []

-- the lines of a claim on the mesh m: refusals 11 to 13
unfoldable pub claim_layout : List ℤ → Layout
claim_layout m = record {
  form_number = 11;
  limit_number = 12;
  header = claim_header;
  body = λ c.
      claim_lines (nodes m) (elements m) (edges m) (jumps m) (pair_count m) (sides m) (has_field c) (has_multipliers c);
}

-- the field's stress of column j
unfoldable pub stress : List ℤ → List ℤ → ℕ → ℤ
stress m c j = at c (numbers_before (groups (claim_layout m) c) 1 + j)

-- the multiplier of row k, counted over all rows
unfoldable pub multiplier : List ℤ → List ℤ → ℕ → ℤ
multiplier m c k = at c (numbers_before (groups (claim_layout m) c) 2 + k)
