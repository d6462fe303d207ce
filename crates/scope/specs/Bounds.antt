-- How large the numbers of rows and of sums can be: each bound as an expression over the limits of the two files, by
-- kind of row.
-- The largest radius, step and cross product are those of 108 sides (document 02, N9); soils of kind 1 are not listed
-- with so many (N14), so that their rows are bounded by the largest radius of the others.
use Rattle.std.specs.Prelude.{ℕ, ◌+◌, ◌*◌, ◌^◌, cond, eqb}
use Rattle.scope.specs.Mesh.{most_pairs, most_elements, most_edges, most_sides, most_jumps, most_strength}
use Rattle.scope.specs.Mesh.{pairs_for_108, strength_for_108, element_rows, edge_rows, rows_per_jump}
use Rattle.scope.specs.Mesh.{most_equality_rows, most_coordinate, most_friction, most_cohesion, most_force}
use Rattle.scope.specs.Mesh.{most_traction}
use Rattle.scope.specs.Claim.{most_scale, most_load, most_stress, most_multiplier}

-- ---- polygons: the largest radius, step (c - a or d - b) and cross product (ad - bc)

abbrev pub most_radius : ℕ
most_radius = 1105

abbrev pub most_step : ℕ
most_step = 153

abbrev pub most_cross : ℕ
most_cross = 177735

-- a step and a cross product times the multiplier of its row, which is smaller where they are larger: the largest step
-- of 36 sides is 16
abbrev pub weighted_step : ℕ
weighted_step = most_strength * 16

abbrev pub weighted_cross : ℕ
weighted_cross = strength_for_108 * most_cross

-- strength rows: 36 for each of 100 pairs, or 108 for each of 40
abbrev pub most_strength_rows : ℕ
most_strength_rows = pairs_for_108 * most_sides

-- ---- balance rows: differences of coordinates, twice an area, and that times a body force

abbrev pub most_area : ℕ
most_area = 2 * (most_coordinate * most_coordinate)

abbrev pub balance_right : ℕ
balance_right = most_area * most_force

abbrev pub most_balance_rows : ℕ
most_balance_rows = most_elements * element_rows

-- ---- side rows: products of two steps, the square of an edge's length, and that times a traction

abbrev pub most_square : ℕ
most_square = 2 * (most_coordinate * most_coordinate)

abbrev pub side_right : ℕ
side_right = most_square * most_traction

abbrev pub most_side_rows : ℕ
most_side_rows = most_edges * edge_rows

-- ---- jump rows: products of two steps, no load, and the right side 0

abbrev pub jump_right : ℕ
jump_right = 0

abbrev pub most_jump_rows : ℕ
most_jump_rows = most_jumps * rows_per_jump

-- ---- equality rows: of any kind

-- entries of a row, a coefficient, and the coefficient of l or the right side
abbrev pub most_entries : ℕ
most_entries = 8

abbrev pub most_coefficient : ℕ
most_coefficient = most_square

abbrev pub equality_right : ℕ
equality_right = side_right

-- the left side at a field
abbrev pub equality_left : ℕ
equality_left = most_entries * (most_coefficient * most_stress) + equality_right * most_load

-- what a row with its multiplier adds to a column, and to W or m
abbrev pub equality_column : ℕ
equality_column = most_multiplier * (most_entries * most_coefficient)

abbrev pub equality_sum : ℕ
equality_sum = most_multiplier * equality_right

-- ---- strength rows: r·h, 2qC, sx - sy or 2t, 2qCn - p(sx + sy), and the right side less the left

abbrev pub most_lever : ℕ
most_lever = most_radius * most_friction

abbrev pub twice_strength : ℕ
twice_strength = 2 * most_friction * most_cohesion

abbrev pub most_spread : ℕ
most_spread = 2 * most_stress

abbrev pub most_reserve : ℕ
most_reserve = twice_strength * most_scale + most_friction * most_spread

abbrev pub most_slack : ℕ
most_slack = most_cross * most_reserve + most_lever * (most_step * most_spread + most_step * most_spread)

-- ---- strength rows by direction (document 02, N14): a², ab, b² and r²; a coefficient; the right side; and that less
-- the left

abbrev pub most_plane_radius : ℕ
most_plane_radius = 65

abbrev pub plane_square : ℕ
plane_square = most_plane_radius * most_plane_radius

abbrev pub plane_coefficient : ℕ
plane_coefficient = 4 * (most_friction * plane_square)

abbrev pub plane_right : ℕ
plane_right = most_friction * (2 * (plane_square * most_cohesion))

abbrev pub plane_slack : ℕ
plane_slack = plane_right * most_scale + 3 * (plane_coefficient * most_stress)

-- ---- strength rows of either kind

-- the right side, in a mesh with so many sides
unfoldable pub strength_right_with : ℕ → ℕ
strength_right_with k = cond (eqb k most_sides) (most_cross * twice_strength) plane_right

-- what a row with its multiplier adds to a column, and to W
abbrev pub strength_column : ℕ
strength_column = most_friction * weighted_cross + 2 * most_lever * weighted_step

abbrev pub strength_sum : ℕ
strength_sum = twice_strength * weighted_cross

-- ---- sums over all rows

-- what a pair's rows add to a column
abbrev pub pair_column : ℕ
pair_column = most_sides * strength_column

abbrev pub equality_columns : ℕ
equality_columns = most_equality_rows * equality_column

abbrev pub equality_sums : ℕ
equality_sums = most_equality_rows * equality_sum

-- a column, and W or m
abbrev pub most_column : ℕ
most_column = equality_columns + most_pairs * (3 * pair_column)

abbrev pub most_sum : ℕ
most_sum = equality_sums + most_strength_rows * strength_sum

-- W by kind of row
abbrev pub most_limit : ℕ
most_limit =
    most_balance_rows * (most_multiplier * balance_right)
    + most_side_rows * (most_multiplier * side_right)
    + most_jump_rows * (most_multiplier * jump_right)
    + most_strength_rows * strength_sum

-- a number that is added to a sum, and the sum: two of them fit 64 bits
abbrev pub most_addend : ℕ
most_addend = 2 ^ 61
