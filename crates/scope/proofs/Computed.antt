-- For proofs by computation: a proof that says `unfolding computed` has every definition of this crate open.
use Rattle.scope.specs.Checks.{lowest, some_below, all_below}
use Rattle.scope.specs.Columns.{at, is_one_of, within, all_within, up_to, names, all_named, has_field}
use Rattle.scope.specs.Columns.{has_multipliers, n, l, rule_test}
use Rattle.scope.specs.Layout.{line_count, number_count, lines_before, numbers_before, line_of, groups, line_numbers}
use Rattle.scope.specs.Layout.{count, entry}
use Rattle.scope.specs.Mesh.{nodes_with, pairs_with, strength_multiplier, kind_with, mesh_header, nodes, elements}
use Rattle.scope.specs.Mesh.{soils, edges, sides, jumps, soil_lines, node_lines, element_lines, edge_lines}
use Rattle.scope.specs.Mesh.{jump_lines, layout_with, mesh_groups, soil_entry, p, q, h, cohesion, soil_kind}
use Rattle.scope.specs.Mesh.{cohesion_across, by_direction, some_by_direction, dead_x, dead_y, live_x, live_y, x, y}
use Rattle.scope.specs.Mesh.{corner, corner_count, around, element_soil, edge_entry, from_node, to_node, edge_line}
use Rattle.scope.specs.Mesh.{jump_entry, jump_from, jump_to, facing_from, facing_to, jump_line}
use Rattle.scope.specs.Polygon.{sides_to, polygon_sides, half_turn, quarter_turn, four_quadrants, twelve, twenty}
use Rattle.scope.specs.Polygon.{thirty_six, one_hundred_eight, polygon_of}
use Rattle.scope.specs.Rows.{sx, sy, t, count_from, joined, node, rise_across, run_across, cross_at, twice_area}
use Rattle.scope.specs.Rows.{balance_x, balance_y, balance_rows, step_x, step_y, step_square, fixed_if, normal_row}
use Rattle.scope.specs.Rows.{shear_row, side_rows, jump_step_x, jump_step_y, agree_row, jump_normal, jump_shear}
use Rattle.scope.specs.Rows.{jump_rows, first_where, has_corner, has_soil, passing, node_pairs, pairs_below}
use Rattle.scope.specs.Rows.{strength_pairs, pair_count, pair_at, cross, strength_row, plane_row, rows_by_sides}
use Rattle.scope.specs.Rows.{rows_by_planes, pair_rows, strength_rows, equality_rows, rows_of}
use Rattle.scope.specs.Sums.{weighted_sum, left_side, right_side, row_holds, weighed, unit, coefficient, column_sum}
use Rattle.scope.specs.Sums.{live_sum, limit_sum, zero_if_unfixed, is_open, how_many, open_rows}
use Rattle.scope.specs.Claim.{claim_header, if_there, stress_lines, element_multipliers, edge_multipliers}
use Rattle.scope.specs.Claim.{jump_multipliers, strength_multipliers, claim_layout, stress, multiplier}
use Rattle.scope.specs.Tests.{turn, left_turn_at, left_turns, has_side, own_side_at, own_sides, in_element, none_left}
use Rattle.scope.specs.Tests.{parted_by, apart_from, lies_apart, outer_side, has_ends, outer_edge, used_by_jump}
use Rattle.scope.specs.Tests.{free_side, same_point, is_joint, pairs_fit, row_at}
use Rattle.scope.specs.Phases.{check_phase, check_phases}
use Rattle.scope.specs.Verdict.{rules_hold, line_check, line_at, lines_check, mesh_check, claim_check, field_check}
use Rattle.scope.specs.Verdict.{multipliers_check, lower_load, upper_load, open_count, answer, claim_verdict, verdict}
use Rattle.scope.specs.Refusals.{rule_number}

unfoldable pub computed : Unit {0}
unfolding lowest is_one_of within all_within line_count number_count lines_before numbers_before line_of groups
    rules_hold line_check line_numbers line_at lines_check count at entry up_to nodes_with pairs_with
    strength_multiplier kind_with mesh_header nodes elements soils edges sides jumps soil_lines node_lines
    element_lines edge_lines jump_lines layout_with mesh_groups soil_entry p q h cohesion soil_kind cohesion_across
    by_direction some_by_direction dead_x dead_y live_x live_y x y corner corner_count around element_soil edge_entry
    from_node to_node edge_line jump_entry jump_from jump_to facing_from facing_to jump_line sides_to polygon_sides
    half_turn quarter_turn four_quadrants twelve twenty thirty_six one_hundred_eight polygon_of sx sy t count_from
    joined node rise_across run_across cross_at twice_area balance_x balance_y balance_rows step_x step_y step_square
    fixed_if normal_row shear_row side_rows jump_step_x jump_step_y agree_row jump_normal jump_shear jump_rows
    first_where has_corner has_soil passing node_pairs pairs_below strength_pairs pair_count pair_at cross strength_row
    plane_row rows_by_sides rows_by_planes pair_rows strength_rows equality_rows rows_of weighted_sum
    left_side right_side row_holds weighed unit coefficient column_sum live_sum limit_sum zero_if_unfixed is_open
    how_many open_rows has_field has_multipliers n l rule_number names all_named rule_test claim_header if_there
    stress_lines element_multipliers edge_multipliers jump_multipliers strength_multipliers claim_layout stress
    multiplier some_below all_below turn left_turn_at left_turns has_side own_side_at own_sides in_element none_left
    parted_by apart_from lies_apart outer_side has_ends outer_edge used_by_jump free_side same_point is_joint pairs_fit
    row_at check_phase check_phases mesh_check claim_check field_check multipliers_check lower_load upper_load
    open_count answer claim_verdict verdict
computed = tt
