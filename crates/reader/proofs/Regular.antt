-- The layouts of a mesh and of a claim are regular: what lines follow the header is told by numbers that stand in the
-- header.
use mathlib.Core.Path.{◌≡◌, refl}
use mathlib.Core.Logic.{◌≢◌}
use mathlib.Core.Bool.{Bool, false}
use mathlib.Core.List.{List, ◌++◌}
use Prim.Native.Nat.{ℕ, ◌<◌}
use native.Mathlib.Omega.{arith}
use lib.IntN.{ℤ, pos}
use lib.ListN.{length, length-replicate, get_or-append}
use Rattle.scope.specs.Columns.{Rule, right_angle, naming, parts, at_most_where, at, has_field, has_multipliers}
use Rattle.scope.specs.Layout.{groups}
use Rattle.scope.specs.Mesh.{mesh_layout, layout_with, mesh_header, soil_lines, node_lines, element_lines, edge_lines}
use Rattle.scope.specs.Mesh.{jump_lines, nodes, elements, soils, edges, sides, jumps}
use Rattle.scope.specs.Claim.{claim_layout, claim_header, stress_lines, element_multipliers, edge_multipliers}
use Rattle.scope.specs.Claim.{jump_multipliers, strength_multipliers}
use Rattle.scope.specs.Refusals.{rule_number}
use Rattle.scope.specs.Verdict.{line_check}
use Rattle.reader.specs.File.{widths, header_passes, numbers_of}
use Rattle.reader.specs.WellFormed.{Regular}

front : (h rest : List ℤ) (k : ℕ) → k < length h → at (h ++ rest) k ≡ at h k
unfolding at
front h rest k l = get_or-append h rest (pos 0) k l

pub mesh_number : (r : Rule) → 1 ≢ rule_number r
unfolding rule_number
mesh_number right_angle = omega arith
mesh_number (naming cs) = omega arith
mesh_number parts = omega arith
mesh_number (at_most_where c k d z) = omega arith

pub claim_number : (r : Rule) → 11 ≢ rule_number r
unfolding rule_number
claim_number right_angle = omega arith
claim_number (naming cs) = omega arith
claim_number parts = omega arith
claim_number (at_most_where c k d z) = omega arith

-- with a table or without
pub layout_regular : (tabled : Bool) → Regular (layout_with tabled)
unfolding layout_with mesh_header groups soil_lines node_lines element_lines edge_lines jump_lines nodes elements soils
    edges sides jumps
layout_regular tabled = record {
  one_header = refl;
  by_header = λ h rest e.
      rw (
        front h rest 0 (omega arith),
        front h rest 1 (omega arith),
        front h rest 2 (omega arith),
        front h rest 3 (omega arith),
        front h rest 4 (omega arith),
        front h rest 5 (omega arith),
      );
  some_columns = λ h. omega arith;
  not_limit = omega arith;
  not_rule = mesh_number;
}

pub mesh_regular : Regular mesh_layout
unfolding layout_with
mesh_regular = layout_regular false

-- a table adds a soil that an element may name, and no column: the numbers of a mesh file are the same
pub same_numbers : (tabled : Bool) (w : ℕ) (bs : List ℕ) → numbers_of w (layout_with tabled) bs
    ≡ numbers_of w mesh_layout bs
unfolding numbers_of header_passes line_check widths layout_with element_lines
same_numbers tabled w bs = refl

pub claim_regular : (m : List ℤ) → 0 < sides m → Regular (claim_layout m)
unfolding claim_layout claim_header groups stress_lines element_multipliers edge_multipliers jump_multipliers
    strength_multipliers has_field has_multipliers
claim_regular m s = record {
  one_header = refl;
  by_header = λ h rest e. rw (front h rest 0 (omega arith), front h rest 1 (omega arith));
  some_columns = λ h. simp length-replicate (omega arith);
  not_limit = omega arith;
  not_rule = claim_number;
}
