-- `joints_check` meets its contract. The invariant: the jumps passed are joints, and have used their sides.
use mathlib.Core.Path.{◌≡◌}
use mathlib.Core.Bool.{true}
use Rattle.scope.specs.Checks.{all_below}
use Rattle.scope.specs.Tests.{is_joint}
use Rattle.shape.specs.ShapeContracts.{JumpTable}
use Rattle.shape.proofs.joints.joints_check.Given as goal

abbrev pub invariant-loop-j : goal.invariant-loop-j
invariant-loop-j l =
    (all_below (is_joint l.m.numbers.now) l.j ≡ true) × JumpTable l.m.numbers.now l.j l.sides
