-- `turns_check` meets its contract. The invariant: the elements passed turn left at all corners.
use mathlib.Core.Path.{◌≡◌}
use mathlib.Core.Bool.{true}
use Rattle.scope.specs.Checks.{all_below}
use Rattle.scope.specs.Tests.{left_turns}
use Rattle.outlines.proofs.turns.turns_check.Given as goal

abbrev pub invariant-loop-e : goal.invariant-loop-e
invariant-loop-e l = all_below (left_turns l.m.numbers.now) l.e ≡ true
