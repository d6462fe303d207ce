-- The rows passed ask something, or have no multiplier.
use mathlib.Core.Path.{◌≡◌}
use mathlib.Core.Bool.{true}
use Rattle.scope.specs.Checks.{all_below}
use Rattle.multipliers.proofs.LimitLaws.{unfixed_test}
use Rattle.multipliers.proofs.multiplier_checks.unfixed_check.Given as goal

abbrev pub invariant-loop-k : goal.invariant-loop-k
invariant-loop-k l = all_below (unfixed_test l.rows.mesh.mesh.numbers.now l.rows.multipliers.now) l.k ≡ true
