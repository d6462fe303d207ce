-- `equalities_check` meets its contract. The invariant: the rows passed hold.
use mathlib.Core.Path.{◌≡◌}
use mathlib.Core.Bool.{true}
use Rattle.scope.specs.Checks.{all_below}
use Rattle.verdict.specs.FieldContracts.{passes}
use Rattle.verdict.proofs.equality_checks.equalities_check.Given as goal

abbrev pub invariant-loop-k : goal.invariant-loop-k
invariant-loop-k l = all_below (passes l.field) l.k ≡ true
