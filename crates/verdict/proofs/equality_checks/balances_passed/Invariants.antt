-- `balances_passed` meets its contract. The invariant: the rows of the elements passed hold.
use mathlib.Core.Path.{◌≡◌}
use mathlib.Core.Bool.{true}
use Prim.Native.Nat.{◌*◌}
use Rattle.scope.specs.Checks.{all_below}
use Rattle.verdict.specs.FieldContracts.{passes}
use Rattle.verdict.proofs.equality_checks.balances_passed.Given as goal

abbrev pub invariant-loop-e : goal.invariant-loop-e
invariant-loop-e l = all_below (passes l.field) (l.e * 2) ≡ true
