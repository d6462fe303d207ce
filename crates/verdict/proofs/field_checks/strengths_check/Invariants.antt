-- `strengths_check` meets its contract. The invariant: the strength rows of the pairs passed hold.
use mathlib.Core.Path.{◌≡◌}
use Rattle.scope.specs.Columns.{at}
use Rattle.lines.specs.SearchContracts.{first_failing}
use Rattle.criterion.specs.StrengthContracts.{pair_holds}
use Rattle.verdict.proofs.field_checks.strengths_check.Given as goal

abbrev pub invariant-loop-a : goal.invariant-loop-a
invariant-loop-a l =
    first_failing
    (pair_holds l.field.mesh.mesh.numbers.now (at l.field.stresses.now) l.field.l l.field.n) l.a ≡ l.a
