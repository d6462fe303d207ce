-- Each turn makes one digit more, and what it leaves is the rest of the next.
use Rattle.report.proofs.DivisionLaws.{Divides}
use Rattle.report.proofs.division.by_digits.Given as goal

abbrev pub invariant-loop : goal.invariant-loop
invariant-loop l = Divides l.fn.rest l.fn.den l.counter l.units l.left
