-- Each turn adds the rest once more, less the divisor where that is reached.
use Rattle.report.proofs.DivisionLaws.{Adds}
use Rattle.report.proofs.division.next_digit.Given as goal

abbrev pub invariant-loop : goal.invariant-loop
invariant-loop l = Adds l.fn.rest l.fn.den l.counter l.digit l.sum
