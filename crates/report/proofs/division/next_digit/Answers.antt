-- After ten turns ten times the rest is the digit times the divisor, and what is left.
use mathlib.Core.Path.{ap, ◌∙◌}
use Prim.Native.Nat.{◌*◌}
use native.Mathlib.Omega.{arith}
use Rattle.report.proofs.DivisionLaws.{rest_is}
use Rattle.report.proofs.division.next_digit.Goals as goal

pub returns-clause-left : goal.returns-clause-left
returns-clause-left c =
    let p = c.loop.invariant in
    rest_is c.loop.digit c.loop.sum (p.value ∙ ap (λ i. i * c.args.rest) (omega arith)) p.below
