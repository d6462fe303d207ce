-- Each turn makes one digit more; after d of them quotient and rest are those of the division.
use mathlib.Core.Path.{ap, ◌∙◌}
use Prim.Native.Nat.{◌*◌, ◌^◌}
use native.Mathlib.Omega.{arith}
use Rattle.report.proofs.DivisionLaws.{divides_more, rest_is}
use Rattle.report.proofs.division.by_digits.Goals as goal

pub loop-preserved : goal.loop-preserved
loop-preserved c = divides_more c.loop.invariant c.next_digit-digit.ensures.digit c.next_digit-digit.ensures.left

pub returns-clause-left : goal.returns-clause-left
returns-clause-left c =
    let p = c.loop.invariant in
    rest_is c.loop.units c.loop.left (p.value ∙ ap (λ i. c.args.rest * 10 ^ i) (omega arith)) p.below
