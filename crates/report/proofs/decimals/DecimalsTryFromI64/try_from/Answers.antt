-- A number that no report has is below 0 or above 7.
use Rattle.std.proofs.Common.{◌∙◌, refl, sym, ap, subst, ℤ, pos, negsuc, nat_abs, arith}
use Rattle.std.specs.Int.{FitsUnsignedBits}
use mir.Facts.{to_z-of_z}
use Rattle.integer.proofs.Order.{≤ℤ_pos}
use Rattle.report.specs.Report.{Decimals}
use Rattle.report.proofs.BufferLaws.{decimals_small, not_decimals}
use Rattle.report.proofs.decimals.DecimalsTryFromI64.try_from.Goals as goal

fits : (z : ℤ) → Decimals z → FitsUnsignedBits 64 z
fits (pos n) h = let l = ≤ℤ_pos h.to_most in omega arith
fits (negsuc n) h = absurd h.from_0.le

pub returns-in_default : goal.returns-in_default
returns-in_default c =
    let z = c.args.decimals in
    let e = c.in-Ok.ensures.1 ∙ ap nat_abs (to_z-of_z c.ranges.decimals) in
    (refl, not_decimals z (λ h. omega (arith, decimals_small z h, e)))

pub returns-in_default-2 : goal.returns-in_default-2
returns-in_default-2 c =
    let z = c.args.decimals in
    let read = sym (to_z-of_z c.ranges.decimals) in
    (refl, not_decimals z (λ h. c.in_default.ensures (subst (FitsUnsignedBits 64) read (fits z h))))
