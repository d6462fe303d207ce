-- Down is the quotient itself, and so is up where nothing is left; else up is one unit more, which may carry.
use mathlib.Core.Path.{◌≡◌}
use Prim.Native.Nat.{◌+◌, ◌^◌}
use native.Mathlib.Omega.{arith}
use Rattle.report.proofs.DivisionLaws.{part_short, rounded_kept, rounded_more}
use Rattle.report.proofs.division.rounded.Goals as goal

pub returns-then-not-up-clause-value : goal.returns-then-not-up-clause-value
returns-then-not-up-clause-value c =
    let a = c.args in
    let q = c.divided-part.ensures in
    rounded_kept a.m a.den a.d.count c.requires.some q.units q.left a.up c.then-not-up.either

pub returns-then-not-up-clause-part : goal.returns-then-not-up-clause-part
returns-then-not-up-clause-part c = search part_short

pub returns-then-part-d-clause-value : goal.returns-then-part-d-clause-value
returns-then-part-d-clause-value c =
    let a = c.args in
    let q = c.divided-part.ensures in
    rounded_more a.m a.den a.d.count c.requires.some q.units q.left a.up c.if-not-up.false c.if-left-eq0.false
    (omega arith)

pub returns-clause-value : goal.returns-clause-value
returns-clause-value c =
    let a = c.args in
    let q = c.divided-part.ensures in
    let s = part_short a.m a.den a.d.count c.requires.some q.units q.left in
    let e : c.divided-part.result.0 + 1 ≡ 10 ^ a.d.count = omega (arith, s, a.d.of_ten) in
    rounded_more a.m a.den a.d.count c.requires.some q.units q.left a.up c.if-not-up.false c.if-left-eq0.false
    (omega (arith, e))
