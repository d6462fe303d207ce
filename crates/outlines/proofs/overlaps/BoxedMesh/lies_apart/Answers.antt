-- `lies_apart` meets its contract: all below are apart, or the nearest that is not is found.
use mathlib.Core.Path.{sym}
use native.Mathlib.Omega.{arith}
use Rattle.scope.specs.Tests.{apart_from, lies_apart}
use Rattle.lines.proofs.Loops.{all_fails}
use Rattle.outlines.proofs.ApartLaws.{down_rest, rest_before}
use Rattle.outlines.proofs.overlaps.BoxedMesh.lies_apart.Goals as goal

pub returns-then-all_before : goal.returns-then-all_before
returns-then-all_before c =
    let self = c.args.self.now in
    down_rest _ _ c.loop-d.invariant
    (λ k l. rest_before _ self.turned self.boxed _ c.args.e (omega arith) c.requires (sym c.if-all_before.ensures) k
    (omega arith))

pub returns-then-not-apart_from : goal.returns-then-not-apart_from
unfolding lies_apart
returns-then-not-apart_from c =
    let m = c.args.self.now.mesh.numbers.now in
    sym (all_fails (λ k. apart_from m k c.args.e) c.args.e (omega arith) (sym c.if-not-apart_from.ensures))

pub returns : goal.returns
returns c = down_rest _ _ c.loop-d.invariant (λ k l. absurd (omega (arith, c.loop-d-test.false)))
