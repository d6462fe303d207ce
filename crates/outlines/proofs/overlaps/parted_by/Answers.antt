-- `parted_by` meets its contract: `any` over the sides is some side below as many.
use Rattle.std.proofs.Common.{rules, tests, refl, ap, arith, ◌∙◌, ◌+◌}
use mathlib.Core.Bool.{Bool}
use Prim.Native.Nat.{ℕ}
use Rattle.std.proofs.lemmas.Iterator.{YieldsList-from_range}
use Rattle.std.proofs.lemmas.Iterator.Search.{any_from_yields_List}
use Rattle.scope.specs.Mesh.{around}
use Rattle.scope.specs.Checks.{some_below}
use Rattle.scope.specs.Tests.{none_left, parted_by}
use Rattle.scope.proofs.Ranges.{some_in_range}
use Rattle.outlines.proofs.overlaps.parted_by.Goals as goal

pub returns : goal.returns
unfolding parted_by
returns c =
    let m = c.args.m.now.numbers.now in
    let test : ℕ → Bool = λ i. none_left m (around m c.args.e i) (around m c.args.e (i + 1)) c.args.d in
    let n = c.corner_count.result in
    any_from_yields_List test _ _ c.any.result c.any.ensures.ran
    (YieldsList-from_range 0 n n refl (omega arith)) (λ x b q k. search (rules, tests))
    ∙ some_in_range test n ∙ ap (some_below test) c.corner_count.ensures.is
