-- `none_left` meets its contract: `all` over the corners is each corner below as many, none of which is left of the
-- line.
use Rattle.std.proofs.Common.{rules, tests, refl, ap, arith, ◌∙◌}
use Rattle.std.proofs.lemmas.Iterator.{YieldsList-from_range}
use Rattle.std.proofs.lemmas.Iterator.Search.{all_from_yields_List}
use mathlib.Core.Bool.{Bool}
use Prim.Native.Nat.{ℕ}
use lib.IntN.{pos}
use lib.Signed.{le_z}
use Rattle.scope.specs.Mesh.{around}
use Rattle.scope.specs.Checks.{all_below}
use Rattle.scope.specs.Tests.{turn, none_left}
use Rattle.scope.proofs.Ranges.{all_in_range}
use Rattle.outlines.proofs.ApartLaws.{not_left}
use Rattle.outlines.proofs.overlaps.none_left.Goals as goal

pub returns : goal.returns
unfolding none_left
returns c =
    let m = c.args.m.now.numbers.now in
    let test : ℕ → Bool = λ j. le_z (turn m c.args.a c.args.b (around m c.args.d j)) (pos 0) in
    let n = c.corner_count.result in
    all_from_yields_List test _ _ c.all.result c.all.ensures.ran
    (YieldsList-from_range 0 n n refl (omega arith)) (λ x b q k. search (rules, tests, not_left))
    ∙ all_in_range test n ∙ ap (all_below test) c.corner_count.ensures.is
