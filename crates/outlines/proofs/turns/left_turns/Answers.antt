-- `left_turns` meets its contract: `all` over the corners is each corner below as many.
use Rattle.std.proofs.Common.{rules, tests, refl, ap, arith, ◌∙◌}
use Rattle.std.proofs.lemmas.Iterator.{YieldsList-from_range}
use Rattle.std.proofs.lemmas.Iterator.Search.{all_from_yields_List}
use Rattle.scope.specs.Tests.{left_turn_at, left_turns}
use Rattle.scope.specs.Checks.{all_below}
use Rattle.scope.proofs.Ranges.{all_in_range}
use Rattle.outlines.proofs.turns.left_turns.Goals as goal

pub returns : goal.returns
unfolding left_turns
returns c =
    let test = left_turn_at c.args.m.now.numbers.now c.args.e in
    let n = c.corner_count.result in
    all_from_yields_List test _ _ c.all.result c.all.ensures.ran
    (YieldsList-from_range 0 n n refl (omega arith)) (λ x b q k. search (rules, tests))
    ∙ all_in_range test n ∙ ap (all_below test) c.corner_count.ensures.is
