-- `ElementSides::own_sides` meets its contract: `all` over the sides is each side below as many.
use Rattle.std.proofs.Common.{rules, tests, refl, ap, arith, ◌∙◌}
use Rattle.std.proofs.lemmas.Iterator.{YieldsList-from_range}
use Rattle.std.proofs.lemmas.Iterator.Search.{all_from_yields_List}
use Rattle.scope.specs.Checks.{all_below}
use Rattle.scope.specs.Tests.{own_side_at}
use Rattle.scope.proofs.Ranges.{all_in_range}
use Rattle.shape.proofs.SideTables.{own_sides_are}
use Rattle.shape.proofs.sides.ElementSides.own_sides.Goals as goal

pub returns : goal.returns
returns c =
    let test = own_side_at c.args.self.now.mesh.numbers.now c.args.e in
    let n = c.corner_count.result in
    all_from_yields_List test _ _ c.all.result c.all.ensures.ran
    (YieldsList-from_range 0 n n refl (omega arith)) (λ x b q k. search (rules, tests))
    ∙ all_in_range test n ∙ ap (all_below test) c.corner_count.ensures.is ∙ own_sides_are _ _
