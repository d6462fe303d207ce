-- `layer_of` meets its contract: the first that is found, or none.
use mathlib.Core.Path.{◌≡◌}
use mathlib.Core.Bool.{true, false}
use Rattle.std.proofs.Common.{rules, tests}
use Rattle.std.proofs.lemmas.Iterator.{first_from_Range}
use Rattle.scope.specs.Layers.{has}
use Rattle.layers.proofs.LayerLaws.{first_found}
use Rattle.layers.proofs.table.Layers.layer_of.Goals as goal

pub returns : goal.returns
returns c =
    let t = c.args.self.now in
    let Has = has t.numbers.now c.args.q in
    let found = first_found t.numbers.now c.args.q t.counted c.find.result
    (first_from_Range _ _ _ c.find.result (λ k. Has k ≡ true) (λ k. Has k ≡ false) c.find.ensures.ran
    (λ x q k. search (rules, tests)) (λ x q k. search (rules, tests))) in
    record { found = found.0; none = found.1 }
