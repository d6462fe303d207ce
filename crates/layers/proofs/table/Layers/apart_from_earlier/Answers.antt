-- `apart_from_earlier` meets its contract: by pairs, with each earlier layer.
use mathlib.Core.Path.{refl, ◌∙◌, ap}
use mathlib.Core.Bool.{not}
use native.Mathlib.Omega.{arith}
use Rattle.std.proofs.Common.{rules, tests}
use Rattle.std.proofs.lemmas.Iterator.{YieldsList-from_range}
use Rattle.std.proofs.lemmas.Iterator.Search.{any_from_yields_List}
use Rattle.scope.proofs.Ranges.{some_in_range}
use Rattle.layers.specs.LayerContracts.{meet}
use Rattle.layers.proofs.LayerLaws.{apart_by_pairs}
use Rattle.layers.proofs.table.Layers.apart_from_earlier.Goals as goal

pub returns : goal.returns
returns c =
    let a = c.args in
    let with = meet a.self.now.numbers.now a.heights.lo a.heights.hi a.i in
    ap not
    (any_from_yields_List with _ _ c.any.result c.any.ensures.ran
    (YieldsList-from_range 0 a.i a.i refl (omega arith)) (λ x b q k. search (rules, tests))
    ∙ some_in_range with a.i)
    ∙ apart_by_pairs a.self.now.numbers.now a.heights.lo a.heights.hi a.i
