-- `name_soils` meets its contract. The invariant: the elements passed have soil 1 for soil 0.
use mathlib.Core.Path.{◌∙◌, ap}
use native.Mathlib.Omega.{arith}
use Rattle.layers.specs.LayerContracts.{named}
use Rattle.layers.proofs.NamingLaws.{one_named, none_named, all_named_lem}
use Rattle.layers.proofs.filling.name_soils.Goals as goal

pub loop-e-init : goal.loop-e-init
loop-e-init c = none_named _

pub loop-e-preserved : goal.loop-e-preserved
loop-e-preserved c =
    let p = c.requires in
    c.name_soil.ensures
    ∙ ap (λ m. named m c.soil_place.result) c.loop-e.invariant
    ∙ one_named _ _ (omega (arith, p.elements_are)) (c.soil_place.ensures _ p)

pub returns : goal.returns
returns c = c.loop-e.invariant ∙ all_named_lem _ (omega (arith, c.requires.elements_are))
