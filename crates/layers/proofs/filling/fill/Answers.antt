-- `fill` meets its contract. The invariant: the elements passed have their layers' soils, the others soil 1.
use mathlib.Core.Path.{◌∙◌}
use native.Mathlib.Omega.{arith}
use Rattle.layers.proofs.FillingLaws.{elements_are_lem, none_filled, all_filled}
use Rattle.layers.proofs.filling.fill.Goals as goal

pub loop-e-init : goal.loop-e-init
loop-e-init c = c.requires.named ∙ none_filled _ _

pub take_soil-requires-clause-there : goal.take_soil-requires-clause-there
take_soil-requires-clause-there c = omega (arith, elements_are_lem c.requires.fillable)

pub returns : goal.returns
returns c = c.loop-e.invariant ∙ all_filled _ _ (omega (arith, elements_are_lem c.requires.fillable))
