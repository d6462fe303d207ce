-- `fill` meets its contract. The invariant: the elements passed have their layers' soils, the others soil 1.
use mathlib.Core.Path.{◌≡◌}
use Rattle.scope.specs.Filled.{given}
use Rattle.layers.specs.LayerContracts.{soils_to}
use Rattle.layers.proofs.filling.fill.Given as goal

abbrev pub invariant-loop-e : goal.invariant-loop-e
invariant-loop-e l = l.out ≡ given (soils_to l.layers.numbers.now l.m l.e) l.m
