-- `name_soils` meets its contract. The invariant: the elements passed have soil 1 for soil 0.
use mathlib.Core.Path.{◌≡◌}
use Rattle.scope.specs.Filled.{given}
use Rattle.layers.specs.LayerContracts.{ones_to}
use Rattle.layers.proofs.filling.name_soils.Given as goal

abbrev pub invariant-loop-e : goal.invariant-loop-e
invariant-loop-e l = l.m ≡ given (ones_to l.e) l.initial.m
