-- `new` meets its contract: a layer has three numbers.
use mathlib.Core.Path.{refl}
use Rattle.scope.specs.Layers.{layers}
use Rattle.layers.proofs.table.Layers.new.Goals as goal

pub invariant_of-result : goal.invariant_of-result
unfolding layers
invariant_of-result c = record { counted = refl; read = c.requires }
