-- `top_above` meets its contract: the test is the definition's.
use native.Mathlib.Omega.{arith}
use Rattle.integer.proofs.Machine.{machine, decides}
use Rattle.scope.specs.Layers.{top_above}
use Rattle.layers.proofs.table.Layers.top_above.Goals as goal

pub returns : goal.returns
unfolding top_above
returns c = let layer = c.layer-layer.ensures in decides (search machine depth 30) (omega arith)
