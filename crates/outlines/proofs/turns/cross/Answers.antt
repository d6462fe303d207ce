-- `cross` meets its contract: each operation fits, and the result has the value and the bound that it says.
use mathlib.Core.Path.{refl}
use native.Mathlib.Omega.{arith}
use Rattle.integer.proofs.Machine.{machine, fits, is}
use Rattle.outlines.proofs.turns.cross.Goals as goal

pub overflow_sub-result : goal.overflow_sub-result
overflow_sub-result c = fits (search machine depth 30) (omega arith)

pub returns : goal.returns
returns c = is (search machine depth 30) (omega arith) refl
