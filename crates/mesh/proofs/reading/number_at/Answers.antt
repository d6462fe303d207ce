-- `number_at` meets its contract: the machine reads the number back from its bits.
use native.Mathlib.Omega.{arith}
use Rattle.integer.proofs.Machine.{machine, unbounded, exact}
use Rattle.scope.specs.Columns.{at}
use Rattle.mesh.proofs.reading.number_at.Goals as goal

pub returns : goal.returns
unfolding at
returns c = exact (search (machine, unbounded) depth 30) (omega arith)
