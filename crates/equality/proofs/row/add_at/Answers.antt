-- `add_at` meets its contract: the sum fits, and is stored in its place.
use mathlib.Core.Path.{ap}
use lib.ListN.{set}
use Rattle.scope.specs.Columns.{at}
use native.Mathlib.Omega.{arith}
use Rattle.integer.proofs.Machine.{machine, exact}
use Rattle.equality.proofs.row.add_at.Goals as goal

pub returns : goal.returns
unfolding at
returns c = ap (set c.args.sums.now c.args.j) (exact (search machine depth 30) (omega arith))
