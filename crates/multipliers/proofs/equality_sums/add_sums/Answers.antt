-- `add_sums` meets its contract: each product and each sum is exact.
use native.Mathlib.Omega.{arith}
use Rattle.integer.proofs.Machine.{machine, exact}
use Rattle.multipliers.proofs.equality_sums.add_sums.Goals as goal

pub returns : goal.returns
returns c =
    let row = c.args.row.now in
    record {
      limit = exact (search machine depth 30) (omega arith);
      live = exact (search machine depth 30) (omega arith);
    }
