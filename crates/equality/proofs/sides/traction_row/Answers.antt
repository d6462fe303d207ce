-- `traction_row` meets its contract.
use native.Mathlib.Omega.{arith}
use Rattle.integer.proofs.Machine.{machine, bounded, exact}
use Rattle.equality.specs.EqualityContracts.{row_of, traction_row}
use Rattle.equality.proofs.EqualityLaws.{row_same}
use Rattle.equality.proofs.sides.traction_row.Goals as goal

pub invariant_of-result : goal.invariant_of-result
invariant_of-result c =
    record {
      live_fits = bounded (search machine depth 30) (omega arith);
      right_fits = bounded (search machine depth 30) (omega arith);
    }

pub returns : goal.returns
unfolding row_of traction_row
returns c =
    let square = c.requires in
    let dead = c.args.t.dead_fits in
    let live = c.args.t.live_fits in
    row_same (exact (search machine depth 30) (omega arith)) (exact (search machine depth 30) (omega arith))
