-- `add_side` meets its contract: nothing to add where the multiplier is 0, and else three products.
use native.Mathlib.Omega.{arith}
use Rattle.integer.proofs.Machine.{machine, fits, exact}
use Rattle.multipliers.proofs.PairLaws.{side_added}
use Rattle.multipliers.proofs.multiplier_sums.add_side.Goals as goal

pub overflow_add-result : goal.overflow_add-result
overflow_add-result c =
    let side = c.args.side.now in
    let sums = c.requires.sums_fit in
    let w = c.requires.weighted.itself in
    fits (search machine depth 30) (omega arith)

pub overflow_add-result-2 : goal.overflow_add-result-2
overflow_add-result-2 c =
    let side = c.args.side.now in
    let sums = c.requires.sums_fit in
    let w = c.requires.weighted.itself in
    fits (search machine depth 30) (omega arith)

pub overflow_add-result-3 : goal.overflow_add-result-3
overflow_add-result-3 c =
    let side = c.args.side.now in
    let sums = c.requires.sums_fit in
    let w = c.requires.weighted.itself in
    fits (search machine depth 30) (omega arith)

pub returns : goal.returns
returns c =
    let side = c.args.side.now in
    let sums = c.requires.sums_fit in
    side_added c.requires.weighted (exact (search machine depth 30) (omega arith))
    (exact (search machine depth 30) (omega arith)) (exact (search machine depth 30) (omega arith))
