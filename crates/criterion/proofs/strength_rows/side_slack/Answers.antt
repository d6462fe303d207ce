-- `side_slack` meets its contract: each operation fits, by the bounds of the numbers.
use mathlib.Core.Path.{refl}
use native.Mathlib.Omega.{arith}
use Rattle.integer.proofs.Machine.{machine, fits, is}
use Rattle.criterion.specs.StrengthContracts.{side_slack}
use Rattle.criterion.proofs.strength_rows.side_slack.Goals as goal

pub overflow_sub-result : goal.overflow_sub-result
overflow_sub-result c =
    let side = c.args.step.now in
    let pair = c.args.pair.now in
    fits (search machine depth 30) (omega arith)

pub overflow_mul-result-4 : goal.overflow_mul-result-4
overflow_mul-result-4 c =
    let side = c.args.step.now in
    let pair = c.args.pair.now in
    fits (search machine depth 30) (omega arith)

pub overflow_sub-result-2 : goal.overflow_sub-result-2
overflow_sub-result-2 c =
    let side = c.args.step.now in
    let pair = c.args.pair.now in
    fits (search machine depth 30) (omega arith)

pub returns : goal.returns
unfolding side_slack
returns c =
    let side = c.args.step.now in
    let pair = c.args.pair.now in
    is (search machine depth 30) (omega arith) refl
