-- `pair_sums` meets its contract: sums of products of numbers that are bounded.
use mathlib.Core.Path.{refl}
use native.Mathlib.Omega.{arith}
use Rattle.integer.proofs.Machine.{machine, fits, bounded}
use Rattle.multipliers.proofs.PairLaws.{pair_summed}
use Rattle.multipliers.proofs.multiplier_sums.pair_sums.Goals as goal

pub overflow_add-result : goal.overflow_add-result
overflow_add-result c =
    let soil = c.args.soil in
    fits (search machine depth 30) (omega arith)

pub overflow_sub-result : goal.overflow_sub-result
overflow_sub-result c =
    let soil = c.args.soil in
    fits (search machine depth 30) (omega arith)

pub overflow_mul-result-2 : goal.overflow_mul-result-2
overflow_mul-result-2 c =
    let soil = c.args.soil in
    fits (search machine depth 30) (omega arith)

pub overflow_sub-result-2 : goal.overflow_sub-result-2
overflow_sub-result-2 c =
    let soil = c.args.soil in
    fits (search machine depth 30) (omega arith)

pub overflow_mul-result-3 : goal.overflow_mul-result-3
overflow_mul-result-3 c =
    let soil = c.args.soil in
    fits (search machine depth 30) (omega arith)

pub invariant_of-result : goal.invariant_of-result
invariant_of-result c =
    let soil = c.args.soil in
    record {
      sx_fits = bounded (search machine depth 30) (omega arith);
      sy_fits = bounded (search machine depth 30) (omega arith);
      t_fits = bounded (search machine depth 30) (omega arith);
      right_fits = bounded (search machine depth 30) (omega arith);
    }

pub returns : goal.returns
returns c = pair_summed c.args.soil c.requires refl refl refl refl
