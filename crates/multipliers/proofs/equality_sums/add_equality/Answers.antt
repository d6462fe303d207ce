-- `add_equality` meets its contract: the row, or none where its multiplier is 0.
use native.Mathlib.Omega.{arith}
use Rattle.multipliers.proofs.MultiplierLaws.{all_summed, skipped}
use Rattle.multipliers.proofs.equality_sums.add_equality.Goals as goal

pub returns-then-none_weighted : goal.returns-then-none_weighted
returns-then-none_weighted c =
    all_summed _ _ (omega arith)
    (skipped _ _ _ 1 (c.none_weighted.ensures c.if-none_weighted.true) c.requires.before)
