-- `add_element` meets its contract: its two rows, or none where both multipliers are 0.
use native.Mathlib.Omega.{arith}
use Rattle.multipliers.proofs.MultiplierLaws.{all_summed, skipped}
use Rattle.multipliers.proofs.equality_sums.add_element.Goals as goal

pub returns-then-none_weighted : goal.returns-then-none_weighted
returns-then-none_weighted c =
    all_summed _ _ (omega arith)
    (skipped _ _ _ 2 (c.none_weighted.ensures c.if-none_weighted.true) c.requires.before)
