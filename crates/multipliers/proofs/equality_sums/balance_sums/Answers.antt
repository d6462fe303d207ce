-- `balance_sums` meets its contract: an element more.
use Rattle.multipliers.proofs.MultiplierLaws.{none_summed}
use Rattle.multipliers.proofs.equality_sums.balance_sums.Goals as goal

pub loop-e-init : goal.loop-e-init
loop-e-init c = none_summed _ _ c.requires c.default-sums.ensures.0 c.default-sums.ensures.1
