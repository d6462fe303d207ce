-- The sides passed are summed.
use Rattle.std.proofs.Common.{length}
use Rattle.multipliers.specs.MultiplierContracts.{SideSumsAre}
use Rattle.multipliers.proofs.multiplier_sums.side_sums.Given as goal

abbrev pub invariant-loop-side : goal.invariant-loop-side
invariant-loop-side l = SideSumsAre l.sums l.sides l.y (length l.yielded)
