-- The planes passed are summed.
use Rattle.multipliers.specs.PlaneSumContracts.{PlaneSumsAre}
use Rattle.multipliers.proofs.plane_sums.plane_sums.Given as goal

abbrev pub invariant-loop-j : goal.invariant-loop-j
invariant-loop-j l = PlaneSumsAre l.sums l.corners l.y l.j
