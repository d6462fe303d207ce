-- The rows passed are summed.
use Rattle.multipliers.specs.MultiplierContracts.{Summed}
use Rattle.multipliers.proofs.equality_sums.jump_sums.Given as goal

abbrev pub invariant-loop-k : goal.invariant-loop-k
invariant-loop-k l = Summed l.rows.mesh.mesh.numbers.now l.rows.multipliers.now l.k l.columns l.sums
