-- The equality rows and the rows of the pairs passed are summed.
use Rattle.multipliers.specs.MultiplierContracts.{PairsSummed}
use Rattle.multipliers.proofs.multiplier_sums.strength_sums.Given as goal

abbrev pub invariant-loop-a : goal.invariant-loop-a
invariant-loop-a l = PairsSummed l.rows.mesh.mesh.numbers.now l.rows.multipliers.now l.a l.columns l.sums
