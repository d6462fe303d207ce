-- The rows of the elements passed are summed.
use Prim.Native.Nat.{◌*◌}
use Rattle.multipliers.specs.MultiplierContracts.{Summed}
use Rattle.multipliers.proofs.equality_sums.balance_sums.Given as goal

abbrev pub invariant-loop-e : goal.invariant-loop-e
invariant-loop-e l = Summed l.rows.mesh.mesh.numbers.now l.rows.multipliers.now (l.e * 2) l.columns l.sums
