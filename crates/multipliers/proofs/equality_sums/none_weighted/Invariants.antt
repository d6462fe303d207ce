-- Those passed are 0.
use mathlib.Core.Path.{◌≡◌}
use Prim.Native.Nat.{ℕ, ◌+◌, ◌<◌}
use lib.IntN.{pos}
use Rattle.scope.specs.Columns.{at}
use Rattle.multipliers.proofs.equality_sums.none_weighted.Given as goal

abbrev pub invariant-loop-i : goal.invariant-loop-i
invariant-loop-i l = (j : ℕ) → j < l.i → at l.rows.multipliers.now (l.k + j) ≡ pos 0
