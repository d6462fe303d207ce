-- The rows of the planes passed are counted.
use mathlib.Core.Path.{◌≡◌}
use Prim.Native.Nat.{◌*◌}
use Rattle.scope.specs.Columns.{at}
use Rattle.multipliers.specs.MultiplierContracts.{count_below}
use Rattle.multipliers.specs.OpenContracts.{plane_open}
use Rattle.multipliers.proofs.open_rows.planes_open.Given as goal

abbrev pub invariant-loop-j : goal.invariant-loop-j
invariant-loop-j l = l.count ≡ count_below (λ k. plane_open l.planes k (at l.y k)) (2 * l.j)
