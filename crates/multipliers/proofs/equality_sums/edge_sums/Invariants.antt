-- The rows of the elements and of the edges passed are summed.
use Prim.Native.Nat.{◌+◌, ◌*◌}
use Rattle.scope.specs.Mesh.{elements}
use Rattle.multipliers.specs.MultiplierContracts.{Summed}
use Rattle.multipliers.proofs.equality_sums.edge_sums.Given as goal

abbrev pub invariant-loop-g : goal.invariant-loop-g
invariant-loop-g l =
    let m = l.rows.mesh.mesh.numbers.now in
    Summed m l.rows.multipliers.now (elements m * 2 + l.g * 4) l.columns l.sums
