-- The rows passed are summed.
use Prim.Native.Nat.{◌+◌, ◌*◌}
use Rattle.scope.specs.Mesh.{elements}
use Rattle.multipliers.specs.MultiplierContracts.{Summed}
use Rattle.multipliers.proofs.equality_sums.add_edge.Given as goal

abbrev pub invariant-loop-i : goal.invariant-loop-i
invariant-loop-i l =
    let m = l.rows.mesh.mesh.numbers.now in
    Summed m l.rows.multipliers.now (elements m * 2 + l.g * 4 + l.i) l.columns l.with_rows
