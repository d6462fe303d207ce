-- The rows of the pairs passed are counted.
use mathlib.Core.Path.{◌≡◌}
use Rattle.scope.specs.Columns.{at}
use Rattle.multipliers.specs.MultiplierContracts.{count_below, pair_first}
use Rattle.multipliers.specs.OpenContracts.{open_test}
use Rattle.multipliers.proofs.open_rows.open_count.Given as goal

abbrev pub invariant-loop-a : goal.invariant-loop-a
invariant-loop-a l =
    let m = l.rows.mesh.mesh.numbers.now in
    let field = l.field in
    l.count
    ≡ count_below (open_test m (at field.stresses.now) field.l field.n l.rows.multipliers.now) (pair_first m l.a)
