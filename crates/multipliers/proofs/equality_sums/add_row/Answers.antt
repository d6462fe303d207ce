-- `add_row` meets its contract: nothing to add where the multiplier is 0, and else the row times it.
use mathlib.Core.Path.{refl}
use native.Mathlib.Omega.{arith}
use Rattle.integer.proofs.Machine.{machine, told, Is-read, Is-within}
use Rattle.scope.specs.Columns.{at}
use Rattle.scope.specs.Sums.{coefficient}
use Rattle.equality.specs.EqualityContracts.{row_of}
use Rattle.criterion.proofs.RowLaws.{equality_among}
use Rattle.multipliers.proofs.MultiplierLaws.{zero_summed, row_summed, one_summed, room}
use Rattle.multipliers.proofs.equality_sums.add_row.Goals as goal

pub returns-then-y-eq0 : goal.returns-then-y-eq0
unfolding at
returns-then-y-eq0 c =
    let bounds = c.args.rows.now.of_each_row.bounds in
    one_summed _ _ c.args.k c.requires.before refl
    (zero_summed _ _ _ _ _ (told c.if-y-eq0.true (search machine depth 30) (omega arith)))

pub returns : goal.returns
unfolding at coefficient row_of
returns c =
    one_summed _ _ c.args.k c.requires.before c.add_to.auto.sums
    (row_summed _ _ _ c.args.row.now c.requires.filled (equality_among _ _ c.requires.there)
    (Is-read (Is-within (c.args.rows.now.of_each_row.bounds.each c.args.k)) (omega arith)) c.add_to.ensures
    c.add_sums.ensures.limit c.add_sums.ensures.live)

pub add_to-requires-clause-sums_fit : goal.add_to-requires-clause-sums_fit
add_to-requires-clause-sums_fit c =
    let counts = c.args.rows.now.mesh.mesh.sized.facts.counts in
    (room _ _ c.requires.before
    (omega (arith, c.requires.there, counts.elements_most, counts.edges_most, counts.jumps_most))).columns_fit
