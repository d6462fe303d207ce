-- `add_pair` meets its contract: the three columns of its node and W grow by the sums over its rows.
use mathlib.Core.Path.{ap}
use Prim.Native.Nat.{◌*◌}
use native.Mathlib.Omega.{arith}
use Rattle.integer.proofs.Machine.{fits, exact, of_within, of_read, of_+ℤ}
use Rattle.criterion.proofs.StrengthLaws.{pair_within, node_read}
use Rattle.multipliers.proofs.PairSumLaws.{room_before, one_pair_summed}
use Rattle.multipliers.proofs.multiplier_sums.add_pair.Goals as goal

pub offset_bounds-rows-a : goal.offset_bounds-rows-a
offset_bounds-rows-a c = record { fits = omega (arith, c.args.rows.now.mesh.few, c.requires.there) }

pub bounds-rows-a : goal.bounds-rows-a
bounds-rows-a c = pair_within _ _ c.args.rows.now.mesh.paired c.args.a c.requires.there

pub add_columns-requires-clause-there : goal.add_columns-requires-clause-there
add_columns-requires-clause-there c =
    let mesh = c.args.rows.now.mesh in
    let node = node_read _ _ mesh.paired c.args.a c.requires.there _ c.from-v.ensures in
    omega (arith, c.requires.before.size, node.1, mesh.mesh.sized.facts.counts.nodes_most)

pub add_columns-requires-clause-columns_fit : goal.add_columns-requires-clause-columns_fit
add_columns-requires-clause-columns_fit c =
    (room_before c.args.rows.now.mesh c.args.a c.requires.there c.requires.before).columns_fit

pub overflow_add-result : goal.overflow_add-result
overflow_add-result c =
    let limit = (room_before c.args.rows.now.mesh c.args.a c.requires.there c.requires.before).limit_fits in
    let right = c.pair_part-part.result.right_fits in
    fits (of_+ℤ (of_read (of_within limit)) (of_read (of_within right))) (omega arith)

pub returns : goal.returns
returns c =
    let mesh = c.args.rows.now.mesh in
    let part = c.pair_part-part.result in
    let node = node_read _ _ mesh.paired c.args.a c.requires.there _ c.from-v.ensures in
    let room = room_before mesh c.args.a c.requires.there c.requires.before in
    one_pair_summed _ _ c.args.a c.requires.before c.pair_part-part.ensures c.add_columns.auto.columns
    (ap (λ v. 3 * v) node.0) c.add_columns.ensures
    (exact (of_read (of_+ℤ (of_read (of_within room.limit_fits)) (of_read (of_within part.right_fits)))) (omega arith))
    (exact (of_read (of_within room.live_fits)) (omega arith))
