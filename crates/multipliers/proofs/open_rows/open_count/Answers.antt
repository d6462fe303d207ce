-- `open_count` meets its contract: one pair more.
use mathlib.Core.Path.{sym}
use Prim.Native.Nat.{◌<◌}
use native.Mathlib.Omega.{arith}
use Rattle.scope.specs.Rows.{pair_count}
use Rattle.mesh.proofs.PairLaws.{pairs_counted}
use Rattle.multipliers.proofs.OpenLaws.{no_pair_open, few_open, one_more_pair, count_small, all_pairs_open}
use Rattle.multipliers.proofs.open_rows.open_count.Goals as goal

pub loop-a-init : goal.loop-a-init
loop-a-init c = sym (no_pair_open _ _ _ _ _)

pub open_in_pair-count-requires : goal.open_in_pair-count-requires
open_in_pair-count-requires c =
    record { same_mesh = c.requires; there = omega (arith, pairs_counted _ _ c.args.rows.now.mesh.paired) }

pub overflow_add-count : goal.overflow_add-count
overflow_add-count c =
    let rows = c.args.rows.now in
    let counts = rows.mesh.mesh.sized.facts.counts in
    let there : c.loop-a.a < pair_count rows.mesh.mesh.numbers.now =
    omega (arith, pairs_counted _ _ rows.mesh.paired) in
    let small = count_small _ _ _ _ _ counts rows.mesh.few_with_sides c.loop-a.a
    (omega (arith, there)) c.loop-a.invariant in
    record { fits = omega (arith, small, few_open _ _ _ _ _ counts c.loop-a.a c.open_in_pair-count.ensures) }

pub loop-a-preserved : goal.loop-a-preserved
loop-a-preserved c = one_more_pair _ _ _ _ _ c.loop-a.a c.open_in_pair-count.ensures c.loop-a.invariant

pub returns : goal.returns
returns c =
    let mesh = c.args.rows.now.mesh in
    all_pairs_open _ _ _ _ _ (record { listed = mesh.mesh.sized.facts.counts.sides_listed }) c.loop-a.a
    (omega (arith, pairs_counted _ _ mesh.paired)) c.loop-a.invariant
