-- `strength_sums` meets its contract: one pair more.
use native.Mathlib.Omega.{arith}
use Rattle.mesh.proofs.PairLaws.{pairs_counted}
use Rattle.multipliers.proofs.PairSumLaws.{no_pairs_summed, all_pairs_summed}
use Rattle.multipliers.proofs.multiplier_sums.strength_sums.Goals as goal

pub loop-a-init : goal.loop-a-init
loop-a-init c =
    let mesh = c.args.rows.now.mesh in
    no_pairs_summed _ _ mesh.mesh.sized.facts.counts mesh.few_with_sides c.requires

pub add_pair-sums-requires-clause-there : goal.add_pair-sums-requires-clause-there
add_pair-sums-requires-clause-there c =
    let mesh = c.args.rows.now.mesh in
    omega (arith, pairs_counted _ _ mesh.paired)

pub returns : goal.returns
returns c =
    let mesh = c.args.rows.now.mesh in
    all_pairs_summed _ _ (omega (arith, pairs_counted _ _ mesh.paired)) c.loop-a.invariant
