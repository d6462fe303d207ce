-- `add_columns` meets its contract: three columns, one after the other.
use native.Mathlib.Omega.{arith}
use Rattle.integer.proofs.BoundLaws.{AllWithin-le}
use Rattle.equality.proofs.EntryLaws.{sums_within}
use Rattle.multipliers.proofs.PairSumLaws.{sx_added, sy_added, t_added}
use Rattle.multipliers.proofs.multiplier_sums.add_columns.Goals as goal

pub add_at-requires-2-clause-sums_fit : goal.add_at-requires-2-clause-sums_fit
add_at-requires-2-clause-sums_fit c =
    let asked = c.requires in
    let one = sx_added _ c.args.column c.args.part asked.there asked.columns_fit c.add_at.ensures in
    AllWithin-le (sums_within one.sums) (omega arith)

pub add_at-requires-3-clause-sums_fit : goal.add_at-requires-3-clause-sums_fit
add_at-requires-3-clause-sums_fit c =
    let asked = c.requires in
    let two = sy_added _ c.args.column c.args.part asked.there asked.columns_fit c.add_at.ensures c.add_at-2.ensures in
    AllWithin-le (sums_within two.sums) (omega arith)

pub returns : goal.returns
returns c =
    let asked = c.requires in
    t_added _ c.args.column c.args.part asked.there asked.columns_fit c.add_at.ensures c.add_at-2.ensures
    c.add_at-3.ensures
