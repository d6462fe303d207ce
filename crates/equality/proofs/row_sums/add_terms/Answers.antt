-- `add_terms` meets its contract: what each turn adds is the next term's.
use mathlib.Core.Path.{sym}
use Prim.Native.Nat.{◌<◌}
use native.Mathlib.Omega.{arith}
use lib.ListN.{length}
use Rattle.integer.proofs.BoundLaws.{AllWithin-le}
use Rattle.integer.proofs.Machine.{unread, is, bounded, fits, machine}
use Rattle.equality.proofs.EntryLaws.{column_there, sums_within, none_added, term_added, all_added}
use Rattle.equality.proofs.row_sums.add_terms.Goals.{After-term-item}
use Rattle.equality.proofs.row_sums.add_terms.Goals as goal

there : (c : After-term-item) → c.term-item.result.column < length c.args.sums.now
there c =
    column_there c.args.terms.now c.requires.columns_there c.loop-term.term-index c.term-item.result
    c.term-item.is c.loop-term-test.true

pub loop-term-init : goal.loop-term-init
loop-term-init c = none_added _ _ _ c.requires.sums_fit

pub overflow_mul-y : goal.overflow_mul-y
overflow_mul-y c =
    let coefficient = c.term-item.result.coefficient_fits in
    let y = c.requires.multiplier_fits in
    fits (search machine depth 30) (omega arith)

pub add_at-requires : goal.add_at-requires
add_at-requires c =
    let column = there (goal.at.add_at-requires c).After-term-item in
    let coefficient = c.term-item.result.coefficient_fits in
    let y = c.requires.multiplier_fits in
    record {
      column_there = omega (arith, c.loop-term.invariant.size);
      sums_fit = AllWithin-le (sums_within c.loop-term.invariant.sums) (omega arith);
      addend_fits = bounded (search machine depth 30) (omega arith);
    }

pub loop-term-preserved : goal.loop-term-preserved
loop-term-preserved c =
    let coefficient = c.term-item.result.coefficient_fits in
    let y = c.requires.multiplier_fits in
    term_added _ _ _ c.loop-term.term-index c.term-item.result c.loop-term-test.true c.term-item.is
    (there (goal.at.loop-term-preserved c).After-term-item) c.loop-term.invariant
    (is (search machine depth 30) (omega arith) (sym (search unread))) c.add_at.ensures

pub returns : goal.returns
returns c =
    let loop = c.loop-term in
    all_added _ _ _ c.requires.few loop.term-index c.loop-term-test.false loop.auto.term-index-end (search unread)
    loop.invariant
