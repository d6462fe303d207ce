-- `left_side` meets its contract: what each turn adds is the next term's.
use mathlib.Core.Path.{ap, refl, sym}
use native.Mathlib.Omega.{arith}
use Prim.Native.Nat.{◌<◌}
use lib.IntN.{◌+ℤ◌, ◌*ℤ◌}
use lib.ListN.{length}
use Rattle.std.proofs.Common.{rules}
use Rattle.integer.proofs.Machine.{machine, fits, is}
use Rattle.scope.specs.Columns.{at}
use Rattle.scope.specs.Sums.{weighted_sum}
use Rattle.equality.proofs.EntryLaws.{one_entry_more, all_passed, column_there}
use Rattle.equality.proofs.row_sums.left_side.Goals.{After-term-item}
use Rattle.equality.proofs.row_sums.left_side.Goals as goal

there : (c : After-term-item) → c.term-item.result.column < length c.args.x.now
there c =
    column_there c.args.terms.now c.requires.columns_there c.loop-term.term-index c.term-item.result
    c.term-item.is c.loop-term-test.true

pub loop-term-init : goal.loop-term-init
unfolding weighted_sum
loop-term-init c = is (search machine depth 30) (omega arith) refl

pub offset_bounds-x-term : goal.offset_bounds-x-term
offset_bounds-x-term c =
    let column = there (goal.at.offset_bounds-x-term c).After-term-item in
    search rules

pub bounds-x-term : goal.bounds-x-term
bounds-x-term c = there (goal.at.bounds-x-term c).After-term-item

pub overflow_mul-sum : goal.overflow_mul-sum
overflow_mul-sum c =
    let coefficient = c.term-item.result.coefficient_fits in
    let field = c.requires.field_fits in
    fits (search machine depth 30) (omega arith)

pub overflow_add-sum : goal.overflow_add-sum
overflow_add-sum c =
    let coefficient = c.term-item.result.coefficient_fits in
    let field = c.requires.field_fits in
    fits (search machine depth 30) (omega arith)

pub loop-term-preserved : goal.loop-term-preserved
unfolding at
loop-term-preserved c =
    let term = c.term-item.result in
    let coefficient = term.coefficient_fits in
    let field = c.requires.field_fits in
    let more =
    one_entry_more (at c.args.x.now) c.args.terms.now c.loop-term.term-index term c.loop-term-test.true in
    is (search machine depth 30) (omega arith) (rw (sym c.term-item.is) at (sym more))

pub overflow_mul-result : goal.overflow_mul-result
overflow_mul-result c = fits (search machine depth 30) (omega arith)

pub overflow_add-result : goal.overflow_add-result
overflow_add-result c = fits (search machine depth 30) (omega arith)

pub returns : goal.returns
returns c =
    let every = all_passed c.args.terms.now c.loop-term.term-index c.loop-term-test.false in
    is (search machine depth 30) (omega arith)
    (ap (λ es. weighted_sum (at c.args.x.now) es +ℤ c.args.live *ℤ c.args.l) every)
