-- `add_plane` meets its contract: nothing to add where both multipliers are 0, and else six sums, each of which fits.
use native.Mathlib.Omega.{arith}
use Rattle.integer.proofs.Machine.{machine, fits, exact, told}
use Rattle.multipliers.proofs.PlaneSumLaws.{plane_added, none_added}
use Rattle.multipliers.proofs.plane_sums.add_plane.Goals as goal

pub returns-then-minus-eq0 : goal.returns-then-minus-eq0
returns-then-minus-eq0 c =
    let plus = c.requires.plus_fits in
    let minus = c.requires.minus_fits in
    none_added _ _ _ (told c.if-plus-eq0.true (search machine depth 30) (omega arith))
    (told c.if-minus-eq0.true (search machine depth 30) (omega arith))

pub overflow_mul-ab : goal.overflow_mul-ab
overflow_mul-ab c =
    let a = c.requires.a_fits in
    let b = c.requires.b_fits in
    fits (search machine depth 30) (omega arith)

pub overflow_mul-bb : goal.overflow_mul-bb
overflow_mul-bb c =
    let a = c.requires.a_fits in
    let b = c.requires.b_fits in
    fits (search machine depth 30) (omega arith)

pub overflow_mul-result : goal.overflow_mul-result
overflow_mul-result c =
    let sums = c.requires.sums_fit in
    let a = c.requires.a_fits in
    let b = c.requires.b_fits in
    let plus = c.requires.plus_fits in
    let minus = c.requires.minus_fits in
    fits (search machine depth 30) (omega arith)

pub overflow_add-result-2 : goal.overflow_add-result-2
overflow_add-result-2 c =
    let sums = c.requires.sums_fit in
    let a = c.requires.a_fits in
    let b = c.requires.b_fits in
    let plus = c.requires.plus_fits in
    let minus = c.requires.minus_fits in
    fits (search machine depth 30) (omega arith)

pub overflow_mul-result-2 : goal.overflow_mul-result-2
overflow_mul-result-2 c =
    let sums = c.requires.sums_fit in
    let a = c.requires.a_fits in
    let b = c.requires.b_fits in
    let plus = c.requires.plus_fits in
    let minus = c.requires.minus_fits in
    fits (search machine depth 30) (omega arith)

pub overflow_add-result-3 : goal.overflow_add-result-3
overflow_add-result-3 c =
    let sums = c.requires.sums_fit in
    let a = c.requires.a_fits in
    let b = c.requires.b_fits in
    let plus = c.requires.plus_fits in
    let minus = c.requires.minus_fits in
    fits (search machine depth 30) (omega arith)

pub overflow_mul-result-3 : goal.overflow_mul-result-3
overflow_mul-result-3 c =
    let sums = c.requires.sums_fit in
    let a = c.requires.a_fits in
    let b = c.requires.b_fits in
    let plus = c.requires.plus_fits in
    let minus = c.requires.minus_fits in
    fits (search machine depth 30) (omega arith)

pub overflow_add-result-4 : goal.overflow_add-result-4
overflow_add-result-4 c =
    let sums = c.requires.sums_fit in
    let a = c.requires.a_fits in
    let b = c.requires.b_fits in
    let plus = c.requires.plus_fits in
    let minus = c.requires.minus_fits in
    fits (search machine depth 30) (omega arith)

pub overflow_mul-result-4 : goal.overflow_mul-result-4
overflow_mul-result-4 c =
    let sums = c.requires.sums_fit in
    let a = c.requires.a_fits in
    let b = c.requires.b_fits in
    let plus = c.requires.plus_fits in
    let minus = c.requires.minus_fits in
    fits (search machine depth 30) (omega arith)

pub overflow_add-result-5 : goal.overflow_add-result-5
overflow_add-result-5 c =
    let sums = c.requires.sums_fit in
    let a = c.requires.a_fits in
    let b = c.requires.b_fits in
    let plus = c.requires.plus_fits in
    let minus = c.requires.minus_fits in
    fits (search machine depth 30) (omega arith)

pub overflow_sub-result : goal.overflow_sub-result
overflow_sub-result c =
    let sums = c.requires.sums_fit in
    let a = c.requires.a_fits in
    let b = c.requires.b_fits in
    let plus = c.requires.plus_fits in
    let minus = c.requires.minus_fits in
    fits (search machine depth 30) (omega arith)

pub overflow_mul-result-5 : goal.overflow_mul-result-5
overflow_mul-result-5 c =
    let sums = c.requires.sums_fit in
    let a = c.requires.a_fits in
    let b = c.requires.b_fits in
    let plus = c.requires.plus_fits in
    let minus = c.requires.minus_fits in
    fits (search machine depth 30) (omega arith)

pub overflow_add-result-6 : goal.overflow_add-result-6
overflow_add-result-6 c =
    let sums = c.requires.sums_fit in
    let a = c.requires.a_fits in
    let b = c.requires.b_fits in
    let plus = c.requires.plus_fits in
    let minus = c.requires.minus_fits in
    fits (search machine depth 30) (omega arith)

pub returns : goal.returns
returns c =
    let sums = c.requires.sums_fit in
    let a = c.requires.a_fits in
    let b = c.requires.b_fits in
    let plus = c.requires.plus_fits in
    let minus = c.requires.minus_fits in
    plane_added a b plus minus (exact (search machine depth 30) (omega arith))
    (exact (search machine depth 30) (omega arith)) (exact (search machine depth 30) (omega arith))
    (exact (search machine depth 30) (omega arith)) (exact (search machine depth 30) (omega arith))
    (exact (search machine depth 30) (omega arith))
