-- `plane_slacks` meets its contract: each operation fits, by the bounds of the numbers and of the normal.
use mathlib.Core.Path.{refl}
use native.Mathlib.Omega.{arith}
use Rattle.integer.proofs.Machine.{machine, fits, is}
use Rattle.bedded.specs.PlaneContracts.{reserve_of, shear_of}
use Rattle.bedded.proofs.plane_rows.plane_slacks.Goals as goal

pub overflow_mul-reserve : goal.overflow_mul-reserve
overflow_mul-reserve c =
    let numbers = c.args.numbers.now in
    let a = c.requires.a_fits in
    let b = c.requires.b_fits in
    fits (search machine depth 30) (omega arith)

pub overflow_add-reserve : goal.overflow_add-reserve
overflow_add-reserve c =
    let numbers = c.args.numbers.now in
    let a = c.requires.a_fits in
    let b = c.requires.b_fits in
    fits (search machine depth 30) (omega arith)

pub overflow_mul-reserve-2 : goal.overflow_mul-reserve-2
overflow_mul-reserve-2 c =
    let numbers = c.args.numbers.now in
    let a = c.requires.a_fits in
    let b = c.requires.b_fits in
    fits (search machine depth 30) (omega arith)

pub overflow_add-reserve-2 : goal.overflow_add-reserve-2
overflow_add-reserve-2 c =
    let numbers = c.args.numbers.now in
    let a = c.requires.a_fits in
    let b = c.requires.b_fits in
    fits (search machine depth 30) (omega arith)

pub overflow_mul-reserve-3 : goal.overflow_mul-reserve-3
overflow_mul-reserve-3 c =
    let numbers = c.args.numbers.now in
    let a = c.requires.a_fits in
    let b = c.requires.b_fits in
    fits (search machine depth 30) (omega arith)

pub overflow_add-reserve-3 : goal.overflow_add-reserve-3
overflow_add-reserve-3 c =
    let numbers = c.args.numbers.now in
    let a = c.requires.a_fits in
    let b = c.requires.b_fits in
    fits (search machine depth 30) (omega arith)

pub overflow_mul-shear : goal.overflow_mul-shear
overflow_mul-shear c =
    let numbers = c.args.numbers.now in
    let a = c.requires.a_fits in
    let b = c.requires.b_fits in
    fits (search machine depth 30) (omega arith)

pub overflow_sub-shear : goal.overflow_sub-shear
overflow_sub-shear c =
    let numbers = c.args.numbers.now in
    let a = c.requires.a_fits in
    let b = c.requires.b_fits in
    fits (search machine depth 30) (omega arith)

pub overflow_mul-shear-2 : goal.overflow_mul-shear-2
overflow_mul-shear-2 c =
    let numbers = c.args.numbers.now in
    let a = c.requires.a_fits in
    let b = c.requires.b_fits in
    fits (search machine depth 30) (omega arith)

pub overflow_add-shear : goal.overflow_add-shear
overflow_add-shear c =
    let numbers = c.args.numbers.now in
    let a = c.requires.a_fits in
    let b = c.requires.b_fits in
    fits (search machine depth 30) (omega arith)

pub overflow_sub-result : goal.overflow_sub-result
overflow_sub-result c =
    let numbers = c.args.numbers.now in
    let a = c.requires.a_fits in
    let b = c.requires.b_fits in
    fits (search machine depth 30) (omega arith)

pub overflow_add-result : goal.overflow_add-result
overflow_add-result c =
    let numbers = c.args.numbers.now in
    let a = c.requires.a_fits in
    let b = c.requires.b_fits in
    fits (search machine depth 30) (omega arith)

pub returns : goal.returns
unfolding reserve_of shear_of
returns c =
    let numbers = c.args.numbers.now in
    let a = c.requires.a_fits in
    let b = c.requires.b_fits in
    record {
      plus = is (search machine depth 30) (omega arith) refl;
      minus = is (search machine depth 30) (omega arith) refl;
    }
