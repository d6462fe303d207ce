-- `bed_sums` meets its contract: sums of products of numbers that are bounded.
use mathlib.Core.Path.{◌≡◌}
use native.Mathlib.Omega.{arith}
use lib.IntN.{pos, ◌+ℤ◌, ◌-ℤ◌, ◌*ℤ◌}
use Rattle.integer.proofs.Machine.{machine, fits, exact, bounded}
use Rattle.bedded.specs.declared.planes.Bed.{Bed}
use Rattle.multipliers.specs.declared.sums.PlaneSums.{PlaneSums}
use Rattle.multipliers.specs.PlaneSumContracts.{PlaneSumsFit}
use Rattle.multipliers.proofs.PairLaws.{read}
use Rattle.multipliers.proofs.plane_sums.bed_sums.Goals as goal

-- the numbers by themselves: among what is known of the result `search` would find the result's own bounds
module _ (b : Bed) {a : PlaneSums} (h : PlaneSumsFit a) where
  sx_is : read (read (read b.p *ℤ read a.aa) -ℤ read (read b.q *ℤ read a.shear_ab))
      ≡ b.p *ℤ a.aa -ℤ b.q *ℤ a.shear_ab
  sx_is = exact (search machine depth 30) (omega arith)

  sy_is : read (read (read b.p *ℤ read a.bb) +ℤ read (read b.q *ℤ read a.shear_ab))
      ≡ b.p *ℤ a.bb +ℤ b.q *ℤ a.shear_ab
  sy_is = exact (search machine depth 30) (omega arith)

  t_is : read (read (read b.p *ℤ read (pos 2 *ℤ read a.ab)) +ℤ read (read b.q *ℤ read a.shear_squares))
      ≡ b.p *ℤ (pos 2 *ℤ a.ab) +ℤ b.q *ℤ a.shear_squares
  t_is = exact (search machine depth 30) (omega arith)

  right_is : read (read b.q *ℤ read (read (read (read (read b.radius *ℤ read b.radius) *ℤ read b.along) *ℤ read a.whole)
      +ℤ read (read b.excess *ℤ read a.aa)))
      ≡ b.q *ℤ (b.radius *ℤ b.radius *ℤ b.along *ℤ a.whole +ℤ b.excess *ℤ a.aa)
  right_is = exact (search machine depth 30) (omega arith)

pub overflow_sub-result : goal.overflow_sub-result
overflow_sub-result c =
    let bed = c.args.bed.now in
    let sums = c.requires in
    fits (search machine depth 30) (omega arith)

pub overflow_mul-result-3 : goal.overflow_mul-result-3
overflow_mul-result-3 c =
    let bed = c.args.bed.now in
    let sums = c.requires in
    fits (search machine depth 30) (omega arith)

pub overflow_mul-result-4 : goal.overflow_mul-result-4
overflow_mul-result-4 c =
    let bed = c.args.bed.now in
    let sums = c.requires in
    fits (search machine depth 30) (omega arith)

pub overflow_add-result : goal.overflow_add-result
overflow_add-result c =
    let bed = c.args.bed.now in
    let sums = c.requires in
    fits (search machine depth 30) (omega arith)

pub overflow_mul-result-6 : goal.overflow_mul-result-6
overflow_mul-result-6 c =
    let bed = c.args.bed.now in
    let sums = c.requires in
    fits (search machine depth 30) (omega arith)

pub overflow_mul-result-7 : goal.overflow_mul-result-7
overflow_mul-result-7 c =
    let bed = c.args.bed.now in
    let sums = c.requires in
    fits (search machine depth 30) (omega arith)

pub overflow_add-result-2 : goal.overflow_add-result-2
overflow_add-result-2 c =
    let bed = c.args.bed.now in
    let sums = c.requires in
    fits (search machine depth 30) (omega arith)

pub overflow_mul-result-8 : goal.overflow_mul-result-8
overflow_mul-result-8 c =
    let bed = c.args.bed.now in
    let sums = c.requires in
    fits (search machine depth 30) (omega arith)

pub overflow_mul-result-9 : goal.overflow_mul-result-9
overflow_mul-result-9 c =
    let bed = c.args.bed.now in
    let sums = c.requires in
    fits (search machine depth 30) (omega arith)

pub overflow_mul-result-10 : goal.overflow_mul-result-10
overflow_mul-result-10 c =
    let bed = c.args.bed.now in
    let sums = c.requires in
    fits (search machine depth 30) (omega arith)

pub overflow_mul-result-11 : goal.overflow_mul-result-11
overflow_mul-result-11 c =
    let bed = c.args.bed.now in
    let sums = c.requires in
    fits (search machine depth 30) (omega arith)

pub overflow_add-result-3 : goal.overflow_add-result-3
overflow_add-result-3 c =
    let bed = c.args.bed.now in
    let sums = c.requires in
    fits (search machine depth 30) (omega arith)

pub overflow_mul-result-12 : goal.overflow_mul-result-12
overflow_mul-result-12 c =
    let bed = c.args.bed.now in
    let sums = c.requires in
    fits (search machine depth 30) (omega arith)

pub invariant_of-result : goal.invariant_of-result
invariant_of-result c =
    let bed = c.args.bed.now in
    let sums = c.requires in
    record {
      sx_fits = bounded (search machine depth 30) (omega arith);
      sy_fits = bounded (search machine depth 30) (omega arith);
      t_fits = bounded (search machine depth 30) (omega arith);
      right_fits = bounded (search machine depth 30) (omega arith);
    }

pub returns : goal.returns
returns c =
    let bed = c.args.bed.now in
    record {
      sx_is = sx_is bed c.requires;
      sy_is = sy_is bed c.requires;
      t_is = t_is bed c.requires;
      right_is = right_is bed c.requires;
    }
