-- `row` meets its contract: each number of the row is the definition's.
use native.Mathlib.Omega.{arith}
use Rattle.integer.proofs.Machine.{machine, fits, bounded, Is-read, Is-minus, Is-*ℤ}
use Rattle.equality.specs.EqualityContracts.{row_of, balance_entries}
use Rattle.equality.proofs.EqualityLaws.{balance_row_of, balance_below}
use Rattle.equality.proofs.elements.Element.row.Goals as goal

pub overflow_mul-result : goal.overflow_mul-result
overflow_mul-result c = fits (search machine depth 30) (omega arith)

pub overflow_mul-result-2 : goal.overflow_mul-result-2
overflow_mul-result-2 c = fits (search machine depth 30) (omega arith)

pub overflow_sub-result : goal.overflow_sub-result
overflow_sub-result c = fits (search machine depth 30) (omega arith)

pub invariant_of-result : goal.invariant_of-result
invariant_of-result c = record {
  live_fits = bounded (search machine depth 30) (omega arith);
  right_fits = bounded (search machine depth 30) (omega arith);
}

pub returns : goal.returns
unfolding row_of balance_entries
returns c =
    let element = c.args.self.now in
    let m = element.mesh.now in
    let along = c.along.ensures in
    let entries = c.terms.ensures in
    let area = Is-read c.twice_area-area.ensures (omega arith) in
    let live = Is-*ℤ area (Is-read c.of.ensures (omega arith)) in
    let dead = Is-*ℤ area (Is-read c.of-2.ensures (omega arith)) in
    record {
      is =
          balance_row_of m.numbers.now element.number element.span_is c.along.result c.args.axis along.rise
          along.rise_next along.run along.run_next element.soil_is element.there entries
          (Is-read live (omega arith)).same
          (Is-read (Is-minus (Is-read dead (omega arith))) (omega arith)).same;
      few = rw entries (omega arith);
      there =
          rw entries
          (balance_below m.numbers.now element.number m.sized.facts element.there c.along.result c.args.axis);
    }
