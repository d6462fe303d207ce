-- `terms` meets its contract: the columns of the four nodes, and the span's numbers with their opposites.
use mathlib.Core.Path.{◌∙◌}
use native.Mathlib.Omega.{arith}
use Rattle.integer.proofs.Machine.{machine, fits, bounded}
use Rattle.equality.specs.EqualityContracts.{balance_entries}
use Rattle.equality.proofs.EqualityLaws.{read, opposite}
use Rattle.equality.proofs.elements.Element.terms.Goals as goal

pub new-requires-7 : goal.new-requires-7
new-requires-7 c =
    bounded (search machine depth 30) (omega arith)

pub overflow_sub-g-4 : goal.overflow_sub-g-4
overflow_sub-g-4 c =
    fits (search machine depth 30) (omega arith)

pub new-requires-8 : goal.new-requires-8
new-requires-8 c =
    bounded (search machine depth 30) (omega arith)

pub returns : goal.returns
unfolding balance_entries
returns c =
    let v = c.args.self.now.corners_are in
    let g = c.args.g in
    let normal = c.number-normal.ensures.number in
    rw (
      c.new.ensures.column,
      c.new-2.ensures.column,
      c.new-3.ensures.column,
      c.new-4.ensures.column,
      c.new-5.ensures.column,
      c.new-6.ensures.column,
      c.new-7.ensures.column,
      c.new-8.ensures.column,
      c.new.ensures.coefficient,
      c.new-2.ensures.coefficient,
      c.new-3.ensures.coefficient,
      c.new-4.ensures.coefficient,
      c.new-5.ensures.coefficient ∙ opposite g.rise_fits (omega arith),
      c.new-6.ensures.coefficient ∙ opposite g.run_fits (omega arith),
      c.new-7.ensures.coefficient ∙ opposite g.rise_next_fits (omega arith),
      c.new-8.ensures.coefficient ∙ opposite g.run_next_fits (omega arith),
      read g.rise_fits (omega arith),
      read g.run_fits (omega arith),
      read g.rise_next_fits (omega arith),
      read g.run_next_fits (omega arith),
      normal,
      v.a.same,
      v.b.same,
      v.c.same,
      v.d.same,
    )
