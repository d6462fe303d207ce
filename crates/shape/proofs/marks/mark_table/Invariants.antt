-- `mark_table` meets its contract. The invariant: the elements passed have marked their corners.
use Rattle.shape.specs.ShapeContracts.{MarkTable}
use Rattle.shape.proofs.marks.mark_table.Given as goal

abbrev pub invariant-loop-e : goal.invariant-loop-e
invariant-loop-e l = MarkTable l.m.numbers.now l.e l.marks
