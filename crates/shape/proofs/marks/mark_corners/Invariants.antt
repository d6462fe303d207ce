-- `mark_corners` meets its contract. The invariant: the corners passed are marked with the element's soil.
use Rattle.shape.proofs.MarkTables.{Marks, marks_so_far}
use Rattle.shape.proofs.marks.mark_corners.Given as goal

abbrev pub invariant-loop-i : goal.invariant-loop-i
invariant-loop-i l = Marks (marks_so_far l.m.numbers.now l.e l.i) l.marks
