-- `mark_sides` meets its contract. The invariant: the sides passed have the number of an element up to e.
use Rattle.shape.specs.ShapeContracts.{SideBytes}
use Rattle.shape.proofs.SideTables.{sides_so_far}
use Rattle.shape.proofs.sides.mark_sides.Given as goal

abbrev pub invariant-loop-i : goal.invariant-loop-i
invariant-loop-i l = SideBytes l.m.numbers.now (sides_so_far l.m.numbers.now l.e l.i) l.sides
