-- `side_table` meets its contract. The invariant: the table has the sides of the elements passed.
use Rattle.shape.specs.ShapeContracts.{SideTable}
use Rattle.shape.proofs.sides.side_table.Given as goal

abbrev pub invariant-loop-e : goal.invariant-loop-e
invariant-loop-e l = SideTable l.m.numbers.now l.e l.sides
