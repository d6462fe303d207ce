-- `take_sides` meets its contract. The invariant: the edges passed have taken their sides.
use Rattle.shape.specs.ShapeContracts.{EdgeTable}
use Rattle.shape.proofs.edges.take_sides.Given as goal

abbrev pub invariant-loop-g : goal.invariant-loop-g
invariant-loop-g l = EdgeTable l.m.numbers.now l.g l.sides
