-- `ElementSides::own_side` meets its contract: the byte of the side is that of the lowest element that has it.
use native.Mathlib.Omega.{arith}
use Rattle.scope.proofs.Triangles.{some_corners}
use Rattle.shape.proofs.SideTables.{own_side_is}
use Rattle.shape.proofs.sides.ElementSides.own_side.Goals as goal

pub overflow_add-i : goal.overflow_add-i
overflow_add-i c = omega (arith, some_corners c.args.self.now.mesh.numbers.now c.args.e)

pub returns : goal.returns
returns c =
    let p = c.requires in
    own_side_is _ c.args.self.now.mesh.sized p.there p.at_side c.args.self.now.filled c.corner_around-a.ensures.same
    c.corner_around-b.ensures.same
