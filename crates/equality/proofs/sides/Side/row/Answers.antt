-- `row` meets its contract: its part of the traction, at the end that row i is at.
use native.Mathlib.Omega.{arith}
use Rattle.integer.proofs.Machine.{Is-read}
use Rattle.equality.proofs.EqualityLaws.{end_there, side_filled, side_place}
use Rattle.equality.proofs.sides.Side.row.Goals as goal

pub returns : goal.returns
returns c =
    let side = c.args.self.now in
    let m = side.mesh.now.numbers.now in
    let edge = side.edge_is in
    let v = c.end_of-v in
    side_filled m side.number v.result side.step_is edge
    (Is-read c.square.ensures (omega arith)).same c.part_of-part.result
    (rw v.ensures (end_there c.args.i edge.from_there edge.to_there)) c.expression_at.ensures c.of.ensures
    c.traction_row.ensures
    (rw (c.part_of-part.ensures, v.ensures, edge.from, edge.to)
    (side_place m side.number c.args.i side.there c.requires))
