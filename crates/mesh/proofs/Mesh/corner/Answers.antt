-- `corner` meets its contract: the number stands where the elements begin, one line to an element.
use native.Mathlib.Omega.{arith}
use Rattle.mesh.proofs.Places.{element_there, corner_read}
use Rattle.mesh.proofs.Mesh.corner.Goals as goal

pub thing-requires-clause-counted : goal.thing-requires-clause-counted
thing-requires-clause-counted c =
    (element_there c.args.self.now.sized c.requires.there (omega arith) c.elements_from.ensures).1

pub returns : goal.returns
returns c = corner_read c.args.self.now.sized c.requires.there c.requires.at_corner c.elements_from.ensures
    c.thing.ensures
