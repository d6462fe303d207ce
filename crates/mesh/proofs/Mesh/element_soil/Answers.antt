-- `element_soil` meets its contract: the soil is the last of the numbers of an element.
use native.Mathlib.Omega.{arith}
use Rattle.mesh.proofs.Places.{element_there, element_soil_read}
use Rattle.mesh.proofs.Mesh.element_soil.Goals as goal

pub thing-requires-clause-counted : goal.thing-requires-clause-counted
thing-requires-clause-counted c =
    (element_there c.args.self.now.sized c.requires (omega arith) c.elements_from.ensures).1

pub returns : goal.returns
returns c = element_soil_read c.args.self.now.sized c.args.e c.elements_from.ensures c.thing.ensures
