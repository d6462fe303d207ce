-- `soil_place` meets its contract: the last column of the element's line.
use mathlib.Core.Path.{refl}
use Rattle.mesh.proofs.Places.{soil_place_is}
use Rattle.mesh.proofs.sizes.Sizes.soil_place.Goals as goal

pub returns : goal.returns
returns c m k = soil_place_is c.args.e c.elements_from.ensures refl m k
