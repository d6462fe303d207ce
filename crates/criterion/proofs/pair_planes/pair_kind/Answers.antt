-- `pair_kind` meets its contract: the pair's soil is looked up, and its kind.
use mathlib.Core.Path.{◌∙◌, ap}
use native.Mathlib.Omega.{arith}
use Rattle.scope.specs.Mesh.{by_direction}
use Rattle.criterion.proofs.StrengthLaws.{pair_within, soil_read}
use Rattle.criterion.proofs.pair_planes.pair_kind.Goals as goal

pub offset_bounds-mesh-a : goal.offset_bounds-mesh-a
offset_bounds-mesh-a c = record { fits = omega (arith, c.args.mesh.now.few, c.requires) }

pub bounds-mesh-a : goal.bounds-mesh-a
bounds-mesh-a c = pair_within _ _ c.args.mesh.now.paired c.args.a c.requires

pub soil_kind-requires : goal.soil_kind-requires
soil_kind-requires c = (soil_read _ _ c.args.mesh.now.paired c.args.a c.requires _ c.from.ensures).1

pub returns : goal.returns
returns c =
    let soil = soil_read _ _ c.args.mesh.now.paired c.args.a c.requires _ c.from.ensures in
    c.soil_kind.ensures ∙ ap (by_direction c.args.mesh.now.mesh.numbers.now) soil.0
