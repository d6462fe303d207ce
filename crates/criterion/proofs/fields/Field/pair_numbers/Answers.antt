-- `pair_numbers` meets its contract: the pair's node and its soil are looked up, and the node's stresses.
use mathlib.Core.Path.{◌∙◌}
use native.Mathlib.Omega.{arith}
use Rattle.integer.proofs.Machine.{Is-read, Is-within}
use Rattle.criterion.proofs.StrengthLaws.{pair_within, node_read, soil_read, its_radius, pair_stated}
use Rattle.criterion.proofs.fields.Field.pair_numbers.Goals as goal

pub bounds-self-a : goal.bounds-self-a
bounds-self-a c = pair_within _ _ c.args.self.now.mesh.paired c.args.a c.requires

pub soil_numbers-soil-requires-clause-there : goal.soil_numbers-soil-requires-clause-there
soil_numbers-soil-requires-clause-there c =
    (soil_read _ _ c.args.self.now.mesh.paired c.args.a c.requires _ c.from.ensures).1

pub pair_numbers-requires-clause-node_there : goal.pair_numbers-requires-clause-node_there
pair_numbers-requires-clause-node_there c =
    let field = c.args.self.now in
    let node = node_read _ _ field.mesh.paired c.args.a c.requires _ c.from-2.ensures in
    omega (arith, node.1)

pub returns : goal.returns
returns c =
    let field = c.args.self.now in
    let polygon = field.polygon.now in
    let node = node_read _ _ field.mesh.paired c.args.a c.requires _ c.from-2.ensures in
    let soil = soil_read _ _ field.mesh.paired c.args.a c.requires _ c.from.ensures in
    let radius = Is-read (Is-within polygon.radius_fits) (omega arith) in
    let scale = Is-read (Is-within field.n_fits) (omega arith) in
    pair_stated _ c.args.a c.pair_numbers.ensures c.soil_numbers-soil.ensures node.0 soil.0
    (radius.same ∙ its_radius _ polygon field.its_polygon) scale.same
