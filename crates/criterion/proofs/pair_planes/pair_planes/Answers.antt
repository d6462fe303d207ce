-- `pair_planes` meets its contract: the pair's soil is looked up, and the corners of the mesh's polygon.
use mathlib.Core.Path.{◌∙◌}
use native.Mathlib.Omega.{arith}
use Rattle.integer.proofs.Machine.{Is-read, Is-within, limits}
use Rattle.scope.proofs.Pairs.{pair_there}
use Rattle.criterion.proofs.StrengthLaws.{pair_within, soil_read, sides_listed_lem}
use Rattle.criterion.proofs.PlaneLaws.{radius_as, corners_as, radius_near, normals, planes_of}
use Rattle.criterion.proofs.pair_planes.pair_planes.Goals as goal

pub circle_of-radius-requires : goal.circle_of-radius-requires
circle_of-radius-requires c = sides_listed_lem c.args.mesh.now.mesh.sized

pub offset_bounds-mesh-a : goal.offset_bounds-mesh-a
offset_bounds-mesh-a c = record { fits = omega (arith, c.args.mesh.now.few, c.requires.there) }

pub bounds-mesh-a : goal.bounds-mesh-a
bounds-mesh-a c = pair_within _ _ c.args.mesh.now.paired c.args.a c.requires.there

pub bed_of-requires : goal.bed_of-requires
bed_of-requires c =
    let mesh = c.args.mesh.now in
    let sized = mesh.mesh.sized in
    let soil = soil_read _ _ mesh.paired c.args.a c.requires.there _ c.from-soil.ensures in
    let facts = sized.facts.soil _ (pair_there mesh.mesh.numbers.now c.args.a c.requires.there).1 in
    let radius = radius_near sized.facts.counts facts c.requires.bedded
    (radius_as sized.sides_are c.circle_of-radius.ensures.radius) in
    record { there = soil.1; radius_fits = search limits }

pub invariant_of-result : goal.invariant_of-result
invariant_of-result c =
    let mesh = c.args.mesh.now in
    let sized = mesh.mesh.sized in
    let facts = sized.facts.soil _ (pair_there mesh.mesh.numbers.now c.args.a c.requires.there).1 in
    let corners = corners_as sized.sides_are c.circle_of-radius.ensures.corners in
    record { normals = normals sized.facts.counts facts c.requires.bedded corners }

pub returns : goal.returns
returns c =
    let mesh = c.args.mesh.now in
    let sized = mesh.mesh.sized in
    let soil = soil_read _ _ mesh.paired c.args.a c.requires.there _ c.from-soil.ensures in
    let facts = sized.facts.soil _ (pair_there mesh.mesh.numbers.now c.args.a c.requires.there).1 in
    let circle = radius_as sized.sides_are c.circle_of-radius.ensures.radius in
    let radius = Is-read (Is-within (radius_near sized.facts.counts facts c.requires.bedded circle)) (omega arith) in
    planes_of sized.facts.counts c.args.a _ (corners_as sized.sides_are c.circle_of-radius.ensures.corners) soil.0
    (radius.same ∙ circle) c.bed_of.ensures
