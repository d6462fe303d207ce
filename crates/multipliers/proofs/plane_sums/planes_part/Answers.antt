-- `planes_part` meets its contract: the pair's rows follow the equality rows and those of the pairs before it.
use mathlib.Core.Path.{sym, ◌∙◌}
use native.Mathlib.Omega.{arith}
use Rattle.multipliers.proofs.PairLaws.{pair_length, pair_weight}
use Rattle.multipliers.proofs.PlaneSumLaws.{planes_room, planes_weighted, planes_few, planes_even, planes_part_of}
use Rattle.multipliers.proofs.plane_sums.planes_part.Goals as goal

pub plane_sums-sums-requires : goal.plane_sums-sums-requires
plane_sums-sums-requires c =
    let rows = c.args.rows.now in
    let weights = c.of_pair.ensures in
    let long = pair_length c.requires.there rows.of_each_row weights in
    record {
      normals = c.pair_planes-planes.result.normals;
      as_many = c.pair_planes-planes.ensures.size ∙ sym long;
      few = planes_few _ rows.mesh.mesh.sized.facts.counts long;
      multipliers_fit = planes_weighted c.requires.there rows.of_each_row weights;
    }

pub bed_sums-requires : goal.bed_sums-requires
bed_sums-requires c =
    let rows = c.args.rows.now in
    let counts = rows.mesh.mesh.sized.facts.counts in
    let long = pair_length c.requires.there rows.of_each_row c.of_pair.ensures in
    planes_room _ _ _ c.plane_sums-sums.ensures
    (omega (arith, planes_few _ counts long, planes_even _ counts long, long))

pub returns : goal.returns
returns c =
    let rows = c.args.rows.now in
    let counts = rows.mesh.mesh.sized.facts.counts in
    let weights = c.of_pair.ensures in
    let long = pair_length c.requires.there rows.of_each_row weights in
    planes_part_of _ _ c.args.a c.requires.there counts c.requires.bedded _ c.pair_planes-planes.ensures _ _
    (planes_even _ counts long) (pair_weight c.requires.there rows.of_each_row weights) c.plane_sums-sums.ensures
    c.bed_sums.ensures
