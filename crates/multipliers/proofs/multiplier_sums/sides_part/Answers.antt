-- `sides_part` meets its contract: the pair's rows follow the equality rows and those of the pairs before it.
use mathlib.Core.Path.{◌∙◌}
use native.Mathlib.Omega.{arith}
use Rattle.integer.proofs.Machine.{machine, bounded, Is-read, Is-within}
use Rattle.criterion.proofs.StrengthLaws.{pair_within, soil_read, its_radius, its_sides, sides_counted}
use Rattle.multipliers.proofs.PairLaws.{pair_length, pair_weight, pair_as_many, pair_few, pair_weighted, pair_part_of}
use Rattle.multipliers.proofs.multiplier_sums.sides_part.Goals as goal

pub side_sums-over_sides-requires : goal.side_sums-over_sides-requires
side_sums-over_sides-requires c =
    let rows = c.args.rows.now in
    let sides = its_sides _ rows.polygon.now rows.its_polygon c.sides.ensures in
    let counts = rows.mesh.mesh.sized.facts.counts in
    let weights = c.of_pair.ensures in
    record {
      as_many = pair_as_many c.requires.there rows.of_each_row weights counts sides;
      few = pair_few c.requires.there rows.of_each_row weights counts sides;
      multipliers = pair_weighted c.requires.there rows.of_each_row weights counts sides;
    }

pub offset_bounds-rows-a : goal.offset_bounds-rows-a
offset_bounds-rows-a c = record { fits = omega (arith, c.args.rows.now.mesh.few, c.requires.there) }

pub bounds-rows-a : goal.bounds-rows-a
bounds-rows-a c = pair_within _ _ c.args.rows.now.mesh.paired c.args.a c.requires.there

pub soil_numbers-numbers-requires : goal.soil_numbers-numbers-requires
soil_numbers-numbers-requires c =
    let radius = c.args.rows.now.polygon.now.radius_fits in
    record {
      there = (soil_read _ _ c.args.rows.now.mesh.paired c.args.a c.requires.there _ c.from-soil.ensures).1;
      radius_fits = bounded (search machine depth 30) (omega arith);
    }

pub returns : goal.returns
returns c =
    let rows = c.args.rows.now in
    let sides = its_sides _ rows.polygon.now rows.its_polygon c.sides.ensures in
    let counts = rows.mesh.mesh.sized.facts.counts in
    let weights = c.of_pair.ensures in
    let soil = soil_read _ _ rows.mesh.paired c.args.a c.requires.there _ c.from-soil.ensures in
    let radius = (Is-read (Is-within rows.polygon.now.radius_fits) (omega arith)).same in
    pair_part_of _ _ c.args.a c.requires.there (record { listed = counts.sides_listed }) c.requires.by_sides _
    (pair_length c.requires.there rows.of_each_row weights) (pair_weight c.requires.there rows.of_each_row weights)
    c.side_sums-over_sides.ensures (sides_counted counts sides) sides c.soil_numbers-numbers.ensures soil.0
    (radius ∙ its_radius _ rows.polygon.now rows.its_polygon) c.pair_sums.ensures
