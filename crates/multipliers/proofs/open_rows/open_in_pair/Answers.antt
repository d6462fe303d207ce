-- `open_in_pair` meets its contract: the open rows of the pair's sides, or of its planes.
use mathlib.Core.Path.{sym}
use Rattle.criterion.proofs.StrengthLaws.{its_sides}
use Rattle.multipliers.proofs.OpenLaws.{sides_opened, state_as}
use Rattle.multipliers.proofs.open_rows.open_in_pair.Goals as goal

pub pair_numbers-requires : goal.pair_numbers-requires
pair_numbers-requires c = rw c.requires.same_mesh c.requires.there

pub open_by_planes-requires : goal.open_by_planes-requires
open_by_planes-requires c =
    record { same_mesh = c.requires.same_mesh; there = c.requires.there; bedded = sym c.in-ByDirection.ensures }

pub returns-in-AsBefore : goal.returns-in-AsBefore
returns-in-AsBefore c =
    let rows = c.args.rows.now in
    let counts = rows.mesh.mesh.sized.facts.counts in
    let sides = its_sides _ rows.polygon.now rows.its_polygon c.sides.ensures in
    let state = state_as c.requires.same_mesh c.pair_numbers.ensures in
    sides_opened _ _ _ _ _ c.args.a c.requires.there counts rows.of_each_row c.of_pair.ensures _ _ state sides
    (sym c.in-AsBefore.ensures) c.pair_open.ensures
