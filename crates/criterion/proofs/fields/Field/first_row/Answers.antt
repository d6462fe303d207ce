-- `first_row` meets its contract: the first of the pair's sides, or of its planes, whose row fails.
use mathlib.Core.Path.{sym}
use Rattle.criterion.proofs.StrengthLaws.{its_sides, first_side_is, no_side_is, first_plane_is, no_plane_is}
use Rattle.criterion.proofs.fields.Field.first_row.Goals as goal

pub returns-in-AsBefore : goal.returns-in-AsBefore
returns-in-AsBefore c =
    let field = c.args.self.now in
    let counts = field.mesh.mesh.sized.facts.counts in
    let sides = its_sides _ field.polygon.now field.its_polygon c.sides.ensures in
    let by_sides = sym c.in-AsBefore.ensures in
    let state = c.pair_numbers.ensures in
    let first = c.first_side in
    record {
      found = first_side_is _ _ _ _ counts sides c.requires state by_sides first.result first.ensures.found;
      none = no_side_is _ _ _ _ counts sides c.requires state by_sides first.result first.ensures.none;
    }

pub planes_at-requires : goal.planes_at-requires
planes_at-requires c = record { there = c.requires; bedded = sym c.in-ByDirection.ensures }

pub returns-in-ByDirection : goal.returns-in-ByDirection
returns-in-ByDirection c =
    let counts = c.args.self.now.mesh.mesh.sized.facts.counts in
    let bedded = sym c.in-ByDirection.ensures in
    let state = c.planes_at.ensures in
    let first = c.first_plane in
    record {
      found = first_plane_is _ _ _ _ counts _ c.requires state bedded first.result first.ensures.found;
      none = no_plane_is _ _ _ _ counts _ c.requires state bedded first.result first.ensures.none;
    }
