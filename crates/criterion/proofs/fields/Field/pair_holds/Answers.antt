-- `pair_holds` meets its contract: each row by its slack at the pair's numbers, or at its node's stresses.
use mathlib.Core.Path.{sym}
use Rattle.criterion.proofs.StrengthLaws.{its_sides, pair_holds_is}
use Rattle.criterion.proofs.fields.Field.pair_holds.Goals as goal

pub returns-in-AsBefore : goal.returns-in-AsBefore
returns-in-AsBefore c =
    let field = c.args.self.now in
    let sides = its_sides _ field.polygon.now field.its_polygon c.sides.ensures in
    pair_holds_is _ _ _ _ field.mesh.mesh.sized.facts.counts sides c.requires c.pair_numbers.ensures
    (sym c.in-AsBefore.ensures) c.sides_hold.ensures

pub pair_planes_hold-requires : goal.pair_planes_hold-requires
pair_planes_hold-requires c = record { there = c.requires; bedded = sym c.in-ByDirection.ensures }

pub returns-in-ByDirection : goal.returns-in-ByDirection
returns-in-ByDirection c = c.pair_planes_hold.ensures
