-- `pair_planes_hold` meets its contract: each row by its slack at the node's stresses.
use Rattle.criterion.proofs.StrengthLaws.{planes_hold_is}
use Rattle.criterion.proofs.fields.Field.pair_planes_hold.Goals as goal

pub returns : goal.returns
returns c =
    planes_hold_is _ _ _ _ c.args.self.now.mesh.mesh.sized.facts.counts _ c.requires.there c.planes_at.ensures
    c.requires.bedded c.hold.ensures
