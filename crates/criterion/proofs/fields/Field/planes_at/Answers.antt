-- `planes_at` meets its contract: the pair's planes, and the stresses of its node.
use Rattle.criterion.proofs.PlaneLaws.{stressed_planes}
use Rattle.criterion.proofs.fields.Field.planes_at.Goals as goal

pub returns : goal.returns
returns c =
    stressed_planes _ c.args.a _ _ _ c.pair_planes.ensures c.stresses_at.ensures c.stressed.ensures.numbers
    c.stressed.ensures.corners
