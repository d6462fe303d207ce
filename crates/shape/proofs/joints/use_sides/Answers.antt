-- `use_sides` meets its contract: both sides of the jump, one after the other.
use Rattle.shape.proofs.JointTables.{use_more}
use Rattle.shape.proofs.joints.use_sides.Goals as goal

pub returns : goal.returns
returns c =
    use_more _ c.args.m.now.sized _ c.requires.used c.jump-jump.ensures c.take_side.ensures
    c.take_side-2.ensures
