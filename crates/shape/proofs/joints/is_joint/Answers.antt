-- `is_joint` meets its contract: two free sides, and the same coordinates at each end.
use native.Mathlib.Omega.{arith}
use Rattle.shape.proofs.JointTables.{joint_is}
use Rattle.shape.proofs.joints.is_joint.Goals as goal

pub returns-then-same_point : goal.returns-then-same_point
returns-then-same_point c =
    let is = joint_is _ c.args.m.now.sized _ c.requires.used c.jump-jump.ensures in
    grind (arith, is)

pub returns-else-same_point : goal.returns-else-same_point
returns-else-same_point c =
    let is = joint_is _ c.args.m.now.sized _ c.requires.used c.jump-jump.ensures in
    grind (arith, is)
