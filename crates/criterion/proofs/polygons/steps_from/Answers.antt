-- `steps_from` meets its contract: one side more in each turn.
use Rattle.criterion.proofs.SideLaws.{no_steps, one_step_more}
use Rattle.criterion.proofs.polygons.steps_from.Goals as goal

pub loop-k-init : goal.loop-k-init
loop-k-init c = rw c.new-steps.ensures (no_steps _)

pub loop-k-preserved : goal.loop-k-preserved
loop-k-preserved c = rw c.push.ensures.items (one_step_more _ _ _ c.loop-k.invariant c.step_of.ensures)
