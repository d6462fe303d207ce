-- `same_point` meets its contract: two numbers are the same where their difference is 0.
use mathlib.Core.Path.{sym, ◌∙◌}
use native.Mathlib.Omega.{arith}
use borrow.Author.Tests.{eq-eqb, ne_eqb}
use Rattle.integer.proofs.Machine.{machine, decides}
use Rattle.shape.proofs.JointTables.{same_x, other_x}
use Rattle.shape.proofs.joints.same_point.Goals as goal

pub returns-then-run-eq0 : goal.returns-then-run-eq0
returns-then-run-eq0 c =
    let run = c.run.ensures in
    let rise = c.rise.ensures in
    decides (search machine depth 30) (omega arith)
    ∙ same_x _ _ _ (sym (eq-eqb _ _ c.if-run-eq0.true) ∙ decides (search machine depth 30) (omega arith))

pub returns-else-run-eq0 : goal.returns-else-run-eq0
returns-else-run-eq0 c =
    let run = c.run.ensures in
    let differs = ne_eqb _ _ c.if-run-eq0.false in
    differs ∙ other_x _ _ _ (sym differs ∙ decides (search machine depth 30) (omega arith))
