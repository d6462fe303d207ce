-- `run_refused` meets its contract: the report is written where the buffer has room for it, else nothing.
use Rattle.report.specs.Report.{usual_decimals}
use Rattle.run.proofs.RunLaws.{mesh_reported, no_report}
use Rattle.run.proofs.run_refused.Goals as goal

pub returns-then-reports-lt-LINE : goal.returns-then-reports-lt-LINE
returns-then-reports-lt-LINE c = λ m claims.
    rw c.answer_of.ensures (no_report _ _ m claims _ c.if-reports-lt-LINE.true)

pub returns : goal.returns
unfolding usual_decimals
returns c = λ m claims.
    rw c.answer_of-2.ensures
    (mesh_reported _ _ m claims _ c.if-reports-lt-LINE.false c.write_report.ensures c.write_report.auto.buffer)
