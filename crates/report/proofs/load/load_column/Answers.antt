-- Each arm is a case of the text, and so is a denominator that is not above 0.
use Rattle.report.specs.Report.{load_text}
use Rattle.report.proofs.LoadLaws.{no_load_column, load_column}
use Rattle.report.proofs.load.load_column.Goals as goal
use Rattle.report.proofs.load.load_column.Goals.{in_default-via-in-Some+else-den-gt0, in_default-via-in_default}

pub returns-in-Some : goal.returns-in-Some
returns-in-Some c = rw c.in-Some.is (search load_column)

pub returns-in_default : goal.returns-in_default
unfolding load_text
returns-in_default c = elim c.in_default.branch [
  | in_default-via-in-Some+else-den-gt0 w ↦ rw w.in-Some.is (search no_load_column)
  | in_default-via-in_default w ↦ rw w.in_default.is c.none_column.ensures
]
