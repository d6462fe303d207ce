-- `report_line` meets its contract: the buffer has room for the line, and no more.
use mathlib.Core.Path.{refl}
use Rattle.desk.proofs.Line.{whole_line}
use Rattle.desk.proofs.report_line.Goals as goal

pub returns : goal.returns
returns c = whole_line refl c.pechuvo_check.ensures
