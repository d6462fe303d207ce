-- `Source::read_groups` meets its contract: the groups have room, and what is left over too.
use mathlib.Core.List.{[], append-nil}
use Rattle.reader.proofs.LinesRead.{listed_whole}
use Rattle.reader.proofs.file_lines.Source.read_groups.Goals as goal

pub returns-in-Ok : goal.returns-in-Ok
returns-in-Ok c = listed_whole c.in-Ok.ensures.read c.finish.ensures

pub returns-in-Err : goal.returns-in-Err
returns-in-Err c = rw append-nil at (c.in-Err.ensures.stopped [])
