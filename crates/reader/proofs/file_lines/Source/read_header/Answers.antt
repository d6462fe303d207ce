-- `Source::read_header` meets its contract: the header is the line at the start.
use lib.Seq.{length-take-le}
use Rattle.reader.proofs.LinesRead.{is_start}
use Rattle.reader.proofs.file_lines.Source.read_header.Goals as goal

pub next_line-requires-clause-room : goal.next_line-requires-clause-room
next_line-requires-clause-room c =
    let few = c.requires.few in
    rw (is_start c.default.ensures, length-take-le) c.requires.room

pub returns : goal.returns
returns c =
    let few = c.requires.few in
    rw (is_start c.default.ensures, length-take-le) at c.next_line.ensures
