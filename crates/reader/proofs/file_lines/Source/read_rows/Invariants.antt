-- `Source::read_rows` meets its contract. The loop's invariant: the lines before the next one are read.
-- Assumes nothing.
use Rattle.reader.proofs.TableRead.{InRows}
use Rattle.reader.proofs.file_lines.Source.read_rows.Given as goal

abbrev pub invariant-loop : goal.invariant-loop
invariant-loop l = InRows l.self.bytes.now l.initial.out l.out l.q l.counter
