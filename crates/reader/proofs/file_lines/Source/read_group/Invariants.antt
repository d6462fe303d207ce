-- `Source::read_group` meets its contract. The loop's invariant: the lines before the next one are read.
-- Assumes nothing.
use Rattle.reader.proofs.LinesRead.{InGroup}
use Rattle.reader.proofs.file_lines.Source.read_group.Given as goal

abbrev pub invariant-loop : goal.invariant-loop
invariant-loop l = InGroup l.self.bytes.now l.fn.g l.initial.q l.initial.out l.q l.out l.counter
