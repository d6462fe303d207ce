-- `Source::read_all` meets its contract. The loop's invariant: the groups before this one are read.
use Rattle.reader.proofs.LinesRead.{InGroups}
use Rattle.reader.proofs.file_lines.Source.read_all.Given as goal

abbrev pub invariant-loop-g : goal.invariant-loop-g
invariant-loop-g l = InGroups l.self.bytes.now l.fn.groups.of l.initial.q l.initial.out l.q l.out l.g-index
