-- `Entries::read_line` meets its contract. The loop's invariant: the columns before this one are read.
use lib.ListN.{length}
use Rattle.reader.proofs.InLine.{InLine}
use Rattle.reader.proofs.LinePut.{PutSo}
use Rattle.reader.proofs.column.Entries.read_line.Given as goal

abbrev pub invariant-loop-i : goal.invariant-loop-i
invariant-loop-i l =
    record {
      columns : InLine l.bytes (length l.initial.line) l.line l.i;
      put : PutSo l.bytes l.initial.line l.line l.i;
    }
