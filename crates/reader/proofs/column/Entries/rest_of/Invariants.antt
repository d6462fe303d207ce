-- `Entries::rest_of` meets its contract. The loop's invariant: the state is that after the first i bytes.
use Prim.Native.Nat.{◌+◌}
use Rattle.reader.specs.ColumnState.{Partway}
use Rattle.reader.proofs.column.Entries.rest_of.Given as goal

abbrev pub invariant-loop-b : goal.invariant-loop-b
invariant-loop-b l = Partway l.text (l.from + l.b-index) l.kept
