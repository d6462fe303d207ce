-- `Entries::block` meets its contract. The loop's invariant: the state is that after the bytes before this one, and
-- the flag says that they are the usual ones.
use mathlib.Core.Path.{◌≡◌}
use mathlib.Core.Bool.{true}
use Prim.Native.Nat.{ℕ, ◌+◌, ◌<◌}
use lib.ListN.{get_or}
use Rattle.reader.specs.ColumnState.{Partway}
use Rattle.reader.proofs.column.Entries.block.Given as goal

abbrev pub invariant-loop-i : goal.invariant-loop-i
invariant-loop-i l = record {
  state : Partway l.text (l.from + l.i) l.kept;
  same : l.same ≡ true → (k : ℕ) → k < l.i → get_or l.text (l.from + k) 0 ≡ get_or l.usual k 0;
}
