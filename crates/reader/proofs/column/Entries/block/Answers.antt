-- `Entries::block` meets its contract. The loop's invariant: the state is that after the bytes before this one, and
-- the flag says that they are the usual ones.
use mathlib.Core.Path.{◌≡◌, refl}
use Prim.Native.Nat.{◌+◌}
use native.Mathlib.Omega.{arith}
use borrow.Author.Count.{below_more}
use borrow.Author.Tests.{eqb-true}
use Rattle.lines.proofs.LineLaws.{both_true}
use Rattle.reader.proofs.OnePass.{part_phase, part_value, part_next}
use Rattle.reader.proofs.column.Entries.block.Goals as goal

pub step-kept-requires : goal.step-kept-requires
step-kept-requires c =
    let h = c.loop-i.invariant.state in
    record { phase = part_phase h; value = part_value h }

pub loop-i-preserved : goal.loop-i-preserved
loop-i-preserved c =
    let h = c.loop-i.invariant in
    let n = c.args.from in
    let i = c.loop-i.i in
    let e : n + (i + 1) ≡ n + i + 1 = omega arith in
    record {
      state = rw e (part_next h.state (omega arith) (omega arith) refl c.step-kept.ensures);
      same = λ t. let s = both_true _ _ t in below_more _ _ (h.same s.0) (eqb-true _ _ s.1);
    }
