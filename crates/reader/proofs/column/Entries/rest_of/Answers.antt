-- `Entries::rest_of` meets its contract. The loop's invariant: the state is that after the bytes before this
-- one.
use mathlib.Core.Path.{◌≡◌}
use Prim.Native.Nat.{◌+◌, ◌<◌}
use native.Mathlib.Omega.{arith}
use Rattle.reader.specs.File.{file_width}
use Rattle.std.proofs.lemmas.List.Edits.{length-between, get_or-between}
use Rattle.reader.proofs.OnePass.{part_phase, part_value, part_next, part_last}
use Rattle.reader.proofs.column.Entries.rest_of.Goals as goal

pub step-kept-requires : goal.step-kept-requires
step-kept-requires c = record { phase = part_phase c.loop-b.invariant; value = part_value c.loop-b.invariant }

pub loop-b-preserved : goal.loop-b-preserved
loop-b-preserved c =
    let bs = c.args.text.now in
    let n = c.args.from in
    let i = c.loop-b.b-index in
    let l : n + i < file_width = omega (arith, length-between bs n) in
    let e : n + (i + 1) ≡ n + i + 1 = omega arith in
    rw e (part_next c.loop-b.invariant l (omega arith) (get_or-between bs n _ i 0 (omega arith)) c.step-kept.ensures)

pub said-requires : goal.said-requires
said-requires c = part_value c.loop-b.invariant

pub returns : goal.returns
returns c = part_last c.loop-b.invariant (omega (arith, length-between c.args.text.now c.args.from)) c.said.ensures
