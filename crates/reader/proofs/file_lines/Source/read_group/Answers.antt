-- `Source::read_group` meets its contract. The loop's invariant: the lines before the next one are read.
-- Assumes nothing.
use mathlib.Core.Path.{◌≡◌}
use native.Mathlib.Omega.{arith}
use lib.ListN.{length}
use Rattle.std.specs.Prelude.{Some, None}
use Rattle.std.proofs.lemmas.Grind.{common_steps}
use Rattle.reader.proofs.LinesRead.{group_first, group_room, group_next, group_stops, group_ends}
use Rattle.reader.proofs.file_lines.Source.read_group.Goals as goal

pub loop-init : goal.loop-init
loop-init c = group_first _ c.requires.room

pub next_line-requires-clause-room : goal.next_line-requires-clause-room
next_line-requires-clause-room c =
    let e : length c.loop.line ≡ c.args.g.columns = omega arith in
    rw e (group_room _ c.requires.room _ c.loop.invariant c.loop-test.true (omega arith))

pub returns-in_err-q-clause-stopped : goal.returns-in_err-q-clause-stopped
returns-in_err-q-clause-stopped c =
    let e : length c.loop.line ≡ c.args.g.columns = omega arith in
    let none : c.next_line.result ≡ None = grind (arith, common_steps) in
    let h = rw (e, none) at c.next_line.ensures in
    let s = group_stops _ c.requires.room _ c.loop.invariant c.loop-test.true (omega arith) h in
    grind (arith, common_steps)

pub loop-preserved : goal.loop-preserved
loop-preserved c =
    let e : length c.loop.line ≡ c.args.g.columns = omega arith in
    let some : c.next_line.result ≡ Some c.in_ok-q.q = grind (arith, common_steps) in
    let h = rw (e, some) at c.next_line.ensures in
    group_next _ c.requires.room _ c.loop.invariant c.loop-test.true (omega arith) h

pub returns-clause-read : goal.returns-clause-read
returns-clause-read c = group_ends _ c.requires.room _ c.loop.invariant (omega arith)
