-- `Source::read_all` meets its contract. The loop's invariant: the groups before this one are read.
use native.Mathlib.Omega.{arith}
use Rattle.std.proofs.lemmas.Grind.{common_steps}
use Rattle.reader.proofs.LinesRead.{groups_first, groups_room, groups_next, groups_stop}
use Rattle.reader.proofs.file_lines.Source.read_all.Goals as goal

pub loop-g-init : goal.loop-g-init
loop-g-init c = groups_first _ c.requires

pub read_group-requires-clause-room : goal.read_group-requires-clause-room
read_group-requires-clause-room c = groups_room _ c.requires _ c.loop-g.invariant (omega arith) (omega arith)

pub returns-in_err-q-clause-stopped : goal.returns-in_err-q-clause-stopped
returns-in_err-q-clause-stopped c =
    let s = groups_stop _ c.requires _ c.loop-g.invariant (omega arith) c.in_err-q.ensures.stopped in
    grind (arith, common_steps)

pub loop-g-preserved : goal.loop-g-preserved
loop-g-preserved c = groups_next _ c.requires _ c.loop-g.invariant (omega arith) c.in_ok-q.ensures.read
