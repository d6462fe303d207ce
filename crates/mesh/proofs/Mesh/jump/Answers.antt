-- `jump` meets its contract: its nodes are the four numbers of one line, where the jumps begin.
use native.Mathlib.Omega.{arith}
use Rattle.mesh.proofs.Places.{jump_there, jump_read}
use Rattle.mesh.proofs.Mesh.jump.Goals as goal

pub thing-requires-clause-counted : goal.thing-requires-clause-counted
thing-requires-clause-counted c =
    (jump_there c.args.self.now.sized c.requires (omega arith) c.jumps_from-first.ensures).1

pub thing-requires-2-clause-counted : goal.thing-requires-2-clause-counted
thing-requires-2-clause-counted c =
    (jump_there c.args.self.now.sized c.requires (omega arith) c.jumps_from-first.ensures).1

pub thing-requires-3-clause-counted : goal.thing-requires-3-clause-counted
thing-requires-3-clause-counted c =
    (jump_there c.args.self.now.sized c.requires (omega arith) c.jumps_from-first.ensures).1

pub thing-requires-4-clause-counted : goal.thing-requires-4-clause-counted
thing-requires-4-clause-counted c =
    (jump_there c.args.self.now.sized c.requires (omega arith) c.jumps_from-first.ensures).1

pub returns : goal.returns
returns c =
    let k = c.args.self.now.sized in
    let first = c.jumps_from-first.ensures in record {
      from = jump_read k c.requires (omega arith) first c.thing.ensures;
      to = jump_read k c.requires (omega arith) first c.thing-2.ensures;
      facing_from = jump_read k c.requires (omega arith) first c.thing-3.ensures;
      facing_to = jump_read k c.requires (omega arith) first c.thing-4.ensures;
    }
