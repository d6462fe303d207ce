-- `edge` meets its contract: its nodes and numbers are those of one line, where the edges begin.
use native.Mathlib.Omega.{arith}
use Rattle.integer.proofs.Machine.{Is-Within}
use Rattle.mesh.proofs.Places.{edge_there, from_read, to_read, edge_read}
use Rattle.mesh.proofs.Mesh.edge.Goals as goal

pub thing-requires-clause-counted : goal.thing-requires-clause-counted
thing-requires-clause-counted c =
    (edge_there c.args.self.now.sized c.requires (omega arith) c.edges_from-first.ensures).1

pub thing-requires-2-clause-counted : goal.thing-requires-2-clause-counted
thing-requires-2-clause-counted c =
    (edge_there c.args.self.now.sized c.requires (omega arith) c.edges_from-first.ensures).1

pub invariant_of-result : goal.invariant_of-result
invariant_of-result c =
    let k = c.args.self.now.sized in
    let first = c.edges_from-first.ensures in record {
      fixed_fits = Is-Within (edge_read k c.requires (omega arith) (omega arith) first c.entry.ensures) (omega arith);
      dead_normal_fits = Is-Within (edge_read k c.requires (omega arith) (omega arith) first c.entry-2.ensures)
          (omega arith);
      dead_shear_fits = Is-Within (edge_read k c.requires (omega arith) (omega arith) first c.entry-3.ensures)
          (omega arith);
      live_normal_fits = Is-Within (edge_read k c.requires (omega arith) (omega arith) first c.entry-4.ensures)
          (omega arith);
      live_shear_fits = Is-Within (edge_read k c.requires (omega arith) (omega arith) first c.entry-5.ensures)
          (omega arith);
    }

pub returns : goal.returns
returns c =
    let k = c.args.self.now.sized in
    let first = c.edges_from-first.ensures in
    let from = from_read k c.args.g first c.thing.ensures in
    let to = to_read k c.args.g first c.thing-2.ensures in
    let f = k.facts.edge c.args.g c.requires in record {
      from = from;
      from_there = omega (arith, from, f.from_there);
      to = to;
      to_there = omega (arith, to, f.to_there);
      fixed = (edge_read k c.requires (omega arith) (omega arith) first c.entry.ensures).same;
      dead_normal = (edge_read k c.requires (omega arith) (omega arith) first c.entry-2.ensures).same;
      dead_shear = (edge_read k c.requires (omega arith) (omega arith) first c.entry-3.ensures).same;
      live_normal = (edge_read k c.requires (omega arith) (omega arith) first c.entry-4.ensures).same;
      live_shear = (edge_read k c.requires (omega arith) (omega arith) first c.entry-5.ensures).same;
    }
