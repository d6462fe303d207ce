-- `EdgeSides::outer_edge` meets its contract: two looks into the table, each with its answer.
use mathlib.Core.Path.{sym, ◌∙◌}
use borrow.Author.Tests.{eq-eqb, ne_eqb}
use Rattle.shape.proofs.SideTables.{outer_edge_is}
use Rattle.shape.proofs.edges.EdgeSides.outer_edge.Goals as goal

pub returns-then-self-from : goal.returns-then-self-from
returns-then-self-from c =
    let s = c.args.self.now in
    let edge = c.edge-from.ensures in
    sym
    (outer_edge_is _ s.mesh.sized c.requires s.taken edge.from edge.to ∙ rw (eq-eqb _ _ c.if-self-from.true))

pub returns-else-self-from : goal.returns-else-self-from
returns-else-self-from c =
    let s = c.args.self.now in
    let edge = c.edge-from.ensures in
    sym
    (outer_edge_is _ s.mesh.sized c.requires s.taken edge.from edge.to ∙ rw (ne_eqb _ _ c.if-self-from.false))
