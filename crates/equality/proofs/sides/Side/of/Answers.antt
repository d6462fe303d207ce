-- `of` meets its contract: the step goes from the edge's one node to its other.
use Rattle.scope.specs.Rows.{step_x, step_y}
use Rattle.equality.proofs.sides.Side.of.Goals as goal

pub invariant_of-result : goal.invariant_of-result
unfolding step_x step_y
invariant_of-result c =
    let edge = c.edge-edge.ensures in
    record {
      there = c.requires;
      edge_is = edge;
      step_is = rw (edge.from, edge.to) at c.between.ensures;
    }
