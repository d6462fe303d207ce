-- `take_sides` meets its contract. The invariant: the edges passed have taken their sides.
use mathlib.Core.Path.{◌∙◌, ap₂}
use native.Mathlib.Omega.{arith}
use Prim.Native.Nat.{ℕ, ◌+◌}
use Rattle.scope.specs.Mesh.{most_elements}
use Rattle.shape.specs.ShapeContracts.{put, is_untaken}
use Rattle.shape.proofs.SideTables.{no_edge_yet, take_more}
use Rattle.shape.proofs.edges.take_sides.Goals as goal

pub loop-g-init : goal.loop-g-init
loop-g-init c = no_edge_yet _ c.requires

pub loop-g-preserved : goal.loop-g-preserved
loop-g-preserved c =
    take_more _ c.args.m.now.sized (omega (arith, c.args.m.now.sized.edges_are)) c.loop-g.invariant
    (c.take_side.ensures
    ∙ ap₂ (λ (a b : ℕ). put is_untaken c.loop-g.sides a b (most_elements + c.loop-g.g))
    c.edge-edge.ensures.from c.edge-edge.ensures.to)
