-- `edges_check` meets its contract. The invariant: the edges passed are outer sides, each once.
use mathlib.Core.Path.{refl, ap}
use Prim.Native.Nat.{suc}
use native.Mathlib.Omega.{arith}
use Rattle.scope.specs.declared.Place.TheVariants.{Line}
use Rattle.scope.specs.Checks.{all_below}
use Rattle.scope.specs.Phases.{check_phase}
use Rattle.scope.specs.Mesh.{edges, edge_line}
use Rattle.scope.specs.Tests.{outer_edge}
use Rattle.shape.proofs.MeshLaws.{edge_line_lem}
use Rattle.lines.proofs.Asked.{asked_more, asked_stops, asked_all}
use Rattle.shape.proofs.edges.edges_check.Goals as goal

pub loop-g-init : goal.loop-g-init
unfolding all_below
loop-g-init c = refl

pub returns-in_err-demand : goal.returns-in_err-demand
unfolding check_phase
returns-in_err-demand c =
    asked_stops (outer_edge _) c.loop-g.invariant c.outer_edge.ensures c.from_residual.result c.in_err-demand.field-0.0
    c.from_residual.ensures.1 c.at.ensures c.in_err-demand.ensures (λ g. Line (suc (edge_line _ g)))
    (ap Line (edge_line_lem _ c.args.sides.now.mesh.sized _ c.line_after_elements.ensures)) (edges _)
    (omega (arith, c.args.sides.now.mesh.sized.edges_are))

pub loop-g-preserved : goal.loop-g-preserved
loop-g-preserved c = asked_more (outer_edge _) c.loop-g.invariant c.outer_edge.ensures _ _ c.in_ok-demand.ensures

pub returns : goal.returns
unfolding check_phase
returns c =
    asked_all (outer_edge _) c.loop-g.invariant 8 (λ g. Line (suc (edge_line _ g))) (edges _)
    (omega (arith, c.args.sides.now.mesh.sized.edges_are))
