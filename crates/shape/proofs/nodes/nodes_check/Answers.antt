-- `nodes_check` meets its contract. The invariant: the nodes passed are in an element.
use mathlib.Core.Path.{refl, ap}
use Prim.Native.Nat.{suc}
use native.Mathlib.Numerals.{add-one}
use native.Mathlib.Omega.{arith}
use Rattle.scope.specs.declared.Place.TheVariants.{Node}
use Rattle.scope.specs.Checks.{all_below}
use Rattle.scope.specs.Mesh.{nodes}
use Rattle.scope.specs.Phases.{check_phase}
use Rattle.scope.specs.Tests.{in_element}
use Rattle.lines.proofs.Asked.{asked_more, asked_stops, asked_all}
use Rattle.shape.proofs.nodes.nodes_check.Goals as goal

pub loop-v-init : goal.loop-v-init
unfolding all_below
loop-v-init c = refl

pub returns-in_err-demand : goal.returns-in_err-demand
unfolding check_phase
returns-in_err-demand c =
    asked_stops (in_element _) c.loop-v.invariant c.some_soil.ensures c.from_residual.result
    c.in_err-demand.field-0.0 c.from_residual.ensures.1 c.at.ensures c.in_err-demand.ensures (λ v. Node (suc v))
    (ap Node (add-one _)) (nodes _) (omega (arith, c.args.marked.now.mesh.sized.nodes_are))

pub loop-v-preserved : goal.loop-v-preserved
loop-v-preserved c =
    asked_more (in_element _) c.loop-v.invariant c.some_soil.ensures _ _ c.in_ok-demand.ensures

pub returns : goal.returns
unfolding check_phase
returns c =
    asked_all (in_element _) c.loop-v.invariant 7 (λ v. Node (suc v)) (nodes _)
    (omega (arith, c.args.marked.now.mesh.sized.nodes_are))
