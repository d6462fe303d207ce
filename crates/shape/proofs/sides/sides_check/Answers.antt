-- `sides_check` meets its contract. The invariant: the elements passed have sides of their own.
use mathlib.Core.Path.{refl, ap}
use Prim.Native.Nat.{suc}
use native.Mathlib.Omega.{arith}
use Rattle.scope.specs.declared.Place.TheVariants.{Element}
use Rattle.scope.specs.Checks.{all_below}
use Rattle.scope.specs.Phases.{check_phase}
use native.Mathlib.Numerals.{add-one}
use Rattle.scope.specs.Mesh.{elements}
use Rattle.scope.specs.Tests.{own_sides}
use Rattle.lines.proofs.Asked.{asked_more, asked_stops, asked_all}
use Rattle.shape.proofs.sides.sides_check.Goals as goal

pub loop-e-init : goal.loop-e-init
unfolding all_below
loop-e-init c = refl

pub returns-in_err-demand : goal.returns-in_err-demand
unfolding check_phase
returns-in_err-demand c =
    asked_stops (own_sides _) c.loop-e.invariant c.own_sides.ensures c.from_residual.result c.in_err-demand.field-0.0
    c.from_residual.ensures.1 c.at.ensures c.in_err-demand.ensures (λ e. Element (suc e)) (ap Element (add-one _))
    (elements _) (omega (arith, c.args.sides.now.mesh.sized.elements_are))

pub loop-e-preserved : goal.loop-e-preserved
loop-e-preserved c = asked_more (own_sides _) c.loop-e.invariant c.own_sides.ensures _ _ c.in_ok-demand.ensures

pub returns : goal.returns
unfolding check_phase
returns c =
    asked_all (own_sides _) c.loop-e.invariant 6 (λ e. Element (suc e)) (elements _)
    (omega (arith, c.args.sides.now.mesh.sized.elements_are))
