-- `turns_check` meets its contract. The invariant: the elements passed turn left at all corners.
use mathlib.Core.Path.{refl, ap}
use Prim.Native.Nat.{suc}
use native.Mathlib.Omega.{arith}
use Rattle.scope.specs.declared.Place.TheVariants.{Element}
use Rattle.scope.specs.Checks.{all_below}
use Rattle.scope.specs.Phases.{check_phase}
use native.Mathlib.Numerals.{add-one}
use Rattle.scope.specs.Mesh.{elements}
use Rattle.scope.specs.Tests.{left_turns}
use Rattle.lines.proofs.Asked.{asked_more, asked_stops, asked_all}
use Rattle.outlines.proofs.CornerLaws.{turned}
use Rattle.outlines.proofs.turns.turns_check.Goals as goal

pub loop-e-init : goal.loop-e-init
unfolding all_below
loop-e-init c = refl

pub returns-in_err-demand-clause-outcome : goal.returns-in_err-demand-clause-outcome
unfolding check_phase
returns-in_err-demand-clause-outcome c =
    asked_stops (left_turns _) c.loop-e.invariant c.left_turns.ensures c.from_residual.result c.in_err-demand.field-0.0
    c.from_residual.ensures.1 c.at.ensures c.in_err-demand.ensures (λ e. Element (suc e)) (ap Element (add-one _))
    (elements _) (omega (arith, c.args.m.now.sized.elements_are))

pub loop-e-preserved : goal.loop-e-preserved
loop-e-preserved c = asked_more (left_turns _) c.loop-e.invariant c.left_turns.ensures _ _ c.in_ok-demand.ensures

-- all of them turn left, as the mesh then holds
pub invariant_of-result : goal.invariant_of-result
invariant_of-result c =
    record { turned = turned _ c.loop-e.invariant (omega (arith, c.args.m.now.sized.elements_are)) }

pub returns-clause-outcome : goal.returns-clause-outcome
unfolding check_phase
returns-clause-outcome c =
    asked_all (left_turns _) c.loop-e.invariant 5 (λ e. Element (suc e)) (elements _)
    (omega (arith, c.args.m.now.sized.elements_are))
