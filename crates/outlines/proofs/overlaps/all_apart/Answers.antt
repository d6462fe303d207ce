-- `all_apart` meets its contract: a loop that asks each element, and a room of at most a hundred boxes.
use mathlib.Core.Path.{refl, ap}
use Prim.Native.Nat.{suc}
use native.Mathlib.Numerals.{add-one}
use native.Mathlib.Omega.{arith}
use Rattle.scope.specs.declared.Place.TheVariants.{Element}
use Rattle.scope.specs.Checks.{all_below}
use Rattle.scope.specs.Mesh.{elements}
use Rattle.scope.specs.Phases.{check_phase}
use Rattle.scope.specs.Tests.{lies_apart}
use Rattle.lines.proofs.Asked.{asked_more, asked_stops, asked_all}
use Rattle.outlines.proofs.overlaps.all_apart.Goals as goal

pub loop-e-init : goal.loop-e-init
unfolding all_below
loop-e-init g c = refl

pub returns-in_err-demand : goal.returns-in_err-demand
unfolding check_phase
returns-in_err-demand g c =
    asked_stops (lies_apart _) c.loop-e.invariant c.lies_apart.ensures c.from_residual.result c.in_err-demand.field-0.0
    c.from_residual.ensures.1 c.at.ensures c.in_err-demand.ensures (λ e. Element (suc e)) (ap Element (add-one _))
    (elements _) (omega (arith, c.args.m.now.mesh.sized.elements_are))

pub loop-e-preserved : goal.loop-e-preserved
loop-e-preserved g c = asked_more (lies_apart _) c.loop-e.invariant c.lies_apart.ensures _ _ c.in_ok-demand.ensures

pub returns : goal.returns
unfolding check_phase
returns g c =
    asked_all (lies_apart _) c.loop-e.invariant 47 (λ e. Element (suc e)) (elements _)
    (omega (arith, c.args.m.now.mesh.sized.elements_are))

pub boxes_around-boxes-requires : goal.boxes_around-boxes-requires
boxes_around-boxes-requires g c = (omega (arith, c.requires.few), c.requires.room)

pub deref-requires : goal.deref-requires
deref-requires g c = omega (arith, c.requires.few)
