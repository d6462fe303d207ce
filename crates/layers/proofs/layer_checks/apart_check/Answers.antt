-- `apart_check` meets its contract: the first layer that fails, or none.
use mathlib.Core.Path.{refl}
use native.Mathlib.Omega.{arith}
use Rattle.scope.specs.Checks.{all_below}
use Rattle.scope.specs.Layers.{layers, layer_line, apart}
use Rattle.scope.specs.Phases.{check_phase}
use Rattle.lines.proofs.Asked.{asked_more, asked_stops, asked_all}
use Rattle.layers.proofs.layer_checks.apart_check.Goals as goal

pub loop-i-init : goal.loop-i-init
unfolding all_below
loop-i-init c = refl

pub returns-in_err-demand : goal.returns-in_err-demand
unfolding check_phase
returns-in_err-demand c =
    let table = c.args.layers.now in
    asked_stops (apart _ _ _) c.loop-i.invariant c.apart_from_earlier.ensures c.from_residual.result
    c.in_err-demand.field-0.0 c.from_residual.ensures.1 c.layer_refusal.ensures c.in_err-demand.ensures layer_line refl
    (layers table.numbers.now) (omega (arith, c.loop-i-test.true, table.counted))

pub loop-i-preserved : goal.loop-i-preserved
loop-i-preserved c =
    asked_more (apart _ _ _) c.loop-i.invariant c.apart_from_earlier.ensures _ _ c.in_ok-demand.ensures

pub returns : goal.returns
unfolding check_phase
returns c =
    let table = c.args.layers.now in
    asked_all (apart _ _ _) c.loop-i.invariant 46 layer_line (layers table.numbers.now)
    (omega (arith, c.loop-i-test.false, table.counted))
