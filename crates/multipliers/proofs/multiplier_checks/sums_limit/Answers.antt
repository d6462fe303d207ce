-- `sums_limit` meets its contract: 32, then 33.
use mathlib.Core.Path.{refl, ap, ◌∙◌}
use mathlib.Core.Bool.{Bool}
use native.Mathlib.Omega.{arith}
use Rattle.integer.proofs.Machine.{machine, decides, Is-read, Is-within}
use Rattle.scope.specs.Checks.{demand}
use Rattle.scope.specs.Phases.{check_phase, check_phases}
use Rattle.scope.specs.Refusals.{live_phase}
use Rattle.scope.specs.declared.Place.TheVariants.{Column}
use Rattle.scope.proofs.Answered.{first_refuses, second_decides, passed_on}
use Rattle.multipliers.proofs.LimitLaws.{live_check, same_load}
use Rattle.multipliers.proofs.multiplier_checks.sums_limit.Goals as goal

pub returns-in_err-columns_check-clause-outcome : goal.returns-in_err-columns_check-clause-outcome
unfolding check_phases
returns-in_err-columns_check-clause-outcome c =
    first_refuses c.from_residual.result c.in_err-columns_check.field-0.0 (check_phase (live_phase c.args.sums.m))
    c.from_residual.ensures.1 c.in_err-columns_check.ensures refl

pub returns-in_err-demand-clause-outcome : goal.returns-in_err-demand-clause-outcome
unfolding check_phases
returns-in_err-demand-clause-outcome c =
    let live = c.requires.sums_fit.live_fits in
    second_decides c.in_ok-columns_check.ensures refl
    (passed_on c.from_residual-in_err-demand.result c.in_err-demand.field-0.0 c.from_residual-in_err-demand.ensures.1
    ∙ (rw c.at.ensures at c.in_err-demand.ensures)
    ∙ ap (λ (b : Bool). demand b 33 (Column 0)) (decides (search machine depth 30) (omega arith))
    ∙ live_check c.args.sums.m)

pub returns-clause-outcome : goal.returns-clause-outcome
unfolding check_phases
returns-clause-outcome c =
    let live = c.requires.sums_fit.live_fits in
    second_decides c.in_ok-columns_check.ensures refl
    ((rw c.at.ensures at c.in_ok-demand.ensures)
    ∙ ap (λ (b : Bool). demand b 33 (Column 0)) (decides (search machine depth 30) (omega arith))
    ∙ live_check c.args.sums.m)

pub returns-clause-load : goal.returns-clause-load
returns-clause-load c =
    let fit = c.requires.sums_fit in
    same_load (Is-read (Is-within fit.limit_fits) (omega arith)).same
    (Is-read (Is-within fit.live_fits) (omega arith)).same
