-- `field_check` meets its contract: the equality rows, and where they hold the strength rows.
use mathlib.Core.Path.{refl}
use Rattle.scope.specs.Columns.{at}
use Rattle.scope.specs.Phases.{check_phase, check_phases}
use Rattle.scope.specs.Refusals.{strengths_phase}
use Rattle.scope.specs.Rows.{strength_rows}
use Rattle.scope.proofs.Answered.{first_refuses, second_decides}
use Rattle.verdict.proofs.field_checks.field_check.Goals as goal

pub returns-in_err-equalities_check : goal.returns-in_err-equalities_check
unfolding check_phases
returns-in_err-equalities_check c =
    let field = c.args.field.now in
    first_refuses c.from_residual.result c.in_err-equalities_check.field-0.0
    (check_phase
    (strengths_phase (strength_rows field.mesh.mesh.numbers.now) (at field.stresses.now) field.l field.n))
    c.from_residual.ensures.1 c.in_err-equalities_check.ensures refl

pub returns : goal.returns
unfolding check_phases
returns c = second_decides c.in_ok-equalities_check.ensures refl c.strengths_check.ensures
