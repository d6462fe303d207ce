-- `edges_and_joints` meets its contract: the edges first, and the jumps where they have passed.
use mathlib.Core.Path.{refl}
use Rattle.scope.specs.Phases.{check_phase, check_phases}
use Rattle.scope.specs.Refusals.{joints_phase}
use Rattle.scope.proofs.Answered.{first_refuses, second_decides}
use Rattle.shape.proofs.mesh_checks.edges_and_joints.Goals as goal

pub returns-in_err-edges_check : goal.returns-in_err-edges_check
unfolding check_phases
returns-in_err-edges_check c =
    first_refuses c.from_residual.result c.in_err-edges_check.field-0.0
    (check_phase (joints_phase c.args.m.now.numbers.now)) c.from_residual.ensures.1 c.in_err-edges_check.ensures refl

pub returns : goal.returns
unfolding check_phases
returns c = second_decides c.in_ok-edges_check.ensures refl c.joints_check.ensures.outcome
