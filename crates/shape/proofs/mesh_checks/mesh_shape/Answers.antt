-- `mesh_shape` meets its contract: the turns first, then the sides, nodes, edges and jumps, and the pairs last.
use mathlib.Core.Path.{refl, sym}
use Rattle.scope.specs.Checks.{◌then◌}
use Rattle.scope.specs.Phases.{check_phase, check_phases}
use Rattle.scope.specs.Refusals.{pairs_phase}
use Rattle.scope.proofs.Answered.{first_refuses, second_decides}
use Rattle.shape.specs.ShapeContracts.{side_phases}
use Rattle.shape.proofs.MeshLaws.{shape_checked}
use Rattle.shape.proofs.mesh_checks.mesh_shape.Goals as goal

pub returns-in_err-turned-clause-outcome : goal.returns-in_err-turned-clause-outcome
returns-in_err-turned-clause-outcome c =
    let m = c.args.m.now.numbers.now in
    first_refuses c.from_residual.result c.in_err-turned.field-0.0
    (check_phases (side_phases m) then check_phase (pairs_phase m)) c.from_residual.ensures.1
    c.in_err-turned.ensures.outcome (shape_checked m)

pub returns-in_err-sides_to_joints-clause-outcome : goal.returns-in_err-sides_to_joints-clause-outcome
returns-in_err-sides_to_joints-clause-outcome c =
    second_decides c.in_ok-turned.ensures.outcome (shape_checked c.args.m.now.numbers.now)
    (rw (sym c.in_ok-turned.ensures.same)
    (first_refuses c.from_residual-in_err-sides_to_joints.result c.in_err-sides_to_joints.field-0.0
    (check_phase (pairs_phase c.in_ok-turned.turned.mesh.numbers.now)) c.from_residual-in_err-sides_to_joints.ensures.1
    c.in_err-sides_to_joints.ensures refl))

pub returns-clause-outcome : goal.returns-clause-outcome
returns-clause-outcome c =
    second_decides c.in_ok-turned.ensures.outcome (shape_checked c.args.m.now.numbers.now)
    (rw (sym c.in_ok-turned.ensures.same)
    (second_decides c.in_ok-sides_to_joints.ensures refl c.pairs_check.ensures.outcome))
