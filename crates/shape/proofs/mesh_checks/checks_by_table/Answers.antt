-- `checks_by_table` meets its contract: the checks in their order, each after the one before has passed.
use mathlib.Core.Path.{refl}
use mathlib.Core.List.{[], ◌∷◌}
use Rattle.scope.specs.Phases.{check_phases}
use Rattle.scope.specs.Refusals.{nodes_phase, apart_phase, edges_phase, joints_phase}
use Rattle.scope.proofs.Answered.{first_refuses, second_decides}
use Rattle.shape.proofs.mesh_checks.checks_by_table.Goals as goal

pub returns-in_err-sides_check : goal.returns-in_err-sides_check
unfolding check_phases
returns-in_err-sides_check c =
    let m = c.args.marked.now.mesh.numbers.now in
    first_refuses c.from_residual.result c.in_err-sides_check.field-0.0
    (check_phases (nodes_phase m ∷ apart_phase m ∷ edges_phase m ∷ joints_phase m ∷ [])) c.from_residual.ensures.1
    c.in_err-sides_check.ensures refl

pub returns-in_err-nodes_check : goal.returns-in_err-nodes_check
unfolding check_phases
returns-in_err-nodes_check c =
    let m = c.args.marked.now.mesh.numbers.now in
    second_decides c.in_ok-sides_check.ensures refl
    (first_refuses c.from_residual-in_err-nodes_check.result c.in_err-nodes_check.field-0.0
    (check_phases (apart_phase m ∷ edges_phase m ∷ joints_phase m ∷ [])) c.from_residual-in_err-nodes_check.ensures.1
    c.in_err-nodes_check.ensures refl)

pub returns-in_err-overlaps_check : goal.returns-in_err-overlaps_check
unfolding check_phases
returns-in_err-overlaps_check c =
    let m = c.args.marked.now.mesh.numbers.now in
    second_decides c.in_ok-sides_check.ensures refl
    (second_decides c.in_ok-nodes_check.ensures refl
    (first_refuses c.from_residual-in_err-overlaps_check.result c.in_err-overlaps_check.field-0.0
    (check_phases (edges_phase m ∷ joints_phase m ∷ [])) c.from_residual-in_err-overlaps_check.ensures.1
    (rw c.requires.same at c.in_err-overlaps_check.ensures) refl))

pub returns : goal.returns
unfolding check_phases
returns c =
    second_decides c.in_ok-sides_check.ensures refl
    (second_decides c.in_ok-nodes_check.ensures refl
    (second_decides (rw c.requires.same at c.in_ok-overlaps_check.ensures) refl c.edges_and_joints.ensures))
