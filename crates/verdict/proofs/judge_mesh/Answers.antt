-- `judge_mesh` meets its contract: the shape is checked only on a mesh whose lines have passed.
use mathlib.Core.Path.{◌∙◌, ap}
use mathlib.Core.List.{List}
use lib.IntN.{ℤ}
use Rattle.scope.specs.Phases.{check_phases}
use Rattle.scope.specs.Refusals.{shape_phases}
use Rattle.scope.proofs.Answered.{first_refuses, second_decides}
use Rattle.verdict.proofs.VerdictLaws.{mesh_in_two, facts_of_lines}
use Rattle.verdict.proofs.judge_mesh.Goals as goal

pub returns-in_err-mesh_lines-clause-outcome : goal.returns-in_err-mesh_lines-clause-outcome
returns-in_err-mesh_lines-clause-outcome c =
    let m = c.args.m.now in
    first_refuses c.from_residual.result c.in_err-mesh_lines.field-0.0 (check_phases (shape_phases m))
    c.from_residual.ensures.1 c.in_err-mesh_lines.ensures (mesh_in_two m)

pub new-requires : goal.new-requires
new-requires c = facts_of_lines c.args.m.now c.in_ok-mesh_lines.ensures

pub returns-clause-outcome : goal.returns-clause-outcome
returns-clause-outcome c =
    second_decides c.in_ok-mesh_lines.ensures (mesh_in_two c.args.m.now)
    (c.mesh_shape.ensures.outcome ∙ ap (λ (m : List ℤ). check_phases (shape_phases m)) c.new.ensures)
