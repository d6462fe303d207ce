-- `jump_row` meets its contract: its part of the traction, at the end that row i is at and at the node facing it.
use Rattle.scope.specs.Mesh.{jump_from, jump_to, facing_from, facing_to}
use Rattle.scope.specs.Rows.{jump_step_x, jump_step_y}
use Rattle.equality.proofs.EqualityLaws.{end_there, jump_filled, jump_place}
use Rattle.equality.proofs.equality_rows.jump_row.Goals as goal

pub returns : goal.returns
unfolding jump_step_x jump_step_y jump_from jump_to facing_from facing_to
returns c =
    let m = c.args.m.now.numbers.now in
    let i = c.args.i in
    let jump = c.jump-jump.ensures in
    let v = c.end_of-v.ensures in
    let facing = c.end_of-facing.ensures in
    jump_filled m c.args.j _ _ (rw (jump.from.same, jump.to.same) at c.between-step.ensures) c.part_of-part.result
    (rw v (end_there i jump.from.there jump.to.there))
    (rw facing (end_there i jump.facing_from.there jump.facing_to.there)) c.expression_at.ensures
    c.expression_at-2.ensures c.agreement_row.ensures
    (rw (
      c.part_of-part.ensures,
      v,
      facing,
      jump.from.same,
      jump.to.same,
      jump.facing_from.same,
      jump.facing_to.same,
    )
    (jump_place m c.args.j i c.requires.there c.requires.one_of_four))
