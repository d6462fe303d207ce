-- `left_turn_at` meets its contract: the corner with its neighbours around the element.
use Rattle.outlines.proofs.CornerLaws.{left_turn_from}
use Rattle.outlines.proofs.turns.left_turn_at.Goals as goal

pub returns : goal.returns
returns c =
    left_turn_from _ _ _ c.corner_count.ensures.is c.corner_around-a.ensures.same
    c.corner_around-b.ensures.same c.corner_around-c.ensures.same c.turns_left.ensures
