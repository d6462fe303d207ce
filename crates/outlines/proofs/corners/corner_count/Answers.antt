-- `corner_count` meets its contract: the third and the fourth node are the same, or they are not.
use mathlib.Core.Path.{sym, ◌∙◌}
use Rattle.scope.proofs.Triangles.{three_corners, four_corners}
use Rattle.outlines.proofs.corners.corner_count.Goals as goal

pub returns-then-third-fourth-clause-is : goal.returns-then-third-fourth-clause-is
returns-then-third-fourth-clause-is c =
    sym
    (three_corners _ _
    (sym c.corner-third.ensures.same ∙ c.if-third-fourth.true ∙ c.corner-fourth.ensures.same))

pub returns-else-third-fourth-clause-is : goal.returns-else-third-fourth-clause-is
returns-else-third-fourth-clause-is c =
    sym
    (four_corners _ _
    (λ e. c.if-third-fourth.false (c.corner-third.ensures.same ∙ e ∙ sym c.corner-fourth.ensures.same)))
