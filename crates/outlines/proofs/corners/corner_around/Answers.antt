-- `corner_around` meets its contract: corners go round by as many as there are.
use mathlib.Core.Path.{◌∙◌}
use Rattle.outlines.proofs.CornerLaws.{around_corner}
use Rattle.outlines.proofs.corners.corner_around.Goals as goal

pub returns : goal.returns
returns c = record {
  same = c.corner.ensures.same ∙ around_corner _ _ _ c.corner_count.ensures.is;
  there = c.corner.ensures.there;
  few = c.corner.ensures.few;
}
