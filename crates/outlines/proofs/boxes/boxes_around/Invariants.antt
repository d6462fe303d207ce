-- `boxes_around` meets its contract. The invariant: the elements passed have their boxes, and none reaches further.
use Rattle.outlines.proofs.BoxLaws.{Boxing}
use Rattle.outlines.proofs.boxes.boxes_around.Given as goal

abbrev pub invariant-loop-e : goal.invariant-loop-e
invariant-loop-e g l = Boxing l.m.numbers.now l.e l.right l.top l.boxes.items
