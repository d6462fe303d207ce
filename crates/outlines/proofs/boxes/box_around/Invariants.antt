-- `box_around` meets its contract. The invariant: the nodes passed are in the box.
use Rattle.outlines.proofs.BoxLaws.{Nodes}
use Rattle.outlines.proofs.boxes.box_around.Given as goal

abbrev pub invariant-loop-j : goal.invariant-loop-j
invariant-loop-j l = Nodes l.m.numbers.now l.e l.j l.own
