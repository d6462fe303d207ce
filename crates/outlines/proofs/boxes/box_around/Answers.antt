-- `box_around` meets its contract: the first node's box, then a box around it and one node more, three times.
use native.Mathlib.Omega.{arith}
use Rattle.integer.proofs.Machine.{Is-read}
use Rattle.outlines.proofs.BoxLaws.{node_in, one_node_more, around_nodes}
use Rattle.outlines.proofs.boxes.box_around.Goals as goal

pub loop-j-preserved : goal.loop-j-preserved
loop-j-preserved c =
    one_node_more _ _ c.loop-j.invariant c.with_point-own.ensures.wider
    (node_in _ _ c.with_point-own.result c.loop-j.j c.corner-v.ensures.same (Is-read c.x.ensures (omega arith)).same
    (Is-read c.y.ensures (omega arith)).same c.with_point-own.ensures.point)

pub returns : goal.returns
returns c = around_nodes _ _ (λ i l. c.loop-j.invariant i (omega (arith, c.loop-j-test.false)))
