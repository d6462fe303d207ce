-- `mark_table` meets its contract. The invariant: the elements passed have marked their corners.
use Rattle.shape.proofs.MarkTables.{none_marked}
use Rattle.shape.proofs.marks.mark_table.Goals as goal

pub loop-e-init : goal.loop-e-init
loop-e-init c = none_marked _
