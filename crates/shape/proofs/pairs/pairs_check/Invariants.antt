-- `pairs_check` meets its contract. The invariant: the pairs of the nodes passed are collected, and they fit.
use Rattle.shape.proofs.PairTables.{Collected}
use Rattle.shape.proofs.pairs.pairs_check.Given as goal

abbrev pub invariant-loop-v : goal.invariant-loop-v
invariant-loop-v l = Collected l.marked.mesh.numbers.now l.v l.pairs.items
