-- `add_pairs` meets its contract. The invariant: the pairs with the soils passed are added, and they fit.
use Rattle.shape.proofs.PairTables.{Added}
use Rattle.shape.proofs.pairs.add_pairs.Given as goal

abbrev pub invariant-loop-soil : goal.invariant-loop-soil
invariant-loop-soil l = Added l.marked.mesh.numbers.now l.v l.most l.soil l.initial.pairs.items l.pairs.items
