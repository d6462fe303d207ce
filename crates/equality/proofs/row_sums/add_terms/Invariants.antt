-- `add_terms` meets its contract. The loop's invariant: y times the terms passed is added.
use Rattle.equality.proofs.EntryLaws.{Adding}
use Rattle.equality.proofs.row_sums.add_terms.Given as goal

abbrev pub invariant-loop-term : goal.invariant-loop-term
invariant-loop-term l = Adding l.initial.sums l.y l.terms l.term-index l.sums
