-- `left_side` meets its contract. The loop's invariant: `sum` is the sum over the terms passed.
use Rattle.std.proofs.Common.{◌*◌}
use Rattle.integer.specs.Bounds.{Is}
use Rattle.scope.specs.Bounds.{most_coefficient}
use Rattle.scope.specs.Claim.{most_stress}
use Rattle.scope.specs.Columns.{at}
use Rattle.scope.specs.Sums.{weighted_sum}
use Rattle.equality.proofs.EntryLaws.{passed}
use Rattle.equality.proofs.row_sums.left_side.Given as goal

abbrev pub invariant-loop-term : goal.invariant-loop-term
invariant-loop-term l =
    Is l.sum (weighted_sum (at l.x) (passed l.terms l.term-index))
    (l.term-index * (most_coefficient * most_stress))
