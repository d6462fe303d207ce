-- `steps_from` meets its contract. The loop's invariant: the sides passed have their numbers.
use Rattle.criterion.specs.StrengthContracts.{StepsUpTo}
use Rattle.criterion.proofs.polygons.steps_from.Given as goal

abbrev pub invariant-loop-k : goal.invariant-loop-k
invariant-loop-k l = StepsUpTo l.k l.steps.items l.corners
