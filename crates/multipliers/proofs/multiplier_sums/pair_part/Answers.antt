-- `pair_part` meets its contract: that of either kind.
use mathlib.Core.Path.{sym}
use Rattle.multipliers.proofs.multiplier_sums.pair_part.Goals as goal

pub sides_part-requires : goal.sides_part-requires
sides_part-requires c = record { there = c.requires; by_sides = sym c.in-AsBefore.ensures }

pub planes_part-requires : goal.planes_part-requires
planes_part-requires c = record { there = c.requires; bedded = sym c.in-ByDirection.ensures }
