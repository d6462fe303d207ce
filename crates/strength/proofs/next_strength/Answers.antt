-- `next_strength` meets its contract: each answer follows from the tests that led to it.
use Rattle.std.proofs.Common.{rules}
use Rattle.strength.specs.Next.{next_strength, accepted}
use Rattle.strength.proofs.next_strength.Goals as goal

pub returns-then-not-is_usable : goal.returns-then-not-is_usable
unfolding next_strength accepted
returns-then-not-is_usable c = search rules

pub returns-then-first-second : goal.returns-then-first-second
unfolding next_strength accepted
returns-then-first-second c = search rules

pub returns-then-not-finite_above_zero : goal.returns-then-not-finite_above_zero
unfolding next_strength accepted
returns-then-not-finite_above_zero c = search rules

pub returns : goal.returns
unfolding next_strength accepted
returns c = search rules
