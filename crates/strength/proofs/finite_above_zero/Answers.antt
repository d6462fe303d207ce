-- `finite_above_zero` meets its contract: its two tests are `positive`'s.
use Rattle.strength.proofs.Tests.{above_and_finite, not_above}
use Rattle.strength.proofs.finite_above_zero.Goals as goal

pub returns-then-x : goal.returns-then-x
returns-then-x c = above_and_finite _ c.if-x.true

pub returns-else-x : goal.returns-else-x
returns-else-x c = not_above _ c.if-x.false
