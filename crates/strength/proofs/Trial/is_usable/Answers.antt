-- `Trial::is_usable` meets its contract: the second test counts where the first passed.
use Rattle.std.proofs.Common.{rules}
use Rattle.strength.specs.Next.{usable}
use Rattle.strength.proofs.Trial.is_usable.Goals as goal

pub returns-then-finite_above_zero : goal.returns-then-finite_above_zero
unfolding usable
returns-then-finite_above_zero c = search rules

pub returns-else-finite_above_zero : goal.returns-else-finite_above_zero
unfolding usable
returns-else-finite_above_zero c = search rules
