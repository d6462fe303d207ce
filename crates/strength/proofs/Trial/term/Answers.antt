-- `Trial::term` meets its contract: its operations are the definition's, in the same order.
use Rattle.std.specs.Prelude.{refl}
use lib.Ieee.{of_bits}
use Rattle.strength.specs.Next.{term}
use Rattle.strength.proofs.Trial.term.Goals as goal

pub returns : goal.returns
unfolding term of_bits
returns c = refl
