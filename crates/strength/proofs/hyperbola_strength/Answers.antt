-- `hyperbola_strength` meets its contract: its operations are the definition's, and each term is what its call ensures.
use Rattle.strength.specs.Next.{hyperbola}
use Rattle.strength.proofs.hyperbola_strength.Goals as goal

pub returns : goal.returns
unfolding hyperbola
returns c = cc
