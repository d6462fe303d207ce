-- `has_multipliers` meets its contract: the part is there where its number of the header is 1.
use Rattle.scope.specs.Columns.{has_multipliers}
use Rattle.criterion.proofs.claims.JudgedClaim.has_multipliers.Goals as goal

pub returns : goal.returns
unfolding has_multipliers
returns c = c.has_part.ensures
