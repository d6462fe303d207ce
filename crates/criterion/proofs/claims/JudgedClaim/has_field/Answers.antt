-- `has_field` meets its contract: the part is there where its number of the header is 1.
use Rattle.scope.specs.Columns.{has_field}
use Rattle.criterion.proofs.claims.JudgedClaim.has_field.Goals as goal

pub returns : goal.returns
unfolding has_field
returns c = c.has_part.ensures
