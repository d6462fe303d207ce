-- `parts_verdict` meets its contract: the polygon of a mesh whose lines have passed is made, and lent with the claim.
use Rattle.criterion.proofs.StrengthLaws.{sides_listed_lem}
use Rattle.verdict.proofs.claim_parts.parts_verdict.Goals as goal

pub of-polygon-requires : goal.of-polygon-requires
of-polygon-requires c = sides_listed_lem c.args.mesh.now.mesh.sized
