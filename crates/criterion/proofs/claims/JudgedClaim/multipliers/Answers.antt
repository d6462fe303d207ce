-- `multipliers` meets its contract: the claim is lent from its first multiplier on.
use Rattle.criterion.proofs.ClaimLaws.{start_is, multipliers_start, multiplier_of}
use Rattle.criterion.proofs.ClaimLaws.{multipliers_counted, multipliers_within, strengths_within}
use Rattle.criterion.proofs.claims.JudgedClaim.multipliers.Goals as goal

pub slice_bounds-result-count : goal.slice_bounds-result-count
slice_bounds-result-count c =
    let claim = c.args.self.now in
    multipliers_start claim.facts (start_is _ _ claim.mesh.mesh.sized.nodes_are c.multipliers_from.ensures)

pub slice_bounds-result-start : goal.slice_bounds-result-start
slice_bounds-result-start c =
    let claim = c.args.self.now in
    multipliers_start claim.facts (start_is _ _ claim.mesh.mesh.sized.nodes_are c.multipliers_from.ensures)

pub returns : goal.returns
returns c =
    let claim = c.args.self.now in
    let start = start_is _ _ claim.mesh.mesh.sized.nodes_are c.multipliers_from.ensures in
    record {
      by_row = multiplier_of _ _ start;
      there = multipliers_counted claim.facts start;
      in_range = multipliers_within claim.facts start;
      strengths_in_range = strengths_within claim.facts start;
    }
