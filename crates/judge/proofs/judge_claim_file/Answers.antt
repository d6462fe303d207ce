-- `judge_claim_file` meets its contract: the largest room always is enough.
use Rattle.judge.proofs.FilesJudged.{claim_fits}
use Rattle.judge.proofs.judge_claim_file.Goals as goal

pub judge_claim_in-requires-in_default-clause-fits : goal.judge_claim_in-requires-in_default-clause-fits
judge_claim_in-requires-in_default-clause-fits c =
    let m = c.args.m.now in
    claim_fits m.mesh.sized.facts.counts m.few_with_sides _
