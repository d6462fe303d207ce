-- `check_run` meets its contract: the largest room always is enough.
use Rattle.judge.proofs.FilesJudged.{mesh_fits}
use Rattle.run.proofs.check_run.Goals as goal

pub run_in-requires-in_default-clause-fits : goal.run_in-requires-in_default-clause-fits
run_in-requires-in_default-clause-fits c = mesh_fits _
