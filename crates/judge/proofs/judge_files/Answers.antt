-- `judge_files` meets its contract: the largest room always is enough.
use Rattle.judge.proofs.FilesJudged.{mesh_fits}
use Rattle.judge.proofs.judge_files.Goals as goal

pub judge_files_in-requires-in_default-clause-fits : goal.judge_files_in-requires-in_default-clause-fits
judge_files_in-requires-in_default-clause-fits c = mesh_fits _
