-- `pechuvo_check_run` meets its contract: it is the run.
use Rattle.pechuvo.proofs.pechuvo_check_run.Goals as goal

pub returns : goal.returns
returns c =
    c.check_run.ensures
