-- `pechuvo_check_numbers` meets its contract: it is the check of numbers.
use Rattle.pechuvo.proofs.pechuvo_check_numbers.Goals as goal

pub returns : goal.returns
returns c =
    c.check.ensures
