-- `pechuvo_check_numbers` meets its contract: it hands the call on.
use Rattle.pechuvo_c.proofs.pechuvo_check_numbers.Goals as goal

pub returns : goal.returns
returns c =
    c.pechuvo_check_numbers.ensures
