-- `pechuvo_next_strength` meets its contract: it hands the call on.
use Rattle.pechuvo_c.proofs.pechuvo_next_strength.Goals as goal

pub returns : goal.returns
returns c =
    c.pechuvo_next_strength.ensures
