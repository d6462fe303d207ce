-- `pechuvo_next_strength` meets its contract: the strength after both trials, as C is answered.
use Rattle.pechuvo.proofs.pechuvo_next_strength.Goals as goal

pub returns : goal.returns
returns c =
    rw (c.from.ensures, c.next_strength.ensures)
