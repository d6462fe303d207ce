-- `pechuvo_book_ask` meets its contract: it hands the call on.
use Rattle.pechuvo_c.proofs.pechuvo_book_ask.Goals as goal

pub returns : goal.returns
returns c =
    c.pechuvo_book_ask.ensures
