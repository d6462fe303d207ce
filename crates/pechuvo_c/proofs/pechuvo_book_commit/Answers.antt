-- `pechuvo_book_commit` meets its contract: it hands the call on.
use Rattle.pechuvo_c.proofs.pechuvo_book_commit.Goals as goal

pub returns : goal.returns
returns c =
    c.pechuvo_book_commit.ensures
