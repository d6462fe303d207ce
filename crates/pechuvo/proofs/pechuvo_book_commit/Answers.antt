-- `pechuvo_book_commit` meets its contract: the commit of the book that C hands over, as C is answered.
use mathlib.Core.Path.{ap, ◌∙◌}
use Rattle.reader.specs.File.{file_width}
use Rattle.judge.specs.Judge.{files_verdict}
use Rattle.book.specs.Book.{committed}
use Rattle.pechuvo.specs.BookInC.{book_answer}
use Rattle.pechuvo.proofs.pechuvo_book_commit.Goals as goal

pub returns : goal.returns
returns c =
    let verdict = files_verdict file_width c.args.mesh.now c.args.table.now c.args.claim.now in
    c.book_answer.ensures
    ∙ ap (book_answer c.args.book) (c.commit.ensures ∙ ap (λ b. committed b c.args.count verdict) c.from.ensures)
