-- What the code keeps and answers, as the definitions speak of it, and the number and the place of each answer.
use Rattle.std.specs.Prelude.{ℕ, Result, Ok, Err}
use Rattle.scope.specs.declared.Accepted.{Accepted}
use Rattle.scope.specs.declared.Refusal.{Refusal}
use Rattle.scope.specs.Answer.{load_of, verdict_of, number_of, place_of}
use Rattle.book.specs.declared.Book.{Book}
use Rattle.book.specs.declared.BookError.{BookError}
use Rattle.book.specs.declared.BookError.TheVariants.{NotTaken}
use Rattle.book.specs.declared.Reply.{Reply}
use Rattle.book.specs.Book.{Kept, Said, Unjudged, Judged, Told}

abbrev pub kept_of : Book → Kept
kept_of b = record { lower = load_of b.lower; upper = load_of b.upper; count = b.count }

abbrev pub said_of : Result (Result Accepted Refusal) BookError → Said
said_of (Ok v) = Judged (verdict_of v)
said_of (Err e) = Unjudged

abbrev pub told_of : Reply → Told
told_of r = record { said = said_of r.said; kept = kept_of r.book }

-- "48, place 0"
abbrev pub error_number : BookError → ℕ
error_number NotTaken = 48

-- that, or the claim's own number and place
abbrev pub said_number : Said → ℕ
said_number Unjudged = 48
said_number (Judged v) = number_of v

abbrev pub said_place : Said → ℕ
said_place Unjudged = 0
said_place (Judged v) = place_of v
