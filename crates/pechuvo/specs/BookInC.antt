-- A book as C has it (document 02, N12): the bounds and the count of each book, and the number, the place and the book
-- of each answer.
use Rattle.std.specs.Prelude.{cond, ℕ, eqb, ℤ}
use Rattle.scope.specs.Cases.Load.{Load, Absent, Exact}
use Rattle.scope.specs.Cases.Verdict.{Accepted, Refused}
use Rattle.numbers.specs.NumbersAnswer.{there, numerator, denominator}
use Rattle.book.specs.Book.{Kept, Said, Unjudged, Judged, Told}
use Rattle.book.specs.Answer.{said_number, said_place}
use Rattle.pechuvo.specs.declared.books.BookForC.{BookForC}
use Rattle.pechuvo.specs.declared.books.BookAnswer.{BookAnswer}

-- 0 first: the book doesn't have the bound yet; any other number: the fraction
unfoldable pub bound_of : ℕ → ℤ → ℤ → Load
bound_of there num den = cond (eqb there 0) Absent (Exact num den)

abbrev pub book_of : BookForC → Kept
book_of c = record {
  lower = bound_of c.lower_there c.lower_numerator c.lower_denominator;
  upper = bound_of c.upper_there c.upper_numerator c.upper_denominator;
  count = c.count;
}

-- 1 and the fraction, or three times 0
abbrev pub for_c : Kept → BookForC
for_c b = record {
  lower_there = there b.lower;
  upper_there = there b.upper;
  lower_numerator = numerator b.lower;
  lower_denominator = denominator b.lower;
  upper_numerator = numerator b.upper;
  upper_denominator = denominator b.upper;
  count = b.count;
}

-- "48, .. book unchanged", and "a refused claim leaves the book": then the very book c that was handed over; else the
-- one that follows
unfoldable pub told_book : BookForC → Said → Kept → BookForC
told_book c Unjudged b = c
told_book c (Judged (Refused number place)) b = c
told_book c (Judged (Accepted o carried allowed)) b = for_c b

-- "48, place 0", or the claim's own number and place; and the book that is told
abbrev pub book_answer : BookForC → Told → BookAnswer
book_answer c t = record {
  number = said_number t.said;
  place = said_place t.said;
  book = told_book c t.said t.kept;
}
