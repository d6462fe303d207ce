-- The promises of a book applied to document 01's sheet and its neighbours, with a borehole table and without: antt
-- computes what is answered, and the promise says the rest.
use mathlib.Core.Path.{◌≡◌, refl}
use mathlib.Core.Logic.{inl, inr}
use mathlib.Core.List.{List, [], ◌∷◌}
use Prim.Native.Nat.{ℕ}
use native.Mathlib.Omega.{arith}
use lib.IntN.{pos}
use lib.Signed.{≤ℤ_refl}
use Rattle.scope.specs.Mesh.{ListsDirection}
use Rattle.judge.specs.Judge.{files_verdict}
use Rattle.judge.specs.Handed.{Handed, files}
use Rattle.reader.specs.File.{file_width}
use Rattle.book.specs.Book.{proper, takes_ask, takes_commit, better, moved, followed, unjudged, judged, asked}
use Rattle.book.specs.Book.{committed}
use Rattle.book.specs.History.{AskOrCommit, asks, commits}
use Rattle.pechuvo.specs.declared.books.BookForC.{BookForC}
use Rattle.pechuvo.specs.declared.books.BookAnswer.{BookAnswer}
use Rattle.pechuvo.specs.BookInC.{bound_of, book_of, told_book}
use Rattle.pechuvo.specs.SheetsBeds.{bedded_block}
use Rattle.pechuvo.specs.Promises.{mesh_with}
use Rattle.pechuvo.specs.BookPromises.{AskAnswers, CommitAnswers, Made, begun, then_ask, then_commit, KeepsTheBest}
use Rattle.pechuvo.proofs.BookPromises.{book_asked, book_committed, ask_then_commit, after_any_calls}
use Rattle.pechuvo.proofs.PromisesApplied.{at}
use Rattle.pechuvo.proofs.TableApplied.{opened, with_table}

abbrev empty_for_c : BookForC
empty_for_c = record {
  lower_there = 0;
  upper_there = 0;
  lower_numerator = pos 0;
  lower_denominator = pos 0;
  upper_numerator = pos 0;
  upper_denominator = pos 0;
  count = 0;
}

-- 20 on 600/30
abbrev sheet_book : ℕ → BookForC
sheet_book count = record {
  lower_there = 1;
  upper_there = 1;
  lower_numerator = pos 20;
  lower_denominator = pos 1;
  upper_numerator = pos 600;
  upper_denominator = pos 30;
  count = count;
}

-- for proofs by computation: the definitions of a book too
unfoldable with_book : Unit {0}
unfolding opened proper takes_ask takes_commit better moved followed unjudged judged asked committed bound_of told_book
with_book = tt

-- from an empty book the sheet's bounds are told, and the ask counts
pub sheet_asked : AskAnswers empty_for_c (at 0).mesh [] (at 0).claim
    (record { number = 0; place = 0; book = sheet_book 1 })
unfolding with_book
sheet_asked = refl

-- its commit leaves the book that the ask told
pub sheet_committed : {r : BookAnswer} → CommitAnswers empty_for_c 0 (at 0).mesh [] (at 0).claim r
    → ◌≡◌ {A = BookAnswer} (record { number = 0; place = 0; book = sheet_book 1 }) r
sheet_committed h = ask_then_commit empty_for_c (at 0).mesh [] (at 0).claim sheet_asked h

-- then l 19, with the same limit, moves neither bound and counts
pub nineteen_committed : CommitAnswers (sheet_book 1) 1 (at 1).mesh [] (at 1).claim
    (record { number = 0; place = 0; book = sheet_book 2 })
unfolding with_book
nineteen_committed = refl

pub nineteen_followed : book_of (sheet_book 2) ≡ followed (book_of (sheet_book 1))
    (files_verdict file_width (at 1).mesh [] (at 1).claim)
nineteen_followed = (book_committed (sheet_book 1) (at 1).mesh [] (at 1).claim 1 nineteen_committed).follows refl

-- the -30 as -29 is refused and leaves the book
pub refused_committed : CommitAnswers (sheet_book 2) 2 (at 4).mesh [] (at 4).claim
    (record { number = 32; place = 7; book = sheet_book 2 })
unfolding with_book
refused_committed = refl

-- the sheet whose soil comes from a table ties with both bounds and counts; the table with a gap is refused
pub tabled_committed : CommitAnswers (sheet_book 2) 2 (with_table 0).mesh (with_table 0).table (with_table 0).claim
    (record { number = 0; place = 0; book = sheet_book 3 })
unfolding with_book
tabled_committed = refl

pub gap_asked : AskAnswers (sheet_book 3) (with_table 1).mesh (with_table 1).table (with_table 1).claim
    (record { number = 45; place = 4; book = sheet_book 3 })
unfolding with_book
gap_asked = refl

-- these calls one after another
unfoldable pub calls : List (AskOrCommit Handed)
calls =
    asks (files (at 0).mesh [] (at 0).claim)
    ∷ commits 0 (files (at 0).mesh [] (at 0).claim)
    ∷ commits 1 (files (at 1).mesh [] (at 1).claim)
    ∷ commits 2 (files (at 4).mesh [] (at 4).claim)
    ∷ commits 2 (files (with_table 0).mesh (with_table 0).table (with_table 0).claim)
    ∷ []

empty_book : Made [] empty_for_c
unfolding bound_of
empty_book = begun empty_for_c refl

sheet_first : CommitAnswers empty_for_c 0 (at 0).mesh [] (at 0).claim
    (record { number = 0; place = 0; book = sheet_book 1 })
unfolding with_book
sheet_first = refl

pub week : KeepsTheBest calls (sheet_book 3)
unfolding calls
week =
    let first = then_commit (then_ask empty_book (at 0).mesh [] (at 0).claim _ sheet_asked) 0 (at 0).mesh []
    (at 0).claim _ sheet_first in
    let second = then_commit first 1 (at 1).mesh [] (at 1).claim _ nineteen_committed in
    let third = then_commit second 2 (at 4).mesh [] (at 4).claim _ refused_committed in
    after_any_calls (then_commit third 2 (with_table 0).mesh (with_table 0).table
    (with_table 0).claim _ tabled_committed)

-- the last commit that a book takes leaves it full
pub last_committed : CommitAnswers (sheet_book 999999) 999999 (at 1).mesh [] (at 1).claim
    (record { number = 0; place = 0; book = sheet_book 1000000 })
unfolding with_book
last_committed = refl

-- a book with these two bounds
abbrev bounds : (lower lower_over upper upper_over count : ℕ) → BookForC
bounds lower lower_over upper upper_over count = record {
  lower_there = 1;
  upper_there = 1;
  lower_numerator = pos lower;
  lower_denominator = pos lower_over;
  upper_numerator = pos upper;
  upper_denominator = pos upper_over;
  count = count;
}

-- the sheet's 20/1 and 600/30 move 39/2 and 25/1, whose numerators are higher and lower, and neither 40/2 nor 20/1,
-- which equal them
pub both_moved : CommitAnswers (bounds 39 2 25 1 7) 7 (at 0).mesh [] (at 0).claim
    (record { number = 0; place = 0; book = bounds 20 1 600 30 8 })
unfolding with_book
both_moved = refl

pub neither_moved : CommitAnswers (bounds 40 2 20 1 7) 7 (at 0).mesh [] (at 0).claim
    (record { number = 0; place = 0; book = bounds 40 2 20 1 8 })
unfolding with_book
neither_moved = refl

-- a bound is there where its first number is any but 0
pub there_as_2 : AskAnswers
    (record {
      lower_there = 2;
      upper_there = 0;
      lower_numerator = pos 21;
      lower_denominator = pos 1;
      upper_numerator =
          pos 0;
      upper_denominator = pos 0;
      count = 7;
    }) (at 0).mesh [] (at 0).claim
    (record { number = 0; place = 0; book = bounds 21 1 600 30 8 })
unfolding with_book
there_as_2 = refl

-- a commit that names the count before: 48, since the named count differs
pub stale : {r : BookAnswer} → CommitAnswers (sheet_book 1) 0 (at 1).mesh [] (at 1).claim r → r.number ≡ 48
stale h = (book_committed (sheet_book 1) (at 1).mesh [] (at 1).claim 0 h).exactly.1 (inl (λ e. omega arith))

-- a bound over 0: 48 of an ask
abbrev over_zero : BookForC
over_zero = record {
  lower_there = 1;
  upper_there = 0;
  lower_numerator = pos 20;
  lower_denominator = pos 0;
  upper_numerator = pos 0;
  upper_denominator = pos 0;
  count = 1;
}

pub no_denominator : {r : BookAnswer} → AskAnswers over_zero (at 0).mesh [] (at 0).claim r → r.number ≡ 48
unfolding bound_of
no_denominator h = (book_asked over_zero (at 0).mesh [] (at 0).claim h).exactly.1 (inr (inl (≤ℤ_refl (pos 0))))

-- the upper bound over 0
abbrev upper_over_zero : BookForC
upper_over_zero = record {
  lower_there = 0;
  upper_there = 1;
  lower_numerator = pos 0;
  lower_denominator = pos 0;
  upper_numerator = pos 20;
  upper_denominator = pos 0;
  count = 1;
}

pub no_upper_denominator : AskAnswers upper_over_zero (at 0).mesh [] (at 0).claim
    (record { number = 48; place = 0; book = upper_over_zero })
unfolding with_book
no_upper_denominator = refl

-- a full book: 48 of an ask
pub full_book : {r : BookAnswer} → AskAnswers (sheet_book 1000000) (at 0).mesh [] (at 0).claim r → r.number ≡ 48
full_book h = (book_asked (sheet_book 1000000) (at 0).mesh [] (at 0).claim h).exactly.1 (inl (omega arith))

-- bedded clay, whose load is not told: the book that an ask tells has the lower bound that it had
bedded_listed : ListsDirection (mesh_with bedded_block.mesh [])
unfolding opened bedded_block
bedded_listed = (0, omega arith, refl)

pub no_load_of_beds : {r : BookAnswer} → AskAnswers (sheet_book 1) bedded_block.mesh [] bedded_block.claim r
    → (book_of r.book).lower ≡ (book_of (sheet_book 1)).lower
no_load_of_beds h = (book_asked (sheet_book 1) bedded_block.mesh [] bedded_block.claim h).no_load bedded_listed
