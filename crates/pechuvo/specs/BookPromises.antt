-- What a caller of `pechuvo_book_ask` and `pechuvo_book_commit` may rely on (document 02, N12), by what they answer;
-- and after any calls, by the book that the last one left. Each is proved of every call (`proofs/BookPromises.antt`),
-- applied to document 01's sheet and its neighbours (`proofs/BookApplied.antt`) and to one sheet that has all that
-- document 02 adds to a mesh (`MixedCalls.antt`).
use Rattle.std.specs.Prelude.{◌≡◌, ◌↔◌, ◌⊎◌, ◌≢◌, List, [], ◌∷◌, ◌++◌, map, ℕ, ℤ}
use Rattle.scope.specs.Mesh.{ListsDirection}
use Rattle.numbers.specs.TablePromises.{TableReturned}
use Rattle.reader.specs.File.{file_width}
use Rattle.judge.specs.Judge.{files_verdict}
use Rattle.judge.specs.Handed.{Handed, files}
use Rattle.book.specs.Book.{empty_book, followed, asked, committed}
use Rattle.book.specs.History.{AskOrCommit, asks, commits, Shut, committed_after, BestBook, judged_call, EachOnMesh, InOrder}
use Rattle.pechuvo.specs.declared.books.BookForC.{BookForC}
use Rattle.pechuvo.specs.declared.books.BookAnswer.{BookAnswer}
use Rattle.pechuvo.specs.BookInC.{book_of, book_answer}
use Rattle.pechuvo.specs.Promises.{mesh_in, table_in, mesh_with, claim_in}

-- the contracts of `pechuvo_book_ask` and `pechuvo_book_commit`
abbrev pub AskAnswers : BookForC → (mesh table claim : List ℕ) → BookAnswer → Type 0
AskAnswers c mesh table claim r = r ≡ book_answer c (asked (book_of c) (files_verdict file_width mesh table claim))

abbrev pub CommitAnswers : BookForC → ℕ → (mesh table claim : List ℕ) → BookAnswer → Type 0
CommitAnswers c count mesh table claim r =
    r ≡ book_answer c (committed (book_of c) count (files_verdict file_width mesh table claim))

-- ---- one call

-- what either answers, where Before is when it is "Refused before all else"
pub record BookCall (c : BookForC) (mesh table claim : List ℕ) (Before : Type 0) (r : BookAnswer) : Type 0 where
  -- "48, place 0", exactly then
  pub exactly : (r.number ≡ 48) ↔ Before
  pub place_0 : r.number ≡ 48 → r.place ≡ 0
  -- else the number and the place that the check of the three files returns
  pub returns : r.number ≢ 48
      → TableReturned (table_in table) (mesh_in mesh) (claim_in (mesh_with mesh table) claim) r.number r.place
  -- an accepted claim is followed; "a refused claim leaves the book", and so does 48, number by number
  pub follows : r.number ≡ 0 → book_of r.book ≡ followed (book_of c) (files_verdict file_width mesh table claim)
  pub leaves : r.number ≢ 0 → r.book ≡ c
  -- "A book takes no carried load from such a mesh", one that lists a soil by direction (document 02, N14)
  pub no_load : ListsDirection (mesh_with mesh table) → (book_of r.book).lower ≡ (book_of c).lower

-- "for a commit or ask when the count is already 1,000,000 or more or a bound in the book has a denominator not above
-- 0"; of a commit also "if the named count differs"
abbrev pub BookAsked : BookForC → (mesh table claim : List ℕ) → BookAnswer → Type 0
BookAsked c mesh table claim r = AskAnswers c mesh table claim r → BookCall c mesh table claim (Shut (book_of c)) r

abbrev pub BookCommitted : BookForC → ℕ → (mesh table claim : List ℕ) → BookAnswer → Type 0
BookCommitted c count mesh table claim r = CommitAnswers c count mesh table claim r
    → BookCall c mesh table claim ((count ≢ c.count) ⊎ Shut (book_of c)) r

-- "An ask and its commit agree if no commit came between": where the book is the one that the ask was given
abbrev pub AskThenCommit : BookForC → (mesh table claim : List ℕ) → (r s : BookAnswer) → Type 0
AskThenCommit c mesh table claim r s = AskAnswers c mesh table claim r → CommitAnswers c c.count mesh table claim s
    → r ≡ s

-- ---- "any calls .., from an empty book and each given the book that the last one left"

-- these calls were made, in this order, and the last one left c; an ask changes nothing
pub data Made : List (AskOrCommit Handed) → BookForC → Type 0 where
  begun : (c : BookForC) → book_of c ≡ empty_book → Made [] c
  then_ask : {ks : List (AskOrCommit Handed)} {c : BookForC} → Made ks c → (mesh table claim : List ℕ) (r : BookAnswer)
      → AskAnswers c mesh table claim r → Made (ks ++ (asks (files mesh table claim) ∷ [])) c
  then_commit : {ks : List (AskOrCommit Handed)} {c : BookForC} → Made ks c → (count : ℕ) (mesh table claim : List ℕ)
      (r : BookAnswer) → CommitAnswers c count mesh table claim r
      → Made (ks ++ (commits count (files mesh table claim) ∷ [])) r.book

-- "the book equals the best of the accepted claims committed, compared as exact fractions"; on the same mesh its two
-- bounds are a bracket
pub record KeepsTheBest (ks : List (AskOrCommit Handed)) (c : BookForC) : Type 0 where
  pub best : BestBook (book_of c) (committed_after 0 (map judged_call ks))
  pub bracket : (d : List ℤ) → EachOnMesh d ks → InOrder (book_of c).lower (book_of c).upper

abbrev pub AfterAnyCalls : List (AskOrCommit Handed) → BookForC → Type 0
AfterAnyCalls ks c = Made ks c → KeepsTheBest ks c
