-- The promises of a book hold of every call: either test of the book decides, and no verdict has the number 48. After
-- any calls the book that C has is the one of `book_after`, call by call.
use mathlib.Core.Path.{◌≡◌, refl, sym, ◌∙◌, ap, subst}
use mathlib.Core.Logic.{◌⊎◌, ◌≢◌}
use mathlib.Core.Bool.{Bool, true, false, cond, true≢false}
use mathlib.Core.List.{List, []}
use Prim.Native.Nat.{ℕ}
use native.Mathlib.Omega.{arith}
use Rattle.scope.specs.Cases.Load.{Load, Absent, Exact}
use Rattle.scope.specs.Cases.Verdict.{Verdict, Accepted, Refused}
use Rattle.scope.specs.Answer.{number_of, place_of}
use Rattle.scope.specs.Mesh.{ListsDirection}
use Rattle.numbers.specs.NumbersAnswer.{there, numerator, denominator}
use Rattle.reader.specs.File.{file_width}
use Rattle.judge.specs.Judge.{files_verdict}
use Rattle.judge.specs.Handed.{Handed, files, mesh_of, handed_verdict}
use Rattle.book.specs.Book.{Kept, Told, Judged, takes_ask, takes_commit, empty_book, followed, unjudged, judged}
use Rattle.book.specs.Book.{asked, committed}
use Rattle.book.specs.History.{AskOrCommit, asks, commits, left, left_by_all, Shut, InOrder, judged_call, book_after}
use Rattle.book.proofs.HistoryLaws.{not_taken, shut_not_taken, not_committed, shut_not_committed}
use Rattle.book.proofs.HistoryLaws.{ask_and_commit_agree, one_call_more, the_book_is_the_best}
use Rattle.book.proofs.BracketLaws.{the_book_is_a_bracket}
use Rattle.book.proofs.DirectionLaws.{no_load_by_direction}
use Rattle.pechuvo.specs.declared.books.BookForC.{BookForC}
use Rattle.pechuvo.specs.declared.books.BookAnswer.{BookAnswer}
use Rattle.pechuvo.specs.BookInC.{bound_of, book_of, for_c, told_book, book_answer}
use Rattle.pechuvo.specs.Promises.{mesh_in, table_in, mesh_with, claim_in}
use Rattle.pechuvo.specs.BookPromises.{BookCall, BookAsked, BookCommitted, AskThenCommit, Made, begun, then_ask}
use Rattle.pechuvo.specs.BookPromises.{then_commit, AfterAnyCalls}
use Rattle.pechuvo.proofs.VerdictFits.{not_48}

-- ---- a book that was handed back is the one that C hands over the next time

bound_back : (x : Load) → bound_of (there x) (numerator x) (denominator x) ≡ x
unfolding bound_of
bound_back Absent = refl
bound_back (Exact num den) = refl

handed_back : (b : Kept) → book_of (for_c b) ≡ b
handed_back b = λ i. record { lower = bound_back b.lower i; upper = bound_back b.upper i; count = b.count }

-- the book that is told is the one that is kept, and at a refusal the one that was handed over
told_back : (c : BookForC) (v : Verdict) → book_of (told_book c (Judged v) (followed (book_of c) v))
    ≡ followed (book_of c) v
unfolding told_book followed
told_back c (Accepted o x y) = handed_back (followed (book_of c) (Accepted o x y))
told_back c (Refused k p) = refl

told_same : (c : BookForC) (b : Kept) (v : Verdict) → number_of v ≢ 0 → told_book c (Judged v) b ≡ c
unfolding told_book
told_same c b (Accepted o x y) h = absurd (h refl)
told_same c b (Refused k p) h = refl

told_kept : (c : BookForC) (v : Verdict) (t : Bool)
    → (let r : Told = cond t (judged (book_of c) v) (unjudged (book_of c)) in book_of (told_book c r.said r.kept))
    ≡ (cond t (judged (book_of c) v) (unjudged (book_of c))).kept
unfolding told_book judged unjudged
told_kept c v true = told_back c v
told_kept c v false = refl

-- ---- one call

module _ (c : BookForC) (mesh table claim : List ℕ) where
  abbrev v : Verdict
  v = files_verdict file_width mesh table claim

  abbrev b : Kept
  b = book_of c

  no_48 : number_of v ≢ 48
  unfolding files_verdict
  no_48 = not_48 (table_in table) (mesh_in mesh) (claim_in (mesh_with mesh table) claim)

  -- the book that would follow has the lower bound of this one, where the mesh lists a soil by direction
  none_taken : ListsDirection (mesh_with mesh table) → (followed b v).lower ≡ b.lower
  unfolding mesh_of handed_verdict
  none_taken = no_load_by_direction b (files mesh table claim)

  -- an answer of the test t, which fails exactly when the call is refused before all else
  book_call : (Before : Type 0) (t : Bool) → (t ≡ false → Before) → (Before → t ≡ false) → {r : BookAnswer}
      → r ≡ book_answer c (cond {A = Told} t (judged b v) (unjudged b)) → BookCall c mesh table claim Before r
  unfolding judged unjudged files_verdict told_book
  book_call Before true to from {r} e =
      let number : r.number ≡ number_of v = ap (λ (x : BookAnswer). x.number) e in
      let place : r.place ≡ place_of v = ap (λ (x : BookAnswer). x.place) e in
      let book : book_of r.book ≡ followed b v = ap (λ (x : BookAnswer). book_of x.book) e ∙ told_back c v in
      record {
        exactly = (λ h. absurd (no_48 (sym number ∙ h)), λ h. absurd (true≢false (from h)));
        place_0 = λ h. absurd (no_48 (sym number ∙ h));
        returns = λ h. record { number_is = number; place_is = place };
        follows = λ h. book;
        leaves = λ h. ap (λ (x : BookAnswer). x.book) e ∙ told_same c (followed b v) v (λ z. h (number ∙ z));
        no_load = λ h. ap (λ (x : Kept). x.lower) book ∙ none_taken h;
      }
  book_call Before false to from {r} e =
      let number : r.number ≡ 48 = ap (λ (x : BookAnswer). x.number) e in
      record {
        exactly = (λ h. to refl, λ h. number);
        place_0 = λ h. ap (λ (x : BookAnswer). x.place) e;
        returns = λ h. absurd (h number);
        follows = λ h. absurd (let z : ◌≡◌ {A = ℕ} 0 48 = sym h ∙ number in omega arith);
        leaves = λ h. ap (λ (x : BookAnswer). x.book) e;
        no_load = λ h. ap (λ (x : BookAnswer). (book_of x.book).lower) e;
      }

  pub book_asked : {r : BookAnswer} → BookAsked c mesh table claim r
  unfolding asked
  book_asked e = book_call (Shut b) (takes_ask b) (not_taken b) (shut_not_taken b) e

  pub book_committed : (count : ℕ) {r : BookAnswer} → BookCommitted c count mesh table claim r
  unfolding committed
  book_committed count e = book_call ((count ≢ c.count) ⊎ Shut b) (takes_commit b count) (not_committed b count)
      (shut_not_committed b count) e

  pub ask_then_commit : {r s : BookAnswer} → AskThenCommit c mesh table claim r s
  unfolding left_by_all
  ask_then_commit e f = e ∙ ap (book_answer c) (sym (ask_and_commit_agree b v [] tt)) ∙ sym f

-- ---- any calls

made_book : {ks : List (AskOrCommit Handed)} {c : BookForC} → Made ks c → book_of c ≡ book_after ks
unfolding left left_by_all judged_call handed_verdict committed
made_book (begun c e) = e
made_book (then_ask {ks = ks} made mesh table claim r e) = made_book made
    ∙ sym (one_call_more empty_book ks (asks (files mesh table claim)))
made_book (then_commit {ks = ks} {c = c} made count mesh table claim r e) =
    let v : Verdict = files_verdict file_width mesh table claim in
    ap (λ (x : BookAnswer). book_of x.book) e
    ∙ told_kept c v (takes_commit (book_of c) count)
    ∙ ap (λ b. (committed b count v).kept) (made_book made)
    ∙ sym (one_call_more empty_book ks (commits count (files mesh table claim)))

pub after_any_calls : {ks : List (AskOrCommit Handed)} {c : BookForC} → AfterAnyCalls ks c
after_any_calls {ks} {c} made =
    let same : book_after ks ≡ book_of c = sym (made_book made) in
    record {
      best = rw same at (the_book_is_the_best ks);
      bracket = λ d on_mesh. subst (λ (b : Kept). InOrder b.lower b.upper) same (the_book_is_a_bracket d ks on_mesh);
    }
