-- A week of calls (document 02, N12): what holds of a book after any of them, said without a book where it can be.
use Rattle.std.specs.Prelude.{◌≡◌, ◌↔◌, ◌⊎◌, ◌≢◌, ◌&&◌, cond, List, [], ◌∷◌, ◌++◌, map, ℕ, suc, ◌≤◌, ltb, eqb, ℤ, pos}
use Rattle.std.specs.Prelude.{◌≤ℤ◌, length}
use Rattle.integer.specs.Fraction.{Frac, ◌over◌, ◌≤ᶠ◌}
use Rattle.scope.specs.declared.Place.{Place}
use Rattle.scope.specs.Cases.Load.{Load, Absent, Exact}
use Rattle.scope.specs.Cases.Verdict.{Verdict, Accepted, Refused}
use Rattle.integer.specs.Members.{◌∈◌}
use Rattle.scope.specs.Mesh.{ListsDirection}
use Rattle.scope.specs.Parts.{SameRows}
use Rattle.judge.specs.Handed.{Handed, mesh_of, handed_verdict}
use Rattle.book.specs.Book.{Kept, Unjudged, most_commits, followed, asked, committed, empty_book}

-- ---- calls, each given the book that the last one left

-- an ask, and a commit that names a count: of a verdict, or of what is handed over
pub data AskOrCommit (A : Type 0) : Type 0 where
  asks : A → AskOrCommit A
  commits : ℕ → A → AskOrCommit A

-- the book that a call leaves: an ask changes nothing
unfoldable pub left : Kept → AskOrCommit Verdict → Kept
left b (asks v) = b
left b (commits count v) = (committed b count v).kept

unfoldable pub left_by_all : Kept → List (AskOrCommit Verdict) → Kept
left_by_all b [] = b
left_by_all b (k ∷ ks) = left_by_all (left b k) ks

-- ---- one call

-- "An ask and its commit agree if no commit came between": after an ask, and then asks alone, a commit that names the
-- count that the ask saw answers what the ask told
abbrev pub OnlyAsks : List (AskOrCommit Verdict) → Type 0
OnlyAsks [] = Unit {0}
OnlyAsks (asks v ∷ ks) = OnlyAsks ks
OnlyAsks (commits count v ∷ ks) = ⊥

abbrev pub AskAndCommitAgree : Type 0
AskAndCommitAgree = (b : Kept) (v : Verdict) (ks : List (AskOrCommit Verdict)) → OnlyAsks ks
    → committed (left_by_all b ks) b.count v ≡ asked b v

-- "a refused claim leaves the book"
pub record RefusedLeaves (b : Kept) (number : ℕ) (place : Place) : Type 0 where
  pub ask : (asked b (Refused number place)).kept ≡ b
  pub commit : (count : ℕ) → (committed b count (Refused number place)).kept ≡ b

-- "when the count is already 1,000,000 or more or a bound in the book has a denominator not above 0"
abbrev pub NotAbove0 : Load → Type 0
NotAbove0 Absent = ⊥
NotAbove0 (Exact num den) = den ≤ℤ pos 0

abbrev pub Shut : Kept → Type 0
Shut b = (most_commits ≤ b.count) ⊎ (NotAbove0 b.lower ⊎ NotAbove0 b.upper)

-- "Refused before all else: 48, place 0, book unchanged and claim unjudged, if the named count differs, or for a
-- commit or ask when ..", whatever the claim's verdict
pub record UnjudgedExactly (b : Kept) (v : Verdict) : Type 0 where
  pub ask : ((asked b v).said ≡ Unjudged) ↔ Shut b
  pub commit : (count : ℕ) → ((committed b count v).said ≡ Unjudged) ↔ ((count ≢ b.count) ⊎ Shut b)
  pub ask_unchanged : Shut b → (asked b v).kept ≡ b
  pub commit_unchanged : (count : ℕ) → (count ≢ b.count) ⊎ Shut b → (committed b count v).kept ≡ b

-- ---- the accepted claims committed, said without a book

pub record Loads : Type 0 where
  pub carried : Load
  pub allowed : Load

-- of these calls, after k accepted claims were committed: a commit of an accepted claim counts where it names how many
-- came before it, and these are below 1,000,000
unfoldable pub committed_after : ℕ → List (AskOrCommit Verdict) → List Loads
committed_after k [] = []
committed_after k (asks v ∷ ks) = committed_after k ks
committed_after k (commits count (Refused number place) ∷ ks) = committed_after k ks
committed_after k (commits count (Accepted o carried allowed) ∷ ks) =
    cond (eqb count k && ltb k most_commits)
    (record { carried = carried; allowed = allowed } ∷ committed_after (suc k) ks) (committed_after k ks)

-- ---- the best of them, compared as exact fractions

-- x is no better than b, where R f g says that the fraction f is no better than g
abbrev pub NoBetter : (Frac → Frac → Type 0) → Load → Load → Type 0
NoBetter R Absent b = Unit {0}
NoBetter R (Exact n d) Absent = ⊥
NoBetter R (Exact n d) (Exact m e) = R (n over d) (m over e)

-- b stands in the list, and each before it is worse
pub record FirstOf (R : Frac → Frac → Type 0) (l : List Load) (b : Load) : Type 0 where
  pub earlier : List Load
  pub later : List Load
  pub listed : l ≡ earlier ++ (b ∷ later)
  pub worse : (x : Load) → x ∈ earlier → ¬ NoBetter R b x

-- none of the list is better than b, which is the first such or, where the list has no bound, absent
pub record Best (R : Frac → Frac → Type 0) (l : List Load) (b : Load) : Type 0 where
  pub no_better : (x : Load) → x ∈ l → NoBetter R x b
  pub first : (b ≡ Absent) ⊎ FirstOf R l b

-- "the highest carried load, the lowest limit and a count of commits" of accepted claims
pub record BestBook (b : Kept) (claims : List Loads) : Type 0 where
  pub count : b.count ≡ length claims
  pub highest : Best (λ f g. f ≤ᶠ g) (map (λ c. c.carried) claims) b.lower
  pub lowest : Best (λ f g. g ≤ᶠ f) (map (λ c. c.allowed) claims) b.upper

-- ---- of files and of numbers handed over, each with its table

unfoldable pub judged_call : AskOrCommit Handed → AskOrCommit Verdict
judged_call (asks a) = asks (handed_verdict a)
judged_call (commits count a) = commits count (handed_verdict a)

abbrev pub book_after : List (AskOrCommit Handed) → Kept
book_after ks = left_by_all empty_book (map judged_call ks)

-- "After any calls .., from an empty book and each given the book that the last one left, the book equals the best of
-- the accepted claims committed, compared as exact fractions."
abbrev pub TheBookIsTheBest : Type 0
TheBookIsTheBest = (ks : List (AskOrCommit Handed)) → BestBook (book_after ks) (committed_after 0 (map judged_call ks))

-- "A book takes no carried load from such a mesh" (document 02, N14): whatever is handed over with a mesh that lists a
-- soil by direction leaves the lower bound
abbrev pub NoLoadByDirection : Type 0
NoLoadByDirection = (b : Kept) (a : Handed) → ListsDirection (mesh_of a)
    → (followed b (handed_verdict a)).lower ≡ b.lower

-- "any calls on the same mesh": each on rows that are those of d
abbrev pub handed_of : AskOrCommit Handed → Handed
handed_of (asks a) = a
handed_of (commits count a) = a

abbrev pub EachOnMesh : List ℤ → List (AskOrCommit Handed) → Type 0
EachOnMesh d ks = (k : AskOrCommit Handed) → k ∈ ks → SameRows (mesh_of (handed_of k)) d

-- then the two bounds are a bracket
abbrev pub InOrder : Load → Load → Type 0
InOrder Absent upper = Unit {0}
InOrder (Exact n d) Absent = Unit {0}
InOrder (Exact n d) (Exact m e) = n over d ≤ᶠ m over e

abbrev pub TheBookIsABracket : Type 0
TheBookIsABracket = (d : List ℤ) (ks : List (AskOrCommit Handed)) → EachOnMesh d ks
    → InOrder (book_after ks).lower (book_after ks).upper
