-- A list of 256 numbers is a table of entries: by one test that is computed over the whole list.
use mathlib.Core.Path.{◌≡◌, subst}
use mathlib.Core.Bool.{Bool, true, ◌&&◌}
use mathlib.Core.List.{List, [], ◌∷◌}
use Prim.Native.Nat.{ℕ, zero, suc, ◌+◌, ◌/◌, ◌%◌, ◌^◌, ◌<◌}
use native.Mathlib.Nat.{add-zero, zero-add, add-suc, suc-add}
use native.Mathlib.Omega.{arith}
use lib.Dec.{T, eqb, eqb→eq}
use lib.ListN.{length, get_or}
use mir.Facts.{and_yes}
use Rattle.integer.specs.Decimal.{is_digit}
use Rattle.reader.specs.OnePass.{Phase, bad, blank, sign, nought, up, down, turn, digit_of}
use Rattle.reader.specs.ColumnState.{shift, Entry, Table}

-- ---- a test at each number of a list and its place, counted from i

every : (ℕ → ℕ → Bool) → ℕ → List ℕ → Bool
every f i [] = true
every f i (x ∷ xs) = f i x && every f (suc i) xs

every_from : (f : ℕ → ℕ → Bool) (xs : List ℕ) (i : ℕ) → T (every f i xs) → (k : ℕ) → k < length xs
    → T (f (i + k) (get_or xs k 0))
unfolding every
every_from f [] i t k h = absurd (omega arith)
every_from f (x ∷ xs) i t zero h = rw (add-zero i) (and_yes (f i x) (every f (suc i) xs) t).0
every_from f (x ∷ xs) i t (suc k) h =
    rw (add-suc i k, ← suc-add i k) (every_from f xs (suc i) (and_yes (f i x) (every f (suc i) xs) t).1 k (omega arith))

-- ---- an entry

phases : List Phase
phases = bad ∷ blank ∷ sign ∷ nought ∷ up ∷ down ∷ []

turns_test : ℕ → ℕ → List Phase → Bool
turns_test b e [] = true
turns_test b e (p ∷ ps) = eqb (e / 2 ^ shift p % 64) (shift (turn p b)) && turns_test b e ps

entry_test : ℕ → ℕ → Bool
entry_test b e = eqb (e / 2 ^ 60) (digit_of b) && turns_test b e phases

module _ (b e : ℕ) where
  first_turns : (p : Phase) (ps : List Phase) → T (turns_test b e (p ∷ ps)) → e / 2 ^ shift p % 64 ≡ shift (turn p b)
  unfolding turns_test
  first_turns p ps t =
      eqb→eq (e / 2 ^ shift p % 64) (shift (turn p b))
      (and_yes (eqb (e / 2 ^ shift p % 64) (shift (turn p b))) (turns_test b e ps) t).0

  rest_turns : (p : Phase) (ps : List Phase) → T (turns_test b e (p ∷ ps)) → T (turns_test b e ps)
  unfolding turns_test
  rest_turns p ps t = (and_yes (eqb (e / 2 ^ shift p % 64) (shift (turn p b))) (turns_test b e ps) t).1

  turns_all : T (turns_test b e phases) → (p : Phase) → e / 2 ^ shift p % 64 ≡ shift (turn p b)
  unfolding phases
  turns_all t bad = first_turns bad _ t
  turns_all t blank = first_turns blank _ (rest_turns bad _ t)
  turns_all t sign = first_turns sign _ (rest_turns blank _ (rest_turns bad _ t))
  turns_all t nought = first_turns nought _ (rest_turns sign _ (rest_turns blank _ (rest_turns bad _ t)))
  turns_all t up = first_turns up _ (rest_turns nought _ (rest_turns sign _ (rest_turns blank _ (rest_turns bad _ t))))
  turns_all t down = first_turns down _
      (rest_turns up _ (rest_turns nought _ (rest_turns sign _ (rest_turns blank _ (rest_turns bad _ t)))))

  entry_means : T (entry_test b e) → Entry b e
  unfolding entry_test
  entry_means t =
      let (d, s) = and_yes (eqb (e / 2 ^ 60) (digit_of b)) (turns_test b e phases) t in
      record { turns = turns_all s; digit = eqb→eq (e / 2 ^ 60) (digit_of b) d }

-- ---- the table

unfoldable pub table_test : List ℕ → Bool
unfolding every entry_test turns_test phases turn digit_of shift is_digit
table_test t = eqb (length t) 256 && every entry_test 0 t

pub table_means : (t : List ℕ) → T (table_test t) → Table t
unfolding table_test
table_means t h =
    let (n, q) = and_yes (eqb (length t) 256) (every entry_test 0 t) h in
    record {
      entry = λ b l. entry_means b (get_or t b 0)
          (subst (λ i. T (entry_test i (get_or t b 0))) (zero-add b)
          (every_from entry_test t 0 q b (rw (eqb→eq (length t) 256 n) l)));
    }
