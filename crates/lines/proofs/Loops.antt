-- Loops over tests, one law for each turn and each way out, and what the search for the lowest place says of checks:
-- by what it is to be the lowest.
use mathlib.Core.Path.{◌≡◌, refl, sym, ◌∙◌, ap, ap₂, subst}
use mathlib.Core.Logic.{◌⊎◌, inl, inr}
use mathlib.Core.Bool.{Bool, true, false, not, cond, ◌&&◌, and-false, and-true}
use mathlib.Core.List.{List, [], ◌∷◌}
use lib.ListN.{length, get_or}
use Rattle.std.specs.List.{list_all, HoldsAt, AllWithin}
use Rattle.std.specs.Option.{MatchOption, IfSome, IfNone}
use Rattle.std.proofs.Common.{Option, None, Some}
use Rattle.std.proofs.Math.Bool.{and_assoc}
use Prim.Native.Nat.{ℕ, zero, suc, ◌+◌, ◌≤◌, ◌<◌}
use native.Mathlib.Numerals.{add-one}
use native.Mathlib.Decide.{dec_lt}
use native.Mathlib.Omega.{arith}
use lib.Dec.{T, eqb}
use borrow.Author.Tests.{eq-eqb}
use Rattle.scope.specs.declared.Place.{Place}
use Rattle.scope.specs.Cases.Outcome.{Outcome}
use Rattle.scope.specs.Cases.Outcome.{Passed, Refused}
use Rattle.scope.specs.Checks.{demand, lowest, all_below}
use Rattle.scope.specs.Rows.{first_where}
use Rattle.scope.proofs.Checks.{below_suc, all_lowest, first_refused}
use Rattle.scope.proofs.Decides.{First, first_where_lem}
use Rattle.lines.specs.SearchContracts.{first_failing}

-- ---- tests in a row

pub all_more : (f : ℕ → Bool) {i : ℕ} → all_below f i ≡ true → f i ≡ true → all_below f (i + 1) ≡ true
unfolding all_below
all_more f {i} h k = subst (λ (n : ℕ). all_below f n ≡ true) (sym (add-one i)) (ap₂ ◌&&◌ h k)

pub all_fails : (f : ℕ → Bool) (n : ℕ) {i : ℕ} → i < n → f i ≡ false → all_below f n ≡ false
unfolding all_below
all_fails f zero l k = absurd (omega arith)
all_fails f (suc n) {i} l k = by (λ j. all_fails f n j k) (below_suc l)
  where
    by : (i < n → all_below f n ≡ false) → (i < n) ⊎ (i ≡ n) → (all_below f n && f n) ≡ false
    by lower (inl j) = ap (λ (b : Bool). b && f n) (lower j)
    by lower (inr e) = ap (λ (b : Bool). all_below f n && b) (ap f (sym e) ∙ k) ∙ and-false (all_below f n)

pub each_below : (f : ℕ → Bool) (n : ℕ) → all_below f n ≡ true → (i : ℕ) → i < n → f i ≡ true
each_below f n h i l = by (f i) refl
  where
    by : (b : Bool) → f i ≡ b → b ≡ true
    by true e = refl
    by false e = absurd (subst T (sym h ∙ all_fails f n l e) tt)

pub all_of_each : (f : ℕ → Bool) (n : ℕ) → ((i : ℕ) → i < n → f i ≡ true) → all_below f n ≡ true
unfolding all_below
all_of_each f zero h = refl
all_of_each f (suc n) h = ap₂ ◌&&◌ (all_of_each f n (λ i l. h i (omega arith))) (h n (omega arith))

pub all_cong : (f g : ℕ → Bool) (n : ℕ) → ((i : ℕ) → i < n → f i ≡ g i) → all_below f n ≡ all_below g n
unfolding all_below
all_cong f g zero h = refl
all_cong f g (suc n) h = ap₂ ◌&&◌ (all_cong f g n (λ i l. h i (omega arith))) (h n (omega arith))

all_front : (f : ℕ → Bool) (n : ℕ) → all_below f (suc n) ≡ f 0 && all_below (λ k. f (suc k)) n
unfolding all_below
all_front f zero = sym (and-true (f 0))
all_front f (suc n) = ap (λ (b : Bool). b && f (suc n)) (all_front f n)
    ∙ and_assoc (f 0) (all_below (λ k. f (suc k)) n) (f (suc n))

-- the test of each element
pub all_elements : {A : Type 0} (test : A → Bool) (s : List A) (d : A)
    → list_all test s ≡ all_below (λ k. test (get_or s k d)) (length s)
unfolding all_below
all_elements test [] d = refl
all_elements test (x ∷ s) d = ap (λ (b : Bool). test x && b) (all_elements test s d)
    ∙ sym (all_front (λ k. test (get_or (x ∷ s) k d)) (length s))

-- ---- the search for the lowest place at which a test fails

not_failing : (b : Bool) → T (not (not b)) → b ≡ true
not_failing true t = refl
not_failing false t = absurd t

failing : (b : Bool) → T (not b) → b ≡ false
failing true t = absurd t
failing false t = refl

-- the test holds at each place before r, and fails at r
module _ (holds : ℕ → Bool) (n : ℕ) {r : ℕ} (e : r ≡ first_failing holds n) where
  found : First (λ k. not (holds k)) n r
  found = subst (First (λ k. not (holds k)) n) (sym e) (first_where_lem (λ k. not (holds k)) n)

  pub found_within : r ≤ n
  found_within = found.fits

  pub holds_before : (k : ℕ) → k < r → holds k ≡ true
  holds_before k l = not_failing (holds k) (found.before k l)

  pub fails_there : r < n → holds r ≡ false
  fails_there l = failing (holds r) (found.passes l)

-- the same tests have the same search
pub search_cong : (f g : ℕ → Bool) (n : ℕ) → ((i : ℕ) → i < n → f i ≡ g i) → first_failing f n ≡ first_failing g n
unfolding first_where
search_cong f g zero h = refl
search_cong f g (suc n) h =
    ap₂ (λ (k : ℕ) (b : Bool). elim (eqb k n) [ true ↦ cond (not b) n (suc n) | false ↦ k ])
    (search_cong f g n (λ i l. h i (omega arith))) (h n (omega arith))

-- and such a place is the lowest
pub first_is : (holds : ℕ → Bool) (n : ℕ) {i : ℕ} → i ≤ n → ((k : ℕ) → k < i → holds k ≡ true)
    → (i < n → holds i ≡ false) → i ≡ first_failing holds n
first_is holds n {i} within before here = by (dec_lt (first_failing holds n) i) (dec_lt i (first_failing holds n))
  where
    clash : {b : Bool} → b ≡ true → b ≡ false → ⊥
    clash t f = subst T (sym t ∙ f) tt

    by : Dec (first_failing holds n < i) → Dec (i < first_failing holds n) → i ≡ first_failing holds n
    by (yes j) d = absurd (clash (before _ j) (fails_there holds n refl (omega arith)))
    by (no j) (yes d) = absurd (clash (holds_before holds n refl i d) (here (omega (arith, found_within holds n refl))))
    by (no j) (no d) = omega arith

-- the first of a list that fails a test, and that none does
pub first_found :
    {A : Type 0} (f : A → Bool) (s : List A) (d : A) (o : Option ℕ) →
    MatchOption o (AllWithin (λ x. f x ≡ true) s 0 (length s))
    (λ i. (i < length s) × HoldsAt (λ x. f x ≡ false) s i × AllWithin (λ x. f x ≡ true) s 0 i) →
    IfSome o (λ k. k ≡ first_failing (λ k. f (get_or s k d)) (length s)) × IfNone o (list_all f s ≡ true)
first_found f s d None r = (
  tt,
  all_elements f s d ∙ all_of_each (λ k. f (get_or s k d)) (length s) (λ k b. r k d (omega arith) b),
)
first_found f s d (Some i) r = (
  first_is (λ k. f (get_or s k d)) (length s) (omega (arith, r.0)) (λ k b. r.2 k d (omega arith) b) (λ b. r.1 d),
  tt,
)

-- all places before i have been passed, one law for each turn and way out
module _ (holds : ℕ → Bool) {i : ℕ} (h : first_failing holds i ≡ i) where
  pub search_more : holds i ≡ true → first_failing holds (i + 1) ≡ i + 1
  unfolding first_where
  search_more k = ap (first_failing holds) (add-one i) ∙ by (eqb (first_failing holds i) i) (eq-eqb _ _ h)
      ∙ sym (add-one i)
    where
      by : (b : Bool) → b ≡ true → elim b [ true ↦ cond (not (holds i)) i (suc i) | false ↦ first_failing holds i ]
          ≡ suc i
      by b e = rw (e, k)

  pub search_stops : (n : ℕ) → i < n → holds i ≡ false → i ≡ first_failing holds n
  search_stops n l k = first_is holds n (omega arith) (holds_before holds i (sym h)) (λ _. k)

-- ---- checks by the search

-- the checks of a test, with one number and the places p, as far as n
abbrev pub Phase : (ℕ → Bool) → ℕ → (ℕ → Place) → ℕ → Outcome
Phase holds c p n = lowest (λ k. demand (holds k) c (p k)) n

module _ (holds : ℕ → Bool) (c : ℕ) (p : ℕ → Place) (n : ℕ) where
  abbrev step : ℕ → Outcome
  step k = demand (holds k) c (p k)

  pub phase-at : {r : ℕ} {q : Place} → ((k : ℕ) → k < r → holds k ≡ true) → r < n → holds r ≡ false → q ≡ p r
      → Refused c q ≡ Phase holds c p n
  phase-at {r} before l fails d =
      ap (Refused c) d
      ∙ sym (first_refused step n c (p r) r
      (l, λ k j. ap (λ (t : Bool). demand t c (p k)) (before k j), ap (λ (t : Bool). demand t c (p r)) fails))

  pub phase_all : ((k : ℕ) → k < n → holds k ≡ true) → Passed ≡ Phase holds c p n
  phase_all each = sym (all_lowest step n (λ k l. ap (λ (t : Bool). demand t c (p k)) (each k l)))
