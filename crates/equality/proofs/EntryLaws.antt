-- Sums over the entries of a row, one more at a time, as a loop takes them: by induction on how many.
use mathlib.Core.Path.{◌≡◌, refl, sym, ◌∙◌, ap, subst}
use mathlib.Core.Bool.{Bool, true, false, not, cond}
use mathlib.Core.List.{List, [], ◌∷◌}
use Prim.Native.Nat.{ℕ, zero, suc, ◌+◌, ◌*◌, ◌≤◌, ◌<◌}
use native.Mathlib.Numerals.{add-one}
use native.Mathlib.Nat.{le_refl, le_trans}
use native.Mathlib.Omega.{arith}
use lib.Dec.{T, T_not, eqb, eqb→eq, eqb_refl}
use lib.IntN.{ℤ, pos, ◌+ℤ◌, ◌*ℤ◌, +ℤ_assoc, +ℤ_idl, +ℤ_idr}
use lib.ListN.{length, get_or, take, set, length-set, length-map}
use lib.Seq.{get_or-set_same, get_or-set_other, take_all}
use Rattle.std.proofs.Common.{map}
use Rattle.integer.proofs.Ring.{ring, terms}
use Rattle.integer.specs.Bounds.{Within, AllWithin, Is}
use Rattle.integer.proofs.BoundLaws.{Within-le, Within-+ℤ, Within-*ℤ}
use Rattle.integer.proofs.Machine.{Is-as, Is-Within}
use Rattle.scope.specs.Bounds.{most_entries, most_coefficient, equality_column, most_column}
use Rattle.scope.specs.Claim.{most_multiplier}
use Rattle.scope.specs.Columns.{at}
use Rattle.scope.specs.Sums.{weighted_sum, unit}
use Rattle.equality.specs.declared.row.Term.{Term}
use Rattle.equality.specs.EqualityContracts.{entry_of, ColumnsBelow, SumsAre}

-- ---- the entries of a row

-- the entries of the first i terms
abbrev pub passed : List Term → ℕ → List (ℤ × ℕ)
passed ts i = map entry_of (take i ts)

pub one_entry_more : (f : ℕ → ℤ) (ts : List Term) (i : ℕ) (d : Term) → i < length ts
    → weighted_sum f (passed ts (i + 1))
    ≡ weighted_sum f (passed ts i) +ℤ (get_or ts i d).coefficient *ℤ f (get_or ts i d).column
unfolding weighted_sum
one_entry_more f ts i d h = ap (λ n. weighted_sum f (passed ts n)) (add-one i) ∙ go ts i h
  where
    go : (ts : List Term) (i : ℕ) → i < length ts
        → weighted_sum f (passed ts (suc i))
        ≡ weighted_sum f (passed ts i) +ℤ (get_or ts i d).coefficient *ℤ f (get_or ts i d).column
    go [] i h = absurd (omega arith)
    go (t ∷ ts) zero h = +ℤ_idr (t.coefficient *ℤ f t.column) ∙ sym (+ℤ_idl (t.coefficient *ℤ f t.column))
    go (t ∷ ts) (suc i) h =
        ap (λ z. t.coefficient *ℤ f t.column +ℤ z) (go ts i (omega arith))
        ∙ sym (+ℤ_assoc (t.coefficient *ℤ f t.column) (weighted_sum f (passed ts i))
        ((get_or ts i d).coefficient *ℤ f (get_or ts i d).column))

module _ (ts : List Term) where
  pub all_passed : (i : ℕ) → length ts ≤ i → passed ts i ≡ map entry_of ts
  all_passed i l = ap (map entry_of) (take_all i ts l)

  pub column_there : {n : ℕ} → ColumnsBelow n (map entry_of ts) → (i : ℕ) (t : Term) → t ≡ get_or ts i t
      → i < length ts → t.column < n
  column_there {n} h i t et l =
      subst (λ c. c < n) (go ts i l ∙ ap (λ u. u.column) (sym et)) (h.each i (omega (arith, length-map ts entry_of)))
    where
      go : (us : List Term) (i : ℕ) → i < length us → (get_or (map entry_of us) i (pos 0, 0)).1 ≡ (get_or us i t).column
      go [] i h = absurd (omega arith)
      go (u ∷ us) zero h = refl
      go (u ∷ us) (suc i) h = go us i (omega arith)

-- ---- sums of columns

pub sums_within : {B : ℕ} {s : List ℤ} {f : ℕ → ℤ} → SumsAre B s f → AllWithin B s
unfolding at
sums_within h = record { each = λ j. Is-Within (h.each j) (le_refl _) }

pub sums_of : {B : ℕ} {s : List ℤ} → AllWithin B s → SumsAre B s (at s)
unfolding at
sums_of h = record { each = λ j. record { same = refl; inside = h.each j } }

pub sums_as : {A B : ℕ} {s : List ℤ} {f g : ℕ → ℤ} → SumsAre A s f → A ≤ B → ((j : ℕ) → f j ≡ g j) → SumsAre B s g
sums_as h l e = record { each = λ j. Is-as (h.each j) l (e j) }

-- one sum more
at_added : (s : List ℤ) (i : ℕ) (c : ℤ) → i < length s → (j : ℕ)
    → at (set s i (at s i +ℤ c)) j ≡ at s j +ℤ c *ℤ unit j i
unfolding at unit
at_added s i c l j = by (eqb j i) (λ t. eqb→eq j i t)
    (λ t e. T_not (eqb j i) t (subst (λ x. T (eqb j x)) e (eqb_refl j)))
  where
    by : (b : Bool) → (T b → j ≡ i) → (T (not b) → ¬ (j ≡ i))
        → get_or (set s i (get_or s i (pos 0) +ℤ c)) j (pos 0) ≡ get_or s j (pos 0) +ℤ c *ℤ cond b (pos 1) (pos 0)
    by true here there =
        rw (here tt) (get_or-set_same s i _ (pos 0) l
        ∙ ring (get_or s i (pos 0) ∷ c ∷ []) (search terms depth 100) refl)
    by false here there =
        get_or-set_other s i j _ (pos 0) (there tt) ∙ ring (get_or s j (pos 0) ∷ c ∷ []) (search terms depth 100) refl

pub unit-within : (j i : ℕ) → Within 1 (unit j i)
unfolding unit
unit-within j i = by (eqb j i)
  where
    by : (b : Bool) → Within 1 (cond b (pos 1) (pos 0))
    by true = record { within = omega arith }
    by false = record { within = omega arith }

pub sums_add : {B C : ℕ} (s : List ℤ) {f : ℕ → ℤ} (i : ℕ) (c : ℤ) → i < length s → Within C c → SumsAre B s f
    → SumsAre (B + C) (set s i (at s i +ℤ c)) (λ j. f j +ℤ c *ℤ unit j i)
sums_add s i c l k h = record {
  each = λ j. record {
    same = at_added s i c l j ∙ ap (λ z. z +ℤ c *ℤ unit j i) (h.each j).same;
    inside = Within-+ℤ (h.each j).inside (Within-le (Within-*ℤ k (unit-within j i)) (omega arith));
  };
}

-- y times the first terms of a row, added to the sums s₀
abbrev added_up_to : List ℤ → ℤ → List Term → ℕ → ℕ → ℤ
added_up_to s₀ y ts i j = at s₀ j +ℤ y *ℤ weighted_sum (unit j) (passed ts i)

-- what one term adds at most
abbrev pub equality_entry : ℕ
equality_entry = most_multiplier * most_coefficient

pub record Adding (s₀ : List ℤ) (y : ℤ) (ts : List Term) (i : ℕ) (s : List ℤ) : Type 0 where
  pub size : length s ≡ length s₀
  pub sums : SumsAre (most_column + i * equality_entry) s (added_up_to s₀ y ts i)

module _ (s₀ : List ℤ) (y : ℤ) (ts : List Term) where
  pub none_added : AllWithin most_column s₀ → Adding s₀ y ts 0 s₀
  unfolding weighted_sum
  none_added h = record {
    size = refl;
    sums = sums_as (sums_of h) (omega arith) (λ j. ring (at s₀ j ∷ y ∷ []) (search terms depth 100) refl);
  }

  pub term_added : (i : ℕ) (t : Term) → i < length ts → t ≡ get_or ts i t → t.column < length s₀
      → {s s' : List ℤ} {v : ℤ} → Adding s₀ y ts i s
      → Is v (y *ℤ t.coefficient) equality_entry → s' ≡ set s t.column (at s t.column +ℤ v)
      → Adding s₀ y ts (i + 1) s'
  term_added i t l et there {s} {s'} {v} h e st = record {
    size = ap length st ∙ length-set s t.column _ ∙ h.size;
    sums =
        subst (λ z. SumsAre (most_column + (i + 1) * equality_entry) z (added_up_to s₀ y ts (i + 1))) (sym st)
        (sums_as (sums_add s t.column v (omega (arith, h.size)) (Is-Within e (le_refl _)) h.sums) (omega arith) same);
  }
    where
      same : (j : ℕ) → added_up_to s₀ y ts i j +ℤ v *ℤ unit j t.column ≡ added_up_to s₀ y ts (i + 1) j
      same j =
          rw (e.same, one_entry_more (unit j) ts i t l, ← et)
          (ring (at s₀ j ∷ y ∷ weighted_sum (unit j) (passed ts i) ∷ t.coefficient ∷ unit j t.column ∷ [])
          (search terms depth 100) refl)

  pub all_added : length ts ≤ most_entries → (i : ℕ) {z : ℤ} {s : List ℤ} → length ts ≤ i → i ≤ length ts → y ≡ z
      → Adding s₀ y ts i s
      → SumsAre (most_column + equality_column) s (λ j. at s₀ j +ℤ z *ℤ weighted_sum (unit j) (map entry_of ts))
  all_added few i k l g h = sums_as h.sums (omega arith) (λ j. rw (all_passed ts i k, g))

-- ---- a row of a mesh with more columns

pub columns_wider : {es : List (ℤ × ℕ)} {a b : ℕ} → ColumnsBelow a es → a ≤ b → ColumnsBelow b es
columns_wider h l = record { each = λ i k. le_trans (h.each i k) l }
