-- Fields in fractions: over the product of all denominators each numerator is multiplied by the other denominators; two
-- ways of writing one field differ by a factor, which cancels in every row.
use mathlib.Core.Path.{◌≡◌, refl, sym, ◌∙◌, ap, ap₂, subst₂}
use mathlib.Core.Logic.{⊎_elim}
use mathlib.Core.Bool.{cond}
use mathlib.Core.List.{List, [], ◌∷◌}
use Prim.Native.Nat.{ℕ, zero, suc, ◌≤◌, ◌<◌}
use native.Mathlib.Nat.{eq-or-lt_of_le}
use native.Mathlib.Omega.{arith}
use borrow.Author.Tests.{eq-eqb, ne_eqb}
use lib.Dec.{eqb}
use lib.IntN.{ℤ, pos, ◌+ℤ◌, ◌*ℤ◌}
use lib.Signed.{◌≤ℤ◌, ◌<ℤ◌}
use Rattle.integer.proofs.RingLaws.{*ℤ_assoc}
use Rattle.integer.proofs.Ring.{ring, ring_from, terms}
use Rattle.integer.proofs.Order.{<ℤ→≤ℤ, *ℤ_pos, *ℤ_mono, *ℤ_cancel, *ℤ_cancel_≤}
use Rattle.integer.specs.Fraction.{◌over◌, ◌≈ᶠ◌, ◌≤ᶠ◌}
use Rattle.integer.proofs.FractionLaws.{≈ᶠ_sym, ≈ᶠ_trans}
use Rattle.scope.proofs.Weighted.{weighted_multiple, weighted_same}
use Rattle.scope.proofs.Bracket.{bracket}
use Rattle.integer.specs.Members.{◌∈◌}
use Rattle.scope.specs.Rows.{Kind, asked, unfixed, strength, Row}
use Rattle.scope.specs.Sums.{weighted_sum, left_side, right_side, live_sum, limit_sum}
use Rattle.scope.specs.Meets.{Asks, FieldMeets}
use Rattle.scope.specs.Bracket.{Columns, MultipliersMeet}
use Rattle.scope.specs.Fractions.{Fraction, FractionField, WrittenOver, FractionsMeet, FractionLaws}

-- ---- one denominator

module _ (f : FractionField) where
  den : ℕ → ℤ
  den j = (f.stress j).value.den

  -- the load's denominator times those of the columns below n; the same without column j's; and without the load's
  all : ℕ → ℤ
  all zero = f.load.value.den
  all (suc n) = all n *ℤ den n

  all_but : ℕ → ℕ → ℤ
  all_but j zero = f.load.value.den
  all_but j (suc n) = all_but j n *ℤ cond (eqb j n) (pos 1) (den n)

  stresses_all : ℕ → ℤ
  stresses_all zero = pos 1
  stresses_all (suc n) = stresses_all n *ℤ den n

  all_above_0 : (n : ℕ) → pos 0 <ℤ all n
  unfolding all den
  all_above_0 zero = f.load.proper.positive
  all_above_0 (suc n) = *ℤ_pos (all_above_0 n) (f.stress n).proper.positive

  with_load : (n : ℕ) → stresses_all n *ℤ f.load.value.den ≡ all n
  unfolding all stresses_all
  with_load zero = ring (f.load.value.den ∷ []) (search terms depth 100) refl
  with_load (suc n) = ring_from (den n) (with_load n)
      (ring (stresses_all n ∷ f.load.value.den ∷ all n ∷ den n ∷ []) (search terms depth 100) refl)

  beyond : (j n : ℕ) → n ≤ j → all_but j n ≡ all n
  unfolding all all_but
  beyond j zero h = refl
  beyond j (suc n) h = rw (ne_eqb j n (omega arith), beyond j n (omega arith))

  with_one : (j n : ℕ) → j < n → all_but j n *ℤ den j ≡ all n
  unfolding all all_but
  with_one j zero h = absurd (omega arith)
  with_one j (suc n) h =
      let small : j ≤ n = omega arith in
      ⊎_elim
      (λ e. rw (e, eq-eqb n n refl, beyond j n (omega arith)) (ring (all n ∷ den n ∷ []) (search terms depth 100) refl))
      (λ l. rw (ne_eqb j n (omega arith))
      (ring_from (den n) (with_one j n l)
      (ring (all_but j n ∷ all n ∷ den n ∷ den j ∷ []) (search terms depth 100) refl)))
      (eq-or-lt_of_le small)

  one_denominator : (n : ℕ) → (d : ℤ) × (s : ℕ → ℤ) × (l : ℤ) × WrittenOver n f d s l
  unfolding den
  one_denominator n = (
    all n,
    λ j. (f.stress j).value.num *ℤ all_but j n,
    f.load.value.num *ℤ stresses_all n,
    record {
      above_0 = all_above_0 n;
      stresses = λ j h. record { cross-≡ = rw (*ℤ_assoc, with_one j n h) };
      load = record { cross-≡ = rw (*ℤ_assoc, with_load n) };
    },
  )

-- ---- every denominator

-- a row's two sides times d' are its two sides in the other writing times d
asks_too : (k : Kind) (a b a' b' : ℤ) {d d' : ℤ} → pos 0 <ℤ d → pos 0 <ℤ d' → a *ℤ d' ≡ a' *ℤ d → b *ℤ d' ≡ b' *ℤ d
    → Asks k a b → Asks k a' b'
asks_too asked a b a' b' {d} {d'} h h' e f g = *ℤ_cancel h (sym e ∙ ap (λ z. z *ℤ d') g ∙ f)
asks_too unfixed a b a' b' h h' e f g = tt
asks_too strength a b a' b' h h' e f g = *ℤ_cancel_≤ h (subst₂ ◌≤ℤ◌ e f (*ℤ_mono g (<ℤ→≤ℤ h')))

module _ (N : ℕ) (rs : List Row) (within : Columns N rs) (f : FractionField) where
  same_left : {d d' : ℤ} {s s' : ℕ → ℤ} {l l' : ℤ} → WrittenOver N f d s l → WrittenOver N f d' s' l' → (r : Row)
      → r ∈ rs → left_side s l r *ℤ d' ≡ left_side s' l' r *ℤ d
  unfolding left_side
  same_left {d} {d'} {s} {s'} {l} {l'} w w' r m =
      let es = r.entries in
      let columns : weighted_sum s es *ℤ d' ≡ weighted_sum s' es *ℤ d =
      sym (weighted_multiple d' s es)
      ∙ weighted_same (λ j. s j *ℤ d') (λ j. s' j *ℤ d) es
      (λ e k. let h = within r m e k in across (f.stress e.1) (w.stresses e.1 h) (w'.stresses e.1 h))
      ∙ weighted_multiple d s' es in
      regroup (weighted_sum s es) l d' ∙ ap₂ (λ y z. y +ℤ r.live *ℤ z) columns (across f.load w.load w'.load)
      ∙ sym (regroup (weighted_sum s' es) l' d)
    where
      -- two writings of one fraction
      across : {a a' : ℤ} (v : Fraction) → a over d ≈ᶠ v.value → a' over d' ≈ᶠ v.value → a *ℤ d' ≡ a' *ℤ d
      across v e e' = (≈ᶠ_trans (record { positive = w.above_0 }) v.proper (record { positive = w'.above_0 }) e
          (≈ᶠ_sym e')).cross-≡

      regroup : (y l d : ℤ) → (y +ℤ r.live *ℤ l) *ℤ d ≡ y *ℤ d +ℤ r.live *ℤ (l *ℤ d)
      regroup y l d = ring (y ∷ r.live ∷ l ∷ d ∷ []) (search terms depth 100) refl

  other_writing : {d d' : ℤ} {s s' : ℕ → ℤ} {l l' : ℤ} → WrittenOver N f d s l → WrittenOver N f d' s' l'
      → FieldMeets s l d rs → FieldMeets s' l' d' rs
  unfolding right_side
  other_writing {d} {d'} {s} {s'} {l} {l'} w w' met r m =
      asks_too r.kind (left_side s l r) (right_side d r) (left_side s' l' r) (right_side d' r) w.above_0 w'.above_0
      (same_left w w' r m) (ring (r.right ∷ d ∷ d' ∷ []) (search terms depth 100) refl) (met r m)

  load_at_most : (w : ℕ → ℤ) → FractionsMeet N f rs → MultipliersMeet w rs N
      → f.load.value ≤ᶠ limit_sum w rs over live_sum w rs
  load_at_most w h mults =
      let d = h.denominator in
      let l = h.numerator in
      let m = live_sum w rs in
      let W = limit_sum w rs in
      let a = f.load.value.num in
      let b = f.load.value.den in
      let bound = (bracket h.numerators l d w rs N within h.meets mults).at_most in
      record {
        cross-≤ = *ℤ_cancel_≤ h.written.above_0
            (subst₂ ◌≤ℤ◌
            (ring_from m h.written.load.cross-≡ (ring (l ∷ m ∷ a ∷ b ∷ d ∷ []) (search terms depth 100) refl))
            (ring (W ∷ b ∷ d ∷ []) (search terms depth 100) refl)
            (*ℤ_mono bound (<ℤ→≤ℤ f.load.proper.positive)));
      }

pub fraction_laws : (N : ℕ) (rs : List Row) → Columns N rs → FractionLaws N rs
fraction_laws N rs within = record {
  can_be_written = λ f. one_denominator f N;
  same_for_each = λ f. (
    λ h d s l w. other_writing N rs within f h.written w h.meets,
    λ h. let (d, s, l, w) =
        one_denominator f N in record
        { denominator = d; numerators = s; numerator = l; written = w; meets = h d s l w },
  );
  whole_numbers = λ n h s l met. record {
    denominator = n;
    numerators = s;
    numerator = l;
    written = record { above_0 = h; stresses = λ j k. record { cross-≡ = refl }; load = record { cross-≡ = refl } };
    meets = met;
  };
  at_most = λ f w h mults live. load_at_most N rs within f w h mults;
}
