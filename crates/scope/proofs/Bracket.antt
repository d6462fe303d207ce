-- The bracket: a field's left sides, weighed by multipliers, add up column by column, and each column is 0; so only l's
-- column m is left, and W·n - l·m is what the rows have to spare.
use mathlib.Core.Path.{◌≡◌, refl, sym, ◌∙◌, ap, subst}
use mathlib.Core.Logic.{◌↔◌, ◌≢◌, ⊎_elim}
use mathlib.Core.Bool.{Bool, false, ◌&&◌}
use mathlib.Core.List.Memᴰ
use mathlib.Core.List.{List, [], ◌∷◌}
use Prim.Native.Nat.{ℕ, zero, suc, ◌+◌, ◌≤◌, ◌<◌, zero-le}
use native.Mathlib.Nat.{eq-or-lt_of_le}
use native.Mathlib.Omega.{arith}
use borrow.Author.Tests.{eq-eqb, ne_eqb}
use lib.Dec.{T}
use lib.Ieee.Bits.{is_true, is_false}
use mir.Facts.{not_T}
use lib.IntN.{ℤ, pos, ◌+ℤ◌, ◌-ℤ◌, ◌*ℤ◌, +ℤ_idl, +ℤ_idr, +ℤ_invr, *ℤ-zero, zero-*ℤ}
use lib.Signed.{lt_z, ◌≤ℤ◌, ◌<ℤ◌}
use lib.ListN.{length}
use Rattle.integer.proofs.RingLaws.{eq_of_diff}
use Rattle.integer.proofs.Ring.{ring, terms}
use Rattle.integer.proofs.Order.{by_nn, nn_diff, pos_diff, ≤ℤ_split, ≡→≤ℤ, <ℤ→≢, *ℤ_nonneg, *ℤ_pos}
use Rattle.integer.proofs.Linear.{linear, ◌&◌, facts}
use Rattle.integer.specs.Sum.{sum_of}
use Rattle.integer.proofs.SumLaws.{sum_of_same, sum_of_mono, sum_of_zero}
use Rattle.scope.proofs.Lists.{of_count}
use Rattle.scope.proofs.Decides.{Decides, decides, said_as, both, belowℤ}
use Rattle.scope.proofs.Weighted.{weighted_linear, weighted_difference, weighted_same, by_columns}
use Rattle.integer.specs.Members.{◌∈◌}
use Rattle.scope.specs.Rows.{Kind, asked, unfixed, strength, Row, count_from}
use Rattle.scope.specs.Sums.{weighted_sum, left_side, right_side, weighed, unit, coefficient, column_sum, live_sum}
use Rattle.scope.specs.Sums.{limit_sum, is_open, how_many, open_rows}
use Rattle.scope.specs.Meets.{Asks, FieldMeets}
use Rattle.scope.specs.Bracket.{Columns, MultipliersMeet, spare, to_spare, Open, Bracket}
use Rattle.scope.specs.Tests.{row_at}

-- ---- a field as a sum of its columns

unit_same : (k : ℕ) → unit k k ≡ pos 1
unfolding unit
unit_same k = rw (eq-eqb k k refl)

unit_other : {j k : ℕ} → j ≢ k → unit j k ≡ pos 0
unfolding unit
unit_other {j} {k} h = rw (ne_eqb j k h)

module _ (s : ℕ → ℤ) (k : ℕ) where
  others : (i n : ℕ) → k < i → sum_of (λ j. s j *ℤ unit j k) (count_from i n) ≡ pos 0
  unfolding count_from
  others i zero h = refl
  others i (suc n) h = rw (others (suc i) n (omega arith), unit_other {j = i} {k = k} (omega arith), *ℤ-zero)

  selects : (i n : ℕ) → i ≤ k → k < i + n → sum_of (λ j. s j *ℤ unit j k) (count_from i n) ≡ s k
  unfolding count_from
  selects i zero h g = absurd (omega arith)
  selects i (suc n) h g =
      ⊎_elim
      (λ e. rw (e, others (suc k) n (omega arith), unit_same k) (ring (s k ∷ []) (search terms depth 100) refl))
      (λ l. rw (selects (suc i) n l (omega arith), unit_other {j = i} {k = k} (omega arith), *ℤ-zero) (+ℤ_idl (s k)))
      (eq-or-lt_of_le h)

-- the stresses' part of a row's left side
pub stresses : (N : ℕ) (s : ℕ → ℤ) (es : List (ℤ × ℕ)) → ((e : ℤ × ℕ) → e ∈ es → e.1 < N)
    → weighted_sum s es ≡ sum_of (λ j. s j *ℤ weighted_sum (unit j) es) (count_from 0 N)
stresses N s es h =
    weighted_same s (λ k. sum_of (λ j. s j *ℤ unit j k) (count_from 0 N)) es
    (λ e m. sym (selects s e.1 0 N zero-le (omega (arith, h e m))))
    ∙ by_columns s unit (count_from 0 N) es

-- ---- rows with their multipliers

weighed_row : (w : ℕ → ℤ) (rs : List Row) {p : ℤ × Row} → p ∈ weighed w rs → p.1 ∈ rs
unfolding weighed
weighed_row w (r ∷ rs) (Memᴰ.head e) = Memᴰ.head (ap (λ p. p.1) e)
weighed_row w (r ∷ rs) (Memᴰ.tail m) = Memᴰ.tail (weighed_row (λ k. w (suc k)) rs m)
weighed_row w [] {p = p} x' = elim x' [ ]

module _ (w : ℕ → ℤ) (rs : List Row) (N : ℕ) (within : Columns N rs)
    (zero_columns : (j : ℕ) → j < N → column_sum w rs j ≡ pos 0) where
  stresses_cancel : (s : ℕ → ℤ) → weighted_sum (λ r. weighted_sum s r.entries) (weighed w rs) ≡ pos 0
  unfolding column_sum coefficient
  stresses_cancel s =
      weighted_same _ (λ r. sum_of (λ j. s j *ℤ coefficient j r) (count_from 0 N)) (weighed w rs)
      (λ p m. stresses N s p.1.entries (within p.1 (weighed_row w rs m)))
      ∙ by_columns s coefficient (count_from 0 N) (weighed w rs)
      ∙ sum_of_same (λ j. s j *ℤ column_sum w rs j) (λ j. pos 0) (count_from 0 N)
      (λ j m. let k = of_count 0 N m in rw (zero_columns j (omega arith)) (*ℤ-zero (s j)))
      ∙ sum_of_zero (count_from 0 N)

  left_sum : (s : ℕ → ℤ) (l : ℤ) → weighted_sum (left_side s l) (weighed w rs) ≡ l *ℤ live_sum w rs
  unfolding left_side live_sum
  left_sum s l =
      weighted_same (left_side s l) (λ r. l *ℤ r.live +ℤ weighted_sum s r.entries) (weighed w rs)
      (λ p m. ring (weighted_sum s p.1.entries ∷ p.1.live ∷ l ∷ []) (search terms depth 100) refl)
      ∙ weighted_linear l (λ r. r.live) (λ r. weighted_sum s r.entries) (weighed w rs)
      ∙ rw (stresses_cancel s) (+ℤ_idr (l *ℤ live_sum w rs))

-- ---- what one row contributes

-- what a kind of row asks of its multiplier
abbrev Fair : Kind → ℤ → Type 0
Fair asked c = Unit {0}
Fair unfixed c = c ≡ pos 0
Fair strength c = pos 0 ≤ℤ c

record Part (k : Kind) (c left right : ℤ) : Type 0 where
  difference : c *ℤ spare k left right ≡ c *ℤ (right -ℤ left)
  nonneg : pos 0 ≤ℤ (c *ℤ spare k left right)
  if_zero : c *ℤ spare k left right ≡ pos 0 → k ≡ strength → pos 0 <ℤ c → ¬ (left <ℤ right)
  is_zero : ((k ≡ strength) → pos 0 <ℤ c → ¬ (left <ℤ right)) → c *ℤ spare k left right ≡ pos 0

part : (k : Kind) (c left right : ℤ) → Asks k left right → Fair k c → Part k c left right
part asked c left right h f = record {
  difference = rw (h, +ℤ_invr);
  nonneg = ≡→≤ℤ (sym (*ℤ-zero c));
  if_zero = λ e k. let z : ◌≡◌ {A = ℕ} 0 1 = cc in absurd (omega arith);
  is_zero = λ g. *ℤ-zero c;
}
part unfixed c left right h f = record {
  difference = rw f (sym (zero-*ℤ (right -ℤ left)));
  nonneg = ≡→≤ℤ (sym (*ℤ-zero c));
  if_zero = λ e k. let z : ◌≡◌ {A = ℕ} 0 1 = cc in absurd (omega arith);
  is_zero = λ g. *ℤ-zero c;
}
part strength c left right h f = record {
  difference = refl;
  nonneg = *ℤ_nonneg f (nn_diff h);
  if_zero = λ e k weighs has. <ℤ→≢ (*ℤ_pos weighs (pos_diff has)) (sym e);
  is_zero = λ g. ⊎_elim
      (λ weighs. ⊎_elim (λ has. absurd (g refl weighs has))
      (λ (e : left ≡ right). ap (λ z. c *ℤ (right -ℤ z)) e ∙ rw (+ℤ_invr, *ℤ-zero)) (≤ℤ_split h))
      (λ e. rw (← e) (zero-*ℤ (right -ℤ left)))
      (≤ℤ_split f);
}

both_zero : {x y : ℤ} → pos 0 ≤ℤ x → pos 0 ≤ℤ y → x +ℤ y ≡ pos 0 → (x ≡ pos 0) × (y ≡ pos 0)
both_zero h k e = (
  linear (h & k & e) (search facts depth 40) (omega arith),
  linear (h & k & e) (search facts depth 40) (omega arith),
)

-- a sum of numbers not below 0 is 0 exactly when each of them is
module _ {A : Type 0} (f : A → ℤ) where
  sum_nonneg : (l : List A) → ((a : A) → a ∈ l → pos 0 ≤ℤ f a) → pos 0 ≤ℤ sum_of f l
  sum_nonneg l h = rw sum_of_zero at (sum_of_mono (λ a. pos 0) f l h)

  sum_zero : (l : List A) → ((a : A) → a ∈ l → pos 0 ≤ℤ f a) → sum_of f l ≡ pos 0 → (a : A) → a ∈ l → f a ≡ pos 0
  sum_zero (b ∷ l) h e a (Memᴰ.head p) =
      rw p (both_zero (h b (Memᴰ.head refl)) (sum_nonneg l (λ c k. h c (Memᴰ.tail k))) e).0
  sum_zero (b ∷ l) h e a (Memᴰ.tail m) =
      sum_zero l (λ c k. h c (Memᴰ.tail k))
      (both_zero (h b (Memᴰ.head refl)) (sum_nonneg l (λ c k. h c (Memᴰ.tail k))) e).1 a m
  sum_zero [] h e a x3 = elim x3 [ ]

-- ---- rows by number

of_weighed : (w : ℕ → ℤ) (rs : List Row) {p : ℤ × Row} → p ∈ weighed w rs
    → (k : ℕ) × (k < length rs) × (p ≡ (w k, row_at rs k))
unfolding weighed row_at
of_weighed w (r ∷ rs) (Memᴰ.head e) = (0, omega arith, e)
of_weighed w (r ∷ rs) (Memᴰ.tail m) = let (k, h, e) = of_weighed (λ k. w (suc k)) rs m in (suc k, omega arith, e)
of_weighed w [] {p = p} x' = elim x' [ ]

in_weighed : (w : ℕ → ℤ) (rs : List Row) (k : ℕ) → k < length rs → (w k, row_at rs k) ∈ weighed w rs
unfolding weighed row_at
in_weighed w [] k h = absurd (omega arith)
in_weighed w (r ∷ rs) zero h = Memᴰ.head refl
in_weighed w (r ∷ rs) (suc k) h = Memᴰ.tail (in_weighed (λ k. w (suc k)) rs k (omega arith))

-- ---- counting open rows

module _ {A : Type 0} (f : A → Bool) where
  none_counted : (l : List A) → how_many f l ≡ 0 → (a : A) → a ∈ l → ¬ T (f a)
  unfolding how_many
  none_counted (b ∷ l) e a (Memᴰ.head p) t = absurd (omega (arith, rw (← p, is_true (f a) t) at e))
  none_counted (b ∷ l) e a (Memᴰ.tail m) t = none_counted l (omega arith) a m t
  none_counted [] e a x3 t = elim x3 [ ]

  count_none : (l : List A) → ((a : A) → a ∈ l → ¬ T (f a)) → how_many f l ≡ 0
  unfolding how_many
  count_none [] h = refl
  count_none (b ∷ l) h =
      rw (is_false (f b) (not_T (f b) (h b (Memᴰ.head refl))), count_none l (λ a m. h a (Memᴰ.tail m)))

pub is_open_lem : (s : ℕ → ℤ) (l n : ℤ) (p : ℤ × Row) → T (is_open s l n p) ↔ Open s l n p.0 p.1
unfolding is_open
is_open_lem s l n p = let d = go p.1.kind refl in (d.holds, d.passes)
  where
    left : ℤ
    left = left_side s l p.1

    right : ℤ
    right = right_side n p.1

    never : (k : Kind) → p.1.kind ≡ k → ¬ (k ≡ strength) → Decides false (Open s l n p.0 p.1)
    never k e h = decides (λ o. h (sym e ∙ o.is_strength)) (λ t. absurd t)

    go : (k : Kind) → p.1.kind ≡ k
        → Decides (elim k [ asked ↦ false | unfixed ↦ false | strength ↦ lt_z (pos 0) p.0 && lt_z left right ])
        (Open s l n p.0 p.1)
    go asked e = never asked e (λ f. let z : ◌≡◌ {A = ℕ} 0 1 = cc in omega arith)
    go unfixed e = never unfixed e (λ f. let z : ◌≡◌ {A = ℕ} 0 1 = cc in omega arith)
    go strength e =
        said_as (both (belowℤ (pos 0) p.0) (belowℤ left right))
        (λ h. record { is_strength = e; has_multiplier = h.0; has_spare = h.1 })
        (λ o. (o.has_multiplier, o.has_spare))

-- ---- the bracket

module _ (s : ℕ → ℤ) (l n : ℤ) (w : ℕ → ℤ) (rs : List Row) (N : ℕ) (within : Columns N rs)
    (field : FieldMeets s l n rs) (mults : MultipliersMeet w rs N) where
  fair : (p : ℤ × Row) → p ∈ weighed w rs → Fair p.1.kind p.0
  fair p m = let (k, h, e) = of_weighed w rs m in subst (λ p. Fair p.1.kind p.0) (sym e)
      (at k h (row_at rs k).kind refl)
    where
      at : (k : ℕ) → k < length rs → (kind : Kind) → (row_at rs k).kind ≡ kind → Fair kind (w k)
      at k h asked e = tt
      at k h unfixed e = mults.none_unfixed k h e
      at k h strength e = mults.none_negative k h e

  parts : (p : ℤ × Row) → p ∈ weighed w rs → Part p.1.kind p.0 (left_side s l p.1) (right_side n p.1)
  parts p m = part p.1.kind p.0 (left_side s l p.1) (right_side n p.1) (field p.1 (weighed_row w rs m)) (fair p m)

  gap : limit_sum w rs *ℤ n -ℤ l *ℤ live_sum w rs ≡ weighted_sum (to_spare s l n) (weighed w rs)
  unfolding limit_sum right_side to_spare weighted_sum
  gap =
      ap (λ z. limit_sum w rs *ℤ n -ℤ z) (sym (left_sum w rs N within mults.columns_zero s l))
      ∙ sym (weighted_difference n (λ r. r.right) (left_side s l) (weighed w rs))
      ∙ sym (sum_of_same (λ p. p.0 *ℤ to_spare s l n p.1) (λ p. p.0 *ℤ (right_side n p.1 -ℤ left_side s l p.1))
      (weighed w rs) (λ p m. (parts p m).difference))

  nonneg : (p : ℤ × Row) → p ∈ weighed w rs → pos 0 ≤ℤ (p.0 *ℤ to_spare s l n p.1)
  unfolding to_spare
  nonneg p m = (parts p m).nonneg

  none_open : (l *ℤ live_sum w rs ≡ limit_sum w rs *ℤ n) ↔ ((p : ℤ × Row) → p ∈ weighed w rs → ¬ Open s l n p.0 p.1)
  unfolding weighted_sum to_spare
  none_open = (
    λ e p m o. (parts p m).if_zero
        (sum_zero (λ p. p.0 *ℤ to_spare s l n p.1) (weighed w rs) nonneg (sym gap ∙ rw (e, +ℤ_invr)) p m) o.is_strength
        o.has_multiplier o.has_spare,
    λ f. sym (eq_of_diff _ _
        (gap ∙ sum_of_same (λ p. p.0 *ℤ to_spare s l n p.1) (λ p. pos 0) (weighed w rs)
        (λ p m. (parts p m).is_zero
        (λ k weighs has. f p m (record { is_strength = k; has_multiplier = weighs; has_spare = has })))
        ∙ sum_of_zero (weighed w rs))),
  )

  pub bracket : Bracket s l n w rs
  unfolding weighted_sum open_rows
  bracket = record {
    gap = gap;
    at_most = by_nn (sum_nonneg (λ p. p.0 *ℤ to_spare s l n p.1) (weighed w rs) nonneg) gap;
    equal = (
      λ e k h. none_open.0 e (w k, row_at rs k) (in_weighed w rs k h),
      λ f. none_open.1 (λ p m o. let (k, h, e) = of_weighed w rs m in f k h (subst (λ p. Open s l n p.0 p.1) e o)),
    );
    count = (
      λ e. none_open.1 (λ p m o. none_counted (is_open s l n) (weighed w rs) e p m ((is_open_lem s l n p).1 o)),
      λ e. count_none (is_open s l n) (weighed w rs) (λ p m t. none_open.0 e p m ((is_open_lem s l n p).0 t)),
    );
  }
