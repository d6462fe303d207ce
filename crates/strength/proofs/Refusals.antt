-- Of whole 64ths up to 16 a refusal comes from the exact values alone: the inputs are above 0, L1 = L2 is tested
-- exactly, and the quotient, rounded once, is above 0 where the exact one is (`proofs/Signs.antt`).
use mathlib.Core.Path.{◌≡◌, sym, ◌∙◌, subst}
use mathlib.Core.Logic.{◌⊎◌, inl, inr, ◌↔◌, ◌≢◌}
use mathlib.Core.Bool.{true, false}
use Prim.Native.Nat.{ℕ, ◌+◌, ◌*◌, ◌^◌, ◌≤◌, ◌<◌}
use native.Mathlib.Omega.{arith}
use lib.Dec.{T, eqb, eqb→eq, lt→ltb, not_T, lit<}
use lib.IntN.{pos, nat_abs}
use lib.Signed.{◌<ℤ◌, lt_z_yes}
use lib.Ieee.{Float, eq}
use lib.Ieee.Bits.{is_true, is_false}
use lib.Ieee.Fits.{eq→eqb}
use borrow.Table.Steps.{cases}
use Rattle.integer.specs.Fraction.{Frac, ◌over◌, ◌≤ᶠ◌, ◌<ᶠ◌, ◌≈ᶠ◌, Positive}
use Rattle.integer.proofs.FractionLaws.{≈ᶠ_sym, ≈ᶠ_trans, <ᶠ_or_≤ᶠ}
use Rattle.integer.proofs.Linear.{linear, facts, ◌&◌}
use Rattle.integer.proofs.Order.{nonneg, *ℤ_pos, *ℤ_cancel_<}
use Rattle.integer.proofs.RingLaws.{pos_injective}
use Rattle.std.specs.Prelude.{Ok, Err}
use Rattle.strength.specs.declared.StrengthError.TheVariants.{NoStrength}
use Rattle.strength.specs.Next.{hyperbola, usable, next_strength}
use Rattle.strength.specs.Rounded.{zeroᶠ, value_of, Rounded}
use Rattle.strength.specs.Exact.{exact_strength, in64ths, Whole64ths, RefusesByExactValues}
use Rattle.strength.specs.Promises.{FiniteAboveZero}
use Rattle.strength.proofs.Tests.{refuses_level, refuses_result, gives}
use Rattle.strength.proofs.Fractions.{over_pos, value_positive, nat_abs_pos, /ᶠ_positive}
use Rattle.strength.proofs.OnlyRounding.{dividend, divisor, divisor_within, divisor_nonzero}
use Rattle.strength.proofs.OnlyRounding.{division_is_the_only_rounding}
use Rattle.strength.proofs.Signs.{rounded_not_above, rounded_above}
use Rattle.strength.proofs.Values.{says_positive, says_usable, eq_says}

-- ---- 64ths

whole_above : (x : Float) (n : ℕ) → Whole64ths x n → FiniteAboveZero x
whole_above x n w =
    record {
      is_finite = w.is.is_finite;
      above =
          *ℤ_cancel_< {c = pos 64} (nonneg 64)
          (subst (λ z. pos 0 <ℤ z) (sym (w.is.is_value.cross-≡))
          (*ℤ_pos {a = pos n} (lt_z_yes (lt→ltb 0 n w.above)) ((value_positive x).positive)));
    }

64th_is : (n : ℕ) → Positive (pos n over pos 64)
64th_is n = over_pos (pos n) (lit< tt)

module _ {x y : Float} {m n : ℕ} (v : Whole64ths x m) (w : Whole64ths y n) where
  same_64ths : value_of x ≈ᶠ value_of y → m ≡ n
  same_64ths e =
      let h : (pos m over pos 64) ≈ᶠ (pos n over pos 64) =
      ≈ᶠ_trans (64th_is m) (value_positive x) (64th_is n) (≈ᶠ_sym v.is.is_value)
      (≈ᶠ_trans (value_positive x) (value_positive y) (64th_is n) e w.is.is_value) in
      whole m n (pos_injective (h.cross-≡))
    where
      whole : (x y : ℕ) → x * 64 ≡ y * 64 → x ≡ y
      whole x y h = omega arith

  same_values : m ≡ n → value_of x ≈ᶠ value_of y
  same_values e =
      ≈ᶠ_trans (value_positive x) (64th_is m) (value_positive y) v.is.is_value
      (subst (λ z. (pos z over pos 64) ≈ᶠ value_of y) (sym e) (≈ᶠ_sym w.is.is_value))

  level_says : T (eq x y) ↔ (m ≡ n)
  level_says =
      let e = eq_says x y (says_positive x (whole_above x m v)) (says_positive y (whole_above y n w)) in
      (λ t. same_64ths (e.0 t), λ h. e.1 (same_values h))

-- ---- the exact quotient

module _ {k₁ l₁ k₂ l₂ : ℕ} (K₁ : k₁ ≤ 16 * 64) (L₁ : l₁ ≤ 16 * 64) (K₂ : k₂ ≤ 16 * 64) (L₂ : l₂ ≤ 16 * 64)
    (n : l₁ ≢ l₂) where
  strength_positive : Positive (exact_strength (in64ths k₁ l₁) (in64ths k₂ l₂))
  unfolding exact_strength
  strength_positive = /ᶠ_positive (divisor l₁ l₂) (over_pos ((dividend k₁ l₁ k₂ l₂).num) (lit< tt)) (divisor_nonzero n)

  not_tiny : (z : ℕ) → 0 < z → nat_abs ((exact_strength (in64ths k₁ l₁) (in64ths k₂ l₂)).den) ≤ z * 2 ^ 64
  unfolding exact_strength
  not_tiny z p = small (nat_abs ((divisor l₁ l₂).num)) ((divisor_within K₁ L₁ K₂ L₂).within)
    where
      small : (m : ℕ) → m ≤ 1024 * 64 + 1024 * 64 → 2 ^ 36 * m ≤ z * 2 ^ 64
      small m h = omega arith

above_zero : (q : Frac) → zeroᶠ <ᶠ q → 0 < nat_abs q.num
above_zero q h = nat_abs_pos q.num (λ e. linear (h.cross-< & e) (search facts depth 40) (omega arith))

-- ---- the answer

given_not_refused : (x : Float) → Ok x ≡ Err NoStrength → ⊥
given_not_refused x e = let z : ◌≡◌ {A = ℕ} 0 1 = cc in omega arith

pub refuses_by_exact_values : RefusesByExactValues
refuses_by_exact_values a b k₁ l₁ k₂ l₂ A B = (to, from)
  where
    q : Frac
    q = exact_strength (in64ths k₁ l₁) (in64ths k₂ l₂)

    ua : usable a ≡ true
    ua = is_true (usable a) (says_usable a (whole_above a.k k₁ A.k_is) (whole_above a.l l₁ A.l_is))

    ub : usable b ≡ true
    ub = is_true (usable b) (says_usable b (whole_above b.k k₂ B.k_is) (whole_above b.l l₂ B.l_is))

    level : T (eq a.l b.l) ↔ (l₁ ≡ l₂)
    level = level_says A.l_is B.l_is

    refused_level : l₁ ≡ l₂ → next_strength a b ≡ Err NoStrength
    refused_level e = refuses_level a b ua ub (is_true (eq a.l b.l) (level.1 e))

    differ : l₁ ≢ l₂ → eq a.l b.l ≡ false
    differ n = is_false (eq a.l b.l) (not_T (eq a.l b.l) (λ t. n (level.0 t)))

    Q : l₁ ≢ l₂ → Positive q
    Q n = strength_positive A.k_is.up_to A.l_is.up_to B.k_is.up_to B.l_is.up_to n

    r : l₁ ≢ l₂ → Rounded (hyperbola a b) q
    r n = (division_is_the_only_rounding a b k₁ l₁ k₂ l₂ A B n).quotient

    -- L1 = L2 or not
    either : {C : Type 0} → (l₁ ≡ l₂ → C) → (l₁ ≢ l₂ → C) → C
    either f g = cases (eqb l₁ l₂) (λ t. f (eqb→eq l₁ l₂ (subst T (sym t) tt)))
        (λ t. g (λ e. subst (λ x. T x) t (eq→eqb e)))

    from : (l₁ ≡ l₂) ⊎ (q ≤ᶠ zeroᶠ) → next_strength a b ≡ Err NoStrength
    from (inl e) = refused_level e
    from (inr h) = either refused_level
        (λ n. refuses_result a b ua ub (differ n) (rounded_not_above (Q n) (r n) h))

    to : next_strength a b ≡ Err NoStrength → (l₁ ≡ l₂) ⊎ (q ≤ᶠ zeroᶠ)
    to e =
        either inl
        (λ n. elim (<ᶠ_or_≤ᶠ zeroᶠ q) [
          | inl h ↦ absurd (given_not_refused (hyperbola a b)
              (sym (gives a b ua ub (differ n)
              (rounded_above (Q n) (r n) h
              (not_tiny A.k_is.up_to A.l_is.up_to B.k_is.up_to B.l_is.up_to n (nat_abs q.num)
              (above_zero q h)))) ∙ e))
          | inr h ↦ inr h
        ])
