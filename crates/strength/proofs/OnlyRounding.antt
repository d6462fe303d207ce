-- Of whole 64ths up to 16, every difference and product of eq. 23 has fewer than 2 ^ 53 for its numerator over a power
-- of 2, so that binary64 holds it; and the quotient is far below overflow.
use mathlib.Core.Path.{◌≡◌, refl, sym, ap, ◌∙◌}
use mathlib.Core.Logic.{◌≢◌}
use mathlib.Core.List.{[], ◌∷◌}
use Prim.Native.Nat.{ℕ, ◌+◌, ◌*◌, ◌^◌, ◌≤◌, ◌<◌}
use native.Mathlib.Nat.{le_trans, le_of_eq, lt_of_le_of_lt, one-mul}
use native.Mathlib.Omega.{arith}
use lib.Dec.{lit<, lit≤}
use lib.IntN.{ℤ, pos, negsuc, ◌-ℤ◌, ◌*ℤ◌, nat_abs, zero-*ℤ}
use lib.Ieee.{Float, binary64, low}
use Rattle.integer.specs.Bounds.{Within}
use Rattle.integer.proofs.BoundLaws.{Within-le, Within-pos, Within--ℤ, Within-*ℤ}
use Rattle.integer.specs.Fraction.{Frac, ◌over◌, Positive}
use Rattle.integer.proofs.Order.{*ℤ_cancel}
use Rattle.integer.proofs.Ring.{ring, ring_from, terms}
use Rattle.integer.proofs.RingLaws.{pos_injective, nat_abs_*ℤ}
use Rattle.strength.specs.declared.Trial.{Trial}
use Rattle.strength.specs.Next.{one, ◌⊖◌, ◌⊗◌, term, hyperbola}
use Rattle.strength.specs.Rounded.{◌-ᶠ◌, ◌*ᶠ◌, oneᶠ, sign, value_of, Exactly, Rounded}
use Rattle.strength.specs.Exact.{exact_term, exact_strength, in64ths, Trial64ths, TermExact, DivisionIsTheOnlyRounding}
use Rattle.strength.proofs.Fractions.{over_pos, value_positive, nat_abs_pos, /ᶠ_positive}
use Rattle.strength.proofs.Operations.{Short, ⊖_exactly, ⊗_exactly, ⊘_round_of, rounded_of, finite_of}

-- a fraction over 2 ^ t
short : (z : ℤ) (t : ℕ) {B : ℕ} → Within B z → B < 2 ^ 53 → t ≤ low binary64 → Short (z over pos (2 ^ t))
short z t w h l = record {
  z = z;
  t = t;
  digits = lt_of_le_of_lt w.within h;
  places = l;
  is =
      record { cross-≡ = refl };
}

over64 : (z : ℤ) → Positive (z over pos 64)
over64 z = over_pos z (lit< tt)

-- ---- one term: (1 - l')·l·k, in 64ths

module _ (k l l' : ℕ) (K : k ≤ 16 * 64) (L : l ≤ 16 * 64) (L' : l' ≤ 16 * 64) where
  abbrev rest : ℤ
  rest = pos 1 *ℤ pos 64 -ℤ pos l' *ℤ pos 1

  rest_within : Within 1088 rest
  rest_within = Within-le (Within--ℤ (Within-pos 64) (Within-*ℤ (Within-pos l') (Within-pos 1))) (omega arith)

  part_within : Within (1088 * 1024) (rest *ℤ pos l)
  part_within = Within-*ℤ rest_within (Within-le (Within-pos l) L)

  term_within : Within (1088 * 1024 * 1024) (rest *ℤ pos l *ℤ pos k)
  term_within = Within-*ℤ part_within (Within-le (Within-pos k) K)

module _ (a b : Trial) {k l k' l' : ℕ} (A : Trial64ths a k l) (B : Trial64ths b k' l') where
  term_exact : TermExact a b (in64ths k l) (in64ths k' l')
  unfolding term
  term_exact =
      let K = A.k_is.up_to in
      let L = A.l_is.up_to in
      let L' = B.l_is.up_to in
      let rest' : Exactly (one ⊖ b.l) (oneᶠ -ᶠ (pos l' over pos 64)) =
      ⊖_exactly (over_pos (pos 1) (lit< tt)) (over64 (pos l'))
      (record { is_finite = tt; is_value = record { cross-≡ = refl } }) B.l_is.is
      (short (rest k l l' K L L') 6 (rest_within k l l' K L L') (lit< tt) (lit≤ tt)) in
      let part' : Exactly ((one ⊖ b.l) ⊗ a.l) ((oneᶠ -ᶠ (pos l' over pos 64)) *ᶠ (pos l over pos 64)) =
      ⊗_exactly (over_pos (rest k l l' K L L') (lit< tt)) (over64 (pos l)) rest' A.l_is.is
      (short (rest k l l' K L L' *ℤ pos l) 12 (part_within k l l' K L L') (lit< tt) (lit≤ tt)) in
      record {
        rest = rest';
        part = part';
        whole =
            ⊗_exactly (over_pos (rest k l l' K L L' *ℤ pos l) (lit< tt)) (over64 (pos k)) part' A.k_is.is
            (short (rest k l l' K L L' *ℤ pos l *ℤ pos k) 18 (term_within k l l' K L L') (lit< tt) (lit≤ tt));
      }

-- ---- eq. 23

abbrev pub dividend : ℕ → ℕ → ℕ → ℕ → Frac
dividend k₁ l₁ k₂ l₂ = exact_term (in64ths k₁ l₁) (in64ths k₂ l₂) -ᶠ exact_term (in64ths k₂ l₂) (in64ths k₁ l₁)

abbrev pub divisor : ℕ → ℕ → Frac
divisor l₁ l₂ = (pos l₁ over pos 64) -ᶠ (pos l₂ over pos 64)

module _ {k₁ l₁ k₂ l₂ : ℕ} (K₁ : k₁ ≤ 16 * 64) (L₁ : l₁ ≤ 16 * 64) (K₂ : k₂ ≤ 16 * 64) (L₂ : l₂ ≤ 16 * 64) where
  -- over 2 ^ 36
  dividend_within : Within (1088 * 1024 * 1024 * 262144 + 1088 * 1024 * 1024 * 262144) ((dividend k₁ l₁ k₂ l₂).num)
  dividend_within = Within--ℤ (Within-*ℤ (term_within k₁ l₁ l₂ K₁ L₁ L₂) (Within-pos 262144))
      (Within-*ℤ (term_within k₂ l₂ l₁ K₂ L₂ L₁) (Within-pos 262144))

  -- over 2 ^ 12
  pub divisor_within : Within (1024 * 64 + 1024 * 64) ((divisor l₁ l₂).num)
  divisor_within = Within--ℤ (Within-*ℤ (Within-le (Within-pos l₁) L₁) (Within-pos 64))
      (Within-*ℤ (Within-le (Within-pos l₂) L₂) (Within-pos 64))

pub divisor_nonzero : {l₁ l₂ : ℕ} → l₁ ≢ l₂ → (divisor l₁ l₂).num ≢ pos 0
divisor_nonzero {l₁} {l₂} n e =
    n (whole l₁ l₂ (pos_injective (ring_from (pos 1) e (ring (pos l₁ ∷ pos l₂ ∷ []) (search terms depth 100) refl))))
  where
    whole : (x y : ℕ) → x * 64 ≡ y * 64 → x ≡ y
    whole x y h = omega arith

-- what is not 0 is not 0 as the float has it
nonzero_value : (x : Float) (z : ℤ) (d : ℕ) → Exactly x (z over pos d) → z ≢ pos 0 → (value_of x).num ≢ pos 0
nonzero_value x z d v n e =
    n (*ℤ_cancel ((value_positive x).positive)
    (sym (v.is_value.cross-≡) ∙ ap (λ y. y *ℤ pos d) e ∙ zero-*ℤ (pos d) ∙ sym (zero-*ℤ ((value_of x).den))))

-- the size of a quotient's numerator
numerator_size : (z y : ℤ) (n : ℕ) → nat_abs (sign z *ℤ (y *ℤ pos n)) ≡ nat_abs y * n
numerator_size z y n =
    nat_abs_*ℤ (sign z) (y *ℤ pos n) ∙ ap (λ m. m * nat_abs (y *ℤ pos n)) (size z) ∙ one-mul (nat_abs (y *ℤ pos n))
    ∙ nat_abs_*ℤ y (pos n)
  where
    size : (z : ℤ) → nat_abs (sign z) ≡ 1
    size (pos k) = refl
    size (negsuc k) = refl

far_below : (y m : ℕ) → y ≤ 1088 * 1024 * 1024 * 262144 + 1088 * 1024 * 1024 * 262144 → 0 < m
    → y * 4096 ≤ 2 ^ 64 * (2 ^ 36 * m)
far_below y m h p = omega arith

pub division_is_the_only_rounding : DivisionIsTheOnlyRounding
unfolding hyperbola exact_strength
division_is_the_only_rounding a b k₁ l₁ k₂ l₂ A B n =
    record {
      first = first';
      second = second';
      difference = difference';
      divisor = divisor';
      nonzero = divisor_nonzero n;
      quotient = quotient';
    }
  where
    first' : TermExact a b (in64ths k₁ l₁) (in64ths k₂ l₂)
    first' = term_exact a b A B

    second' : TermExact b a (in64ths k₂ l₂) (in64ths k₁ l₁)
    second' = term_exact b a B A

    over_2^18 : (z : ℤ) → Positive (z over pos (2 ^ 18))
    over_2^18 z = over_pos z (lit< tt)

    D_within : Within (1088 * 1024 * 1024 * 262144 + 1088 * 1024 * 1024 * 262144) ((dividend k₁ l₁ k₂ l₂).num)
    D_within = dividend_within A.k_is.up_to A.l_is.up_to B.k_is.up_to B.l_is.up_to

    V_within : Within (1024 * 64 + 1024 * 64) ((divisor l₁ l₂).num)
    V_within = divisor_within A.k_is.up_to A.l_is.up_to B.k_is.up_to B.l_is.up_to

    difference' : Exactly (term a b ⊖ term b a) (dividend k₁ l₁ k₂ l₂)
    difference' =
        ⊖_exactly (over_2^18 ((exact_term (in64ths k₁ l₁) (in64ths k₂ l₂)).num))
        (over_2^18 ((exact_term (in64ths k₂ l₂) (in64ths k₁ l₁)).num)) first'.whole second'.whole
        (short ((dividend k₁ l₁ k₂ l₂).num) 36 D_within (lit< tt) (lit≤ tt))

    divisor' : Exactly (a.l ⊖ b.l) (divisor l₁ l₂)
    divisor' =
        ⊖_exactly (over64 (pos l₁)) (over64 (pos l₂)) A.l_is.is B.l_is.is
        (short ((divisor l₁ l₂).num) 12 V_within (lit< tt) (lit≤ tt))

    quotient' : Rounded (hyperbola a b) (exact_strength (in64ths k₁ l₁) (in64ths k₂ l₂))
    quotient' =
        let nz = divisor_nonzero n in
        let over_2^36 = over_pos ((dividend k₁ l₁ k₂ l₂).num) (lit< tt) in
        let P = /ᶠ_positive (divisor l₁ l₂) over_2^36 nz in
        let r =
        ⊘_round_of over_2^36 (over_pos ((divisor l₁ l₂).num) (lit< tt)) difference' divisor'
        (nonzero_value (a.l ⊖ b.l) ((divisor l₁ l₂).num) 4096 divisor' nz) nz in
        let size = numerator_size ((divisor l₁ l₂).num) ((dividend k₁ l₁ k₂ l₂).num) 4096 in
        rounded_of P r
        (finite_of P r (le_trans (le_of_eq size)
        (far_below _ _ (D_within.within) (nat_abs_pos ((divisor l₁ l₂).num) nz))))
