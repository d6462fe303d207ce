-- Equal fractions have equal differences, products and quotients: cross products of the parts, by `ring`.
use mathlib.Core.Path.{◌≡◌, refl, ap}
use mathlib.Core.Logic.{◌≢◌}
use mathlib.Core.List.{[], ◌∷◌}
use Prim.Native.Nat.{ℕ, zero, suc, ◌*◌, ◌<◌}
use native.Mathlib.Nat.{one-mul}
use native.Mathlib.Omega.{arith}
use lib.Dec.{lt→ltb, ltb→lt, lit<}
use lib.IntN.{ℤ, pos, negsuc, neg_ℤ, nat_abs, ◌*ℤ◌}
use lib.Signed.{lt_z_yes}
use lib.Ieee.{Float, nan, inf, fin, up}
use lib.Ieee.Fits.{down_pos}
use Rattle.integer.specs.Fraction.{Frac, ◌over◌, ◌≈ᶠ◌, Positive}
use Rattle.integer.proofs.Order.{*ℤ_pos}
use Rattle.integer.proofs.Ring.{ring, ring_from, terms}
use Rattle.strength.specs.Rounded.{◌-ᶠ◌, ◌*ᶠ◌, ◌/ᶠ◌, sign, signed, value_of}

pub over_pos : (z : ℤ) {d : ℕ} → 0 < d → Positive (z over pos d)
over_pos z {d} h = record { positive = lt_z_yes (lt→ltb 0 d h) }

pub value_positive : (x : Float) → Positive (value_of x)
value_positive nan = over_pos (pos 0) (lit< tt)
value_positive (inf s) = over_pos (pos 0) (lit< tt)
value_positive (fin s m e) = over_pos (signed s (m * up e)) (down_pos e)

-- a denominator above 0 is a natural number
pub by_parts : (P : Frac → Type 0) → ((N : ℤ) (d : ℕ) → 0 < d → P (N over pos d)) → (q : Frac) → Positive q → P q
by_parts P h q Q = go q.num q.den Q
  where
    go : (N d : ℤ) → Positive (N over d) → P (N over d)
    go N (pos d) p = h N d (ltb→lt 0 d p.positive.lt)
    go N (negsuc d) p = absurd p.positive.lt

pub nat_abs_pos : (z : ℤ) → z ≢ pos 0 → 0 < nat_abs z
nat_abs_pos (pos zero) n = absurd (n refl)
nat_abs_pos (pos (suc k)) n = omega arith
nat_abs_pos (negsuc k) n = omega arith

module _ {p q : Frac} (P : Positive p) where
  pub -ᶠ_positive : Positive q → Positive (p -ᶠ q)
  -ᶠ_positive Q = record { positive = *ℤ_pos P.positive Q.positive }

  pub *ᶠ_positive : Positive q → Positive (p *ᶠ q)
  *ᶠ_positive Q = record { positive = *ℤ_pos P.positive Q.positive }

pub /ᶠ_positive : {p : Frac} (q : Frac) → Positive p → q.num ≢ pos 0 → Positive (p /ᶠ q)
/ᶠ_positive q P n = record {
  positive = *ℤ_pos P.positive
      (lt_z_yes (lt→ltb 0 (nat_abs q.num) (nat_abs_pos q.num n)));
}

-- sign z · z = |z|
pub sign_*ℤ : (z : ℤ) → sign z *ℤ z ≡ pos (nat_abs z)
sign_*ℤ (pos n) = ring (pos n ∷ []) (search terms depth 100) refl
sign_*ℤ (negsuc n) = ap pos (one-mul (suc n))

module _ {p p' q q' : Frac} (h : p ≈ᶠ p') (k : q ≈ᶠ q') where
  pub -ᶠ_cong : p -ᶠ q ≈ᶠ p' -ᶠ q'
  -ᶠ_cong =
      record {
        cross-≡ =
            ring_from (q.den *ℤ q'.den) (h.cross-≡)
            (ring_from (neg_ℤ (p.den *ℤ p'.den)) (k.cross-≡)
            (ring (p.num ∷ p.den ∷ p'.num ∷ p'.den ∷ q.num ∷ q.den ∷ q'.num ∷ q'.den ∷ [])
            (search terms depth 100) refl));
      }

  pub *ᶠ_cong : p *ᶠ q ≈ᶠ p' *ᶠ q'
  *ᶠ_cong =
      record {
        cross-≡ =
            ring_from (q.num *ℤ q'.den) (h.cross-≡)
            (ring_from (p'.num *ℤ p.den) (k.cross-≡)
            (ring (p.num ∷ p.den ∷ p'.num ∷ p'.den ∷ q.num ∷ q.den ∷ q'.num ∷ q'.den ∷ [])
            (search terms depth 100) refl));
      }

  pub /ᶠ_cong : p /ᶠ q ≈ᶠ p' /ᶠ q'
  /ᶠ_cong =
      let s = sign q.num in
      let s' = sign q'.num in
      record {
        cross-≡ =
            ring_from (neg_ℤ (s *ℤ p.num *ℤ q.den *ℤ p'.den)) (sign_*ℤ q'.num)
            (ring_from (s' *ℤ p'.num *ℤ q'.den *ℤ p.den) (sign_*ℤ q.num)
            (ring_from (s *ℤ s' *ℤ q.den *ℤ q'.num) (h.cross-≡)
            (ring_from (neg_ℤ (s *ℤ s' *ℤ p'.num *ℤ p.den)) (k.cross-≡)
            (ring
            (p.num ∷ p.den ∷ p'.num ∷ p'.den ∷ q.num ∷ q.den ∷ q'.num ∷ q'.den ∷ s ∷ s' ∷ pos
            (nat_abs q.num) ∷ pos (nat_abs q'.num) ∷ [])
            (search terms depth 100 fits 10000)
            refl))));
      }
