-- Eq. 23 in exact fractions, and where binary64 rounds on the way to it.
use Rattle.std.specs.Prelude.{Err, ◌≡◌, ◌⊎◌, ◌↔◌, ◌≢◌, ℕ, ◌*◌, ◌≤◌, ◌<◌, pos}
use lib.Ieee.{Float}
use Rattle.integer.specs.Fraction.{Frac, ◌over◌, ◌≤ᶠ◌}
use Rattle.strength.specs.declared.Trial.{Trial}
use Rattle.strength.specs.declared.StrengthError.TheVariants.{NoStrength}
use Rattle.strength.specs.Next.{one, ◌⊖◌, ◌⊗◌, term, hyperbola, next_strength}
use Rattle.strength.specs.Rounded.{◌-ᶠ◌, ◌*ᶠ◌, ◌/ᶠ◌, oneᶠ, zeroᶠ, value_of, Exactly, Rounded}

-- a trial in exact fractions
pub record ExactTrial : Type 0 where
  pub K : Frac
  pub L : Frac

-- (1-L2)·L1·K1
abbrev pub exact_term : ExactTrial → ExactTrial → Frac
exact_term A B = (oneᶠ -ᶠ B.L) *ᶠ A.L *ᶠ A.K

-- 001, eq. 23: K3 = ((1-L2)·L1·K1 - (1-L1)·L2·K2) / (L1-L2)
unfoldable pub exact_strength : ExactTrial → ExactTrial → Frac
exact_strength A B = (exact_term A B -ᶠ exact_term B A) /ᶠ (A.L -ᶠ B.L)

-- ==== "each operation rounded once"

-- each operation is the exact result of its operands' values, rounded once: so it is of every strength that is given
pub record TermRounded (a b : Trial) : Type 0 where
  pub rest : Rounded (one ⊖ b.l) (oneᶠ -ᶠ value_of b.l)
  pub part : Rounded ((one ⊖ b.l) ⊗ a.l) (value_of (one ⊖ b.l) *ᶠ value_of a.l)
  pub whole : Rounded (term a b) (value_of ((one ⊖ b.l) ⊗ a.l) *ᶠ value_of a.k)

pub record EachRounded (a b : Trial) : Type 0 where
  pub first : TermRounded a b
  pub second : TermRounded b a
  pub difference : Rounded (term a b ⊖ term b a) (value_of (term a b) -ᶠ value_of (term b a))
  pub divisor : Rounded (a.l ⊖ b.l) (value_of a.l -ᶠ value_of b.l)
  pub nonzero : (value_of (a.l ⊖ b.l)).num ≢ pos 0
  pub quotient : Rounded (hyperbola a b) (value_of (term a b ⊖ term b a) /ᶠ value_of (a.l ⊖ b.l))

-- ==== "If all four are whole 64ths above 0 and up to 16, the division is the only rounding."

-- n 64ths, above 0 and up to 16
pub record Whole64ths (x : Float) (n : ℕ) : Type 0 where
  pub above : 0 < n
  pub up_to : n ≤ 16 * 64
  pub is : Exactly x (pos n over pos 64)

-- the trial of k 64ths and l 64ths
abbrev pub in64ths : ℕ → ℕ → ExactTrial
in64ths k l = record { K = pos k over pos 64; L = pos l over pos 64 }

pub record Trial64ths (t : Trial) (k l : ℕ) : Type 0 where
  pub k_is : Whole64ths t.k k
  pub l_is : Whole64ths t.l l

-- each operation of a term is exact
pub record TermExact (a b : Trial) (A B : ExactTrial) : Type 0 where
  pub rest : Exactly (one ⊖ b.l) (oneᶠ -ᶠ B.L)
  pub part : Exactly ((one ⊖ b.l) ⊗ a.l) ((oneᶠ -ᶠ B.L) *ᶠ A.L)
  pub whole : Exactly (term a b) (exact_term A B)

-- every difference and every product is exact, the divisor is not 0, and the exact quotient is rounded once
pub record OnlyRounding (a b : Trial) (A B : ExactTrial) : Type 0 where
  pub first : TermExact a b A B
  pub second : TermExact b a B A
  pub difference : Exactly (term a b ⊖ term b a) (exact_term A B -ᶠ exact_term B A)
  pub divisor : Exactly (a.l ⊖ b.l) (A.L -ᶠ B.L)
  pub nonzero : (A.L -ᶠ B.L).num ≢ pos 0
  pub quotient : Rounded (hyperbola a b) (exact_strength A B)

abbrev pub DivisionIsTheOnlyRounding : Type 0
DivisionIsTheOnlyRounding =
    (a b : Trial) (k₁ l₁ k₂ l₂ : ℕ) → Trial64ths a k₁ l₁ → Trial64ths b k₂ l₂ → l₁ ≢ l₂
    → OnlyRounding a b (in64ths k₁ l₁) (in64ths k₂ l₂)

-- then a refusal comes from the exact values alone: L1 = L2, or the exact quotient is not above 0
abbrev pub RefusesByExactValues : Type 0
RefusesByExactValues =
    (a b : Trial) (k₁ l₁ k₂ l₂ : ℕ) → Trial64ths a k₁ l₁ → Trial64ths b k₂ l₂
    → (next_strength a b ≡ Err NoStrength) ↔ ((l₁ ≡ l₂) ⊎ (exact_strength (in64ths k₁ l₁) (in64ths k₂ l₂) ≤ᶠ zeroᶠ))
