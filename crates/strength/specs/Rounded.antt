-- Exact fractions, and what it is to be the one binary64 number that a fraction is rounded to: nearest, and at a tie
-- the one whose last bit is 0. Nothing here computes with floats or says how a rounding is done.
use Rattle.std.specs.Prelude.{◌≡◌, ◌⊎◌, Bool, true, false, ℕ, ◌*◌, ◌%◌, T, ℤ, pos, negsuc, neg_ℤ, nat_abs, ◌-ℤ◌, ◌*ℤ◌}
use lib.Ieee.{Float, nan, inf, fin, binary64, up, down, fits, to_bits}
use lib.Ieee.Scale.{finite}
use Rattle.integer.specs.Fraction.{Frac, ◌over◌, ◌≤ᶠ◌, ◌≈ᶠ◌}

-- ---- exact arithmetic of fractions

infixl 62 ◌-ᶠ◌
abbrev pub ◌-ᶠ◌ : Frac → Frac → Frac
f -ᶠ g = (f.num *ℤ g.den -ℤ g.num *ℤ f.den) over (f.den *ℤ g.den)

infixl 64 ◌*ᶠ◌ ◌/ᶠ◌
abbrev pub ◌*ᶠ◌ : Frac → Frac → Frac
f *ᶠ g = (f.num *ℤ g.num) over (f.den *ℤ g.den)

-- 1 or -1
abbrev pub sign : ℤ → ℤ
sign (pos n) = pos 1
sign (negsuc n) = negsuc 0

-- the denominator stays above 0: the divisor's sign goes to the numerator
abbrev pub ◌/ᶠ◌ : Frac → Frac → Frac
f /ᶠ g = (sign g.num *ℤ (f.num *ℤ g.den)) over (f.den *ℤ pos (nat_abs g.num))

abbrev pub zeroᶠ : Frac
zeroᶠ = pos 0 over pos 1

abbrev pub oneᶠ : Frac
oneᶠ = pos 1 over pos 1

-- |f - g|
abbrev pub distance : Frac → Frac → Frac
distance f g = pos (nat_abs ((f -ᶠ g).num)) over ((f -ᶠ g).den)

-- ---- the value of a number

abbrev pub signed : Bool → ℕ → ℤ
signed false n = pos n
signed true n = neg_ℤ (pos n)

-- `fin s m e` is m·2 ^ e, negative where s is true, and 2 ^ e is up e / down e; what is not finite has the value 0
abbrev pub value_of : Float → Frac
value_of nan = zeroᶠ
value_of (inf s) = zeroᶠ
value_of (fin s m e) = signed s (m * up e) over pos (down e)

-- x is finite, and its value is the fraction q: nothing was rounded
pub record Exactly (x : Float) (q : Frac) : Type 0 where
  pub is_finite : T (finite x)
  pub is_value : value_of x ≈ᶠ q

-- ---- rounded once

-- a finite number of binary64
pub record Number (x : Float) : Type 0 where
  pub held : T (fits binary64 x)
  pub is_finite : T (finite x)

-- no number is nearer to q than x, and where another is as near, the last bit of x is 0
pub record Rounded (x : Float) (q : Frac) : Type 0 where
  pub number : Number x
  pub nearest : (y : Float) → Number y → distance (value_of x) q ≤ᶠ distance (value_of y) q
  pub tie : (y : Float) → Number y → distance (value_of y) q ≈ᶠ distance (value_of x) q
      → (value_of y ≈ᶠ value_of x) ⊎ (to_bits binary64 x % 2 ≡ 0)
