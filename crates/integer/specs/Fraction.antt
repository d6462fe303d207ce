-- Fractions, compared by cross products. The comparisons mean what they say where denominators are above 0
-- (`Positive`).
use Rattle.std.specs.Prelude.{◌≡◌, ℤ, pos, ◌*ℤ◌, ◌≤ℤ◌, ◌<ℤ◌}

pub record Frac : Type 0 where
  pub num : ℤ
  pub den : ℤ

infix 60 ◌over◌
abbrev pub ◌over◌ : ℤ → ℤ → Frac
a over m = record { num = a; den = m }

-- a/m ≤ b/n is a·n ≤ b·m
infix 50 ◌≤ᶠ◌ ◌<ᶠ◌ ◌≈ᶠ◌
pub record ◌≤ᶠ◌ (f g : Frac) : Type 0 where
  pub cross-≤ : (f.num *ℤ g.den) ≤ℤ (g.num *ℤ f.den)

pub record ◌<ᶠ◌ (f g : Frac) : Type 0 where
  pub cross-< : (f.num *ℤ g.den) <ℤ (g.num *ℤ f.den)

-- two fractions are equal
pub record ◌≈ᶠ◌ (f g : Frac) : Type 0 where
  pub cross-≡ : f.num *ℤ g.den ≡ g.num *ℤ f.den

-- the denominator is above 0
pub record Positive (f : Frac) : Type 0 where
  pub positive : pos 0 <ℤ f.den
