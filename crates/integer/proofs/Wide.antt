-- Numbers in 128 bits, as the machine has them: a product of two 64-bit numbers is exact.
--
-- Example (`example_product`, checked after `wide_product`): the product of two parameters, each cast to 128 bits, is
-- their product.
use mathlib.Core.Path.{◌≡◌, refl, ◌∙◌, ap, ap₂}
use Prim.Native.Nat.{◌*◌, ◌^◌, ◌≤◌, ◌<◌}
use native.Mathlib.Nat.{mul-le-mul}
use native.Mathlib.Omega.{arith}
use lib.IntN.{ℤ, pos, negsuc, nat_abs, ◌*ℤ◌}
use lib.Signed.{lt_z, nat_abs-le}
use mir.Syntax.{w64, w128}
use mir.Val.{SFits, to_z, of_z}
use mir.Facts.{to_z-of_z}
use Rattle.integer.proofs.RingLaws.{nat_abs_*ℤ}

-- an i64 as the machine reads it back from its bits, and an i128
abbrev pub read : ℤ → ℤ
read z = to_z w64 (of_z w64 z)

abbrev pub wide : ℤ → ℤ
wide z = to_z w128 (of_z w128 z)

pub fits_wide : (z : ℤ) → nat_abs z < 2 ^ 127 → SFits w128 z
fits_wide (pos n) h = record { sfits = h }
fits_wide (negsuc n) h = record { sfits = omega arith }

pub is_wide : {v : ℤ} (z : ℤ) → nat_abs z < 2 ^ 127 → v ≡ z → wide v ≡ z
is_wide z h e = ap wide e ∙ to_z-of_z (fits_wide z h)

module _ (a b : ℤ) (f : SFits w64 a) (g : SFits w64 b) where
  product_small : nat_abs (a *ℤ b) ≤ 2 ^ 63 * 2 ^ 63
  product_small = rw (nat_abs_*ℤ a b) (mul-le-mul (nat_abs-le a f.sfits) (nat_abs-le b g.sfits))

  pub wide_product : {n m : ℤ} → n ≡ read a → m ≡ read b → wide (wide n *ℤ wide m) ≡ a *ℤ b
  wide_product p q =
      is_wide (a *ℤ b) (omega (arith, product_small))
      (ap₂ ◌*ℤ◌
      (is_wide a (omega (arith, nat_abs-le a f.sfits)) (p ∙ to_z-of_z f))
      (is_wide b (omega (arith, nat_abs-le b g.sfits)) (q ∙ to_z-of_z g)))

example_product : (a b : ℤ) → SFits w64 a → SFits w64 b → wide (wide (read a) *ℤ wide (read b)) ≡ a *ℤ b
example_product a b f g = wide_product a b f g refl refl

-- two such products compared
pub wide_below : (a b c d : ℤ) → SFits w64 a → SFits w64 b → SFits w64 c → SFits w64 d → {n m k j : ℤ} → n ≡ read a
    → m ≡ read b → k ≡ read c → j ≡ read d
    → lt_z (wide (wide n *ℤ wide m)) (wide (wide k *ℤ wide j)) ≡ lt_z (a *ℤ b) (c *ℤ d)
wide_below a b c d A B C D p q r s = ap₂ lt_z (wide_product a b A B p q) (wide_product c d C D r s)
