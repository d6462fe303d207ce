-- What the code's tests say: a number is finite and above 0, by the order of floats; and which answer follows where
-- both trials are usable.
use mathlib.Core.Path.{◌≡◌, refl, sym, ap, ◌∙◌}
use mathlib.Core.Bool.{true, false}
use Prim.Native.Nat.{ℕ, ◌*◌}
use native.Mathlib.Nat.{mul-pos, zero-mul}
use lib.Dec.{ltb, lt→ltb, ltb→lt}
use lib.IntN.{ℤ}
use lib.Pow.{pow_pos}
use lib.Ieee.{Float, nan, inf, fin, binary64, up, down, lt, eq, of_bits}
use lib.Ieee.Fits.{up_pos}
use lib.Ieee.Positive.{positive, first_pos}
use Rattle.integer.proofs.TestLaws.{same_test}
use Rattle.std.specs.Prelude.{Ok, Err}
use Rattle.strength.specs.declared.Trial.{Trial}
use Rattle.strength.specs.declared.StrengthError.TheVariants.{NoStrength}
use Rattle.strength.specs.Next.{hyperbola, usable, accepted, next_strength}

-- ---- 0 < x, and x below the infinity

-- 0 < m·2 ^ e exactly where 0 < m
above_zero : (m : ℕ) (e : ℤ) → ltb (0 * 1 * down e) (m * up e * 1) ≡ ltb 0 m
above_zero m e =
    ap (λ z. ltb z (m * up e * 1)) (zero-mul (down e))
    ∙ same_test
    (λ t. lt→ltb 0 m (first_pos m (up e) (first_pos (m * up e) 1 (ltb→lt 0 (m * up e * 1) t))))
    (λ t. lt→ltb 0 (m * up e * 1) (mul-pos (mul-pos (ltb→lt 0 m t) (up_pos e)) (pow_pos 0)))

pub above_and_finite : (x : Float) → lt (of_bits binary64 0) x ≡ true
    → lt x (of_bits binary64 0x7ff0000000000000) ≡ positive x
unfolding lt of_bits
above_and_finite nan h = refl
above_and_finite (inf true) h = sym h
above_and_finite (inf false) h = refl
above_and_finite (fin true m e) h = sym h
above_and_finite (fin false m e) h = sym (sym (above_zero m e) ∙ h)

pub not_above : (x : Float) → lt (of_bits binary64 0) x ≡ false → lt (of_bits binary64 0) x ≡ positive x
unfolding lt of_bits
not_above nan h = h
not_above (inf true) h = h
not_above (inf false) h = h
not_above (fin true m e) h = h
not_above (fin false m e) h = above_zero m e

-- ---- which answer follows, where both trials are usable
module _ (a b : Trial) (g : usable a ≡ true) (h : usable b ≡ true) where
  pub refuses_level : eq a.l b.l ≡ true → next_strength a b ≡ Err NoStrength
  unfolding next_strength accepted
  refuses_level e = simp (g, h, e)

  pub refuses_result : eq a.l b.l ≡ false → positive (hyperbola a b) ≡ false → next_strength a b ≡ Err NoStrength
  unfolding next_strength accepted
  refuses_result e r = simp (g, h, e, r)

  pub gives : eq a.l b.l ≡ false → positive (hyperbola a b) ≡ true → next_strength a b ≡ Ok (hyperbola a b)
  unfolding next_strength accepted
  gives e r = simp (g, h, e, r)
