-- The order of fractions by cross products: `≤ᶠ` is reflexive, total, decidable, transitive between positive
-- denominators, and two fractions are each at most the other exactly when their cross products are equal.
-- Example (`example_third_below`, checked after `≤ᶠ_trans`): f ≤ 2/5, from p : f has a denominator above 0 and h : f ≤
-- 1/3, where literals are compared by `le_z_yes tt`:
--     ≤ᶠ_trans p (record { positive = lt_z_yes tt }) (record { positive = lt_z_yes tt }) h (record { cross-≤ =
--         le_z_yes tt })
use mathlib.Core.Path.{refl, sym}
use mathlib.Core.List.{[], ◌∷◌}
use mathlib.Core.Logic.{◌⊎◌, inl, inr, ⊎_elim}
use lib.IntN.{ℤ, pos, ◌*ℤ◌}
use lib.Signed.{≤ℤ_refl, <ℤ_irrefl, <ℤ-≤ℤ_trans, le_z_yes, lt_z_yes}
use Rattle.integer.specs.Fraction.{Frac, ◌over◌, ◌≤ᶠ◌, ◌<ᶠ◌, ◌≈ᶠ◌, Positive}
use Rattle.integer.proofs.Ring.{ring, terms}
use Rattle.integer.proofs.Order.{≤ℤ_antisym, <ℤ_or_≤ℤ, ≡→≤ℤ, <ℤ→≤ℤ, by_nn, nn_diff, +ℤ_mono, *ℤ_mono, *ℤ_cancel_≤}

-- ---- the order

pub ≤ᶠ_refl : (f : Frac) → f ≤ᶠ f
≤ᶠ_refl f = record { cross-≤ = ≤ℤ_refl (f.num *ℤ f.den) }

pub <ᶠ_or_≤ᶠ : (f g : Frac) → (f <ᶠ g) ⊎ (g ≤ᶠ f)
<ᶠ_or_≤ᶠ f g = ⊎_elim (λ h. inl (record { cross-< = h })) (λ h. inr (record { cross-≤ = h }))
    (<ℤ_or_≤ℤ (f.num *ℤ g.den) (g.num *ℤ f.den))

pub <ᶠ_not_≤ᶠ : {f g : Frac} → f <ᶠ g → ¬ (g ≤ᶠ f)
<ᶠ_not_≤ᶠ h k = <ℤ_irrefl (<ℤ-≤ℤ_trans h.cross-< k.cross-≤)

pub ≤ᶠ_trans : {f g h : Frac} → Positive f → Positive g → Positive h → f ≤ᶠ g → g ≤ᶠ h → f ≤ᶠ h
≤ᶠ_trans {f} {g} {h} pf pg ph p q =
    let u = *ℤ_mono p.cross-≤ (<ℤ→≤ℤ ph.positive) in
    let v = *ℤ_mono q.cross-≤ (<ℤ→≤ℤ pf.positive) in
    record {
      cross-≤ = *ℤ_cancel_≤ pg.positive
          (by_nn (+ℤ_mono (nn_diff u) (nn_diff v))
          (ring (f.num ∷ f.den ∷ g.num ∷ g.den ∷ h.num ∷ h.den ∷ []) (search terms depth 100) refl));
    }

-- example: a chain of comparisons
example_third_below : (f : Frac) → Positive f → f ≤ᶠ pos 1 over pos 3 → f ≤ᶠ pos 2 over pos 5
example_third_below f p h = ≤ᶠ_trans p (record { positive = lt_z_yes tt }) (record { positive = lt_z_yes tt }) h
    (record { cross-≤ = le_z_yes tt })

-- ---- equal fractions

pub ≤ᶠ_antisym : {f g : Frac} → f ≤ᶠ g → g ≤ᶠ f → f ≈ᶠ g
≤ᶠ_antisym p q = record { cross-≡ = ≤ℤ_antisym p.cross-≤ q.cross-≤ }

pub ≈ᶠ→≤ᶠ : {f g : Frac} → f ≈ᶠ g → f ≤ᶠ g
≈ᶠ→≤ᶠ e = record { cross-≤ = ≡→≤ℤ e.cross-≡ }

pub ≈ᶠ_sym : {f g : Frac} → f ≈ᶠ g → g ≈ᶠ f
≈ᶠ_sym e = record { cross-≡ = sym e.cross-≡ }

pub ≈ᶠ_trans : {f g h : Frac} → Positive f → Positive g → Positive h → f ≈ᶠ g → g ≈ᶠ h → f ≈ᶠ h
≈ᶠ_trans pf pg ph d e =
    ≤ᶠ_antisym (≤ᶠ_trans pf pg ph (≈ᶠ→≤ᶠ d) (≈ᶠ→≤ᶠ e)) (≤ᶠ_trans ph pg pf (≈ᶠ→≤ᶠ (≈ᶠ_sym e)) (≈ᶠ→≤ᶠ (≈ᶠ_sym d)))
