-- What a plane's two rows mean: ring identities, and the two rows together by the sign of q·T.
use mathlib.Core.Path.{◌≡◌, refl, sym, subst}
use mathlib.Core.Logic.{◌↔◌}
use mathlib.Core.List.{[], ◌∷◌}
use native.Mathlib.Omega.{arith}
use lib.IntN.{ℤ, pos, negsuc, ◌+ℤ◌, ◌-ℤ◌, ◌*ℤ◌, neg_ℤ, nat_abs}
use lib.Signed.{◌≤ℤ◌}
use Rattle.integer.proofs.Linear.{linear, facts}
use Rattle.integer.proofs.Ring.{ring, ring_from, terms}
use Rattle.scope.specs.Polygon.{Point}
use Rattle.scope.specs.Printed.{plane_normal, plane_shear}
use Rattle.scope.specs.Planes.{cohesion_on, opposite, PlaneHolds, PlaneMeaning, CohesionMeaning}

-- a + z and a - z are both at most b exactly when a + |z| is
both_signs : (a b z : ℤ) → (((a +ℤ z) ≤ℤ b) × ((a -ℤ z) ≤ℤ b)) ↔ ((pos (nat_abs z) +ℤ a) ≤ℤ b)
both_signs a b (pos k) = (
  λ h. let f = h.0 in linear f (search facts depth 40) (omega arith),
  λ h. (linear h (search facts depth 40) (omega arith), linear h (search facts depth 40) (omega arith)),
)
both_signs a b (negsuc k) = (
  λ h. let f = h.1 in linear f (search facts depth 40) (omega arith),
  λ h. (linear h (search facts depth 40) (omega arith), linear h (search facts depth 40) (omega arith)),
)

module _ (r : ℤ) (v : Point) (p q ch cv n sx sy t : ℤ) where
  shear_turned : plane_shear (opposite v) sx sy t ≡ plane_shear v sx sy t
  shear_turned = ring (v.px ∷ v.py ∷ sx ∷ sy ∷ t ∷ []) (search terms depth 100) refl

  normal_turned : plane_normal (opposite v) sx sy t ≡ plane_normal v sx sy t
  normal_turned = ring (v.px ∷ v.py ∷ sx ∷ sy ∷ t ∷ []) (search terms depth 100) refl

  cohesion_turned : cohesion_on r (opposite v) ch cv ≡ cohesion_on r v ch cv
  cohesion_turned = ring (v.px ∷ r ∷ ch ∷ cv ∷ []) (search terms depth 100) refl

  turned : PlaneHolds r (opposite v) p q ch cv n sx sy t ≡ PlaneHolds r v p q ch cv n sx sy t
  turned = λ i. (pos (nat_abs (q *ℤ shear_turned i)) +ℤ p *ℤ normal_turned i) ≤ℤ (q *ℤ n *ℤ cohesion_turned i)

  pub plane_meaning : PlaneMeaning r v p q ch cv n sx sy t
  plane_meaning = record {
    normal = ring (v.px ∷ v.py ∷ sx ∷ sy ∷ t ∷ []) (search terms depth 100) refl;
    shear = ring (v.px ∷ v.py ∷ sx ∷ sy ∷ t ∷ []) (search terms depth 100) refl;
    pressure = λ on. (
      ring_from sx on (ring (v.px ∷ v.py ∷ sx ∷ r ∷ []) (search terms depth 100) refl),
      ring (v.px ∷ v.py ∷ sx ∷ []) (search terms depth 100) refl,
    );
    both = both_signs (p *ℤ plane_normal v sx sy t) (q *ℤ n *ℤ cohesion_on r v ch cv) (q *ℤ plane_shear v sx sy t);
    turned = (subst (λ (A : Type 0). A) turned, subst (λ (A : Type 0). A) (sym turned));
  }

pub cohesion_meaning : (r ch cv : ℤ) → CohesionMeaning r ch cv
cohesion_meaning r ch cv = record {
  along = ring (r ∷ ch ∷ cv ∷ []) (search terms depth 100) refl;
  across = ring (r ∷ ch ∷ cv ∷ []) (search terms depth 100) refl;
  between = λ v on. ring_from (neg_ℤ ch) on (ring (v.px ∷ v.py ∷ r ∷ ch ∷ cv ∷ []) (search terms depth 100) refl);
  same = λ e v. rw e (ring (v.px ∷ r ∷ cv ∷ []) (search terms depth 100) refl);
}
