-- Strength by direction (document 02, N14; 000, eq. 5 to 10 and 28): what a corner's two rows say of the plane whose
-- normal is (a, b)/r, and of its cohesion.
use Rattle.std.specs.Prelude.{◌≡◌, ◌↔◌, List, ℕ, ℤ, pos, ◌+ℤ◌, ◌-ℤ◌, ◌*ℤ◌, neg_ℤ, nat_abs, ◌≤ℤ◌}
use Rattle.scope.specs.Mesh.{sides, p, q, cohesion, cohesion_across}
use Rattle.scope.specs.Polygon.{Point, point, polygon_of}
use Rattle.scope.specs.PolygonRule.{OnCircle}
use Rattle.scope.specs.Rows.{sx, sy, t, Pair}
use Rattle.scope.specs.Printed.{plane_normal, plane_shear, PlanePlus, PlaneMinus}

-- the force across (a, b), which is r times the plane's unit normal
abbrev pub plane_force_x : Point → (sx t : ℤ) → ℤ
plane_force_x v sx t = sx *ℤ v.px +ℤ t *ℤ v.py

abbrev pub plane_force_y : Point → (sy t : ℤ) → ℤ
plane_force_y v sy t = t *ℤ v.px +ℤ sy *ℤ v.py

-- r² times the plane's cohesion c, "c = ch + (cv - ch)·sin²θ" (000, eq. 28) with θ from the horizontal to the plane, so
-- that sin θ is a/r
abbrev pub cohesion_on : (r : ℤ) → Point → (ch cv : ℤ) → ℤ
cohesion_on r v ch cv = r *ℤ r *ℤ ch +ℤ (cv -ℤ ch) *ℤ (v.px *ℤ v.px)

-- |q·T| + p·N ≤ q·n·r²·c: with φ the friction angle, p/h = sin φ and q/h = cos φ, this is |τ| ≤ c - σ·tan φ
abbrev pub PlaneHolds : (r : ℤ) → Point → (p q ch cv n sx sy t : ℤ) → Type 0
PlaneHolds r v p q ch cv n sx sy t =
    (pos (nat_abs (q *ℤ plane_shear v sx sy t)) +ℤ p *ℤ plane_normal v sx sy t) ≤ℤ (q *ℤ n *ℤ cohesion_on r v ch cv)

-- (-a, -b)
abbrev pub opposite : Point → Point
opposite v = point (neg_ℤ v.px) (neg_ℤ v.py)

pub record PlaneMeaning (r : ℤ) (v : Point) (p q ch cv n sx sy t : ℤ) : Type 0 where
  -- N and T are r² times the normal and the shear stress: the force's parts along (a, b) and along (-b, a)
  pub normal : plane_normal v sx sy t ≡ plane_force_x v sx t *ℤ v.px +ℤ plane_force_y v sy t *ℤ v.py
  pub shear : plane_shear v sx sy t ≡ plane_force_x v sx t *ℤ neg_ℤ v.py +ℤ plane_force_y v sy t *ℤ v.px
  -- a uniform pressure presses on every plane as it is
  pub pressure : OnCircle r v → (plane_normal v sx sx (pos 0) ≡ r *ℤ r *ℤ sx) × (plane_shear v sx sx (pos 0) ≡ pos 0)
  -- the two rows together
  pub both : (PlanePlus r v p q ch cv n sx sy t × PlaneMinus r v p q ch cv n sx sy t)
      ↔ PlaneHolds r v p q ch cv n sx sy t
  -- the other half turn would say them again
  pub turned : PlaneHolds r (opposite v) p q ch cv n sx sy t ↔ PlaneHolds r v p q ch cv n sx sy t

pub record CohesionMeaning (r ch cv : ℤ) : Type 0 where
  -- "ch along": the plane along the beds has the normal (0, r); "cv across": that across them has the normal (r, 0)
  pub along : cohesion_on r (point (pos 0) r) ch cv ≡ r *ℤ r *ℤ ch
  pub across : cohesion_on r (point r (pos 0)) ch cv ≡ r *ℤ r *ℤ cv
  pub between : (v : Point) → OnCircle r v
      → cohesion_on r v ch cv ≡ v.py *ℤ v.py *ℤ ch +ℤ v.px *ℤ v.px *ℤ cv
  -- ch = cv makes it independent of direction
  pub same : ch ≡ cv → (v : Point) → cohesion_on r v ch cv ≡ r *ℤ r *ℤ ch

-- the plane v at a node with the strength of a soil, in a field of stresses s over n
abbrev pub PlaneHoldsAt : List ℤ → (ℕ → ℤ) → ℤ → Pair → Point → Type 0
PlaneHoldsAt m s n a v =
    PlaneHolds (polygon_of (sides m)).radius v (p m a.soil) (q m a.soil) (cohesion m a.soil)
    (cohesion_across m a.soil) n (s (sx a.at)) (s (sy a.at)) (s (t a.at))
