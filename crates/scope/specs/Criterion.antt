-- The Mohr-Coulomb criterion (001, eq. 12) at a node, over whole numbers.
-- 001, with tension positive: (σx - σy)² + (2τ)² ≤ (2·c·cos φ - (σx + σy)·sin φ)².
-- Here sin φ = p/h, cos φ = q/h, c = C, and "True stresses are these over n": σx = sx/n, σy = sy/n, τ = t/n.
-- Times (h·n)², the left side is h²·((sx - sy)² + (2t)²) and the right side is the square of 2·q·C·n - p·(sx + sy).
-- The square hides a sign: the criterion's circle has the radius 2·c·cos φ - (σx + σy)·sin φ, which is not below 0.
use Rattle.std.specs.Prelude.{List, ℕ, ℤ, pos, ◌+ℤ◌, ◌-ℤ◌, ◌*ℤ◌, ◌≤ℤ◌}
use Rattle.integer.specs.Members.{◌∈◌}
use Rattle.scope.specs.Mesh.{p, q, h, cohesion}
use Rattle.scope.specs.Polygon.{Polygon, Side, polygon_sides}
use Rattle.scope.specs.Rows.{sx, sy, t, Pair}
use Rattle.scope.specs.Printed.{Strength}

-- h·n times that radius, from 001 and not from the rows: a slip in theirs must not be one here
abbrev pub circle_radius : (p q C n sx sy : ℤ) → ℤ
circle_radius p q C n sx sy = pos 2 *ℤ q *ℤ C *ℤ n -ℤ p *ℤ (sx +ℤ sy)

pub record Criterion (p q h C n sx sy t : ℤ) : Type 0 where
  pub radius_not_below_0 : pos 0 ≤ℤ circle_radius p q C n sx sy
  pub squares : (h *ℤ h *ℤ ((sx -ℤ sy) *ℤ (sx -ℤ sy) +ℤ (pos 2 *ℤ t) *ℤ (pos 2 *ℤ t))) ≤ℤ
      (circle_radius p q C n sx sy *ℤ circle_radius p q C n sx sy)

-- stresses that meet all rows of a polygon meet the criterion
abbrev pub WithinCriterion : Polygon → Type 0
WithinCriterion g =
    (p q h C n sx sy t : ℤ) → ((s : Side) → s ∈ polygon_sides g.corners → Strength g.radius s p q h C n sx sy t)
    → Criterion p q h C n sx sy t

-- the criterion for a node with the strength of a soil, in a field of stresses s over n
abbrev pub CriterionAt : List ℤ → (ℕ → ℤ) → ℤ → Pair → Type 0
CriterionAt m s n a =
    Criterion (p m a.soil) (q m a.soil) (h m a.soil) (cohesion m a.soil) n (s (sx a.at))
    (s (sy a.at)) (s (t a.at))
