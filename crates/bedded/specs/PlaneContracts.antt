-- What the rows of a soil by direction hand around: the numbers of the soil, the same at the stresses of a node, and
-- the corners that are the planes' normals.
use Rattle.std.specs.Prelude.{◌≡◌, List, ℕ, ◌/◌, ℤ, pos, ◌+ℤ◌, ◌-ℤ◌, ◌*ℤ◌, neg_ℤ, get_or}
use Rattle.integer.specs.Bounds.{Within}
use Rattle.bedded.specs.declared.planes.Bed.{Bed}
use Rattle.bedded.specs.declared.planes.Stresses.{Stresses}
use Rattle.bedded.specs.declared.planes.PlaneNumbers.{PlaneNumbers}
use Rattle.scope.specs.Bounds.{most_plane_radius}
use Rattle.scope.specs.Mesh.{p, q, cohesion, cohesion_across}
use Rattle.scope.specs.RowNumbers.{plus_minus}

-- ---- a soil: r, p, q, ch and cv - ch

pub record BedIs (b : Bed) (m : List ℤ) (soil : ℕ) (r : ℤ) : Type 0 where
  pub radius : b.radius ≡ r
  pub p : b.p ≡ p m soil
  pub q : b.q ≡ q m soil
  pub along : b.along ≡ cohesion m soil
  pub excess : b.excess ≡ cohesion_across m soil -ℤ cohesion m soil

-- the same at the stresses d
pub record NumbersAre (h : PlaneNumbers) (b : Bed) (d : Stresses) : Type 0 where
  pub base : h.base ≡ b.q *ℤ d.n *ℤ (b.radius *ℤ b.radius *ℤ b.along)
  pub aa : h.aa ≡ b.q *ℤ d.n *ℤ b.excess -ℤ b.p *ℤ d.sx
  pub bb : h.bb ≡ neg_ℤ (b.p *ℤ d.sy)
  pub ab : h.ab ≡ neg_ℤ (pos 2 *ℤ b.p *ℤ d.t)
  pub shear_ab : h.shear_ab ≡ b.q *ℤ (d.sy -ℤ d.sx)
  pub shear_squares : h.shear_squares ≡ b.q *ℤ d.t

-- ---- the plane with the normal (x, y)/r: the right side less pN, and qT

unfoldable pub reserve_of : PlaneNumbers → ℤ → ℤ → ℤ
reserve_of h x y = h.base +ℤ h.aa *ℤ (x *ℤ x) +ℤ h.bb *ℤ (y *ℤ y) +ℤ h.ab *ℤ (x *ℤ y)

unfoldable pub shear_of : PlaneNumbers → ℤ → ℤ → ℤ
shear_of h x y = h.shear_ab *ℤ (x *ℤ y) +ℤ h.shear_squares *ℤ (x *ℤ x -ℤ y *ℤ y)

-- ---- all rows of a soil

-- corner j
abbrev pub normal_x : List (ℤ × ℤ) → ℕ → ℤ
normal_x t j = (get_or t j (pos 0, pos 0)).0

abbrev pub normal_y : List (ℤ × ℤ) → ℕ → ℤ
normal_y t j = (get_or t j (pos 0, pos 0)).1

-- the corners of a polygon of a mesh whose soils may be by direction
pub record Normals (t : List (ℤ × ℤ)) : Type 0 where
  pub x : (j : ℕ) → Within most_plane_radius (normal_x t j)
  pub y : (j : ℕ) → Within most_plane_radius (normal_y t j)

-- the right side of row k less its left: "pN + qT, then pN - qT" of corner k/2
unfoldable pub slack_at : PlaneNumbers → List (ℤ × ℤ) → ℕ → ℤ
slack_at h t k =
    reserve_of h (normal_x t (k / 2)) (normal_y t (k / 2))
    -ℤ plus_minus (shear_of h (normal_x t (k / 2)) (normal_y t (k / 2))) k
