-- Boxes around polygons: where one ends before the other begins, the polygons share no inner point.
use Rattle.std.specs.Prelude.{List, ◌⊎◌, ℤ, ◌≤ℤ◌}
use Rattle.integer.specs.Members.{◌∈◌}
use Rattle.plane.specs.Points.{Corner}
use Rattle.plane.specs.Polygon.{Shared, Convex}

pub record Box : Type 0 where
  pub left : ℤ
  pub right : ℤ
  pub bottom : ℤ
  pub top : ℤ

pub record InBox (b : Box) (c : Corner) : Type 0 where
  pub from_left : b.left ≤ℤ c.x
  pub to_right : c.x ≤ℤ b.right
  pub from_bottom : b.bottom ≤ℤ c.y
  pub to_top : c.y ≤ℤ b.top

-- a box around a polygon, which need not be the smallest
abbrev pub Around : Box → List Corner → Type 0
Around b A = (c : Corner) → c ∈ A → InBox b c

-- no inner point in common: one ends before the other begins, or where it begins, upward or from left to right
abbrev pub Clear : Box → Box → Type 0
Clear p q = (p.top ≤ℤ q.bottom) ⊎ ((p.right ≤ℤ q.left) ⊎ ((q.right ≤ℤ p.left) ⊎ (q.top ≤ℤ p.bottom)))

abbrev pub ClearBoxesDecide : List Corner → List Corner → Type 0
ClearBoxesDecide A B = (p q : Box) → Convex A → Convex B → Around p A → Around q B → Clear p q → ¬ Shared A B
