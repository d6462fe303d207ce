-- Corners with whole coordinates, points with fractions, and which points are left of a side.
use Rattle.std.specs.Prelude.{ℤ, pos, ◌-ℤ◌, ◌*ℤ◌}

pub record Corner : Type 0 where
  pub x : ℤ
  pub y : ℤ

-- the point (x/e, y/e), where e is above 0
pub record Point : Type 0 where
  pub x : ℤ
  pub y : ℤ
  pub e : ℤ

unfoldable pub corner_point : Corner → Point
corner_point a = record { x = a.x; y = a.y; e = pos 1 }

pub record Side : Type 0 where
  pub from : Corner
  pub to : Corner

infix 80 ◌⟶◌
abbrev pub ◌⟶◌ : Corner → Corner → Side
a ⟶ b = record { from = a; to = b }

-- how far a point is left of the line along a side, times e and the side's length: above 0 left of the line, 0 on it
unfoldable pub left_by : Side → Point → ℤ
left_by s v =
    (s.to.x -ℤ s.from.x) *ℤ (v.y -ℤ s.from.y *ℤ v.e)
    -ℤ (v.x -ℤ s.from.x *ℤ v.e) *ℤ (s.to.y -ℤ s.from.y)
