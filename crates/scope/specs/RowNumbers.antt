-- Rows of a pair by number, as the code counts them: by side of the polygon, or by corner, all counted from 0.
use Rattle.std.specs.Prelude.{List, ℕ, ℤ, pos, get_or, cond, ◌/◌, ◌%◌, neg_ℤ, eqb}
use Rattle.scope.specs.Mesh.{sides, p, q, h, cohesion, cohesion_across}
use Rattle.scope.specs.Polygon.{point, Side, Polygon, polygon_sides, polygon_of, Point}
use Rattle.scope.specs.Rows.{Row, Pair, strength_row, plane_row}

-- side k of a polygon
unfoldable pub side_at : Polygon → ℕ → Side
side_at g k = get_or (polygon_sides g.corners) k (record { from = point (pos 0) (pos 0); to = point (pos 0) (pos 0) })

-- corner k, likewise
unfoldable pub corner_at : Polygon → ℕ → Point
corner_at g k = get_or g.corners k (point (pos 0) (pos 0))

-- the strength row of a pair and a side of the mesh's polygon
abbrev pub side_row : List ℤ → Pair → Side → Row
side_row m a d = strength_row (polygon_of (sides m)).radius (p m a.soil) (q m a.soil) (h m a.soil)
    (cohesion m a.soil) a.at d

-- the strength row of a pair whose soil has kind 1 and a corner of that polygon: pN + kT
abbrev pub direction_row : List ℤ → Pair → Point → ℤ → Row
direction_row m a c k = plane_row (polygon_of (sides m)).radius (p m a.soil) (q m a.soil) (cohesion m a.soil)
    (cohesion_across m a.soil) a.at c k

-- row k of such a pair: that of corner k/2, "pN + qT, then pN - qT"
unfoldable pub plus_minus : ℤ → ℕ → ℤ
plus_minus q k = cond (eqb (k % 2) 0) q (neg_ℤ q)

abbrev pub direction_row_at : List ℤ → Pair → ℕ → Row
direction_row_at m a k = direction_row m a (corner_at (polygon_of (sides m)) (k / 2)) (plus_minus (q m a.soil) k)
