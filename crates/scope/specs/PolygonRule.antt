-- The rule for a polygon (document 01, 'Rows', Strength): "Polygon corners are all whole-number points on the circle
-- of radius r .., counterclockwise from (r, 0)".
use Rattle.std.specs.Prelude.{◌≡◌, List, ◌∷◌, ◌++◌, ℕ, ◌+◌, ◌*◌, ◌≤◌, ◌<◌, max, ℤ, pos, ◌+ℤ◌, ◌-ℤ◌, ◌*ℤ◌, neg_ℤ}
use Rattle.std.specs.Prelude.{nat_abs, ◌<ℤ◌, length, ◌↔◌, ◌⊎◌, ◌/◌}
use Rattle.integer.specs.Members.{◌∈◌}
use Rattle.scope.specs.Polygon.{Point, point, Polygon, Side, polygon_sides, polygon_of, half_turn}
use Rattle.scope.specs.Rows.{cross}
use Rattle.scope.specs.Mesh.{most_sides, nodes_for_108, nodes_with, pairs_with, strength_multiplier, kind_with}
use Rattle.scope.specs.Claim.{stress_columns}
use Rattle.scope.specs.Bounds.{most_radius, most_step, most_cross, weighted_step, weighted_cross, most_plane_radius}
use Rattle.scope.specs.Bounds.{twice_strength, strength_right_with, strength_sum, most_strength_rows}

abbrev pub OnCircle : ℤ → Point → Type 0
OnCircle r v = v.px *ℤ v.px +ℤ v.py *ℤ v.py ≡ r *ℤ r

-- from (r, 0) along the upper half to (-r, 0), then along the lower half: with a left turn from each corner to the
-- next this is once around, counterclockwise
pub record OnceAround (r : ℤ) (corners : List Point) : Type 0 where
  pub upper : List Point
  pub lower : List Point
  pub halves : corners ≡ (point r (pos 0) ∷ upper) ++ (point (neg_ℤ r) (pos 0) ∷ lower)
  pub above : (v : Point) → v ∈ upper → pos 0 <ℤ v.py
  pub below : (v : Point) → v ∈ lower → v.py <ℤ pos 0

-- "the first half turn of corners, (r, 0) in and (-r, 0) out" (document 02, N14): (r, 0), and those above the axis
abbrev pub HalfTurn : ℤ → List Point → Type 0
HalfTurn r corners = (v : Point)
    → (v ∈ half_turn corners) ↔ ((v ∈ corners) × ((v ≡ point r (pos 0)) ⊎ (pos 0 <ℤ v.py)))

-- a polygon of that many sides: "all whole-number points on the circle of radius 1105, in the same turning order ..
-- every corner is on the circle, in order, with none left out" (document 02, N9)
pub record PolygonRule (g : Polygon) (sides : ℕ) : Type 0 where
  pub has_radius : pos 0 <ℤ g.radius
  pub count : length g.corners ≡ sides
  pub on_circle : (v : Point) → v ∈ g.corners → OnCircle g.radius v
  pub none_left_out : (v : Point) → OnCircle g.radius v → v ∈ g.corners
  pub once_around : OnceAround g.radius g.corners
  pub first_half : HalfTurn g.radius g.corners
  pub left_turns : (s : Side) → s ∈ polygon_sides g.corners → pos 0 <ℤ cross s.from s.to

-- "radius r = 5, 25 or 65 (12, 20 or 36 sides)", and 1105 with 108
abbrev pub RadiusFor : ℕ → ℤ → Type 0
RadiusFor sides r =
    ((sides ≡ 12) × (r ≡ pos 5))
    ⊎ (((sides ≡ 20) × (r ≡ pos 25)) ⊎ (((sides ≡ 36) × (r ≡ pos 65)) ⊎ ((sides ≡ 108) × (r ≡ pos 1105))))

-- of the polygon of a mesh with that many sides
pub record PolygonAsked (sides : ℕ) : Type 0 where
  pub rule : PolygonRule (polygon_of sides) sides
  pub radius : RadiusFor sides (polygon_of sides).radius

-- ---- the sizes of its numbers, which contracts and the bounds of sums read: no document asks for them

-- the longer of a side's two steps, |c - a| and |d - b|, and the size of its ad - bc
abbrev pub step_size : Side → ℕ
step_size s = max (nat_abs (s.to.px -ℤ s.from.px)) (nat_abs (s.to.py -ℤ s.from.py))

abbrev pub cross_size : Side → ℕ
cross_size s = nat_abs (cross s.from s.to)

pub record Largest (size : Side → ℕ) (sides : List Side) (k : ℕ) : Type 0 where
  pub bounds : (s : Side) → s ∈ sides → size s ≤ k
  pub reached : (s : Side) × (s ∈ sides) × (size s ≡ k)

-- a polygon with its largest step and its largest cross product, whose numbers are within the bounds of all polygons:
-- its step and its cross product also with the largest multiplier of a row, its rows with the most pairs, and these
-- with the stresses of the most nodes: with 108 sides a claim has the most numbers. Its sides are even, so that it has
-- two rows for each corner of the first half turn; where soils may have kind 1, its radius is small
pub record PolygonFits (g : Polygon) (sides radius step product : ℕ) : Type 0 where
  pub rule : PolygonRule g sides
  pub largest_step : Largest step_size (polygon_sides g.corners) step
  pub largest_cross : Largest cross_size (polygon_sides g.corners) product
  pub radius_is : g.radius ≡ pos radius
  pub some_sides : 0 < sides
  pub few_sides : sides ≤ most_sides
  pub even_sides : sides / 2 * 2 ≡ sides
  pub radius_fits : radius ≤ most_radius
  pub plane_radius : kind_with sides * radius ≤ most_plane_radius
  pub step_fits : step ≤ most_step
  pub product_fits : product ≤ most_cross
  pub step_weighted : strength_multiplier sides * step ≤ weighted_step
  pub product_weighted : strength_multiplier sides * product ≤ weighted_cross
  pub right_fits : product * twice_strength ≤ strength_right_with sides
  pub right_weighted : strength_multiplier sides * strength_right_with sides ≤ strength_sum
  pub rows_fit : pairs_with sides * sides ≤ most_strength_rows
  pub numbers_fit : nodes_with sides * stress_columns + pairs_with sides * sides
      ≤ nodes_for_108 * stress_columns + most_strength_rows

-- of the polygon of a mesh with a listed number of sides
pub record ListedPolygon (sides : ℕ) : Type 0 where
  pub radius : ℕ
  pub step : ℕ
  pub product : ℕ
  pub fits : PolygonFits (polygon_of sides) sides radius step product
