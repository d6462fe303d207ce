-- A polygon is the list of its corners, counterclockwise: its sides, its inner points, and what makes it convex.
use Rattle.std.specs.Prelude.{List, [], ◌∷◌, pos, ◌≤ℤ◌, ◌<ℤ◌}
use Rattle.integer.specs.Members.{◌∈◌}
use Rattle.plane.specs.Points.{Corner, Point, corner_point, Side, ◌⟶◌, left_by}

-- the sides from corner b on, through cs and back to the first corner o
unfoldable pub sides_from : Corner → Corner → List Corner → List Side
sides_from o b [] = b ⟶ o ∷ []
sides_from o b (c ∷ cs) = b ⟶ c ∷ sides_from o c cs

-- each corner to the next, and the last to the first
unfoldable pub sides : List Corner → List Side
sides [] = []
sides (o ∷ cs) = sides_from o o cs

-- strictly left of each side
abbrev pub Inside : List Corner → Point → Type 0
Inside A v = (s : Side) → s ∈ sides A → pos 0 <ℤ left_by s v

-- "two elements share a point inside both, fractions included"
pub record Shared (A B : List Corner) : Type 0 where
  pub point : Point
  pub proper : pos 0 <ℤ point.e
  pub in_first : Inside A point
  pub in_second : Inside B point

-- a corner strictly left of a side
pub record SomeLeft (s : Side) (A : List Corner) : Type 0 where
  pub corner : Corner
  pub there : corner ∈ A
  pub left : pos 0 <ℤ left_by s (corner_point corner)

-- no corner is right of a side
abbrev pub NoneRight : List Corner → Side → Type 0
NoneRight A s = (a : Corner) → a ∈ A → pos 0 ≤ℤ left_by s (corner_point a)

-- there is a corner; none is right of a side; each side has one that is strictly left of it
pub record Convex (A : List Corner) : Type 0 where
  pub first : Corner
  pub is_there : first ∈ A
  pub none_right : (s : Side) → s ∈ sides A → NoneRight A s
  pub some_left : (s : Side) → s ∈ sides A → SomeLeft s A
