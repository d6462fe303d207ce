-- Polygons that a line along a side parts: "A line along one of the two elements' sides decides it" (document 02, N10).
use Rattle.std.specs.Prelude.{List, ◌⊎◌, ◌↔◌, pos, ◌≤ℤ◌}
use Rattle.integer.specs.Members.{◌∈◌}
use Rattle.plane.specs.Points.{Corner, corner_point, Side, left_by}
use Rattle.plane.specs.Polygon.{sides, Shared, Convex}

-- each corner of B is on the side's line or right of it
abbrev pub NoneLeft : Side → List Corner → Type 0
NoneLeft s B = (b : Corner) → b ∈ B → left_by s (corner_point b) ≤ℤ pos 0

-- one of A's sides has all of B on its line or right of it
pub record Parting (A B : List Corner) : Type 0 where
  pub side : Side
  pub of_first : side ∈ sides A
  pub none_left : NoneLeft side B

-- a side of one of the two does
abbrev pub Apart : List Corner → List Corner → Type 0
Apart A B = Parting A B ⊎ Parting B A

-- of convex polygons, a side parts them exactly when they share no inner point
abbrev pub ASideDecides : List Corner → List Corner → Type 0
ASideDecides A B = Convex A → Convex B → Apart A B ↔ (¬ Shared A B)

-- and where none does, there is such a point
abbrev pub ApartOrShared : List Corner → List Corner → Type 0
ApartOrShared A B = Convex A → Convex B → Apart A B ⊎ Shared A B
