-- What the strength rows hand around: a polygon's sides as numbers, and the numbers of a soil and of a pair of a node
-- and a soil.
use Rattle.std.specs.Prelude.{
  ◌≡◌,
  Bool,
  List,
  [],
  ◌∷◌,
  map,
  ℕ,
  ◌+◌,
  ◌*◌,
  ◌%◌,
  ◌≤◌,
  ◌<◌,
  ℤ,
  pos,
  ◌+ℤ◌,
  ◌-ℤ◌,
  ◌*ℤ◌,
  length,
  get_or,
}
use Prim.Native.Nat.{zero-le}
use Rattle.integer.specs.Bounds.{Within}
use Rattle.criterion.specs.declared.steps.Step.{Step}
use Rattle.criterion.specs.declared.strength_numbers.SoilNumbers.{SoilNumbers}
use Rattle.criterion.specs.declared.strength_numbers.PairNumbers.{PairNumbers}
use Rattle.scope.specs.Mesh.{most_sides, nodes, sides, p, q, h, cohesion}
use Rattle.scope.specs.Bounds.{most_radius, most_step, most_cross}
use Rattle.scope.specs.Columns.{at, has_field}
use Rattle.scope.specs.Claim.{if_there}
use Rattle.scope.specs.Polygon.{Point, Side, Polygon, polygon_sides, polygon_of, SidesListed}
use Rattle.scope.specs.Rows.{pair_at, strength_rows, sx, sy, t, cross}
use Rattle.scope.specs.Sums.{row_holds}
use Rattle.scope.specs.Checks.{all_below}
use Rattle.scope.specs.Tests.{row_at}

-- ---- a polygon's sides

-- "sides 12, 20 or 36", or 108 (document 02, N9)
pub record Listed (sides : ℕ) : Type 0 where
  pub listed : SidesListed sides

-- after the last of n corners comes the first
unfoldable pub next : ℕ → ℕ → ℕ
next n k = (k + 1) % n

-- the coordinates of corner k
abbrev pub corner_x : List (ℤ × ℤ) → ℕ → ℤ
corner_x t k = (get_or t k (pos 0, pos 0)).0

abbrev pub corner_y : List (ℤ × ℤ) → ℕ → ℤ
corner_y t k = (get_or t k (pos 0, pos 0)).1

-- points as pairs
unfoldable pub pairs_of : List Point → List (ℤ × ℤ)
pairs_of [] = []
pairs_of (v ∷ rest) = (v.px, v.py) ∷ pairs_of rest

-- side k of a polygon with these corners, by what a strength row reads of it: c - a, d - b and ad - bc
unfoldable pub table_run : List (ℤ × ℤ) → ℕ → ℤ
table_run t k = corner_x t (next (length t) k) -ℤ corner_x t k

unfoldable pub table_rise : List (ℤ × ℤ) → ℕ → ℤ
table_rise t k = corner_y t (next (length t) k) -ℤ corner_y t k

unfoldable pub table_cross : List (ℤ × ℤ) → ℕ → ℤ
table_cross t k = corner_x t k *ℤ corner_y t (next (length t) k) -ℤ corner_y t k *ℤ corner_x t (next (length t) k)

-- the corners of a polygon, and its sides by what they are at most
pub record Corners (t : List (ℤ × ℤ)) : Type 0 where
  pub few : length t ≤ most_sides
  pub x : (k : ℕ) → Within most_radius (corner_x t k)
  pub y : (k : ℕ) → Within most_radius (corner_y t k)
  pub run : (k : ℕ) → k < length t → Within most_step (table_run t k)
  pub rise : (k : ℕ) → k < length t → Within most_step (table_rise t k)
  pub cross : (k : ℕ) → k < length t → Within most_cross (table_cross t k)

pub record StepIs (r : Step) (t : List (ℤ × ℤ)) (k : ℕ) : Type 0 where
  pub run : r.run ≡ table_run t k
  pub rise : r.rise ≡ table_rise t k
  pub cross : r.cross ≡ table_cross t k

-- side k of a list, which past its end is read as the side of length 0
abbrev pub no_step : Step
no_step = record {
  run = pos 0;
  rise = pos 0;
  cross = pos 0;
  run_fits = record { within = zero-le };
  rise_fits = record { within = zero-le };
  cross_fits = record { within = zero-le };
}

abbrev pub step_at : List Step → ℕ → Step
step_at t k = get_or t k no_step

-- the first k sides of a polygon with these corners
pub record StepsUpTo (k : ℕ) (r : List Step) (t : List (ℤ × ℤ)) : Type 0 where
  pub size : length r ≡ k
  pub each : (i : ℕ) → i < k → StepIs (step_at r i) t i

abbrev pub StepsFrom : List Step → List (ℤ × ℤ) → Type 0
StepsFrom r t = StepsUpTo (length t) r t

-- what a strength row reads of a side
unfoldable pub run_of : Side → ℤ
run_of s = s.to.px -ℤ s.from.px

unfoldable pub rise_of : Side → ℤ
rise_of s = s.to.py -ℤ s.from.py

unfoldable pub cross_of : Side → ℤ
cross_of s = cross s.from s.to

-- the three numbers of a side, as the code and as the definitions have it
abbrev pub step_numbers : Step → ℤ × ℤ × ℤ
step_numbers r = (r.run, r.rise, r.cross)

abbrev pub side_numbers : Side → ℤ × ℤ × ℤ
side_numbers s = (run_of s, rise_of s, cross_of s)

-- a list has the sides of a polygon, in their order
pub record SidesAre (g : Polygon) (t : List Step) : Type 0 where
  pub same : map step_numbers t ≡ map side_numbers (polygon_sides g.corners)

-- ---- the strength rows of a pair of a node and a soil

-- r·h, p and 2qC of a soil
pub record SoilIs (k : SoilNumbers) (m : List ℤ) (soil : ℕ) (r : ℤ) : Type 0 where
  pub lever : k.lever ≡ r *ℤ h m soil
  pub friction : k.friction ≡ p m soil
  pub right : k.right ≡ pos 2 *ℤ q m soil *ℤ cohesion m soil

-- r·h, sx - sy, 2t and 2qCn - p(sx + sy), of node v and from the numbers k of the soil
pub record PairIs (d : PairNumbers) (k : SoilNumbers) (x : List ℤ) (v : ℕ) (n : ℤ) : Type 0 where
  pub lever : d.lever ≡ k.lever
  pub spread : d.spread ≡ at x (3 * v) -ℤ at x (3 * v + 1)
  pub twist : d.twist ≡ pos 2 *ℤ at x (3 * v + 2)
  pub reserve : d.reserve ≡ k.right *ℤ n -ℤ k.friction *ℤ (at x (3 * v) +ℤ at x (3 * v + 1))

-- "r·h·[(d-b)(sx-sy) - 2(c-a)t] ≤ (ad-bc)·[2qCn - p(sx+sy)]": the right side less the left, from the numbers of a pair
-- and of a side
unfoldable pub side_slack : PairNumbers → Step → ℤ
side_slack d s = s.cross *ℤ d.reserve -ℤ d.lever *ℤ (s.rise *ℤ d.spread -ℤ s.run *ℤ d.twist)

-- ---- a claim

-- the place of the first multiplier
unfoldable pub multipliers_from : List ℤ → List ℤ → ℕ
multipliers_from m c = 4 + if_there (has_field c) (nodes m) * 3

-- the numbers of pair a at the stresses s over n: the stresses of its node, and what they are held against of its soil
pub record PairState (d : PairNumbers) (m : List ℤ) (s : ℕ → ℤ) (n : ℤ) (a : ℕ) : Type 0 where
  pub lever : d.lever ≡ (polygon_of (sides m)).radius *ℤ h m (pair_at m a).soil
  pub spread : d.spread ≡ s (sx (pair_at m a).at) -ℤ s (sy (pair_at m a).at)
  pub twist : d.twist ≡ pos 2 *ℤ s (t (pair_at m a).at)
  pub reserve :
      d.reserve
      ≡ pos 2 *ℤ q m (pair_at m a).soil *ℤ cohesion m (pair_at m a).soil *ℤ n
      -ℤ p m (pair_at m a).soil *ℤ (s (sx (pair_at m a).at) +ℤ s (sy (pair_at m a).at))

-- strength row k of pair a holds at the stresses s over n and the load l, and each of its rows does
abbrev pub pair_row_holds : List ℤ → (ℕ → ℤ) → ℤ → ℤ → ℕ → ℕ → Bool
pair_row_holds m s l n a k = row_holds s l n (row_at (strength_rows m) (a * sides m + k))

unfoldable pub pair_holds : List ℤ → (ℕ → ℤ) → ℤ → ℤ → ℕ → Bool
pair_holds m s l n a = all_below (pair_row_holds m s l n a) (sides m)
