-- The places of 21 and 22 (document 01, 'Verdict and report'): the number of a row that the field does not meet as it
-- is printed, and of several the lowest. The rows are numbered here by document 01's words ('Rows') and document 02's
-- (N2, N6 and N14). Elements, edges, jumps, pairs, corners and sides are counted from 0, so that document 01's element
-- is `suc e`; rows are counted from 1, as there.
use Rattle.std.specs.Prelude.{List, ℕ, suc, ◌+◌, ◌*◌, ◌-◌, ◌<◌, ◌≤◌, ℤ}
use Rattle.scope.specs.Columns.{n, l}
use Rattle.scope.specs.Mesh.{elements, edges, sides, jumps, from_node, to_node, jump_from, jump_to, facing_from}
use Rattle.scope.specs.Mesh.{facing_to, ByDirection}
use Rattle.scope.specs.Polygon.{polygon_of}
use Rattle.scope.specs.Claim.{stress}
use Rattle.scope.specs.Rows.{pair_count, pair_at}
use Rattle.scope.specs.Printed.{BalanceXAt, BalanceYAt, NormalAt, ShearAt, NormalAgreesAt, ShearAgreesAt, StrengthAt}
use Rattle.scope.specs.Printed.{PlanePlusAt, PlaneMinusAt, nth_corner, nth_side}

-- "lowest place first": it fails at this place, and at no lower one
pub record Lowest (Fails : ℕ → Type 0) (place : ℕ) : Type 0 where
  pub fails : Fails place
  pub lower : (k : ℕ) → k < place → ¬ Fails k

-- at no place at all
abbrev pub None : (ℕ → Type 0) → Type 0
None Fails = (k : ℕ) → ¬ Fails k

-- 21: an equality row is printed with this number, and the field does not meet it
pub data EqualityFails (m c : List ℤ) : ℕ → Type 0 where
  -- "row 2e-1", "row 2e"
  balance_along_x : (e : ℕ) → e < elements m → ¬ BalanceXAt m (stress m c) (l c) (n c) e
      → EqualityFails m c (2 * suc e - 1)
  balance_along_y : (e : ℕ) → e < elements m → ¬ BalanceYAt m (stress m c) (l c) (n c) e
      → EqualityFails m c (2 * suc e)
  -- "The four rows of an edge follow the balance rows: normal and shear at from, then at to"
  normal_from : (g : ℕ) → g < edges m → ¬ NormalAt m (stress m c) (l c) (n c) g (from_node m g)
      → EqualityFails m c (2 * elements m + 4 * g + 1)
  shear_from : (g : ℕ) → g < edges m → ¬ ShearAt m (stress m c) (l c) (n c) g (from_node m g)
      → EqualityFails m c (2 * elements m + 4 * g + 2)
  normal_to : (g : ℕ) → g < edges m → ¬ NormalAt m (stress m c) (l c) (n c) g (to_node m g)
      → EqualityFails m c (2 * elements m + 4 * g + 3)
  shear_to : (g : ℕ) → g < edges m → ¬ ShearAt m (stress m c) (l c) (n c) g (to_node m g)
      → EqualityFails m c (2 * elements m + 4 * g + 4)
  -- "four rows after the edge rows, in an edge's order" (document 02, N6)
  jump_normal_from : (j : ℕ) → j < jumps m
      → ¬ NormalAgreesAt m (stress m c) (l c) (n c) j (jump_from m j) (facing_from m j)
      → EqualityFails m c (2 * elements m + 4 * edges m + 4 * j + 1)
  jump_shear_from : (j : ℕ) → j < jumps m
      → ¬ ShearAgreesAt m (stress m c) (l c) (n c) j (jump_from m j) (facing_from m j)
      → EqualityFails m c (2 * elements m + 4 * edges m + 4 * j + 2)
  jump_normal_to : (j : ℕ) → j < jumps m
      → ¬ NormalAgreesAt m (stress m c) (l c) (n c) j (jump_to m j) (facing_to m j)
      → EqualityFails m c (2 * elements m + 4 * edges m + 4 * j + 3)
  jump_shear_to : (j : ℕ) → j < jumps m
      → ¬ ShearAgreesAt m (stress m c) (l c) (n c) j (jump_to m j) (facing_to m j)
      → EqualityFails m c (2 * elements m + 4 * edges m + 4 * j + 4)

-- 22: a strength row is printed with this number, and the field does not meet it; "Strength rows .. are numbered by
-- node-and-soil pairs in that order" (document 02, N2; `Pairs` says which pairs there are)
pub data StrengthFails (m c : List ℤ) : ℕ → Type 0 where
  -- "Its number is (node-1)·sides + k"
  of_side : (a k : ℕ) → a < pair_count m → k < sides m → ¬ ByDirection m (pair_at m a).soil
      → ¬ StrengthAt m (stress m c) (l c) (n c) (polygon_of (sides m)).radius (pair_at m a) (nth_side m k)
      → StrengthFails m c (a * sides m + suc k)
  -- "corner by corner they are pN + qT, then pN - qT", of the first half turn (document 02, N14)
  plane_plus : (a k : ℕ) → a < pair_count m → 2 * suc k ≤ sides m → ByDirection m (pair_at m a).soil
      → ¬ PlanePlusAt m (stress m c) (l c) (n c) (polygon_of (sides m)).radius (pair_at m a) (nth_corner m k)
      → StrengthFails m c (a * sides m + (2 * suc k - 1))
  plane_minus : (a k : ℕ) → a < pair_count m → 2 * suc k ≤ sides m → ByDirection m (pair_at m a).soil
      → ¬ PlaneMinusAt m (stress m c) (l c) (n c) (polygon_of (sides m)).radius (pair_at m a) (nth_corner m k)
      → StrengthFails m c (a * sides m + 2 * suc k)
