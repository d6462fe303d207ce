-- The rows by their place, as the code finds them: `scope/proofs/RowNumbers.antt` in the words of the contracts.
use mathlib.Core.Path.{◌≡◌}
use mathlib.Core.Bool.{true, false}
use mathlib.Core.List.{List}
use Prim.Native.Nat.{ℕ, ◌+◌, ◌*◌, ◌<◌}
use lib.IntN.{ℤ}
use lib.ListN.{length}
use Rattle.scope.specs.Mesh.{sides, by_direction, equality_count}
use Rattle.scope.specs.Polygon.{Side, polygon_of}
use Rattle.scope.specs.Rows.{Row, pair_count, pair_at, strength_rows, equality_rows, rows_of}
use Rattle.scope.specs.Tests.{row_at}
use Rattle.scope.specs.RowNumbers.{side_at, side_row, direction_row_at}
use Rattle.criterion.specs.StrengthContracts.{Listed}
use Rattle.scope.proofs.RowNumbers as N

-- the strength row of pair a and a side
unfoldable pub row_of_pair : List ℤ → ℕ → Side → Row
row_of_pair m a s = side_row m (pair_at m a) s

module _ (m : List ℤ) where
  pub equality_among : (k : ℕ) → k < equality_count m → row_at (rows_of m) k ≡ row_at (equality_rows m) k
  equality_among = N.equality_among m

  pub strength_among : (k : ℕ) → row_at (rows_of m) (equality_count m + k) ≡ row_at (strength_rows m) k
  strength_among = N.strength_among m

  pub row_count : Listed (sides m) → length (rows_of m) ≡ equality_count m + pair_count m * sides m
  row_count l = N.row_count m l.listed

-- row k of pair a, by the kind of its soil
module _ (m : List ℤ) (listed : Listed (sides m)) (a k : ℕ) (l : a < pair_count m) (j : k < sides m) where
  pub strength_at : by_direction m (pair_at m a).soil ≡ false
      → row_at (strength_rows m) (a * sides m + k) ≡ row_of_pair m a (side_at (polygon_of (sides m)) k)
  unfolding row_of_pair
  strength_at = N.strength_at m listed.listed a k l j

  pub direction_at : by_direction m (pair_at m a).soil ≡ true
      → row_at (strength_rows m) (a * sides m + k) ≡ direction_row_at m (pair_at m a) k
  direction_at = N.plane_at m listed.listed a k l j
