-- The kind of a soil as a test and as a statement, and a pair's rows by it: one case for each answer of the test.
use mathlib.Core.Path.{◌≡◌, refl}
use mathlib.Core.Bool.{Bool, true, false, cond}
use mathlib.Core.List.{List}
use Prim.Native.Nat.{ℕ, ◌*◌, ◌≤◌}
use native.Mathlib.Omega.{arith}
use lib.IntN.{ℤ, pos}
use lib.Dec.{eqb}
use Rattle.integer.proofs.Order.{≤ℤ_pos}
use Rattle.scope.specs.Mesh.{most_sides, kind_with, soils, sides, by_direction, some_by_direction, ByDirection}
use Rattle.scope.specs.Mesh.{ListsDirection}
use Rattle.scope.specs.Polygon.{Polygon}
use Rattle.scope.specs.Rows.{Row, Pair, rows_by_sides, rows_by_planes, pair_rows}
use Rattle.scope.specs.Bounds.{most_cross, twice_strength, plane_right, strength_right_with}
use Rattle.scope.specs.NumberRanges.{SoilFacts}
use Rattle.scope.proofs.Decides.{Decides, equalℤ, some_below_lem, is_yes, is_no, yes_is, no_is}

-- ---- tests

pub direction : (m : List ℤ) (s : ℕ) → Decides (by_direction m s) (ByDirection m s)
unfolding by_direction
direction m s = equalℤ _ (pos 1)

pub lists_direction : (m : List ℤ) → Decides (some_by_direction m) (ListsDirection m)
unfolding some_by_direction
lists_direction m = some_below_lem (direction m) (soils m)

module _ (m : List ℤ) (s : ℕ) where
  pub is_direction : by_direction m s ≡ true → ByDirection m s
  is_direction = yes_is (direction m s)

  pub not_direction : by_direction m s ≡ false → ¬ ByDirection m s
  not_direction = no_is (direction m s)

  pub direction_is : ByDirection m s → by_direction m s ≡ true
  direction_is = is_yes (direction m s)

  pub no_direction : ¬ ByDirection m s → by_direction m s ≡ false
  no_direction = is_no (direction m s)

-- ---- the rows of a pair

module _ (g : Polygon) (m : List ℤ) (a : Pair) where
  pub by_kind : (P : List Row → Type 0) → (by_direction m a.soil ≡ true → P (rows_by_planes g m a))
      → (by_direction m a.soil ≡ false → P (rows_by_sides g m a)) → P (pair_rows g m a)
  unfolding pair_rows
  by_kind P planes sides = by (by_direction m a.soil) refl
    where
      by : (b : Bool) → by_direction m a.soil ≡ b → P (cond b (rows_by_planes g m a) (rows_by_sides g m a))
      by true e = planes e
      by false e = sides e

-- ---- the number of sides of a mesh with a soil by direction

pub kind_one : (k : ℕ) → 1 ≤ kind_with k → (kind_with k ≡ 1) × (strength_right_with k ≡ plane_right)
unfolding kind_with strength_right_with
kind_one k h = by (eqb k most_sides) h
  where
    by : (b : Bool) → 1 ≤ cond b 0 1 → (◌≡◌ {A = ℕ} (cond b 0 1) 1)
        × (cond b (most_cross * twice_strength) plane_right ≡ plane_right)
    by true h = absurd (omega arith)
    by false h = (refl, refl)

pub kind_sides : {m : List ℤ} {s : ℕ} → SoilFacts m s → ByDirection m s → 1 ≤ kind_with (sides m)
kind_sides {m} f e = ≤ℤ_pos (rw e at f.kind_range.most)
