-- The pairs of a node and a soil (document 02, N2), said without the search for soils or the test of 42: which they
-- are, their order, how many, and where they are document 01's.
use Rattle.std.specs.Prelude.{◌≡◌, ◌↔◌, ◌⊎◌, List, map, ℕ, suc, ◌<◌, ◌≤◌, ℤ}
use Rattle.integer.specs.Members.{◌∈◌}
use Rattle.scope.specs.Mesh.{pairs_with, nodes, elements, soils, sides, corner, element_soil}
use Rattle.scope.specs.Polygon.{polygon_of}
use Rattle.scope.specs.Rows.{Row, Pair, joined, count_from, first_where, has_corner, pair_rows, strength_pairs}
use Rattle.scope.specs.Rows.{pair_count, pair_at, strength_rows}

abbrev pub HasCorner : List ℤ → ℕ → ℕ → Type 0
HasCorner m v e = (i : ℕ) × (i < 4) × (corner m e i ≡ v)

-- "each soil of the elements around it": an element with the corner v has the soil s
pub record SoilAround (m : List ℤ) (v s : ℕ) : Type 0 where
  pub element : ℕ
  pub there : element < elements m
  pub has-corner : HasCorner m v element
  pub same : element_soil m element ≡ s

-- by node, then by soil
abbrev pub Before : Pair → Pair → Type 0
Before a b = (a.at < b.at) ⊎ ((a.at ≡ b.at) × (a.soil < b.soil))

-- of any numbers
pub record Pairs (m : List ℤ) : Type 0 where
  pub exactly : (a : Pair)
      → (a ∈ strength_pairs m) ↔ ((a.at < nodes m) × (a.soil < soils m) × SoilAround m a.at a.soil)
  -- "soils ascending", "in that order": strictly, so that no pair is listed twice
  pub ascending : (i j : ℕ) → i < j → j < pair_count m → Before (pair_at m i) (pair_at m j)

-- 42 is "with the node that brings the 101st pair", the 41st with 108 sides (document 02, N9): the first beyond the
-- most
pub record PairsFail (m : List ℤ) (most place : ℕ) : Type 0 where
  pub many : most < pair_count m
  pub node : place ≡ suc (pair_at m most).at

-- ---- document 01's strength rows

-- "A node has the soil of the lowest-numbered element that has it as a corner"
unfoldable pub soil_before : List ℤ → ℕ → ℕ
soil_before m v = element_soil m (first_where (has_corner m v) (elements m))

-- one pair for each node
unfoldable pub rows_before : List ℤ → List Row
rows_before m =
    joined (pair_rows (polygon_of (sides m)) m)
    (map (λ v. record { at = v; soil = soil_before m v }) (count_from 0 (nodes m)))

-- all elements around a node have one soil
abbrev pub OneSoilEach : List ℤ → Type 0
OneSoilEach m = (v s k : ℕ) → SoilAround m v s → SoilAround m v k → s ≡ k

-- ---- a mesh that passes: the pairs are the soils around nodes, each node has one, and there are at most 100, or 40
-- with 108 sides

pub record SoundPairs (m : List ℤ) : Type 0 where
  pub exactly : (a : Pair) → (a ∈ strength_pairs m) ↔ SoilAround m a.at a.soil
  pub each_node : (v : ℕ) → v < nodes m → (s : ℕ) × (record { at = v; soil = s } ∈ strength_pairs m)
  pub most : pair_count m ≤ pairs_with (sides m)
  -- where each node has one soil, the rows are document 01's
  pub as_before : OneSoilEach m → strength_rows m ≡ rows_before m
