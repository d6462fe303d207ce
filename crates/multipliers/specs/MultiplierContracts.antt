-- What the sums over multipliers hand around: rows summed one after the other, the sides of a pair of a node and a
-- soil, and the records that their functions require and ensure.
use Rattle.std.specs.Prelude.{◌≡◌, Bool, cond, List, ℕ, zero, suc, ◌+◌, ◌*◌, ◌≤◌, ◌<◌, ℤ, pos, ◌+ℤ◌, ◌-ℤ◌, ◌*ℤ◌, neg_ℤ}
use Rattle.std.specs.Prelude.{length}
use Rattle.integer.specs.Bounds.{Within, AllWithin, Is}
use Rattle.scope.specs.Mesh.{strength_multiplier, most_nodes, most_sides, sides, equality_count}
use Rattle.scope.specs.Bounds.{weighted_step, weighted_cross, equality_column}
use Rattle.scope.specs.Claim.{most_multiplier}
use Rattle.scope.specs.Bounds.{equality_sum, equality_columns, equality_sums, strength_sum, pair_column, most_column}
use Rattle.scope.specs.Bounds.{most_sum}
use Rattle.scope.specs.Columns.{at}
use Rattle.scope.specs.Rows.{Row, pair_count, pair_at, sx, sy, t, rows_of}
use Rattle.scope.specs.Sums.{unit, coefficient}
use Rattle.scope.specs.Tests.{row_at}
use Rattle.multipliers.specs.declared.sums.Sums.{Sums}
use Rattle.multipliers.specs.declared.sums.SideSums.{SideSums}
use Rattle.multipliers.specs.declared.sums.PairSums.{PairSums}
use Rattle.scope.specs.PrintedColumns.{sum_below}
use Rattle.criterion.specs.declared.steps.Step.{Step}
use Rattle.criterion.specs.declared.strength_numbers.SoilNumbers.{SoilNumbers}
use Rattle.criterion.specs.StrengthContracts.{step_at}
use Rattle.equality.specs.EqualityContracts.{SumsAre}

-- ---- sums

-- how many below n pass a test
unfoldable pub count_below : (ℕ → Bool) → ℕ → ℕ
count_below f zero = 0
count_below f (suc n) = count_below f n + cond (f n) 1 0

-- F over the first n rows, each times its multiplier
unfoldable pub row_sum : (Row → ℤ) → (ℕ → ℤ) → List Row → ℕ → ℤ
row_sum F w rs n = sum_below (λ k. w k *ℤ F (row_at rs k)) n

-- F over n rows from row a on, each times its multiplier
unfoldable pub part_sum : (Row → ℤ) → (ℕ → ℤ) → List Row → ℕ → ℕ → ℤ
part_sum F w rs a n = sum_below (λ i. w (a + i) *ℤ F (row_at rs (a + i))) n

-- a number that grew by d, which is within B
pub record Grown (a b d : ℤ) (B : ℕ) : Type 0 where
  pub by : b ≡ a +ℤ d
  pub step : Within B d

-- ---- a claim's multipliers

-- the multipliers of all rows are there, those of the strength rows after those of the equality rows
pub record Multipliers (m y : List ℤ) : Type 0 where
  pub long : equality_count m + pair_count m * sides m ≤ length y
  pub bounds : AllWithin most_multiplier y
  pub strength_bounds : (k : ℕ) → k < pair_count m * sides m
      → Within (strength_multiplier (sides m)) (at y (equality_count m + k))

-- ---- equality rows

-- sums that have room for more
pub record SumsFit (columns : List ℤ) (sums : Sums) : Type 0 where
  pub columns_fit : AllWithin most_column columns
  pub limit_fits : Within equality_sums sums.w
  pub live_fits : Within equality_sums sums.m

-- row k, times its multiplier, is added to the column sums, to W and to m
pub record RowSummed (m y : List ℤ) (k : ℕ) (before after : List ℤ) (a b : Sums) : Type 0 where
  pub columns : (j : ℕ)
      → Grown (at before j) (at after j) (at y k *ℤ coefficient j (row_at (rows_of m) k)) equality_column
  pub limit : Grown a.w b.w (at y k *ℤ (row_at (rows_of m) k).right) equality_sum
  pub live : Grown a.m b.m (at y k *ℤ (row_at (rows_of m) k).live) equality_sum

-- a sum for each column there can be, and all are 0
pub record NoSums (columns : List ℤ) : Type 0 where
  pub size : length columns ≡ 3 * most_nodes
  pub none : (j : ℕ) → at columns j ≡ pos 0

-- the first k rows, each times its multiplier, are summed: the columns are within C, and W and m within B
pub record SummedTo (m y : List ℤ) (k C B : ℕ) (columns : List ℤ) (sums : Sums) : Type 0 where
  pub size : length columns ≡ 3 * most_nodes
  pub columns_are : SumsAre C columns (λ j. row_sum (coefficient j) (at y) (rows_of m) k)
  pub limit_is : Is sums.w (row_sum (λ r. r.right) (at y) (rows_of m) k) B
  pub live_is : Is sums.m (row_sum (λ r. r.live) (at y) (rows_of m) k) B

-- the first k equality rows
abbrev pub Summed : List ℤ → List ℤ → ℕ → List ℤ → Sums → Type 0
Summed m y k columns sums = SummedTo m y k (k * equality_column) (k * equality_sum) columns sums

-- ---- the sides of a pair

-- a side with its multiplier w: their products are bounded, not each by itself, for a polygon with larger steps has
-- smaller multipliers
pub record SideWeighted (s : Step) (w : ℤ) : Type 0 where
  pub itself : Within most_multiplier w
  pub run : Within weighted_step (w *ℤ s.run)
  pub rise : Within weighted_step (w *ℤ s.rise)
  pub cross : Within weighted_cross (w *ℤ s.cross)

-- the multipliers y of a pair's sides t
pub record SideMultipliers (t : List Step) (y : List ℤ) : Type 0 where
  pub bounds : (k : ℕ) → k < length y → SideWeighted (step_at t k) (at y k)

pub record SideSumsFit (a : SideSums) : Type 0 where
  pub run : Within (most_sides * weighted_step) a.run
  pub rise : Within (most_sides * weighted_step) a.rise
  pub cross : Within (most_sides * weighted_cross) a.cross

-- a side, times its multiplier w, is added
pub record SideAdded (s : Step) (w : ℤ) (a b : SideSums) : Type 0 where
  pub run : Grown a.run b.run (w *ℤ s.run) weighted_step
  pub rise : Grown a.rise b.rise (w *ℤ s.rise) weighted_step
  pub cross : Grown a.cross b.cross (w *ℤ s.cross) weighted_cross

-- f over n sides, each times its multiplier
unfoldable pub side_sum : (ℕ → ℤ) → List ℤ → ℕ → ℤ
side_sum f y n = sum_below (λ i. at y i *ℤ f i) n

pub record SideSumsAre (a : SideSums) (t : List Step) (y : List ℤ) (n : ℕ) : Type 0 where
  pub run : Is a.run (side_sum (λ i. (step_at t i).run) y n) (n * weighted_step)
  pub rise : Is a.rise (side_sum (λ i. (step_at t i).rise) y n) (n * weighted_step)
  pub cross : Is a.cross (side_sum (λ i. (step_at t i).cross) y n) (n * weighted_cross)

-- ---- the strength rows of a pair

-- what they add up to, from the sums a over the sides and the numbers k of the soil
pub record PairSumsAre (r : PairSums) (a : SideSums) (k : SoilNumbers) : Type 0 where
  pub sx_is : r.sx ≡ k.friction *ℤ a.cross +ℤ k.lever *ℤ a.rise
  pub sy_is : r.sy ≡ k.friction *ℤ a.cross -ℤ k.lever *ℤ a.rise
  pub t_is : r.t ≡ neg_ℤ (pos 2 *ℤ k.lever *ℤ a.run)
  pub right_is : r.right ≡ k.right *ℤ a.cross

-- the number of a pair's first row, from 0
unfoldable pub pair_first : List ℤ → ℕ → ℕ
pair_first m a = equality_count m + a * sides m

-- all equality rows, and the rows of the pairs before pair a
abbrev pub PairsSummed : List ℤ → List ℤ → ℕ → List ℤ → Sums → Type 0
PairsSummed m y a columns sums =
    SummedTo m y (pair_first m a) (equality_columns + a * (3 * pair_column))
    (equality_sums + a * sides m * strength_sum)
    columns sums

-- the sums over the rows of pair a: the columns are those of its node
pub record PairPart (r : PairSums) (m y : List ℤ) (a : ℕ) : Type 0 where
  pub columns : (j : ℕ)
      → part_sum (coefficient j) (at y) (rows_of m) (pair_first m a) (sides m)
      ≡ r.sx *ℤ unit j (sx (pair_at m a).at)
      +ℤ r.sy *ℤ unit j (sy (pair_at m a).at)
      +ℤ r.t *ℤ unit j (t (pair_at m a).at)
  pub limit : part_sum (λ r. r.right) (at y) (rows_of m) (pair_first m a) (sides m) ≡ r.right
  pub live : part_sum (λ r. r.live) (at y) (rows_of m) (pair_first m a) (sides m) ≡ pos 0
  pub limit_fits : Within (sides m * strength_sum) r.right

-- a sum for each of three columns from `column` on is added
abbrev pub three_added : List ℤ → ℕ → PairSums → ℕ → ℤ
three_added before column r j = at before j +ℤ r.sx *ℤ unit j column +ℤ r.sy *ℤ unit j (column + 1)
    +ℤ r.t *ℤ unit j (column + 2)

-- ---- all rows

-- the sums over all rows, by their size
pub record WholeSumsFit (columns : List ℤ) (sums : Sums) : Type 0 where
  pub columns_fit : AllWithin most_column columns
  pub limit_fits : Within most_sum sums.w
  pub live_fits : Within most_sum sums.m
