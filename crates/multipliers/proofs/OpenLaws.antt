-- The open rows: an equality row is never open, and the sides of a pair are counted one by one, by their slack.
use mathlib.Core.Path.{◌≡◌, refl, sym, ◌∙◌, ap, ap₂, subst}
use mathlib.Core.Bool.{Bool, true, false, cond, ◌&&◌, and-false}
use mathlib.Core.List.{List, [], ◌∷◌}
use Prim.Native.Nat.{ℕ, suc, ◌+◌, ◌*◌, ◌/◌, ◌≤◌, ◌<◌}
use native.Mathlib.Nat.{zero-mul}
use native.Mathlib.Omega.{arith}
use lib.IntN.{ℤ, pos}
use lib.Signed.{lt_z}
use lib.ListN.{length, take, drop}
use Rattle.std.specs.Prelude.{Option, Some, None, count_by, zip}
use Rattle.std.proofs.lemmas.List.Sums.{sum_by-cons}
use Rattle.scope.specs.Answer.{open_rows_of}
use Rattle.scope.specs.Mesh.{pairs_with, most_sides, most_equality_rows, sides, by_direction, equality_count}
use Rattle.scope.specs.Bounds.{most_strength_rows}
use Rattle.scope.specs.Columns.{at, has_field, has_multipliers}
use Rattle.scope.specs.Polygon.{polygon_of}
use Rattle.scope.specs.NumberRanges.{Counts}
use Rattle.scope.specs.Rows.{Kind, asked, unfixed, strength, Row, pair_count, pair_at, equality_rows, rows_of}
use Rattle.scope.specs.Sums.{left_side, right_side, is_open, open_rows}
use Rattle.scope.specs.Verdict.{open_count}
use Rattle.scope.proofs.RowCounts.{equality_count_lem, equality_kind}
use Rattle.scope.proofs.Lists.{row_in}
use Rattle.criterion.specs.declared.steps.Step.{Step}
use Rattle.criterion.specs.declared.strength_numbers.PairNumbers.{PairNumbers}
use Rattle.criterion.specs.declared.fields.Field.{Field}
use Rattle.criterion.specs.FieldContracts.{FieldOf}
use Rattle.criterion.specs.StrengthContracts.{Listed, PairState, SidesAre, step_at}
use Rattle.criterion.specs.PlaneContracts.{PlaneState}
use Rattle.bedded.specs.declared.plane_rows.StressedPlanes.{StressedPlanes}
use Rattle.scope.proofs.PolygonRule.{listed_polygon}
use Rattle.multipliers.specs.declared.weighted_rows.WeightedRows.{WeightedRows}
use Rattle.multipliers.specs.RowContracts.{RowsOf}
use Rattle.multipliers.specs.MultiplierContracts.{Multipliers, count_below, pair_first}
use Rattle.multipliers.specs.OpenContracts.{side_open, plane_open, open_test}
use Rattle.criterion.proofs.RowLaws.{equality_among, row_count}
use Rattle.multipliers.proofs.PairLaws.{pair_row_at, plane_row_at, pair_length, pair_weight, pair_as_many}
use Rattle.multipliers.proofs.PairSumLaws.{few_rows, next_first}
use Rattle.multipliers.proofs.PlaneSumLaws.{planes_even}
use Rattle.criterion.proofs.SideLaws.{side_step}
use Rattle.criterion.proofs.StrengthLaws.{open_test_lem, plane_open_lem, sides_counted}
use Rattle.multipliers.proofs.SumLaws.{weighed-count, count_below_front, count_below_cong, count_below_add}
use Rattle.multipliers.proofs.SumLaws.{count_below_none, count_below_most, one_most}
use Rattle.scope.specs.Tests.{row_at}

-- ---- the sides of a pair

-- the sides t that are open with the multipliers y, one by one
sides_zipped : (d : PairNumbers) (t : List Step) (y : List ℤ) → length t ≡ length y
    → count_by (λ p. side_open d p.0 p.1) (zip t y) ≡ count_below (λ k. side_open d (step_at t k) (at y k)) (length y)
unfolding count_below at
sides_zipped d [] [] e = refl
sides_zipped d [] (w ∷ y) e = absurd (omega arith)
sides_zipped d (s ∷ t) [] e = absurd (omega arith)
sides_zipped d (s ∷ t) (w ∷ y) e =
    sum_by-cons (λ p. cond (side_open d p.0 p.1) 1 0) (s, w) (zip t y)
    ∙ ap (λ z. cond (side_open d s w) 1 0 + z) (sides_zipped d t y (omega arith))
    ∙ sym (count_below_front (λ k. side_open d (step_at (s ∷ t) k) (at (w ∷ y) k)) (length y))

-- the two rows of a plane are few
pub two_fit : (f : ℕ → Bool) (j : ℕ) (b d : Bool) {r count : ℕ} → r ≡ cond b 1 0 + cond d 1 0
    → count ≡ count_below f (2 * j) → 2 * j ≤ most_sides → count + r ≤ most_sides + 2
two_fit f j b d e g h = omega (arith, e, g, h, count_below_most f (2 * j), one_most b, one_most d)

-- and are counted
pub two_more : (f : ℕ → Bool) (j : ℕ) {r count : ℕ} → r ≡ cond (f (2 * j)) 1 0 + cond (f (2 * j + 1)) 1 0
    → count ≡ count_below f (2 * j) → count + r ≡ count_below f (2 * (j + 1))
unfolding count_below
two_more f j {r} {count} e g =
    let next : 2 * (j + 1) ≡ suc (suc (2 * j)) = omega arith in
    let odd : 2 * j + 1 ≡ suc (2 * j) = omega arith in
    omega (
      arith,
      e,
      g,
      ap {B = ℕ} (λ k. cond (f k) 1 0) odd,
      ap (count_below f) next,
    )

-- ---- all rows

never_open : (s : ℕ → ℤ) (l n w : ℤ) (r : Row) → ¬ (r.kind ≡ strength) → is_open s l n (w, r) ≡ false
unfolding is_open
never_open s l n w r h = by r.kind h
  where
    by : (k : Kind) → ¬ (k ≡ strength)
        → elim k [
          | asked ↦ false
          | unfixed ↦ false
          | strength ↦ lt_z (pos 0) w && lt_z (left_side s l r)
              (right_side n r)
        ] ≡ false
    by asked h = refl
    by unfixed h = refl
    by strength h = absurd (h refl)

module _ (m : List ℤ) (s : ℕ → ℤ) (l n : ℤ) (y : List ℤ) where
  abbrev opens : ℕ → Bool
  opens = open_test m s l n y

  pub no_pair_open : count_below opens (pair_first m 0) ≡ 0
  unfolding pair_first
  no_pair_open = count_below_none opens (pair_first m 0) (λ k h. none k (omega (arith, zero-mul (sides m))))
    where
      none : (k : ℕ) → k < equality_count m → opens k ≡ false
      none k h =
          ap (λ (r : Row). is_open s l n (at y k, r)) (equality_among m k h)
          ∙ never_open s l n (at y k) (row_at (equality_rows m) k)
          (equality_kind m (row_at (equality_rows m) k)
          (row_in (equality_rows m) k (omega (arith, equality_count_lem m))))

  -- the rows of a pair, with its multipliers w
  module _ (a : ℕ) {w : List ℤ} (h : a < pair_count m) (counts : Counts m) (given : Multipliers m y)
      (there : w ≡ take (sides m) (drop (pair_first m a) y)) {r : ℕ} where
    pub sides_opened : (d : PairNumbers) (t : List Step) → PairState d m s n a → SidesAre (polygon_of (sides m)) t
        → by_direction m (pair_at m a).soil ≡ false → r ≡ count_by (λ p. side_open d p.0 p.1) (zip t w)
        → r ≡ count_below (λ i. opens (pair_first m a + i)) (sides m)
    sides_opened d t state steps by_sides e =
        e
        ∙ sides_zipped d t w (pair_as_many h given there counts steps)
        ∙ ap (count_below (λ k. side_open d (step_at t k) (at w k))) (pair_length h given there)
        ∙ count_below_cong _ _ (sides m) (λ i g. ap (side_open d (step_at t i)) (pair_weight h given there i g)
        ∙ sym (side i g))
      where
        side : (i : ℕ) → i < sides m
            → opens (pair_first m a + i) ≡ side_open d (step_at t i) (at y (pair_first m a + i))
        side i g =
            ap (λ (r : Row). is_open s l n (at y (pair_first m a + i), r))
            (pair_row_at m a h (record { listed = counts.sides_listed }) i g by_sides)
            ∙ open_test_lem m s n a i (step_at t i) state
            (side_step steps i (omega (arith, sides_counted counts steps))) l (at y (pair_first m a + i))

    pub planes_opened : (planes : StressedPlanes) → PlaneState planes m s n a → by_direction m (pair_at m a).soil ≡ true
        → r ≡ count_below (λ k. plane_open planes k (at w k)) (2 * (length w / 2))
        → r ≡ count_below (λ i. opens (pair_first m a + i)) (sides m)
    planes_opened planes state bedded e =
        let even : 2 * (length w / 2) ≡ sides m =
        omega (arith, planes_even w counts (pair_length h given there)) in
        e
        ∙ ap (count_below (λ k. plane_open planes k (at w k))) even
        ∙ count_below_cong _ _ (sides m) (λ i g. ap (plane_open planes i) (pair_weight h given there i g)
        ∙ sym (row i g))
      where
        row : (i : ℕ) → i < sides m
            → opens (pair_first m a + i) ≡ plane_open planes i (at y (pair_first m a + i))
        row i g =
            ap (λ (r : Row). is_open s l n (at y (pair_first m a + i), r))
            (plane_row_at m a h (record { listed = counts.sides_listed }) i g bedded)
            ∙ plane_open_lem m s l n counts planes h state bedded i (at y (pair_first m a + i))

  -- a pair has few open rows, and is one pair more
  pub few_open : Counts m → (a : ℕ) {r : ℕ} → r ≡ count_below (λ i. opens (pair_first m a + i)) (sides m)
      → r ≤ most_sides
  few_open counts a e =
      let few = (listed_polygon (sides m) counts.sides_listed).fits.few_sides in
      omega (arith, e, few, count_below_most (λ i. opens (pair_first m a + i)) (sides m))

  pub one_more_pair : (a : ℕ) {r count : ℕ} → r ≡ count_below (λ i. opens (pair_first m a + i)) (sides m)
      → count ≡ count_below opens (pair_first m a) → count + r ≡ count_below opens (pair_first m (a + 1))
  one_more_pair a e f =
      ap₂ ◌+◌ f e
      ∙ sym (count_below_add opens (pair_first m a) (sides m))
      ∙ ap (count_below opens) (next_first m a)

  pub count_small : Counts m → pair_count m ≤ pairs_with (sides m) → (a : ℕ) {count : ℕ} → a ≤ pair_count m
      → count ≡ count_below opens (pair_first m a) → count ≤ most_equality_rows + most_strength_rows
  unfolding pair_first
  count_small counts few a h e =
      omega (
        arith,
        e,
        count_below_most opens (pair_first m a),
        few_rows counts few a h,
        counts.elements_most,
        counts.edges_most,
        counts.jumps_most,
      )

  pub all_pairs_open : Listed (sides m) → (a : ℕ) {count : ℕ} → a ≡ pair_count m
      → count ≡ count_below opens (pair_first m a) → count ≡ open_rows s l n (at y) (rows_of m)
  unfolding open_rows pair_first
  all_pairs_open listed a e f =
      f
      ∙ ap (count_below opens) (ap (λ k. equality_count m + k * sides m) e ∙ sym (row_count m listed))
      ∙ sym (weighed-count (is_open s l n) (at y) (rows_of m))

-- the same pair on the same mesh
pub state_as : {m m' : List ℤ} {d : PairNumbers} {s : ℕ → ℤ} {n : ℤ} {a : ℕ} → m' ≡ m → PairState d m' s n a
    → PairState d m s n a
state_as {d = d} {s = s} {n = n} {a = a} e h = subst (λ m. PairState d m s n a) e h

-- ---- a claim

pub counted : (m c : List ℤ) (field : Field) (rows : WeightedRows) {k : ℕ} → FieldOf field m c → RowsOf rows m c
    → k
    ≡ open_rows (at field.stresses.now) field.l field.n (at rows.multipliers.now)
    (rows_of rows.mesh.mesh.numbers.now)
    → open_rows_of (Some k) ≡ open_count m c
unfolding open_count
counted m c field rows f g e =
    rw (e, f.there, g.there, f.its_stresses, f.its_load, f.its_scale, g.its_mesh, g.its_multipliers)

pub no_field : (m c : List ℤ) {r : Option ℕ} → r ≡ None → has_field c ≡ false → open_rows_of r ≡ open_count m c
unfolding open_count
no_field m c d e = rw d (sym (rw e))

pub no_multipliers : (m c : List ℤ) {r : Option ℕ} → r ≡ None → has_multipliers c ≡ false
    → open_rows_of r ≡ open_count m c
unfolding open_count
no_multipliers m c d e = rw d (sym (rw (e, and-false)))
