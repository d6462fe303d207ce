-- The strength rows of a pair of a node and a soil by its numbers: the identity of the printed inequality's sides with
-- those of the row, and sums over the sides.
use mathlib.Core.Path.{◌≡◌, refl, sym, ◌∙◌, ap, subst}
use mathlib.Core.Bool.{Bool, true, false, ◌&&◌}
use mathlib.Core.List.{List, [], ◌∷◌}
use Prim.Native.Nat.{ℕ, suc, ◌+◌, ◌*◌, ◌-◌, ◌/◌, ◌%◌, ◌≤◌, ◌<◌}
use native.Mathlib.Nat.{suc-mul, mul-le-mul_right, div-lt_iff_lt-mul, div-add-mod', mod-lt}
use native.Mathlib.Numerals.{add-one}
use native.Mathlib.Decide.{dec_lt}
use native.Mathlib.Omega.{arith}
use lib.Dec.{T}
use lib.ListN.{length, get_or}
use lib.Signed.{le_z, lt_z, ◌≤ℤ◌, ◌<ℤ◌, le_z_yes, lt_z_yes}
use lib.IntN.{ℤ, pos, ◌+ℤ◌, ◌-ℤ◌, ◌*ℤ◌, neg_ℤ}
use Rattle.integer.proofs.Linear.{linear, facts, ◌&◌}
use Rattle.integer.proofs.Ring.{ring, terms}
use Rattle.integer.proofs.TestLaws.{same_test, yes_le_z, yes_lt_z}
use Rattle.std.specs.List.{list_all}
use Rattle.std.specs.Option.{IfSome, IfNone}
use Rattle.std.proofs.Common.{Option, None, Some}
use Rattle.std.proofs.lemmas.List.{get_or-map}
use Rattle.scope.proofs.NumberRanges.{some_sides_lem}
use Rattle.scope.proofs.PolygonRule.{listed_polygon}
use Rattle.scope.proofs.Pairs.{pair_there}
use Rattle.scope.proofs.RowCounts.{strength_count}
use Rattle.scope.proofs.SumBounds.{from_0}
use Rattle.criterion.proofs.RowLaws.{row_of_pair, strength_at, direction_at}
use Rattle.criterion.proofs.SideLaws.{side_count, side_step}
use Rattle.integer.specs.Bounds.{Within, Is}
use Rattle.scope.specs.Mesh.{nodes, soils, sides, p, q, h, cohesion, by_direction}
use Rattle.mesh.specs.declared.sizes.Sizes.{Sizes}
use Rattle.scope.specs.Mesh.{most_friction, most_cohesion}
use Rattle.scope.specs.Columns.{at, n, l}
use Rattle.scope.specs.declared.Place.TheVariants as P
use Rattle.scope.specs.Cases.Outcome.{Passed, Refused}
use Rattle.scope.specs.Checks.{all_below}
use Rattle.scope.specs.Polygon.{Side, polygon_of}
use Rattle.scope.specs.Rows as R
use Rattle.scope.specs.Rows.{pair_count, pair_at, sx, sy, t, strength_row, plane_row, strength_rows}
use Rattle.scope.specs.Sums.{weighted_sum, left_side, right_side, row_holds, is_open}
use Rattle.scope.specs.NumberRanges.{Counts, SoilFacts}
use Rattle.scope.specs.Tests.{row_at}
use Rattle.mesh.specs.declared.pairs.Pair.{Pair}
use Rattle.mesh.specs.MeshContracts.{Sized}
use Rattle.mesh.specs.PairContracts.{pair_of, PairsAre}
use Rattle.mesh.proofs.PairLaws.{pairs_counted}
use Rattle.scope.specs.RowNumbers.{side_at, direction_row_at}
use Rattle.criterion.specs.declared.steps.Step.{Step}
use Rattle.criterion.specs.declared.polygons.Polygon.{Polygon}
use Rattle.criterion.specs.declared.strength_numbers.SoilNumbers.{SoilNumbers}
use Rattle.criterion.specs.declared.strength_numbers.PairNumbers.{PairNumbers}
use Rattle.criterion.specs.StrengthContracts.{
  Listed,
  SoilIs,
  PairIs,
  PairState,
  no_step,
  step_at,
  step_numbers,
  side_numbers,
  SidesAre,
  run_of,
  rise_of,
  cross_of,
  side_slack,
  pair_row_holds,
  pair_holds,
}
use Rattle.bedded.specs.declared.planes.Stresses.{Stresses}
use Rattle.bedded.specs.declared.plane_rows.StressedPlanes.{StressedPlanes}
use Rattle.bedded.specs.PlaneContracts.{slack_at}
use Rattle.criterion.specs.PlaneContracts.{StressesAre, PlaneState}
use Rattle.scope.specs.Phases.{check_phase}
use Rattle.scope.specs.Refusals.{strengths_phase}
use Rattle.lines.specs.SearchContracts.{first_failing}
use Rattle.lines.proofs.Loops.{each_below, all_of_each, all_cong, all_elements, search_cong}
use Rattle.lines.proofs.Loops.{holds_before, fails_there, phase-at, phase_all}

-- what is said of a search that ended, or that found nothing
some_as : (o : Option ℕ) {P Q : ℕ → Type 0} → ((k : ℕ) → P k → Q k) → IfSome o P → IfSome o Q
some_as None f h = tt
some_as (Some k) f h = f k h

none_as : (o : Option ℕ) {A B : Type 0} → (A → B) → IfNone o A → IfNone o B
none_as None f h = f h
none_as (Some k) f h = tt

pub being : {v z : ℤ} {B : ℕ} → v ≡ z → Within B z → Is v z B
being e h = record { same = e; inside = h }

-- ---- the pairs

module _ (m : List ℤ) (t : List Pair) (h : PairsAre m t) (a : ℕ) (l : a < pair_count m) where
  pub pair_within : a < length t
  pair_within = omega (arith, pairs_counted m t h)

  pub pair_read : (d : Pair) → pair_of (get_or t a d) ≡ pair_at m a
  unfolding pair_at
  pair_read d =
      sym (get_or-map pair_of t a d (record { at = 0; soil = 0 }) pair_within)
      ∙ ap (λ ps. get_or ps a (record { at = 0; soil = 0 })) h

  pub node_read : {r : ℕ} (d : Pair) → r ≡ (get_or t a d).node → (r ≡ (pair_at m a).at) × (r < nodes m)
  node_read d e =
      let s = e ∙ ap (λ (p : R.Pair). p.at) (pair_read d) in
      (s, subst (λ v. v < nodes m) (sym s) (pair_there m a l).0)

  pub soil_read : {r : ℕ} (d : Pair) → r ≡ (get_or t a d).soil → (r ≡ (pair_at m a).soil) × (r < soils m)
  soil_read d e =
      let s = e ∙ ap (λ (p : R.Pair). p.soil) (pair_read d) in
      (s, subst (λ k. k < soils m) (sym s) (pair_there m a l).1)

-- ---- the numbers of a soil

module _ {m : List ℤ} {s : ℕ} (f : SoilFacts m s) where
  pub p-within : Within most_friction (p m s)
  p-within = from_0 f.p_range

  pub q-within : Within most_friction (q m s)
  q-within = from_0 f.q_range

  pub h-within : Within most_friction (h m s)
  h-within = from_0 f.h_range

  pub cohesion-within : Within most_cohesion (cohesion m s)
  cohesion-within = from_0 f.cohesion_range

-- ---- the numbers of a pair at a field

module _ (m : List ℤ) (a : ℕ) {d : PairNumbers} {k : SoilNumbers} {x : List ℤ} {v soil : ℕ} {r n' n : ℤ} where
  pub pair_stated : PairIs d k x v n' → SoilIs k m soil r → v ≡ (pair_at m a).at → soil ≡ (pair_at m a).soil
      → r ≡ (polygon_of (sides m)).radius → n' ≡ n → PairState d m (at x) n a
  unfolding sx sy t
  pair_stated h g ev es er en = record {
    lever = h.lever ∙ g.lever ∙ rw (er, es);
    spread = h.spread ∙ rw ev;
    twist = h.twist ∙ rw ev;
    reserve = h.reserve ∙ rw (en, g.right, g.friction, es, ev);
  }

-- the same node and the same n
pub stresses_as : {d : Stresses} {s : ℕ → ℤ} {v v' : ℕ} {n n' : ℤ} → StressesAre d s v n → v ≡ v' → n ≡ n'
    → StressesAre d s v' n'
stresses_as {d} {s} {v} {v'} {n} h ev en = subst (StressesAre d s v') en (subst (λ v. StressesAre d s v n) ev h)

-- ---- the polygon of a mesh

module _ (m : List ℤ) (p : Polygon) (e : length p.steps.items ≡ sides m) where
  pub its_radius : p.radius ≡ (polygon_of (sides m)).radius
  its_radius = p.circle ∙ ap (λ k. (polygon_of k).radius) e

  pub its_sides : {t : List Step} → t ≡ p.steps.items → SidesAre (polygon_of (sides m)) t
  its_sides d = subst (SidesAre (polygon_of (sides m))) (sym d)
      (subst (λ k. SidesAre (polygon_of k) p.steps.items) e p.drawn)

pub sides_counted : {m : List ℤ} {t : List Step} → Counts m → SidesAre (polygon_of (sides m)) t → length t ≡ sides m
sides_counted {m} counts h = side_count h ∙ (listed_polygon (sides m) counts.sides_listed).fits.rule.count

pub sides_listed_lem : {m : List ℤ} {s : Sizes} → Sized m s → Listed s.sides
sides_listed_lem h = record { listed = rw h.sides_are h.facts.counts.sides_listed }

-- ---- a strength row by its slack

le_z_slack : (a b : ℤ) {z : ℤ} → z ≡ b -ℤ a → le_z a b ≡ le_z (pos 0) z
le_z_slack a b {z} e = same_test (λ t. yes_le_z (up (le_z_yes t))) (λ t. yes_le_z (down (le_z_yes t)))
  where
    up : a ≤ℤ b → pos 0 ≤ℤ z
    up h = linear (e & h) (search facts depth 40) (omega arith)

    down : pos 0 ≤ℤ z → a ≤ℤ b
    down h = linear (e & h) (search facts depth 40) (omega arith)

lt_z_slack : (a b : ℤ) {z : ℤ} → z ≡ b -ℤ a → lt_z a b ≡ lt_z (pos 0) z
lt_z_slack a b {z} e = same_test (λ t. yes_lt_z (up (lt_z_yes t))) (λ t. yes_lt_z (down (lt_z_yes t)))
  where
    up : a <ℤ b → pos 0 <ℤ z
    up h = linear (e & h) (search facts depth 40) (omega arith)

    down : pos 0 <ℤ z → a <ℤ b
    down h = linear (e & h) (search facts depth 40) (omega arith)

-- the right side less the left, as it is printed and as the row has it
regrouped : (r p q h C x y z run rise k l n : ℤ)
    → k *ℤ (pos 2 *ℤ q *ℤ C *ℤ n -ℤ p *ℤ (x +ℤ y)) -ℤ r *ℤ h *ℤ (rise *ℤ (x -ℤ y) -ℤ run *ℤ (pos 2 *ℤ z))
    ≡ k *ℤ (pos 2 *ℤ q *ℤ C) *ℤ n -ℤ (((r *ℤ h *ℤ rise +ℤ k *ℤ p) *ℤ x
    +ℤ ((k *ℤ p -ℤ r *ℤ h *ℤ rise) *ℤ y +ℤ (neg_ℤ (pos 2 *ℤ (r *ℤ h *ℤ run)) *ℤ z +ℤ pos 0))) +ℤ pos 0 *ℤ l)
regrouped r p q h C x y z run rise k l n =
    ring (r ∷ p ∷ q ∷ h ∷ C ∷ x ∷ y ∷ z ∷ run ∷ rise ∷ k ∷ l ∷ n ∷ []) (search terms depth 100) refl

slack_is : (r p q h C : ℤ) (v : ℕ) (s : Side) (f : ℕ → ℤ) (l n : ℤ)
    → cross_of s *ℤ (pos 2 *ℤ q *ℤ C *ℤ n -ℤ p *ℤ (f (sx v) +ℤ f (sy v))) -ℤ r *ℤ h *ℤ
    (rise_of s *ℤ (f (sx v) -ℤ f (sy v)) -ℤ run_of s *ℤ (pos 2 *ℤ f (t v)))
    ≡ right_side n (strength_row r p q h C v s) -ℤ left_side f l (strength_row r p q h C v s)
unfolding right_side left_side weighted_sum strength_row cross_of rise_of run_of
slack_is r p q h C v s f l n = regrouped r p q h C (f (sx v)) (f (sy v)) (f (t v)) (run_of s) (rise_of s)
    (cross_of s) l n

module _ (m : List ℤ) (s : ℕ → ℤ) (n : ℤ) (a k : ℕ) {d : PairNumbers} (step : Step) (state : PairState d m s n a)
    (same : step_numbers step ≡ side_numbers (side_at (polygon_of (sides m)) k)) (l : ℤ) where
  row_slack : side_slack d step ≡ right_side n
      (row_of_pair m a (side_at (polygon_of (sides m)) k)) -ℤ left_side s l
      (row_of_pair m a (side_at (polygon_of (sides m)) k))
  unfolding side_slack row_of_pair
  row_slack =
      rw (
        state.lever,
        state.spread,
        state.twist,
        state.reserve,
        ap (λ t. t.0) same,
        ap (λ t. t.1) same,
        ap (λ t. t.2) same,
      )
      (slack_is (polygon_of (sides m)).radius (p m (pair_at m a).soil) (q m (pair_at m a).soil)
      (h m (pair_at m a).soil) (cohesion m (pair_at m a).soil) (pair_at m a).at
      (side_at (polygon_of (sides m)) k) s l n)

  pub strength_test_lem : row_holds s l n (row_of_pair m a (side_at (polygon_of (sides m)) k))
      ≡ le_z (pos 0) (side_slack d step)
  unfolding row_holds row_of_pair strength_row
  strength_test_lem = le_z_slack (left_side s l (row_of_pair m a (side_at (polygon_of (sides m)) k)))
      (right_side n (row_of_pair m a (side_at (polygon_of (sides m)) k))) row_slack

  pub open_test_lem : (w : ℤ) → is_open s l n
      (w, row_of_pair m a (side_at (polygon_of (sides m)) k)) ≡ (lt_z (pos 0) w && lt_z (pos 0) (side_slack d step))
  unfolding is_open row_of_pair strength_row
  open_test_lem w = ap (λ b. lt_z (pos 0) w && b)
      (lt_z_slack (left_side s l (row_of_pair m a (side_at (polygon_of (sides m)) k)))
      (right_side n (row_of_pair m a (side_at (polygon_of (sides m)) k))) row_slack)

-- ---- the pairs one by one

-- strength row i holds at the stresses
abbrev strength_test : List ℤ → (ℕ → ℤ) → ℤ → ℤ → ℕ → Bool
strength_test m s l n i = row_holds s l n (row_at (strength_rows m) i)

-- and the row of a side by its slack
abbrev step_test : PairNumbers → Step → Bool
step_test d step = le_z (pos 0) (side_slack d step)

abbrev side_test : PairNumbers → List Step → ℕ → Bool
side_test d t k = step_test d (step_at t k)

module _ (m : List ℤ) (s : ℕ → ℤ) (l n : ℤ) (counts : Counts m) where
  -- a pair by its sides
  module _ {t : List Step} (steps : SidesAre (polygon_of (sides m)) t) {a : ℕ} {d : PairNumbers} (h : a < pair_count m)
      (state : PairState d m s n a) (by_sides : by_direction m (pair_at m a).soil ≡ false) where
    row_test_lem : (k : ℕ) → k < sides m → pair_row_holds m s l n a k ≡ side_test d t k
    row_test_lem k j =
        let there : k < length t = omega (arith, sides_counted counts steps) in
        ap (row_holds s l n) (strength_at m (record { listed = counts.sides_listed }) a k h j by_sides)
        ∙ strength_test_lem m s n a k (step_at t k) state (side_step steps k there) l

    pub pair_holds_is : {r : Bool} → r ≡ list_all (step_test d) t → r ≡ pair_holds m s l n a
    unfolding pair_holds
    pair_holds_is g =
        g
        ∙ all_elements (step_test d) t no_step
        ∙ ap (all_below (side_test d t)) (sides_counted counts steps)
        ∙ sym (all_cong (pair_row_holds m s l n a) (side_test d t) (sides m) row_test_lem)

    pub first_side_is : (o : Option ℕ) → IfSome o (λ k. k ≡ first_failing (side_test d t) (length t))
        → IfSome o (λ k. k ≡ first_failing (pair_row_holds m s l n a) (sides m))
    first_side_is o h =
        some_as o
        (λ k g.
        g
        ∙ ap (first_failing (side_test d t)) (sides_counted counts steps)
        ∙ sym (search_cong (pair_row_holds m s l n a) (side_test d t) (sides m) row_test_lem))
        h

    pub no_side_is : (o : Option ℕ) → IfNone o (list_all (step_test d) t ≡ true)
        → IfNone o (pair_holds m s l n a ≡ true)
    no_side_is o h = none_as o (λ g. sym (pair_holds_is (sym g))) h

  -- a pair by its planes
  module _ (planes : StressedPlanes) {a : ℕ} (h : a < pair_count m) (state : PlaneState planes m s n a)
      (bedded : by_direction m (pair_at m a).soil ≡ true) where
    abbrev plane_test : ℕ → Bool
    plane_test k = le_z (pos 0) (slack_at planes.numbers planes.corners.now k)

    plane_test_lem : (k : ℕ) → k < sides m → pair_row_holds m s l n a k ≡ plane_test k
    unfolding row_holds plane_row
    plane_test_lem k j =
        ap (row_holds s l n) (direction_at m (record { listed = counts.sides_listed }) a k h j bedded)
        ∙ le_z_slack (left_side s l (direction_row_at m (pair_at m a) k))
        (right_side n (direction_row_at m (pair_at m a) k)) (state.each l k)

    planes_hold_below : {r : Bool} {count : ℕ} → count ≡ sides m → r ≡ all_below plane_test count
        → r ≡ pair_holds m s l n a
    unfolding pair_holds
    planes_hold_below e g =
        g
        ∙ ap (all_below plane_test) e
        ∙ sym (all_cong (pair_row_holds m s l n a) plane_test (sides m) plane_test_lem)

    pub planes_hold_is : {r : Bool} → r ≡ all_below plane_test (length planes.corners.now / 2 * 2)
        → r ≡ pair_holds m s l n a
    planes_hold_is g =
        planes_hold_below
        (ap (λ (k : ℕ). k / 2 * 2) state.size ∙ (listed_polygon (sides m) counts.sides_listed).fits.even_sides) g

    pub first_plane_is : (o : Option ℕ) → IfSome o (λ k. k ≡ first_failing plane_test (length planes.corners.now))
        → IfSome o (λ k. k ≡ first_failing (pair_row_holds m s l n a) (sides m))
    first_plane_is o h =
        some_as o
        (λ k g.
        g
        ∙ ap (first_failing plane_test) state.size
        ∙ sym (search_cong (pair_row_holds m s l n a) plane_test (sides m) plane_test_lem))
        h

    pub no_plane_is : (o : Option ℕ) → IfNone o (all_below plane_test (length planes.corners.now) ≡ true)
        → IfNone o (pair_holds m s l n a ≡ true)
    no_plane_is o h = none_as o (λ g. sym (planes_hold_below state.size (sym g))) h

    pub plane_open_lem : (k : ℕ) (w : ℤ)
        → is_open s l n (w, direction_row_at m (pair_at m a) k)
        ≡ (lt_z (pos 0) w && lt_z (pos 0) (slack_at planes.numbers planes.corners.now k))
    unfolding is_open plane_row
    plane_open_lem k w =
        ap (λ b. lt_z (pos 0) w && b)
        (lt_z_slack (left_side s l (direction_row_at m (pair_at m a) k))
        (right_side n (direction_row_at m (pair_at m a) k)) (state.each l k))

  -- the rows of the pairs that hold
  pair_rows_lem : {a : ℕ} → ((u : ℕ) → u < a → pair_holds m s l n u ≡ true) → (j : ℕ) → j < a * sides m
      → strength_test m s l n j ≡ true
  unfolding pair_holds
  pair_rows_lem {a} holds j b =
      let u : ℕ = j / sides m in
      subst (λ i. strength_test m s l n i ≡ true) (div-add-mod' j (sides m))
      (each_below (pair_row_holds m s l n u) (sides m)
      (holds u ((div-lt_iff_lt-mul (some_sides_lem counts)).1 b)) (j % sides m) (mod-lt j (some_sides_lem counts)))

  -- a is the lowest pair on which a row fails, and k the lowest of its rows
  module _ {a k : ℕ} (e : a ≡ first_failing (pair_holds m s l n) (pair_count m)) (h : a < pair_count m)
      (f : k ≡ first_failing (pair_row_holds m s l n a) (sides m)) where
    row_there : k < sides m
    unfolding pair_holds
    row_there = by (dec_lt k (sides m))
      where
        by : Dec (k < sides m) → k < sides m
        by (yes j) = j
        by (no j) =
            absurd
            (subst T
            (sym (all_of_each (pair_row_holds m s l n a) (sides m)
            (λ i b. holds_before (pair_row_holds m s l n a) (sides m) f i (omega arith)))
            ∙ fails_there (pair_holds m s l n) (pair_count m) e h)
            tt)

    before : (j : ℕ) → j < a * sides m + k → strength_test m s l n j ≡ true
    before j b = by (dec_lt j (a * sides m))
      where
        by : Dec (j < a * sides m) → strength_test m s l n j ≡ true
        by (yes i) = pair_rows_lem (holds_before (pair_holds m s l n) (pair_count m) e) j i
        by (no i) =
            let rest : ℕ = j - a * sides m in
            let same : a * sides m + rest ≡ j = omega arith in
            let low : rest < k = omega arith in
            subst (λ i. strength_test m s l n i ≡ true) same
            (holds_before (pair_row_holds m s l n a) (sides m) f rest low)

    refused : Refused 22 (P.Row (suc (a * sides m + k)))
        ≡ check_phase (strengths_phase (strength_rows m) s l n)
    unfolding check_phase
    refused =
        phase-at (strength_test m s l n) 22 (λ i. P.Row (suc i)) (length (strength_rows m)) before
        (omega (
          arith,
          strength_count m counts.sides_listed,
          mul-le-mul_right (sides m) h,
          suc-mul a (sides m),
          row_there,
        ))
        (fails_there (pair_row_holds m s l n a) (sides m) f row_there)
        refl

  -- the same by the counts of pairs and of sides that the code has
  pub strengths_refused : {a k count side_count : ℕ} → count ≡ pair_count m → side_count ≡ sides m
      → a ≡ first_failing (pair_holds m s l n) count → a < count
      → k ≡ first_failing (pair_row_holds m s l n a) (sides m)
      → Refused 22 (P.Row (a * side_count + k + 1))
      ≡ check_phase (strengths_phase (strength_rows m) s l n)
  strengths_refused {a} {k} en es e h f =
      ap (λ i. Refused 22 (P.Row i)) (add-one _ ∙ ap (λ i. suc (a * i + k)) es)
      ∙ refused (e ∙ ap (first_failing (pair_holds m s l n)) en) (omega arith) f

  pub strengths_passed : {a count : ℕ} → count ≡ pair_count m → a ≡ first_failing (pair_holds m s l n) count
      → count ≤ a → Passed ≡ check_phase (strengths_phase (strength_rows m) s l n)
  unfolding check_phase
  strengths_passed {count = count} en e h =
      phase_all (strength_test m s l n) 22 (λ i. P.Row (suc i)) (length (strength_rows m))
      (λ j b. pair_rows_lem {a = pair_count m} (λ u k. holds_before (pair_holds m s l n) count e u (omega arith)) j
      (omega (arith, strength_count m counts.sides_listed)))
