-- The strength rows of a pair whose soil is by direction, each times its multiplier: by induction on the planes, the
-- two rows of each at once, their sums are those of the planes' numbers, times what the soil gives.
use mathlib.Core.Path.{◌≡◌, refl, sym, ◌∙◌, ap, ap₂, subst}
use mathlib.Core.Bool.{true}
use mathlib.Core.List.{List, [], ◌∷◌}
use Prim.Native.Nat.{ℕ, zero, suc, ◌+◌, ◌*◌, ◌/◌, ◌%◌, ◌≤◌, ◌<◌, zero-le}
use native.Mathlib.Nat.{le_refl, add_assoc, suc-mul, mul-le-mul_right, div-add-mod', mod-lt}
use native.Mathlib.Omega.{arith}
use lib.IntN.{ℤ, pos, ◌+ℤ◌, ◌-ℤ◌, ◌*ℤ◌, neg_ℤ, +ℤ_assoc, +ℤ_idr, zero-*ℤ}
use lib.ListN.{length, get_or, take, drop}
use Rattle.integer.proofs.Ring.{ring, terms}
use Rattle.integer.specs.Bounds.{Within, AllWithin, Is}
use Rattle.integer.proofs.BoundLaws.{Within-le, Within-+ℤ, Within-neg_ℤ, Within-*ℤ, all_within_lem}
use Rattle.integer.proofs.Machine.{Is-as, Is-Within}
use Rattle.scope.specs.Mesh.{most_sides, most_strength, strength_multiplier, sides, by_direction, equality_count, p, q}
use Rattle.scope.specs.Mesh.{cohesion, cohesion_across}
use Rattle.scope.specs.Bounds.{most_plane_radius, strength_sum}
use Rattle.scope.specs.Columns.{at}
use Rattle.scope.specs.NumberRanges.{Counts}
use Rattle.scope.specs.Polygon.{polygon_of}
use Rattle.scope.specs.PrintedColumns.{sum_below}
use Rattle.scope.specs.Rows.{Row, pair_count, pair_at, sx, sy, t, rows_of, plane_row}
use Rattle.scope.specs.RowNumbers.{corner_at, direction_row, direction_row_at}
use Rattle.scope.specs.Sums.{weighted_sum, unit, coefficient}
use Rattle.scope.proofs.PolygonRule.{listed_polygon}
use Rattle.scope.proofs.SideLimits.{strength_most}
use Rattle.scope.proofs.SumBelow.{sum_below_cong}
use Rattle.bedded.specs.declared.planes.Bed.{Bed}
use Rattle.bedded.specs.declared.plane_rows.Planes.{Planes}
use Rattle.bedded.specs.PlaneContracts.{normal_x, normal_y}
use Rattle.bedded.proofs.PlaneLaws.{plus_even, minus_odd}
use Rattle.criterion.specs.PlaneContracts.{PlanesAre}
use Rattle.multipliers.specs.declared.sums.PairSums.{PairSums}
use Rattle.multipliers.specs.declared.sums.PlaneSums.{PlaneSums}
use Rattle.multipliers.specs.MultiplierContracts.{Grown, Multipliers, part_sum, pair_first, PairPart}
use Rattle.multipliers.specs.PlaneSumContracts.{PlaneSumsFit, PlaneAdded, PlaneSumsAre, BedSumsAre}
use Rattle.multipliers.specs.PlaneSumContracts.{both, difference, plane_sum}
use Rattle.multipliers.proofs.SumLaws.{sum_below-next}
use Rattle.multipliers.proofs.MultiplierLaws.{grown_by, grown_is}
use Rattle.multipliers.proofs.PairLaws.{plane_row_at, pair_length, pair_weight}

-- ---- the planes of a pair, one by one

module _ {x y u v : ℤ} where
  pub plane_added : {a b : PlaneSums} → Within most_plane_radius x → Within most_plane_radius y
      → Within most_strength u → Within most_strength v → b.whole ≡ a.whole +ℤ (u +ℤ v)
      → b.aa ≡ a.aa +ℤ (u +ℤ v) *ℤ (x *ℤ x)
      → b.ab ≡ a.ab +ℤ (u +ℤ v) *ℤ (x *ℤ y) → b.bb ≡ a.bb +ℤ (u +ℤ v) *ℤ (y *ℤ y)
      → b.shear_ab ≡ a.shear_ab +ℤ (u -ℤ v) *ℤ (x *ℤ y)
      → b.shear_squares ≡ a.shear_squares +ℤ (u -ℤ v) *ℤ (x *ℤ x -ℤ y *ℤ y) → PlaneAdded x y u v a b
  plane_added hx hy hu hv ew ea eb ec es et = record {
    whole = grown_by ew (Within-le (Within-+ℤ hu hv) (omega arith));
    aa = grown_by ea (Within-le (Within-*ℤ (Within-+ℤ hu hv) (Within-*ℤ hx hx)) (omega arith));
    ab = grown_by eb (Within-le (Within-*ℤ (Within-+ℤ hu hv) (Within-*ℤ hx hy)) (omega arith));
    bb = grown_by ec (Within-le (Within-*ℤ (Within-+ℤ hu hv) (Within-*ℤ hy hy)) (omega arith));
    shear_ab =
        grown_by es (Within-le (Within-*ℤ (Within-+ℤ hu (Within-neg_ℤ hv)) (Within-*ℤ hx hy)) (omega arith));
    shear_squares =
        grown_by et
        (Within-le
        (Within-*ℤ (Within-+ℤ hu (Within-neg_ℤ hv)) (Within-+ℤ (Within-*ℤ hx hx) (Within-neg_ℤ (Within-*ℤ hy hy))))
        (omega arith));
  }

  -- with the normal and the multipliers as they were lent
  pub added_as : {x' y' u' v' : ℤ} {a b : PlaneSums} → PlaneAdded x y u v a b → x ≡ x' → y ≡ y' → u ≡ u' → v ≡ v'
      → PlaneAdded x' y' u' v' a b
  added_as {x'} {y'} {u'} {v'} {a} {b} h ex ey eu ev =
      subst (λ v. PlaneAdded x' y' u' v a b) ev
      (subst (λ u. PlaneAdded x' y' u v a b) eu
      (subst (λ y. PlaneAdded x' y u v a b) ey (subst (λ x. PlaneAdded x y u v a b) ex h)))

no_more : (a : ℤ) {d : ℤ} {B : ℕ} → d ≡ pos 0 → Grown a a d B
no_more a {B = B} e =
    grown_by (sym (ap (λ z. a +ℤ z) e ∙ +ℤ_idr a)) (subst (Within B) (sym e) (record { within = zero-le }))

-- multipliers of 0
pub none_added : (x y : ℤ) {u v : ℤ} (a : PlaneSums) → u ≡ pos 0 → v ≡ pos 0 → PlaneAdded x y u v a a
none_added x y a eu ev = rw (eu, ev) (record {
  whole = no_more a.whole refl;
  aa = no_more a.aa (zero-*ℤ (x *ℤ x));
  ab = no_more a.ab (zero-*ℤ (x *ℤ y));
  bb = no_more a.bb (zero-*ℤ (y *ℤ y));
  shear_ab = no_more a.shear_ab (zero-*ℤ (x *ℤ y));
  shear_squares = no_more a.shear_squares (zero-*ℤ (x *ℤ x -ℤ y *ℤ y));
})

module _ (t : List (ℤ × ℤ)) (y : List ℤ) where
  pub no_planes : {a : PlaneSums} → a.whole ≡ pos 0 → a.aa ≡ pos 0 → a.ab ≡ pos 0 → a.bb ≡ pos 0 → a.shear_ab ≡ pos 0
      → a.shear_squares ≡ pos 0 → PlaneSumsAre a t y 0
  unfolding plane_sum sum_below
  no_planes ew ea eb ec es et = record {
    whole = record { same = ew; inside = record { within = zero-le } };
    aa = record { same = ea; inside = record { within = zero-le } };
    ab = record { same = eb; inside = record { within = zero-le } };
    bb = record { same = ec; inside = record { within = zero-le } };
    shear_ab = record { same = es; inside = record { within = zero-le } };
    shear_squares = record { same = et; inside = record { within = zero-le } };
  }

  -- sums over a pair's planes leave room
  pub planes_room : (j : ℕ) {a : PlaneSums} → PlaneSumsAre a t y j → 2 * j ≤ most_sides → PlaneSumsFit a
  planes_room j h l = record {
    whole = Is-Within h.whole (omega arith);
    aa = Is-Within h.aa (omega arith);
    ab = Is-Within h.ab (omega arith);
    bb = Is-Within h.bb (omega arith);
    shear_ab = Is-Within h.shear_ab (omega arith);
    shear_squares = Is-Within h.shear_squares (omega arith);
  }

  pub one_plane : (j : ℕ) {a b : PlaneSums} → PlaneSumsAre a t y j
      → PlaneAdded (normal_x t j) (normal_y t j) (at y (2 * j)) (at y (2 * j + 1)) a b → PlaneSumsAre b t y (j + 1)
  unfolding plane_sum
  one_plane j h g = record {
    whole = Is-as (grown_is g.whole h.whole) (omega arith) (sym (sum_below-next _ j));
    aa = Is-as (grown_is g.aa h.aa) (omega arith) (sym (sum_below-next _ j));
    ab = Is-as (grown_is g.ab h.ab) (omega arith) (sym (sum_below-next _ j));
    bb = Is-as (grown_is g.bb h.bb) (omega arith) (sym (sum_below-next _ j));
    shear_ab = Is-as (grown_is g.shear_ab h.shear_ab) (omega arith) (sym (sum_below-next _ j));
    shear_squares = Is-as (grown_is g.shear_squares h.shear_squares) (omega arith) (sym (sum_below-next _ j));
  }

-- ---- the multipliers w of pair a

pub planes_few : {m : List ℤ} (w : List ℤ) → Counts m → length w ≡ sides m → length w ≤ most_sides
planes_few {m} w counts e = omega (arith, e, (listed_polygon (sides m) counts.sides_listed).fits.few_sides)

-- two for each plane
pub planes_even : {m : List ℤ} (w : List ℤ) → Counts m → length w ≡ sides m → length w / 2 * 2 ≡ sides m
planes_even {m} w counts e =
    ap (λ (k : ℕ). k / 2 * 2) e ∙ (listed_polygon (sides m) counts.sides_listed).fits.even_sides

pub planes_weighted : {m y w : List ℤ} {a : ℕ} → a < pair_count m → Multipliers m y
    → w ≡ take (sides m) (drop (pair_first m a) y) → AllWithin most_strength w
unfolding at pair_first
planes_weighted {m} {y} {w} {a} l h e = all_within_lem w each
  where
    each : (k : ℕ) → k < length w → Within most_strength (get_or w k (pos 0))
    each k j =
        let i : k < sides m = omega (arith, pair_length l h e) in
        Within-le
        (subst (Within (strength_multiplier (sides m)))
        (sym (pair_weight l h e k i ∙ ap (at y) (add_assoc (equality_count m) (a * sides m) k)))
        (h.strength_bounds (a * sides m + k) (omega (arith, mul-le-mul_right (sides m) l, suc-mul a (sides m)))))
        (strength_most (sides m))

-- ---- the sums of pair a

-- two by two
sum_twos : (h : ℕ → ℤ) (n : ℕ) → sum_below h (n * 2) ≡ sum_below (λ j. h (2 * j) +ℤ h (2 * j + 1)) n
unfolding sum_below
sum_twos h zero = refl
sum_twos h (suc n) =
    let even : n * 2 ≡ 2 * n = omega arith in
    let odd : suc (n * 2) ≡ 2 * n + 1 = omega arith in
    let two : suc n * 2 ≡ suc (suc (n * 2)) = omega arith in
    ap (sum_below h) two
    ∙ +ℤ_assoc (sum_below h (n * 2)) (h (n * 2)) (h (suc (n * 2)))
    ∙ ap₂ ◌+ℤ◌ (sum_twos h n) (ap₂ (λ i k. h i +ℤ h k) even odd)

-- the rows of planes with the normals (X j, Y j)/r and the multipliers u j and v j
module _ (p q : ℤ) (X Y u v : ℕ → ℤ) where
  abbrev summed : (ℕ → ℤ) → ℕ → ℤ
  summed f n = sum_below (λ j. (u j +ℤ v j) *ℤ f j) n

  abbrev turned : (ℕ → ℤ) → ℕ → ℤ
  turned f n = sum_below (λ j. (u j -ℤ v j) *ℤ f j) n

  -- what a row pN + kT has in the three columns, at their numbers x, y and z
  abbrev three : ℤ → ℕ → ℤ → ℤ → ℤ → ℤ
  three k j x y z =
      (p *ℤ (X j *ℤ X j) -ℤ k *ℤ (X j *ℤ Y j)) *ℤ x
      +ℤ ((p *ℤ (Y j *ℤ Y j) +ℤ k *ℤ (X j *ℤ Y j)) *ℤ y
      +ℤ ((p *ℤ (pos 2 *ℤ (X j *ℤ Y j)) +ℤ k *ℤ (X j *ℤ X j -ℤ Y j *ℤ Y j)) *ℤ z +ℤ pos 0))

  columns_sum : (x y z : ℤ) (n : ℕ)
      → sum_below (λ j. u j *ℤ three q j x y z +ℤ v j *ℤ three (neg_ℤ q) j x y z) n
      ≡ (p *ℤ summed (λ j. X j *ℤ X j) n -ℤ q *ℤ turned (λ j. X j *ℤ Y j) n) *ℤ x
      +ℤ (p *ℤ summed (λ j. Y j *ℤ Y j) n +ℤ q *ℤ turned (λ j. X j *ℤ Y j) n) *ℤ y
      +ℤ (p *ℤ (pos 2 *ℤ summed (λ j. X j *ℤ Y j) n) +ℤ q *ℤ turned (λ j. X j *ℤ X j -ℤ Y j *ℤ Y j) n) *ℤ z
  unfolding sum_below
  columns_sum x y z zero = ring (p ∷ q ∷ x ∷ y ∷ z ∷ []) (search terms depth 100) refl
  columns_sum x y z (suc n) =
      ap (λ s. s +ℤ (u n *ℤ three q n x y z +ℤ v n *ℤ three (neg_ℤ q) n x y z)) (columns_sum x y z n)
      ∙ more (summed (λ j. X j *ℤ X j) n) (summed (λ j. X j *ℤ Y j) n) (summed (λ j. Y j *ℤ Y j) n)
      (turned (λ j. X j *ℤ Y j) n) (turned (λ j. X j *ℤ X j -ℤ Y j *ℤ Y j) n) (X n) (Y n) (u n) (v n)
    where
      more : (A B C S T a b c d : ℤ)
          → (p *ℤ A -ℤ q *ℤ S) *ℤ x +ℤ (p *ℤ C +ℤ q *ℤ S) *ℤ y +ℤ (p *ℤ (pos 2 *ℤ B) +ℤ q *ℤ T) *ℤ z
          +ℤ (c *ℤ ((p *ℤ (a *ℤ a) -ℤ q *ℤ (a *ℤ b)) *ℤ x +ℤ ((p *ℤ (b *ℤ b) +ℤ q *ℤ (a *ℤ b)) *ℤ y
          +ℤ ((p *ℤ (pos 2 *ℤ (a *ℤ b)) +ℤ q *ℤ (a *ℤ a -ℤ b *ℤ b)) *ℤ z +ℤ pos 0)))
          +ℤ d *ℤ ((p *ℤ (a *ℤ a) -ℤ neg_ℤ q *ℤ (a *ℤ b)) *ℤ x +ℤ ((p *ℤ (b *ℤ b) +ℤ neg_ℤ q *ℤ (a *ℤ b)) *ℤ y
          +ℤ ((p *ℤ (pos 2 *ℤ (a *ℤ b)) +ℤ neg_ℤ q *ℤ (a *ℤ a -ℤ b *ℤ b)) *ℤ z +ℤ pos 0))))
          ≡ (p *ℤ (A +ℤ (c +ℤ d) *ℤ (a *ℤ a)) -ℤ q *ℤ (S +ℤ (c -ℤ d) *ℤ (a *ℤ b))) *ℤ x
          +ℤ (p *ℤ (C +ℤ (c +ℤ d) *ℤ (b *ℤ b)) +ℤ q *ℤ (S +ℤ (c -ℤ d) *ℤ (a *ℤ b))) *ℤ y
          +ℤ (p *ℤ (pos 2 *ℤ (B +ℤ (c +ℤ d) *ℤ (a *ℤ b))) +ℤ q *ℤ (T +ℤ (c -ℤ d) *ℤ (a *ℤ a -ℤ b *ℤ b))) *ℤ z
      more A B C S T a b c d =
          ring (p ∷ q ∷ A ∷ B ∷ C ∷ S ∷ T ∷ a ∷ b ∷ c ∷ d ∷ x ∷ y ∷ z ∷ []) (search terms depth 100 fits 10000) refl

  -- and their right sides, which both have
  right_sum : (along excess : ℤ) (n : ℕ)
      → sum_below
      (λ j. u j *ℤ (q *ℤ (along +ℤ excess *ℤ (X j *ℤ X j))) +ℤ v j *ℤ (q *ℤ (along +ℤ excess *ℤ (X j *ℤ X j)))) n
      ≡ q *ℤ (along *ℤ sum_below (λ j. u j +ℤ v j) n +ℤ excess *ℤ summed (λ j. X j *ℤ X j) n)
  unfolding sum_below
  right_sum along excess zero = ring (q ∷ along ∷ excess ∷ []) (search terms depth 100) refl
  right_sum along excess (suc n) =
      ap
      (λ s. s +ℤ (u n *ℤ (q *ℤ (along +ℤ excess *ℤ (X n *ℤ X n))) +ℤ v n *ℤ (q *ℤ (along +ℤ excess *ℤ (X n *ℤ X n)))))
      (right_sum along excess n)
      ∙ ring
      (q
      ∷ along
      ∷ excess
      ∷ X n
      ∷ u n
      ∷ v n
      ∷ sum_below (λ j. u j +ℤ v j) n
      ∷ summed (λ j. X j *ℤ X j) n
      ∷ [])
      (search terms depth 100)
      refl

  live_sum_lem : (n : ℕ) → sum_below (λ j. u j *ℤ pos 0 +ℤ v j *ℤ pos 0) n ≡ pos 0
  unfolding sum_below
  live_sum_lem zero = refl
  live_sum_lem (suc n) =
      ap (λ z. z +ℤ (u n *ℤ pos 0 +ℤ v n *ℤ pos 0)) (live_sum_lem n)
      ∙ ring (u n ∷ v n ∷ []) (search terms depth 100) refl

-- the multipliers w of pair a as they were lent, two for each of n planes
module _ (m y : List ℤ) (a : ℕ) (there : a < pair_count m) (counts : Counts m)
    (bedded : by_direction m (pair_at m a).soil ≡ true) (planes : Planes) (are : PlanesAre planes m a) (w : List ℤ)
    (n : ℕ) (half : n * 2 ≡ sides m) (lent : (i : ℕ) → i < sides m → at w i ≡ at y (pair_first m a + i)) where
  abbrev X : ℕ → ℤ
  X j = (corner_at (polygon_of (sides m)) j).px

  abbrev Y : ℕ → ℤ
  Y j = (corner_at (polygon_of (sides m)) j).py

  abbrev f : ℤ
  f = p m (pair_at m a).soil

  abbrev g : ℤ
  g = q m (pair_at m a).soil

  abbrev plane : ℤ → ℕ → Row
  plane k j = direction_row m (pair_at m a) (corner_at (polygon_of (sides m)) j) k

  abbrev even : ℕ → ℤ
  even j = at w (2 * j)

  abbrev odd : ℕ → ℤ
  odd j = at w (2 * j + 1)

  even_row : (j : ℕ) → direction_row_at m (pair_at m a) (2 * j) ≡ plane g j
  even_row j =
      let same : 2 * j / 2 ≡ j = omega (arith, div-add-mod' (2 * j) 2, mod-lt (2 * j) {m = 2} (omega arith)) in
      let rest : 2 * j % 2 ≡ 0 = omega (arith, div-add-mod' (2 * j) 2) in
      ap₂ (λ i k. plane k i) same (plus_even g (2 * j) rest)

  odd_row : (j : ℕ) → direction_row_at m (pair_at m a) (2 * j + 1) ≡ plane (neg_ℤ g) j
  odd_row j =
      let same : (2 * j + 1) / 2 ≡ j =
      omega (arith, div-add-mod' (2 * j + 1) 2, mod-lt (2 * j + 1) {m = 2} (omega arith)) in
      let rest : (2 * j + 1) % 2 ≡ 1 = omega (arith, div-add-mod' (2 * j + 1) 2) in
      ap₂ (λ i k. plane k i) same (minus_odd g (2 * j + 1) (λ e. omega (arith, e, rest)))

  over_planes : (F : Row → ℤ)
      → part_sum F (at y) (rows_of m) (pair_first m a) (sides m)
      ≡ sum_below (λ j. even j *ℤ F (plane g j) +ℤ odd j *ℤ F (plane (neg_ℤ g) j)) n
  unfolding part_sum
  over_planes F =
      sum_below_cong _ (λ i. at w i *ℤ F (direction_row_at m (pair_at m a) i)) (sides m)
      (λ i l. ap₂ (λ (z : ℤ) (r : Row). z *ℤ F r) (sym (lent i l))
      (plane_row_at m a there (record { listed = counts.sides_listed }) i l bedded))
      ∙ ap (sum_below (λ i. at w i *ℤ F (direction_row_at m (pair_at m a) i))) (sym half)
      ∙ sum_twos (λ i. at w i *ℤ F (direction_row_at m (pair_at m a) i)) n
      ∙ sum_below_cong _ _ n
      (λ j l. ap₂ (λ (r s : Row). even j *ℤ F r +ℤ odd j *ℤ F s) (even_row j) (odd_row j))

  -- a sum over the planes, by the corners of the definitions
  by_corners : (z : ℕ → ℤ) (G : ℤ → ℤ → ℤ)
      → plane_sum z G planes.corners.now n ≡ sum_below (λ j. z j *ℤ G (X j) (Y j)) n
  unfolding plane_sum
  by_corners z G = sum_below_cong _ _ n (λ j l. ap (λ s. z j *ℤ s) (ap₂ G (are.x j) (are.y j)))

  pub planes_part_of : {b : PlaneSums} {r : PairSums} → PlaneSumsAre b planes.corners.now w n
      → BedSumsAre r planes.bed b → PairPart r m y a
  unfolding coefficient weighted_sum plane_row
  planes_part_of {b} {r} s d = record {
    columns = λ j.
        over_planes (coefficient j)
        ∙ columns_sum f g X Y even odd (unit j (sx (pair_at m a).at)) (unit j (sy (pair_at m a).at))
        (unit j (t (pair_at m a).at)) n
        ∙ rw (sym sx_is, sym sy_is, sym t_is) refl;
    limit = over_planes (λ r. r.right) ∙ right_sum f g X Y even odd along excess n ∙ sym right_is;
    live = over_planes (λ r. r.live) ∙ live_sum_lem f g X Y even odd n;
    limit_fits = subst (Within (sides m * strength_sum)) (sym d.right_is)
        (Within-le
        (Within-*ℤ bed.q_fits
        (Within-+ℤ
        (Within-*ℤ (Within-*ℤ (Within-*ℤ bed.radius_fits bed.radius_fits) bed.along_fits)
        (Is-Within s.whole (le_refl _)))
        (Within-*ℤ bed.excess_fits (Is-Within s.aa (le_refl _)))))
        (omega (arith, half)));
  }
    where
      bed : Bed
      bed = planes.bed

      along : ℤ
      along = (polygon_of (sides m)).radius *ℤ (polygon_of (sides m)).radius *ℤ cohesion m (pair_at m a).soil

      excess : ℤ
      excess = cohesion_across m (pair_at m a).soil -ℤ cohesion m (pair_at m a).soil

      summed_is : {v : ℤ} {B : ℕ} (G : ℤ → ℤ → ℤ) → Is v (plane_sum (both w) G planes.corners.now n) B
          → v ≡ sum_below (λ j. (even j +ℤ odd j) *ℤ G (X j) (Y j)) n
      summed_is G h = h.same ∙ by_corners (both w) G

      turned_is : {v : ℤ} {B : ℕ} (G : ℤ → ℤ → ℤ) → Is v (plane_sum (difference w) G planes.corners.now n) B
          → v ≡ sum_below (λ j. (even j -ℤ odd j) *ℤ G (X j) (Y j)) n
      turned_is G h = h.same ∙ by_corners (difference w) G

      sx_is : r.sx
          ≡ f *ℤ sum_below (λ j. (even j +ℤ odd j) *ℤ (X j *ℤ X j)) n
          -ℤ g *ℤ sum_below (λ j. (even j -ℤ odd j) *ℤ (X j *ℤ Y j)) n
      sx_is =
          d.sx_is
          ∙ ap₂ ◌-ℤ◌ (ap₂ ◌*ℤ◌ are.bed.p (summed_is (λ x y. x *ℤ x) s.aa))
          (ap₂ ◌*ℤ◌ are.bed.q (turned_is (λ x y. x *ℤ y) s.shear_ab))

      sy_is : r.sy
          ≡ f *ℤ sum_below (λ j. (even j +ℤ odd j) *ℤ (Y j *ℤ Y j)) n
          +ℤ g *ℤ sum_below (λ j. (even j -ℤ odd j) *ℤ (X j *ℤ Y j)) n
      sy_is =
          d.sy_is
          ∙ ap₂ ◌+ℤ◌ (ap₂ ◌*ℤ◌ are.bed.p (summed_is (λ x y. y *ℤ y) s.bb))
          (ap₂ ◌*ℤ◌ are.bed.q (turned_is (λ x y. x *ℤ y) s.shear_ab))

      t_is : r.t
          ≡ f *ℤ (pos 2 *ℤ sum_below (λ j. (even j +ℤ odd j) *ℤ (X j *ℤ Y j)) n)
          +ℤ g *ℤ sum_below (λ j. (even j -ℤ odd j) *ℤ (X j *ℤ X j -ℤ Y j *ℤ Y j)) n
      t_is =
          d.t_is
          ∙ ap₂ ◌+ℤ◌ (ap₂ ◌*ℤ◌ are.bed.p (ap (λ z. pos 2 *ℤ z) (summed_is (λ x y. x *ℤ y) s.ab)))
          (ap₂ ◌*ℤ◌ are.bed.q (turned_is (λ x y. x *ℤ x -ℤ y *ℤ y) s.shear_squares))

      right_is : r.right
          ≡ g
          *ℤ (along *ℤ sum_below (λ j. even j +ℤ odd j) n
          +ℤ excess *ℤ sum_below (λ j. (even j +ℤ odd j) *ℤ (X j *ℤ X j)) n)
      right_is =
          d.right_is
          ∙ ap₂ ◌*ℤ◌ are.bed.q
          (ap₂ ◌+ℤ◌
          (ap₂ ◌*ℤ◌ (ap₂ (λ r c. r *ℤ r *ℤ c) are.bed.radius are.bed.along) s.whole.same)
          (ap₂ ◌*ℤ◌ are.bed.excess (summed_is (λ x y. x *ℤ x) s.aa)))
