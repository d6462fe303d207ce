-- The strength rows of a pair of a node and a soil, each times its multiplier: by induction on the sides the sums of
-- their coefficients are those of the sides, times what the soil gives.
use mathlib.Core.Path.{◌≡◌, refl, sym, ◌∙◌, ap, ap₂, subst}
use mathlib.Core.Bool.{true, false}
use mathlib.Core.List.{List, [], ◌∷◌}
use Prim.Native.Nat.{ℕ, zero, suc, ◌+◌, ◌*◌, ◌≤◌, ◌<◌, zero-le}
use native.Mathlib.Nat.{le_refl, add_assoc, suc-mul, mul-le-mul_right}
use native.Mathlib.Omega.{arith}
use lib.IntN.{ℤ, pos, ◌+ℤ◌, ◌-ℤ◌, ◌*ℤ◌, neg_ℤ}
use lib.ListN.{length, take, drop, length-drop}
use lib.Seq.{get_or-drop}
use denote.Ref.{Bor}
use Rattle.std.proofs.Common.{Iter, Option, Some, None}
use Rattle.std.specs.declared.iter.Zip.{Zip}
use Rattle.std.specs.Iterator.{Yields}
use Rattle.std.specs.Iterator.Adapters.{zip_first, zip_second}
use Rattle.std.specs.Slice.Iter.{iter_rest}
use Rattle.std.proofs.iter.Yields.{fronts}
use Rattle.std.proofs.lemmas.Iterator.{zips}
use Rattle.std.proofs.lemmas.List.{length-take-le, get_or-take}
use Rattle.std.proofs.lemmas.Slice.Zip.{zip_turn, zip_end}
use Rattle.integer.proofs.Ring.{ring, terms}
use Rattle.integer.specs.Bounds.{Within}
use Rattle.integer.proofs.BoundLaws.{Within-le, Within-*ℤ}
use mir.Syntax.{w64}
use mir.Val.{to_z, of_z}
use Rattle.integer.proofs.Machine.{machine, exact, Is-as, Is-Within}
use Rattle.scope.specs.Mesh.{strength_multiplier, most_sides, sides, p, q, h, cohesion, by_direction, equality_count}
use Rattle.scope.specs.Bounds.{strength_sum}
use Rattle.scope.specs.Claim.{most_multiplier}
use Rattle.scope.specs.PolygonRule.{ListedPolygon}
use Rattle.scope.proofs.PolygonRule.{listed_polygon}
use Rattle.scope.proofs.SideLimits.{strength_most}
use Rattle.scope.specs.Columns.{at}
use Rattle.scope.specs.NumberRanges.{Counts}
use Rattle.scope.specs.Polygon.{Side, polygon_of}
use Rattle.scope.specs.Rows.{Row, pair_count, pair_at, sx, sy, t, strength_row, strength_rows, rows_of}
use Rattle.scope.specs.Sums.{weighted_sum, unit, coefficient}
use Rattle.scope.specs.Tests.{row_at}
use Rattle.multipliers.specs.declared.sums.SideSums.{SideSums}
use Rattle.multipliers.specs.declared.sums.PairSums.{PairSums}
use Rattle.scope.specs.PrintedColumns.{sum_below}
use Rattle.scope.specs.RowNumbers.{side_at, direction_row_at}
use Rattle.criterion.specs.declared.steps.Step.{Step}
use Rattle.criterion.specs.declared.strength_numbers.SoilNumbers.{SoilNumbers}
use Rattle.criterion.specs.StrengthContracts.{Listed, SidesAre, SoilIs, no_step, step_at, step_numbers, side_numbers}
use Rattle.criterion.specs.StrengthContracts.{run_of, rise_of, cross_of}
use Rattle.multipliers.specs.MultiplierContracts.{part_sum, Multipliers, SideWeighted}
use Rattle.multipliers.specs.MultiplierContracts.{SideMultipliers, SideSumsFit, SideAdded, side_sum}
use Rattle.multipliers.specs.MultiplierContracts.{SideSumsAre, PairSumsAre, pair_first, PairPart}
use Rattle.scope.proofs.SumBelow.{sum_below_cong}
use Rattle.multipliers.proofs.SumLaws.{sum_below-next}
use Rattle.criterion.proofs.SideLaws.{run-within, rise_within, cross-within, side_step}
use Rattle.criterion.proofs.StrengthLaws.{sides_counted}
use Rattle.criterion.proofs.RowLaws.{row_of_pair, strength_at, direction_at, strength_among}
use Rattle.multipliers.proofs.MultiplierLaws.{grown_by, grown_is}

-- c as the code reads it
abbrev pub read : ℤ → ℤ
read c = to_z w64 (of_z w64 c)

-- ---- the sides of a pair, one by one

-- what a turn of a loop over the sides t with their multipliers y reads: side i
pub record SideRead (t : List Step) (y : List ℤ) (i : ℕ) (s : Step) (w : ℤ) : Type 0 where
  pub below : i < length y
  pub side : s ≡ step_at t i
  pub weight : w ≡ at y i

module _ {t : List Step} {y : List ℤ} {i : ℕ} {s : Step} {w : ℤ} (r : SideRead t y i s w)
    (h : SideMultipliers t y) where
  pub side_itself : Within most_multiplier w
  side_itself = subst (Within most_multiplier) (sym r.weight) (h.bounds i r.below).itself

  -- with the multiplier as the code has it
  pub side_weighted : {v : ℤ} → v ≡ w → SideWeighted s v
  side_weighted {v} e =
      subst (λ s. SideWeighted s v) (sym r.side)
      (subst (SideWeighted (step_at t i)) (sym (e ∙ r.weight)) (h.bounds i r.below))

module _ {t : List Step} {y : List ℤ} (as_many : length t ≡ length y) (xs : List (Bor Step × Bor ℤ))
    (start now next : Zip (Iter Step) (Iter ℤ)) {r : Option (Bor Step × Bor ℤ)}
    (first : iter_rest (zip_first start) ≡ t) (second : iter_rest (zip_second start) ≡ y)
    (so_far : Yields (zips fronts fronts) start xs now) (step : zips fronts fronts now r next) where
  pub side_read : {p : Bor Step × Bor ℤ} → r ≡ Some p → SideRead t y (length xs) p.0.now p.1.now
  unfolding at
  side_read {p} e =
      let turn = zip_turn t y xs start now next r first second so_far p e step in
      record { below = turn.1; side = turn.2 no_step; weight = turn.3 (pos 0) }

  pub all_read : r ≡ None → length xs ≡ length y
  all_read e = omega (arith, as_many, zip_end t y xs start now next r first second so_far e step)

pub side_added : {s : Step} {w : ℤ} {a b : SideSums} → SideWeighted s w → b.run ≡ a.run +ℤ w *ℤ s.run
    → b.rise ≡ a.rise +ℤ w *ℤ s.rise → b.cross ≡ a.cross +ℤ w *ℤ s.cross → SideAdded s w a b
side_added h e g d = record { run = grown_by e h.run; rise = grown_by g h.rise; cross = grown_by d h.cross }

module _ (t : List Step) (y : List ℤ) where
  pub no_sides : {a : SideSums} → a.run ≡ pos 0 → a.rise ≡ pos 0 → a.cross ≡ pos 0 → SideSumsAre a t y 0
  unfolding side_sum sum_below
  no_sides e f g = record {
    run = record { same = e; inside = record { within = zero-le } };
    rise = record { same = f; inside = record { within = zero-le } };
    cross = record { same = g; inside = record { within = zero-le } };
  }

  -- sums over a pair's sides leave room
  pub sides_room : (k : ℕ) {a : SideSums} → SideSumsAre a t y k → k ≤ most_sides → SideSumsFit a
  sides_room k h l = record {
    run = Is-Within h.run (omega arith);
    rise = Is-Within h.rise (omega arith);
    cross = Is-Within h.cross (omega arith);
  }

  pub one_side : (k : ℕ) {a b : SideSums} {s : Step} {w : ℤ} → SideSumsAre a t y k → s ≡ step_at t k → w ≡ at y k
      → SideAdded s w a b → SideSumsAre b t y (k + 1)
  unfolding side_sum
  one_side k {a} {b} {s} {w} h d e g =
      let g : SideAdded (step_at t k) (at y k) a b =
      subst (λ s. SideAdded s (at y k) a b) d (subst (λ w. SideAdded s w a b) e g) in
      record {
        run = Is-as (grown_is g.run h.run) (omega arith) (sym (sum_below-next _ k));
        rise = Is-as (grown_is g.rise h.rise) (omega arith) (sym (sum_below-next _ k));
        cross = Is-as (grown_is g.cross h.cross) (omega arith) (sym (sum_below-next _ k));
      }

-- ---- all sides of a pair, as its rows have them

-- the row of a side has three columns
three : (r p q h C : ℤ) (v : ℕ) (s : Side) (j : ℕ)
    → coefficient j (strength_row r p q h C v s)
    ≡ (r *ℤ h *ℤ rise_of s +ℤ cross_of s *ℤ p) *ℤ unit j (sx v)
    +ℤ ((cross_of s *ℤ p -ℤ r *ℤ h *ℤ rise_of s) *ℤ unit j (sy v)
    +ℤ (neg_ℤ (pos 2 *ℤ (r *ℤ h *ℤ run_of s)) *ℤ unit j (t v) +ℤ pos 0))
unfolding coefficient weighted_sum strength_row cross_of rise_of run_of
three r p q h C v s j = refl

-- one side more: cross product k, rise a and run u with the multiplier w, to the sums K, A and U
side_more : (p r h w k a u K A U x y z : ℤ)
    → ((p *ℤ K +ℤ r *ℤ h *ℤ A) *ℤ x +ℤ (p *ℤ K -ℤ r *ℤ h *ℤ A) *ℤ y +ℤ neg_ℤ (pos 2 *ℤ (r *ℤ h) *ℤ U) *ℤ z)
    +ℤ w *ℤ ((r *ℤ h *ℤ a +ℤ k *ℤ p) *ℤ x +ℤ ((k *ℤ p -ℤ r *ℤ h *ℤ a) *ℤ y
    +ℤ (neg_ℤ (pos 2 *ℤ (r *ℤ h *ℤ u)) *ℤ z +ℤ pos 0)))
    ≡ (p *ℤ (K +ℤ w *ℤ k) +ℤ r *ℤ h *ℤ (A +ℤ w *ℤ a)) *ℤ x +ℤ (p *ℤ (K +ℤ w *ℤ k) -ℤ r *ℤ h *ℤ (A +ℤ w *ℤ a)) *ℤ y
    +ℤ neg_ℤ (pos 2 *ℤ (r *ℤ h) *ℤ (U +ℤ w *ℤ u)) *ℤ z
side_more p r h w k a u K A U x y z =
    by_column (p *ℤ K +ℤ r *ℤ h *ℤ A) (p *ℤ K -ℤ r *ℤ h *ℤ A) (neg_ℤ (pos 2 *ℤ (r *ℤ h) *ℤ U)) (r *ℤ h *ℤ a +ℤ k *ℤ p)
    (k *ℤ p -ℤ r *ℤ h *ℤ a) (neg_ℤ (pos 2 *ℤ (r *ℤ h *ℤ u)))
    ∙ ap₂ ◌+ℤ◌ (ap₂ (λ c d. c *ℤ x +ℤ d *ℤ y) first second) (ap (λ c. c *ℤ z) third)
  where
    by_column : (X Y Z c d e : ℤ)
        → (X *ℤ x +ℤ Y *ℤ y +ℤ Z *ℤ z) +ℤ w *ℤ (c *ℤ x +ℤ (d *ℤ y +ℤ (e *ℤ z +ℤ pos 0)))
        ≡ (X +ℤ w *ℤ c) *ℤ x +ℤ (Y +ℤ w *ℤ d) *ℤ y +ℤ (Z +ℤ w *ℤ e) *ℤ z
    by_column X Y Z c d e = ring (X ∷ Y ∷ Z ∷ c ∷ d ∷ e ∷ w ∷ x ∷ y ∷ z ∷ []) (search terms depth 100) refl

    first : (p *ℤ K +ℤ r *ℤ h *ℤ A) +ℤ w *ℤ (r *ℤ h *ℤ a +ℤ k *ℤ p) ≡ p *ℤ (K +ℤ w *ℤ k) +ℤ r *ℤ h *ℤ (A +ℤ w *ℤ a)
    first = ring (p ∷ r ∷ h ∷ w ∷ k ∷ a ∷ K ∷ A ∷ []) (search terms depth 100) refl

    second : (p *ℤ K -ℤ r *ℤ h *ℤ A) +ℤ w *ℤ (k *ℤ p -ℤ r *ℤ h *ℤ a) ≡ p *ℤ (K +ℤ w *ℤ k) -ℤ r *ℤ h *ℤ (A +ℤ w *ℤ a)
    second = ring (p ∷ r ∷ h ∷ w ∷ k ∷ a ∷ K ∷ A ∷ []) (search terms depth 100) refl

    third : neg_ℤ (pos 2 *ℤ (r *ℤ h) *ℤ U) +ℤ w *ℤ neg_ℤ (pos 2 *ℤ (r *ℤ h *ℤ u))
        ≡ neg_ℤ (pos 2 *ℤ (r *ℤ h) *ℤ (U +ℤ w *ℤ u))
    third = ring (r ∷ h ∷ w ∷ u ∷ U ∷ []) (search terms depth 100) refl

module _ (r p q h C : ℤ) (v : ℕ) (side : ℕ → Side) (w : ℕ → ℤ) where
  columns_sum : (j n : ℕ)
      → sum_below (λ i. w i *ℤ coefficient j (strength_row r p q h C v (side i))) n
      ≡ (p *ℤ sum_below (λ i. w i *ℤ cross_of (side i)) n
      +ℤ r *ℤ h *ℤ sum_below (λ i. w i *ℤ rise_of (side i)) n) *ℤ unit j (sx v)
      +ℤ (p *ℤ sum_below (λ i. w i *ℤ cross_of (side i)) n
      -ℤ r *ℤ h *ℤ sum_below (λ i. w i *ℤ rise_of (side i)) n) *ℤ unit j (sy v)
      +ℤ neg_ℤ (pos 2 *ℤ (r *ℤ h) *ℤ sum_below (λ i. w i *ℤ run_of (side i)) n) *ℤ unit j (t v)
  unfolding sum_below
  columns_sum j zero =
      ring (p ∷ r ∷ h ∷ unit j (sx v) ∷ unit j (sy v) ∷ unit j (t v) ∷ []) (search terms depth 100) refl
  columns_sum j (suc n) =
      rw (columns_sum j n, three r p q h C v (side n) j)
      (side_more p r h (w n) (cross_of (side n)) (rise_of (side n)) (run_of (side n))
      (sum_below (λ i. w i *ℤ cross_of (side i)) n) (sum_below (λ i. w i *ℤ rise_of (side i)) n)
      (sum_below (λ i. w i *ℤ run_of (side i)) n) (unit j (sx v)) (unit j (sy v)) (unit j (t v)))

  right_sum : (n : ℕ)
      → sum_below (λ i. w i *ℤ (strength_row r p q h C v (side i)).right) n
      ≡ pos 2 *ℤ q *ℤ C *ℤ sum_below (λ i. w i *ℤ cross_of (side i)) n
  unfolding sum_below strength_row cross_of
  right_sum zero = ring (q ∷ C ∷ []) (search terms depth 100) refl
  right_sum (suc n) =
      ap (λ z. z +ℤ w n *ℤ (cross_of (side n) *ℤ (pos 2 *ℤ q *ℤ C))) (right_sum n)
      ∙ ring (q ∷ C ∷ w n ∷ cross_of (side n) ∷ sum_below (λ i. w i *ℤ cross_of (side i)) n ∷ [])
      (search terms depth 100) refl

  live_sum_lem : (n : ℕ) → sum_below (λ i. w i *ℤ (strength_row r p q h C v (side i)).live) n ≡ pos 0
  unfolding sum_below strength_row
  live_sum_lem zero = refl
  live_sum_lem (suc n) = ap (λ z. z +ℤ w n *ℤ pos 0) (live_sum_lem n) ∙ ring (w n ∷ []) (search terms depth 100) refl

-- from the sums over the sides and the numbers of the soil, as the code computes them
pub pair_summed : (k : SoilNumbers) {a : SideSums} → SideSumsFit a → {r : PairSums}
    → r.sx ≡ read (read (read k.friction *ℤ read a.cross) +ℤ read (read k.lever *ℤ read a.rise))
    → r.sy ≡ read (read (read k.friction *ℤ read a.cross) -ℤ read (read k.lever *ℤ read a.rise))
    → r.t ≡ read (pos 0 -ℤ read (read (pos 2 *ℤ read k.lever) *ℤ read a.run))
    → r.right ≡ read (read k.right *ℤ read a.cross) → PairSumsAre r a k
pair_summed k h x y t w = record {
  sx_is = x ∙ exact (search machine depth 30) (omega arith);
  sy_is = y ∙ exact (search machine depth 30) (omega arith);
  t_is = t ∙ exact (search machine depth 30) (omega arith);
  right_is = w ∙ exact (search machine depth 30) (omega arith);
}

-- a number of a side with its multiplier
weighted : {M A B : ℕ} {w z v : ℤ} → Within M w → Within A z → M * A ≤ B → v ≡ z → Within B (w *ℤ v)
weighted {B = B} {w = w} hw hz l e = subst (λ v. Within B (w *ℤ v)) (sym e) (Within-le (Within-*ℤ hw hz) l)

-- the multipliers w of pair a
module _ {m y w : List ℤ} {a : ℕ} (l : a < pair_count m) (h : Multipliers m y)
    (e : w ≡ take (sides m) (drop (pair_first m a) y)) where
  pub pair_length : length w ≡ sides m
  unfolding pair_first
  pair_length =
      let there : sides m ≤ length (drop (equality_count m + a * sides m) y) =
      omega (
        arith,
        length-drop (equality_count m + a * sides m) y,
        h.long,
        mul-le-mul_right (sides m) l,
        suc-mul a (sides m),
      ) in
      rw e (length-take-le (sides m) (drop (equality_count m + a * sides m) y) there)

  pub pair_weight : (i : ℕ) → i < sides m → at w i ≡ at y (pair_first m a + i)
  unfolding at
  pair_weight i k =
      rw e (get_or-take (sides m) (drop (pair_first m a) y) i (pos 0) k ∙ get_or-drop (pair_first m a) y i (pos 0))

  -- with the sides of the mesh's polygon
  module _ {t : List Step} (counts : Counts m) (steps : SidesAre (polygon_of (sides m)) t) where
    pub pair_as_many : length t ≡ length w
    pair_as_many = sides_counted counts steps ∙ sym pair_length

    pub pair_few : length w ≤ most_sides
    pair_few = omega (arith, pair_length, (listed_polygon (sides m) counts.sides_listed).fits.few_sides)

    pub pair_weighted : SideMultipliers t w
    unfolding at pair_first
    pair_weighted = record {
      bounds = λ k j.
          let i : k < sides m = omega (arith, pair_length) in
          let same = side_step steps k (omega (arith, pair_as_many)) in
          let w = multiplier k i in
          record {
            itself = Within-le w (omega (arith, strength_most (sides m)));
            run = weighted w (run-within g.fits k i) g.fits.step_weighted (ap (λ s. s.0) same);
            rise = weighted w (rise_within g.fits k i) g.fits.step_weighted (ap (λ s. s.1) same);
            cross = weighted w (cross-within g.fits k i) g.fits.product_weighted (ap (λ s. s.2) same);
          };
    }
      where
        g : ListedPolygon (sides m)
        g = listed_polygon (sides m) counts.sides_listed

        multiplier : (k : ℕ) → k < sides m → Within (strength_multiplier (sides m)) (at w k)
        multiplier k j =
            subst (Within (strength_multiplier (sides m)))
            (sym (pair_weight k j ∙ ap (at y) (add_assoc (equality_count m) (a * sides m) k)))
            (h.strength_bounds (a * sides m + k) (omega (arith, mul-le-mul_right (sides m) l, suc-mul a (sides m))))

-- ---- the sums of pair a

-- row i of pair a, by its place among all rows and by the kind of its soil
module _ (m : List ℤ) (a : ℕ) (there : a < pair_count m) (listed : Listed (sides m)) (i : ℕ) (l : i < sides m) where
  among : row_at (rows_of m) (pair_first m a + i) ≡ row_at (strength_rows m) (a * sides m + i)
  unfolding pair_first
  among = ap (row_at (rows_of m)) (add_assoc (equality_count m) (a * sides m) i) ∙ strength_among m (a * sides m + i)

  pub pair_row_at : by_direction m (pair_at m a).soil ≡ false
      → row_at (rows_of m) (pair_first m a + i) ≡ row_of_pair m a (side_at (polygon_of (sides m)) i)
  pair_row_at e = among ∙ strength_at m listed a i there l e

  pub plane_row_at : by_direction m (pair_at m a).soil ≡ true
      → row_at (rows_of m) (pair_first m a + i) ≡ direction_row_at m (pair_at m a) i
  plane_row_at e = among ∙ direction_at m listed a i there l e

module _ (m y : List ℤ) (a : ℕ) (there : a < pair_count m) (listed : Listed (sides m))
    (by_sides : by_direction m (pair_at m a).soil ≡ false) where
  rows_of_pair : (F : Row → ℤ)
      → part_sum F (at y) (rows_of m) (pair_first m a) (sides m)
      ≡ sum_below (λ i. at y (pair_first m a + i) *ℤ F (row_of_pair m a (side_at (polygon_of (sides m)) i))) (sides m)
  unfolding part_sum pair_first
  rows_of_pair F = sum_below_cong _ _ (sides m) (λ i l. ap (λ (r : Row). at y (pair_first m a + i) *ℤ F r)
      (pair_row_at m a there listed i l by_sides))

  abbrev weight : ℕ → ℤ
  weight i = at y (pair_first m a + i)

  abbrev side : ℕ → Side
  side i = side_at (polygon_of (sides m)) i

  -- a sum over the sides, as the table has them
  over_sides : (F : Side → ℤ) {f : ℕ → ℤ} (w : List ℤ) {n : ℕ} → n ≡ sides m
      → ((i : ℕ) → i < sides m → at w i ≡ weight i) → ((i : ℕ) → i < sides m → f i ≡ F (side i))
      → side_sum f w n ≡ sum_below (λ i. weight i *ℤ F (side i)) (sides m)
  unfolding side_sum
  over_sides F w en ew e = rw en (sum_below_cong _ _ (sides m) (λ i l. ap₂ ◌*ℤ◌ (ew i l) (e i l)))

  pub pair_part_of : {r : PairSums} {b : SideSums} {k : SoilNumbers} {t : List Step} (w : List ℤ) {n soil : ℕ}
      {radius : ℤ}
      → n ≡ sides m → ((i : ℕ) → i < sides m → at w i ≡ weight i) → SideSumsAre b t w n → length t ≡ sides m
      → SidesAre (polygon_of (sides m)) t
      → SoilIs k m soil radius → soil ≡ (pair_at m a).soil → radius ≡ (polygon_of (sides m)).radius
      → PairSumsAre r b k → PairPart r m y a
  unfolding row_of_pair
  pair_part_of {r} {b} {k} {t} w {soil = soil} {radius = radius} en ew s many steps g es er d = record {
    columns = λ j.
        rows_of_pair (coefficient j)
        ∙ columns_sum (polygon_of (sides m)).radius (p m (pair_at m a).soil) (q m (pair_at m a).soil)
        (h m (pair_at m a).soil) (cohesion m (pair_at m a).soil) (pair_at m a).at side weight j (sides m)
        ∙ rw (sx_is_lem, sy_is_lem, t_is_lem);
    limit =
        rows_of_pair (λ r. r.right)
        ∙ right_sum (polygon_of (sides m)).radius (p m (pair_at m a).soil) (q m (pair_at m a).soil)
        (h m (pair_at m a).soil) (cohesion m (pair_at m a).soil) (pair_at m a).at side weight (sides m)
        ∙ sym right_is;
    live =
        rows_of_pair (λ r. r.live)
        ∙ live_sum_lem (polygon_of (sides m)).radius (p m (pair_at m a).soil) (q m (pair_at m a).soil)
        (h m (pair_at m a).soil) (cohesion m (pair_at m a).soil) (pair_at m a).at side weight (sides m);
    limit_fits = subst (Within (sides m * strength_sum)) (sym d.right_is)
        (Within-le (Within-*ℤ k.right_fits (Is-Within s.cross (le_refl _))) (omega (arith, en)));
  }
    where
      same : (i : ℕ) → i < sides m → step_numbers (step_at t i) ≡ side_numbers (side i)
      same i l = side_step steps i (omega (arith, many))

      run_is : b.run ≡ sum_below (λ i. weight i *ℤ run_of (side i)) (sides m)
      run_is = s.run.same ∙ over_sides run_of w en ew (λ i l. ap (λ s. s.0) (same i l))

      rise_is : b.rise ≡ sum_below (λ i. weight i *ℤ rise_of (side i)) (sides m)
      rise_is = s.rise.same ∙ over_sides rise_of w en ew (λ i l. ap (λ s. s.1) (same i l))

      cross_is : b.cross ≡ sum_below (λ i. weight i *ℤ cross_of (side i)) (sides m)
      cross_is = s.cross.same ∙ over_sides cross_of w en ew (λ i l. ap (λ s. s.2) (same i l))

      lever_is : k.lever ≡ (polygon_of (sides m)).radius *ℤ h m (pair_at m a).soil
      lever_is = g.lever ∙ ap₂ (λ r s. r *ℤ h m s) er es

      friction_is : k.friction ≡ p m (pair_at m a).soil
      friction_is = g.friction ∙ ap (p m) es

      sx_is_lem : r.sx
          ≡ p m (pair_at m a).soil *ℤ sum_below (λ i. weight i *ℤ cross_of (side i)) (sides m)
          +ℤ (polygon_of (sides m)).radius *ℤ h m (pair_at m a).soil
          *ℤ sum_below (λ i. weight i *ℤ rise_of (side i)) (sides m)
      sx_is_lem = d.sx_is ∙ ap₂ ◌+ℤ◌ (ap₂ ◌*ℤ◌ friction_is cross_is) (ap₂ ◌*ℤ◌ lever_is rise_is)

      sy_is_lem : r.sy
          ≡ p m (pair_at m a).soil *ℤ sum_below (λ i. weight i *ℤ cross_of (side i)) (sides m)
          -ℤ (polygon_of (sides m)).radius *ℤ h m (pair_at m a).soil
          *ℤ sum_below (λ i. weight i *ℤ rise_of (side i)) (sides m)
      sy_is_lem = d.sy_is ∙ ap₂ ◌-ℤ◌ (ap₂ ◌*ℤ◌ friction_is cross_is) (ap₂ ◌*ℤ◌ lever_is rise_is)

      t_is_lem : r.t
          ≡ neg_ℤ (pos 2 *ℤ ((polygon_of (sides m)).radius *ℤ h m (pair_at m a).soil)
          *ℤ sum_below (λ i. weight i *ℤ run_of (side i)) (sides m))
      t_is_lem = d.t_is ∙ ap₂ (λ a b. neg_ℤ (pos 2 *ℤ a *ℤ b)) lever_is run_is

      right_is : r.right
          ≡ pos 2 *ℤ q m (pair_at m a).soil *ℤ cohesion m (pair_at m a).soil
          *ℤ sum_below (λ i. weight i *ℤ cross_of (side i)) (sides m)
      right_is = d.right_is ∙ ap₂ ◌*ℤ◌ (g.right ∙ ap (λ s. pos 2 *ℤ q m s *ℤ cohesion m s) es) cross_is
