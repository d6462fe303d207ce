-- The sides of a polygon and their numbers: by induction on the list of corners, and one side appended at a time.
use mathlib.Core.Path.{◌≡◌, refl, sym, ◌∙◌, ap, subst}
use mathlib.Core.List.Memᴰ
use mathlib.Core.List.{List, [], ◌∷◌, ◌++◌, map}
use Prim.Native.Nat.{ℕ, zero, suc, ◌+◌, ◌%◌, ◌≤◌, ◌<◌, zero-le}
use mathlib.Core.Logic.{◌⊎◌, inl, inr, ⊎_elim}
use native.Mathlib.Decide.{dec_lt}
use native.Mathlib.Nat.{le_trans}
use native.Mathlib.Omega.{arith}
use native.Mathlib.Numerals.{add-one}
use lib.IntN.{ℤ, pos, negsuc, nat_abs}
use mir.Syntax.{w32}
use mir.Val.{SFits, to_z, of_z}
use mir.Facts.{to_z-of_z}
use lib.ListN.{length, get_or, length-map, length-append, get_or-append}
use lib.Seq.{get_or-append_seam}
use Rattle.std.proofs.lemmas.List.{get_or_past, get_or-map, ext_get_or}
use Rattle.integer.specs.Bounds.{Within}
use Rattle.integer.proofs.BoundLaws.{Within-le}
use Rattle.integer.specs.Members.{◌∈◌}
use Rattle.scope.specs.Polygon.{Point, point, Side, Polygon, polygon_sides, quarter_turn, four_quadrants, twelve}
use Rattle.scope.specs.Polygon.{twenty, thirty_six, one_hundred_eight, polygon_of}
use Rattle.scope.specs.Bounds.{most_radius, most_step, most_cross}
use Rattle.scope.specs.PolygonRule.{PolygonFits, ListedPolygon}
use Rattle.scope.specs.Rows.{cross}
use Rattle.scope.specs.RowNumbers.{side_at}
use Rattle.criterion.specs.declared.steps.Step.{Step}
use Rattle.criterion.specs.StrengthContracts.{
  Listed,
  next,
  Corners,
  corner_x,
  corner_y,
  pairs_of,
  table_run,
  table_rise,
  table_cross,
  StepIs,
  no_step,
  step_at,
  StepsUpTo,
  StepsFrom,
  run_of,
  rise_of,
  cross_of,
  step_numbers,
  side_numbers,
  SidesAre,
}
use Rattle.scope.proofs.PolygonRule.{legs_within}
use Rattle.scope.proofs.RowCounts.{side_of_each}
use Rattle.scope.proofs.SideCorners.{between, polygon_side}
use Rattle.scope.proofs.Checks.{below_suc}

-- ---- one side more

pub no_steps : (t : List (ℤ × ℤ)) → StepsUpTo 0 [] t
no_steps t = record { size = refl; each = λ i h. absurd (omega arith) }

pub one_step_more : (t : List (ℤ × ℤ)) (k : ℕ) (r : List Step) {step : Step} → StepsUpTo k r t → StepIs step t k
    → StepsUpTo (k + 1) (r ++ (step ∷ [])) t
one_step_more t k r {step} h e = record {
  size = omega (arith, length-append r (step ∷ []), h.size);
  each = λ i j. by i (below_suc (subst (λ x. i < x) (add-one k) j));
}
  where
    by : (i : ℕ) → (i < k) ⊎ (i ≡ k) → StepIs (step_at (r ++ (step ∷ [])) i) t i
    by i (inl g) =
        subst (λ s. StepIs s t i) (sym (get_or-append r (step ∷ []) no_step i (omega (arith, h.size)))) (h.each i g)
    by i (inr same) =
        subst (λ n. StepIs (step_at (r ++ (step ∷ [])) n) t n) (h.size ∙ sym same)
        (subst (λ s. StepIs s t (length r)) (sym (get_or-append_seam r step [] no_step))
        (subst (StepIs step t) (sym h.size) e))

-- ---- the sides of a polygon by its corners

unfoldable pub origin : Point
origin = point (pos 0) (pos 0)

pub x_of_corner : (cs : List Point) (k : ℕ) → corner_x (pairs_of cs) k ≡ (get_or cs k origin).px
unfolding pairs_of origin
x_of_corner [] k = refl
x_of_corner (v ∷ cs) zero = refl
x_of_corner (v ∷ cs) (suc k) = x_of_corner cs k

pub y_of_corner : (cs : List Point) (k : ℕ) → corner_y (pairs_of cs) k ≡ (get_or cs k origin).py
unfolding pairs_of origin
y_of_corner [] k = refl
y_of_corner (v ∷ cs) zero = refl
y_of_corner (v ∷ cs) (suc k) = y_of_corner cs k

pub length-pairs_of : (cs : List Point) → length (pairs_of cs) ≡ length cs
unfolding pairs_of
length-pairs_of [] = refl
length-pairs_of (v ∷ cs) = omega (arith, length-pairs_of cs)

side_at_lem : (g : Polygon) (k : ℕ) → k < length g.corners
    → side_at g k ≡ between (get_or g.corners k origin) (get_or g.corners (next (length g.corners) k) origin)
unfolding side_at origin next
side_at_lem g k h =
    polygon_side g.corners k h
    ∙ ap (λ i. between (get_or g.corners k (point (pos 0) (pos 0)))
    (get_or g.corners (i % length g.corners) (point (pos 0) (pos 0)))) (sym (add-one k))

module _ (g : Polygon) (n : ℕ) (count : length g.corners ≡ n) (k : ℕ) (l : k < n) where
  side_is_lem : side_at g k ≡ between (get_or g.corners k origin) (get_or g.corners (next n k) origin)
  side_is_lem = subst (λ i. side_at g k ≡ between (get_or g.corners k origin)
      (get_or g.corners (next i k) origin)) count (side_at_lem g k (omega arith))

  follows : next (length (pairs_of g.corners)) k ≡ next n k
  follows = ap (λ i. next i k) (length-pairs_of g.corners ∙ count)

  run_is : table_run (pairs_of g.corners) k ≡ run_of (side_at g k)
  unfolding table_run run_of
  run_is = rw (follows, side_is_lem, x_of_corner g.corners k, x_of_corner g.corners (next n k))

  rise_is : table_rise (pairs_of g.corners) k ≡ rise_of (side_at g k)
  unfolding table_rise rise_of
  rise_is = rw (follows, side_is_lem, y_of_corner g.corners k, y_of_corner g.corners (next n k))

  cross_is : table_cross (pairs_of g.corners) k ≡ cross_of (side_at g k)
  unfolding table_cross cross_of cross
  cross_is =
      rw (
        follows,
        side_is_lem,
        x_of_corner g.corners k,
        x_of_corner g.corners (next n k),
        y_of_corner g.corners k,
        y_of_corner g.corners (next n k),
      )

-- ---- the polygon of a mesh

pub get_d_in : {A : Type 0} (l : List A) (k : ℕ) (d : A) → k < length l → get_or l k d ∈ l
get_d_in [] k d h = absurd (omega arith)
get_d_in (a ∷ l) zero d h = Memᴰ.head refl
get_d_in (a ∷ l) (suc k) d h = Memᴰ.tail (get_d_in l k d (omega arith))

module _ {g : Polygon} {n radius step product : ℕ} (f : PolygonFits g n radius step product) where
  side_in : (k : ℕ) → k < n → side_at g k ∈ polygon_sides g.corners
  unfolding side_at
  side_in k l = get_d_in (polygon_sides g.corners) k _ (omega (arith, side_of_each g.corners, f.rule.count))

  -- within its largest step and its largest cross product
  pub run-within : (k : ℕ) → k < n → Within step (run_of (side_at g k))
  unfolding run_of
  run-within k l = record { within = omega (arith, f.largest_step.bounds (side_at g k) (side_in k l)) }

  pub rise_within : (k : ℕ) → k < n → Within step (rise_of (side_at g k))
  unfolding rise_of
  rise_within k l = record { within = omega (arith, f.largest_step.bounds (side_at g k) (side_in k l)) }

  pub cross-within : (k : ℕ) → k < n → Within product (cross_of (side_at g k))
  unfolding cross_of
  cross-within k l = record { within = f.largest_cross.bounds (side_at g k) (side_in k l) }

  -- a polygon's numbers, from the table of its corners
  numbered : (r : List Step) → StepsUpTo n r (pairs_of g.corners) → (k : ℕ) → k < n
      → step_numbers (step_at r k) ≡ side_numbers (side_at g k)
  numbered r u k l =
      let s = u.each k l in
      λ i. (
        (s.run ∙ run_is g n f.rule.count k l) i,
        (s.rise ∙ rise_is g n f.rule.count k l) i,
        (s.cross ∙ cross_is g n f.rule.count k l) i,
      )

  drawn : (r : List Step) → StepsUpTo n r (pairs_of g.corners) → SidesAre g r
  unfolding side_at
  drawn r u =
      let sides : List Side = polygon_sides g.corners in
      let there : length r ≡ n = u.size in
      let count : length sides ≡ n = omega (arith, side_of_each g.corners, f.rule.count) in
      record {
        same =
            ext_get_or none (map step_numbers r) (map side_numbers sides)
            (omega (arith, length-map r step_numbers, length-map sides side_numbers))
            (λ k h.
            let l : k < n = omega (arith, length-map r step_numbers) in
            get_or-map step_numbers r k no_step none (omega arith)
            ∙ numbered r u k l
            ∙ sym (get_or-map side_numbers sides k _ none (omega arith)));
      }
    where
      none : ℤ × ℤ × ℤ
      none = (pos 0, pos 0, pos 0)

  corner-within : (v : Point) → v ∈ g.corners → Within most_radius v.px × Within most_radius v.py
  corner-within v i =
      let h = legs_within g.radius v (f.rule.on_circle v i) in
      let r : nat_abs g.radius ≤ most_radius = rw f.radius_is f.radius_fits in
      (record { within = le_trans h.0 r }, record { within = le_trans h.1 r })

  at_corner : (k : ℕ)
      → Within most_radius (get_or g.corners k origin).px × Within most_radius (get_or g.corners k origin).py
  unfolding origin
  at_corner k = by (dec_lt k (length g.corners))
    where
      by : Dec (k < length g.corners)
          → Within most_radius (get_or g.corners k origin).px × Within most_radius (get_or g.corners k origin).py
      by (yes l) = corner-within _ (get_d_in g.corners k origin l)
      by (no l) =
          rw (get_or_past g.corners k origin (omega arith)) (record { within = zero-le }, record { within = zero-le })

  -- the table of its corners: none further out than the radius, and no side longer than the longest
  table_drawn : Corners (pairs_of g.corners)
  table_drawn = record {
    few = rw (length-pairs_of g.corners, f.rule.count) f.few_sides;
    x = λ k. rw (x_of_corner g.corners k) (at_corner k).0;
    y = λ k. rw (y_of_corner g.corners k) (at_corner k).1;
    run = λ k h.
        let l = below k h in
        subst (Within most_step) (sym (run_is g n f.rule.count k l)) (Within-le (run-within k l) f.step_fits);
    rise = λ k h.
        let l = below k h in
        subst (Within most_step) (sym (rise_is g n f.rule.count k l)) (Within-le (rise_within k l) f.step_fits);
    cross = λ k h.
        let l = below k h in
        subst (Within most_cross) (sym (cross_is g n f.rule.count k l)) (Within-le (cross-within k l) f.product_fits);
  }
    where
      below : (k : ℕ) → k < length (pairs_of g.corners) → k < n
      below k h = omega (arith, length-pairs_of g.corners, f.rule.count)

  radius-within : Within most_radius g.radius
  radius-within = rw f.radius_is (record { within = f.radius_fits })

module _ {n : ℕ} (p : ListedPolygon n) where
  pub table_of : {t : List (ℤ × ℤ)} → t ≡ pairs_of (polygon_of n).corners → Corners t
  table_of e = subst Corners (sym e) (table_drawn p.fits)

  pub radius_of : {r : ℤ} → r ≡ (polygon_of n).radius → Within most_radius r
  radius_of e = subst (Within most_radius) (sym e) (radius-within p.fits)

  module _ {t : List (ℤ × ℤ)} (r : List Step) (e : t ≡ pairs_of (polygon_of n).corners) (u : StepsFrom r t) where
    pub steps_counted : length r ≡ n
    steps_counted = u.size ∙ ap length e ∙ length-pairs_of (polygon_of n).corners ∙ p.fits.rule.count

    pub sides_of : SidesAre (polygon_of n) r
    sides_of =
        drawn p.fits r
        (subst (λ k. StepsUpTo k r (pairs_of (polygon_of n).corners))
        (length-pairs_of (polygon_of n).corners ∙ p.fits.rule.count)
        (subst (StepsFrom r) e u))

-- ---- the sides one by one

module _ {g : Polygon} {t : List Step} (h : SidesAre g t) where
  pub side_count : length t ≡ length g.corners
  side_count =
      let sides : List Side = polygon_sides g.corners in
      sym (length-map t step_numbers) ∙ ap length h.same ∙ length-map sides side_numbers ∙ side_of_each g.corners

  pub side_step : (k : ℕ) → k < length t → step_numbers (step_at t k) ≡ side_numbers (side_at g k)
  unfolding side_at
  side_step k l =
      let sides : List Side = polygon_sides g.corners in
      sym (get_or-map step_numbers t k no_step (pos 0, pos 0, pos 0) l)
      ∙ ap (λ z. get_or z k (pos 0, pos 0, pos 0)) h.same
      ∙ get_or-map side_numbers sides k _ (pos 0, pos 0, pos 0) (omega (arith, side_count, side_of_each g.corners))

-- every definition that a table computes with
unfoldable pub shown : Unit {0}
unfolding pairs_of polygon_of twelve twenty thirty_six one_hundred_eight four_quadrants quarter_turn
shown = tt

-- the last of the listed numbers, where it is none before
pub last_listed : {n : ℕ} → Listed n → ¬ (n ≡ 12) → ¬ (n ≡ 20) → ¬ (n ≡ 36) → n ≡ 108
last_listed l a b c =
    ⊎_elim (λ e. absurd (a e)) (⊎_elim (λ e. absurd (b e)) (⊎_elim (λ e. absurd (c e)) (λ e. e))) l.listed

-- ---- in 32 bits

fits_32 : {z : ℤ} → Within most_cross z → SFits w32 z
fits_32 {z = pos n} h = record { sfits = omega (arith, h.within) }
fits_32 {z = negsuc n} h = record { sfits = omega (arith, h.within) }

-- a number of a side is what it was once it has been through 32 bits
pub narrowed : {v z : ℤ} → v ≡ z → Within most_cross z → to_z w32 (of_z w32 v) ≡ z
narrowed e h = ap (λ n. to_z w32 (of_z w32 n)) e ∙ to_z-of_z (fits_32 h)
