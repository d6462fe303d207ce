-- The four polygons satisfy the rule: one computed test of a table, and one lemma that turns the test into the rule.
-- That no point is left out is a walk along the circle's first quadrant: from (0, r) one step right while inside or on
-- the circle, one step down where outside.
use mathlib.Core.Path.{◌≡◌, refl, sym, ◌∙◌, ap, ap₂, subst}
use mathlib.Core.Bool.{Bool, true, false, not, ◌&&◌, ◌||◌}
use mathlib.Core.Logic.{◌⊎◌, inl, inr, ⊎_elim}
use mathlib.Core.List.Memᴰ
use mathlib.Core.List.{List, [], ◌∷◌, tail-eq_of_cons-eq}
use Prim.Native.Nat.{ℕ, zero, suc, ◌+◌, ◌*◌, ◌≤◌, ◌<◌, zero-le, suc-le-suc, ◌/◌}
use native.Mathlib.Nat.{mul-le-mul}
use native.Mathlib.Decide.{dec_lt}
use native.Mathlib.Omega.{arith}
use lib.Dec.{T, eqb, leb, ltb, leb→le, ltb→lt, nleb→lt, eqb→eq, T_not}
use mir.Facts.{and_yes, or_yes}
use lib.Ieee.Fits.{and_l, and_r}
use lib.IntN.{ℤ, pos, negsuc, ◌+ℤ◌, ◌*ℤ◌, neg_ℤ, nat_abs}
use lib.Signed.{lt_z, ◌<ℤ◌, lt_z_yes}
use lib.ListN.{length, drop, take-append-drop}
use Rattle.integer.specs.Tests.{eq_z}
use Rattle.integer.proofs.TestLaws.{eq_z_yes}
use Rattle.integer.proofs.RingLaws.{pos_injective}
use Rattle.scope.proofs.Lists.{each_nil, each_cons}
use Rattle.scope.proofs.Decides.{Decides, both, either, said_as, equalℤ, belowℤ}
use Rattle.integer.specs.Members.{◌∈◌}
use Rattle.scope.specs.Polygon.{Point, point, Polygon, Side, sides_to, polygon_sides, quarter_turn, four_quadrants}
use Rattle.scope.specs.Polygon.{twelve, twenty, thirty_six, one_hundred_eight, polygon_of, SidesListed, half_turn}
use Rattle.scope.specs.Rows.{cross}
use Rattle.scope.specs.Mesh.{most_sides, nodes_for_108, nodes_with, pairs_with, strength_multiplier, kind_with}
use Rattle.scope.specs.Claim.{stress_columns}
use Rattle.scope.specs.Bounds.{most_radius, most_step, most_cross, weighted_step, weighted_cross, most_strength_rows}
use Rattle.scope.specs.Bounds.{most_plane_radius, twice_strength, strength_right_with, strength_sum}
use Rattle.scope.specs.PolygonRule.{OnCircle, OnceAround, step_size, cross_size, Largest, PolygonRule, PolygonFits}
use Rattle.scope.specs.PolygonRule.{ListedPolygon, HalfTurn, RadiusFor, PolygonAsked}

-- ---- tests

every : {A : Type 0} → (A → Bool) → List A → Bool
every f [] = true
every f (a ∷ l) = f a && every f l

some : {A : Type 0} → (A → Bool) → List A → Bool
some f [] = false
some f (a ∷ l) = f a || some f l

is_point : ℤ → ℤ → Point → Bool
is_point a b v = eq_z v.px a && eq_z v.py b

-- (a, b) with either sign of a and of b
has_signed : List Point → ℕ → ℕ → Bool
has_signed c a b =
    some (is_point (pos a) (pos b)) c
    && some (is_point (neg_ℤ (pos a)) (pos b)) c
    && some (is_point (pos a) (neg_ℤ (pos b))) c
    && some (is_point (neg_ℤ (pos a)) (neg_ℤ (pos b))) c

-- each point (x, y) of the circle with a ≤ x and y < b is listed: a walk of so many steps
walk : (ℕ → ℕ → Bool) → ℕ → ℕ → ℕ → ℕ → Bool
walk listed rr steps a zero = true
walk listed rr zero a (suc b) = false
walk listed rr (suc steps) a (suc b) =
    elim (leb (a * a + b * b) rr) [
      | true ↦ (ltb (a * a + b * b) rr || listed a b) && walk listed rr steps (suc a) (suc b)
      | false ↦ walk listed rr steps a b
    ]

from_upper : ℤ → List Point → Bool
from_upper r [] = false
from_upper r (v ∷ c) =
    elim (lt_z (pos 0) v.py)
    [ true ↦ from_upper r c | false ↦ is_point (neg_ℤ r) (pos 0) v && every (λ w. lt_z w.py (pos 0)) c ]

once_around : ℤ → List Point → Bool
once_around r [] = false
once_around r (v ∷ c) = is_point r (pos 0) v && from_upper r c

-- (r, 0), or above the axis: so is each corner of the first half turn, and none of the rest
in_half : ℤ → Point → Bool
in_half r v = is_point r (pos 0) v || lt_z (pos 0) v.py

halves : ℤ → List Point → Bool
halves r c = every (in_half r) (half_turn c) && every (λ v. not (in_half r v)) (drop (length c / 2) c)

largest : (Side → ℕ) → List Side → ℕ → Bool
largest size ss k = every (λ s. leb (size s) k) ss && some (λ s. eqb (size s) k) ss

on_circle : ℤ → Point → Bool
on_circle r v = eq_z (v.px *ℤ v.px +ℤ v.py *ℤ v.py) (r *ℤ r)

turns_left : Side → Bool
turns_left s = lt_z (pos 0) (cross s.from s.to)

polygon_test : Polygon → ℕ → Bool
polygon_test g sides =
    let r : ℕ = nat_abs g.radius in
    lt_z (pos 0) g.radius
    && eqb (length g.corners) sides
    && every (on_circle g.radius) g.corners
    && walk (has_signed g.corners) (r * r) (2 * r + 2) 0 (suc r)
    && once_around g.radius g.corners
    && halves g.radius g.corners
    && every turns_left (polygon_sides g.corners)

sizes_test : Polygon → ℕ → ℕ → Bool
sizes_test g step product =
    largest step_size (polygon_sides g.corners) step && largest cross_size (polygon_sides g.corners) product

-- ---- what the tests say

every_yes : {A : Type 0} (f : A → Bool) (l : List A) → T (every f l) → (a : A) → a ∈ l → T (f a)
unfolding every
every_yes f (b ∷ l) t a (Memᴰ.head e) = rw e (and_yes (f b) (every f l) t).0
every_yes f (b ∷ l) t a (Memᴰ.tail m) = every_yes f l (and_yes (f b) (every f l) t).1 a m
every_yes {A = A} f [] t a x'' = elim x'' [ ]

some_yes : {A : Type 0} (f : A → Bool) (l : List A) → T (some f l) → (a : A) × (a ∈ l) × T (f a)
unfolding some
some_yes f [] t = absurd t
some_yes f (b ∷ l) t =
    ⊎_elim (λ h. (b, Memᴰ.head refl, h)) (λ h. let (a, m, k) = some_yes f l h in (a, Memᴰ.tail m, k))
    (or_yes (f b) (some f l) t)

point_yes : (a b : ℤ) (v : Point) → T (is_point a b v) → v ≡ point a b
unfolding is_point
point_yes a b v t = let h = and_yes (eq_z v.px a) (eq_z v.py b) t in ap₂ point (eq_z_yes h.0) (eq_z_yes h.1)

listed_yes : (a b : ℤ) (c : List Point) → T (some (is_point a b) c) → point a b ∈ c
listed_yes a b c t = let (v, m, e) = some_yes (is_point a b) c t in Memᴰ.cast (sym (point_yes a b v e)) m

square_< : {a b : ℕ} → a < b → a * a < b * b
square_< h = omega (arith, mul-le-mul h h)

-- a point of the circle right of a and not above b: where (a, b) is not outside, it is beyond a or is (a, b); where (a,
-- b) is outside, it is below b
not_outside : {a b x y : ℕ} → a ≤ x → y ≤ b → a * a + b * b ≤ x * x + y * y → (a < x) ⊎ ((x ≡ a) × (y ≡ b))
not_outside {a} {b} {x} {y} hx hy h = by (dec_lt a x) (dec_lt y b)
  where
    by : Dec (a < x) → Dec (y < b) → (a < x) ⊎ ((x ≡ a) × (y ≡ b))
    by (yes p) q = inl p
    by (no p) (yes q) = let e : x ≡ a = omega arith in absurd (omega (arith, square_< q, rw e at h))
    by (no p) (no q) = inr (omega arith)

outside : {a b x y : ℕ} → a ≤ x → y ≤ b → x * x + y * y < a * a + b * b → y < b
outside {a} {b} {x} {y} hx hy h = by (dec_lt y b)
  where
    by : Dec (y < b) → y < b
    by (yes q) = q
    by (no q) = let e : y ≡ b = omega arith in absurd (omega (arith, mul-le-mul hx hx, rw e at h))

module _ (listed : ℕ → ℕ → Bool) (rr : ℕ) where
  walk_yes : (steps a b : ℕ) → T (walk listed rr steps a b) → (x y : ℕ) → a ≤ x → y < b → x * x + y * y ≡ rr
      → T (listed x y)
  unfolding walk
  walk_yes steps a zero t x y hx hy e = absurd (omega arith)
  walk_yes zero a (suc b) t x y hx hy e = absurd t
  walk_yes (suc steps) a (suc b) t x y hx hy e =
      go (leb (a * a + b * b) rr) (leb→le (a * a + b * b) rr) (nleb→lt (a * a + b * b) rr)
      (λ t h. walk_yes steps (suc a) (suc b) t x y h hy e) (λ t h. walk_yes steps a b t x y hx h e) t
    where
      low : y ≤ b
      low = omega arith

      here : T (ltb (a * a + b * b) rr || listed a b) → (x ≡ a) × (y ≡ b) → T (listed x y)
      here t at = ⊎_elim
          (λ l. absurd (omega (arith, ltb→lt (a * a + b * b) rr l, rw (at.0, at.1) at e)))
          (λ l. rw (at.0, at.1) l)
          (or_yes (ltb (a * a + b * b) rr) (listed a b) t)

      go : (near : Bool) → (T near → a * a + b * b ≤ rr) → (T (not near) → rr < a * a + b * b)
          → (T (walk listed rr steps (suc a) (suc b)) → a < x → T (listed x y))
          → (T (walk listed rr steps a b) → y < b → T (listed x y))
          → T (elim near [
            | true ↦ (ltb (a * a + b * b) rr || listed a b)
                && walk listed rr steps (suc a) (suc b)
            | false ↦ walk listed rr steps a b
          ])
          → T (listed x y)
      go true is far right down t =
          let h = and_yes (ltb (a * a + b * b) rr || listed a b) (walk listed rr steps (suc a) (suc b)) t in
          ⊎_elim (right h.1) (here h.0) (not_outside hx low (rw e (is tt)))
      go false is far right down t = down t (outside hx low (rw e (far tt)))

signed_yes : (c : List Point) (p q : ℤ) → T (has_signed c (nat_abs p) (nat_abs q)) → point p q ∈ c
unfolding has_signed
signed_yes c (pos a) (pos b) t = listed_yes (pos a) (pos b) c (search (and_l, and_r))
signed_yes c (negsuc a) (pos b) t = listed_yes (negsuc a) (pos b) c (search (and_l, and_r))
signed_yes c (pos a) (negsuc b) t = listed_yes (pos a) (negsuc b) c (search (and_l, and_r))
signed_yes c (negsuc a) (negsuc b) t = listed_yes (negsuc a) (negsuc b) c (search (and_l, and_r))

square_abs : (z : ℤ) → z *ℤ z ≡ pos (nat_abs z * nat_abs z)
square_abs (pos n) = refl
square_abs (negsuc n) = refl

leg_≤ : (x y r : ℕ) → x * x + y * y ≡ r * r → y ≤ r
leg_≤ x y r e = by (dec_lt r y)
  where
    by : Dec (r < y) → y ≤ r
    by (yes h) = absurd (omega (arith, square_< h))
    by (no h) = omega arith

-- the legs of a point of the circle, and that neither is longer than the radius
legs : (r : ℤ) (v : Point) → OnCircle r v → nat_abs v.px * nat_abs v.px + nat_abs v.py * nat_abs v.py
    ≡ nat_abs r * nat_abs r
legs r v on = pos_injective (sym (ap₂ ◌+ℤ◌ (square_abs v.px) (square_abs v.py)) ∙ on ∙ square_abs r)

pub legs_within : (r : ℤ) (v : Point) → OnCircle r v → (nat_abs v.px ≤ nat_abs r) × (nat_abs v.py ≤ nat_abs r)
legs_within r v on =
    let e = legs r v on in (
      leg_≤ (nat_abs v.py) (nat_abs v.px) (nat_abs r) (omega (arith, e)),
      leg_≤ (nat_abs v.px) (nat_abs v.py) (nat_abs r) e,
    )

none_left_out : (c : List Point) (r : ℤ) (steps : ℕ)
    → T (walk (has_signed c) (nat_abs r * nat_abs r) steps 0 (suc (nat_abs r))) → (v : Point) → OnCircle r v → v ∈ c
none_left_out c r steps t v on =
    let x : ℕ = nat_abs v.px in
    let y : ℕ = nat_abs v.py in
    let e : x * x + y * y ≡ nat_abs r * nat_abs r = legs r v on in
    signed_yes c v.px v.py
    (walk_yes (has_signed c) (nat_abs r * nat_abs r) steps 0 (suc (nat_abs r)) t x y zero-le
    (suc-le-suc (leg_≤ x y (nat_abs r) e)) e)

from_upper_lem : (r : ℤ) (c : List Point) → T (from_upper r c) → OnceAround r (point r (pos 0) ∷ c)
unfolding from_upper
from_upper_lem r [] t = absurd t
from_upper_lem r (v ∷ c) t = go (lt_z (pos 0) v.py) lt_z_yes (from_upper_lem r c) t
  where
    one_more : pos 0 <ℤ v.py → OnceAround r (point r (pos 0) ∷ c) → OnceAround r (point r (pos 0) ∷ v ∷ c)
    one_more h k = record {
      upper = v ∷ k.upper;
      lower = k.lower;
      halves = ap (λ l. point r (pos 0) ∷ v ∷ l) (tail-eq_of_cons-eq k.halves);
      above = each_cons (λ w. pos 0 <ℤ w.py) h k.above;
      below = k.below;
    }

    go : (up : Bool) → (T up → pos 0 <ℤ v.py) → (T (from_upper r c) → OnceAround r (point r (pos 0) ∷ c))
        → T (elim up [
          | true ↦ from_upper r c
          | false ↦ is_point (neg_ℤ r) (pos 0) v
              && every (λ w. lt_z w.py (pos 0)) c
        ]) → OnceAround r (point r (pos 0) ∷ v ∷ c)
    go true up rest t = one_more (up tt) (rest t)
    go false up rest t =
        let h = and_yes (is_point (neg_ℤ r) (pos 0) v) (every (λ w. lt_z w.py (pos 0)) c) t in
        record {
          upper = [];
          lower = c;
          halves = ap (λ w. point r (pos 0) ∷ w ∷ c) (point_yes (neg_ℤ r) (pos 0) v h.0);
          above = each_nil (λ w. pos 0 <ℤ w.py);
          below = λ w m. lt_z_yes (every_yes (λ w. lt_z w.py (pos 0)) c h.1 w m);
        }

once_around_lem : (r : ℤ) (c : List Point) → T (once_around r c) → OnceAround r c
unfolding once_around
once_around_lem r [] t = absurd t
once_around_lem r (v ∷ c) t =
    let h = and_yes (is_point r (pos 0) v) (from_upper r c) t in rw (point_yes r (pos 0) v h.0) (from_upper_lem r c h.1)

half_says : (r : ℤ) (v : Point) → Decides (in_half r v) ((v ≡ point r (pos 0)) ⊎ (pos 0 <ℤ v.py))
unfolding in_half is_point
half_says r v =
    either
    (said_as (both (equalℤ v.px r) (equalℤ v.py (pos 0))) (λ h. ap₂ point h.0 h.1)
    (λ e. (ap (λ (w : Point). w.px) e, ap (λ (w : Point). w.py) e)))
    (belowℤ (pos 0) v.py)

half_turn_lem : (r : ℤ) (c : List Point) → T (halves r c) → HalfTurn r c
unfolding halves half_turn
half_turn_lem r c t v =
    let h = and_yes (every (in_half r) (half_turn c)) (every (λ v. not (in_half r v)) (drop (length c / 2) c)) t in
    let parts = take-append-drop (length c / 2) c in (
      λ m. (
        subst (λ l. v ∈ l) parts (Memᴰ.append_left (drop (length c / 2) c) m),
        (half_says r v).holds (every_yes (in_half r) (half_turn c) h.0 v m),
      ),
      λ k.
          ⊎_elim (λ m. m)
          (λ m. absurd (T_not (in_half r v) (every_yes (λ v. not (in_half r v)) (drop (length c / 2) c) h.1 v m)
          ((half_says r v).passes k.1)))
          (Memᴰ.append_cases (half_turn c) (subst (λ l. v ∈ l) (sym parts) k.0)),
    )

largest_yes : (size : Side → ℕ) (ss : List Side) (k : ℕ) → T (largest size ss k) → Largest size ss k
unfolding largest
largest_yes size ss k t =
    let h = and_yes (every (λ s. leb (size s) k) ss) (some (λ s. eqb (size s) k) ss) t in
    let (s, m, e) = some_yes (λ s. eqb (size s) k) ss h.1 in
    record {
      bounds = λ s m. leb→le (size s) k (every_yes (λ s. leb (size s) k) ss h.0 s m);
      reached =
          (s, m, eqb→eq (size s) k e);
    }

-- the test says the rule
tested : (g : Polygon) (sides : ℕ) → T (polygon_test g sides) → PolygonRule g sides
unfolding polygon_test on_circle turns_left
tested g sides t = record {
  has_radius = lt_z_yes (search (and_l, and_r) depth 10);
  count = eqb→eq (length g.corners) sides (search (and_l, and_r) depth 10);
  on_circle = λ v m. eq_z_yes (every_yes (on_circle g.radius) g.corners (search (and_l, and_r) depth 10) v m);
  none_left_out = none_left_out g.corners g.radius (2 * nat_abs g.radius + 2) (search (and_l, and_r) depth 10);
  once_around = once_around_lem g.radius g.corners (search (and_l, and_r) depth 10);
  first_half = half_turn_lem g.radius g.corners (search (and_l, and_r) depth 10);
  left_turns = λ s m. lt_z_yes
      (every_yes turns_left (polygon_sides g.corners) (search (and_l, and_r) depth 10) s m);
}

-- ---- the four polygons

-- every definition that a table's test computes with
shown : Unit {0}
unfolding polygon_test sizes_test on_circle turns_left largest once_around halves in_half half_turn from_upper walk
    has_signed is_point some every twelve twenty thirty_six one_hundred_eight four_quadrants quarter_turn
    polygon_sides sides_to cross polygon_of
shown = tt

pub twelve-sides : PolygonRule (polygon_of 12) 12
unfolding shown
twelve-sides = tested twelve 12 tt

pub twenty-sides : PolygonRule (polygon_of 20) 20
unfolding shown
twenty-sides = tested twenty 20 tt

pub thirty_six_sides : PolygonRule (polygon_of 36) 36
unfolding shown
thirty_six_sides = tested thirty_six 36 tt

pub one_hundred_eight_sides : PolygonRule (polygon_of 108) 108
unfolding shown
one_hundred_eight_sides = tested one_hundred_eight 108 tt

-- whatever the number of sides
pub polygon_rule : (k : ℕ) → (sides : ℕ) × PolygonRule (polygon_of k) sides
unfolding polygon_of
polygon_rule k = go (eqb k 12) (eqb k 20) (eqb k 36)
  where
    go : (a b c : Bool) → (sides : ℕ) × PolygonRule
        (elim a [
          | true ↦ twelve
          | false ↦ elim b
              [ true ↦ twenty | false ↦ elim c [ true ↦ thirty_six | false ↦ one_hundred_eight ] ]
        ]) sides
    go true b c = (12, twelve-sides)
    go false true c = (20, twenty-sides)
    go false false true = (36, thirty_six_sides)
    go false false false = (108, one_hundred_eight_sides)

-- ---- a listed number of sides, by cases once: all that rows and sums read of it

bounds_test : ℕ → ℕ → ℕ → ℕ → Bool
bounds_test sides radius step product =
    ltb 0 sides
    && leb sides most_sides
    && eqb (sides / 2 * 2) sides
    && leb radius most_radius
    && leb (kind_with sides * radius) most_plane_radius
    && leb step most_step
    && leb product most_cross
    && leb (strength_multiplier sides * step) weighted_step
    && leb (strength_multiplier sides * product) weighted_cross
    && leb (product * twice_strength) (strength_right_with sides)
    && leb (strength_multiplier sides * strength_right_with sides) strength_sum
    && leb (pairs_with sides * sides) most_strength_rows
    && leb (nodes_with sides * stress_columns + pairs_with sides * sides)
    (nodes_for_108 * stress_columns + most_strength_rows)

bounded : {g : Polygon} {sides : ℕ} (radius step product : ℕ) → PolygonRule g sides → g.radius ≡ pos radius
    → T (sizes_test g step product) → T (bounds_test sides radius step product)
    → PolygonFits g sides radius step product
unfolding sizes_test bounds_test
bounded {g = g} {sides = sides} radius step product rule e sizes t = record {
  rule = rule;
  largest_step = largest_yes step_size (polygon_sides g.corners) step (search (and_l, and_r) depth 10);
  largest_cross = largest_yes cross_size (polygon_sides g.corners) product (search (and_l, and_r) depth 10);
  radius_is = e;
  some_sides = ltb→lt 0 sides (search (and_l, and_r) depth 15);
  few_sides = leb→le sides most_sides (search (and_l, and_r) depth 15);
  even_sides = eqb→eq (sides / 2 * 2) sides (search (and_l, and_r) depth 15);
  radius_fits = leb→le radius most_radius (search (and_l, and_r) depth 15);
  plane_radius = leb→le (kind_with sides * radius) most_plane_radius (search (and_l, and_r) depth 15);
  step_fits = leb→le step most_step (search (and_l, and_r) depth 15);
  product_fits = leb→le product most_cross (search (and_l, and_r) depth 15);
  step_weighted = leb→le (strength_multiplier sides * step) weighted_step (search (and_l, and_r) depth 15);
  product_weighted = leb→le (strength_multiplier sides * product) weighted_cross (search (and_l, and_r) depth 15);
  right_fits = leb→le (product * twice_strength) (strength_right_with sides) (search (and_l, and_r) depth 15);
  right_weighted = leb→le (strength_multiplier sides * strength_right_with sides) strength_sum
      (search (and_l, and_r) depth 15);
  rows_fit = leb→le (pairs_with sides * sides) most_strength_rows (search (and_l, and_r) depth 15);
  numbers_fit = leb→le (nodes_with sides * stress_columns + pairs_with sides * sides)
      (nodes_for_108 * stress_columns + most_strength_rows) (search (and_l, and_r) depth 15);
}

pub listed_polygon : (k : ℕ) → SidesListed k → ListedPolygon k
unfolding shown bounds_test nodes_with pairs_with strength_multiplier kind_with strength_right_with
listed_polygon k (inl e) =
    subst ListedPolygon (sym e)
    (record { radius = 5; step = 3; product = 15; fits = bounded 5 3 15 twelve-sides refl tt tt })
listed_polygon k (inr (inl e)) =
    subst ListedPolygon (sym e)
    (record { radius = 25; step = 8; product = 220; fits = bounded 25 8 220 twenty-sides refl tt tt })
listed_polygon k (inr (inr (inl e))) = subst ListedPolygon (sym e)
    (record { radius = 65; step = 16; product = 1183; fits = bounded 65 16 1183 thirty_six_sides refl tt tt })
listed_polygon k (inr (inr (inr e))) = subst ListedPolygon (sym e)
    (record {
      radius = 1105;
      step = 153;
      product = 177735;
      fits = bounded 1105 153 177735 one_hundred_eight_sides refl tt tt;
    })

-- what the documents ask of it
abbrev RadiusOf : ℕ → Type 0
RadiusOf k = RadiusFor k (polygon_of k).radius

radius_of : (k : ℕ) → SidesListed k → RadiusOf k
unfolding shown
radius_of k (inl e) = subst RadiusOf (sym e) (inl (refl, refl))
radius_of k (inr (inl e)) = subst RadiusOf (sym e) (inr (inl (refl, refl)))
radius_of k (inr (inr (inl e))) = subst RadiusOf (sym e) (inr (inr (inl (refl, refl))))
radius_of k (inr (inr (inr e))) = subst RadiusOf (sym e) (inr (inr (inr (refl, refl))))

pub polygon_asked : (k : ℕ) → SidesListed k → PolygonAsked k
polygon_asked k h = record { rule = (listed_polygon k h).fits.rule; radius = radius_of k h }
