-- Polygons that no side parts share an inner point. For each side of B some corner of A is left of it, so a point next
-- to that corner is inside A and left of that side. So any three of all the sides have a common point on their left,
-- since two at least are of one polygon, and by Helly's theorem all have one.
use mathlib.Core.Path.{◌≡◌, refl, ◌∙◌}
use mathlib.Core.List.Memᴰ
use mathlib.Core.List.{List, [], ◌∷◌, ◌++◌}
use mathlib.Core.Logic.{◌⊎◌, inl, inr, ⊎_elim}
use Prim.Native.Nat.{◌+◌, ◌≤◌}
use native.Mathlib.Omega.{arith}
use lib.IntN.{ℤ, pos, ◌+ℤ◌}
use lib.Signed.{◌≤ℤ◌, ◌<ℤ◌, ≤ℤ_refl, lt_z_yes}
use lib.ListN.{length}
use Rattle.integer.proofs.Ring.{ring, terms}
use Rattle.integer.proofs.Order.{by_nn, by_pos, <ℤ→≤ℤ, <ℤ_or_≤ℤ, +ℤ_mono, +ℤ_mono_<, *ℤ_nonneg, nonneg, ≡→≤ℤ}
use Rattle.integer.specs.Members.{◌∈◌}
use Rattle.plane.specs.Points.{Corner, Point, corner_point, Side, left_by}
use Rattle.plane.specs.Polygon.{sides, Inside, Shared, SomeLeft, NoneRight, Convex}
use Rattle.plane.specs.Apart.{NoneLeft, Parting, ASideDecides, ApartOrShared}
use Rattle.plane.proofs.Lists.{empty, each, first, later, some_or_all, Sorted, sorted}
use Rattle.plane.proofs.Lines.{Line, value, mix, left_by_mix, line, line_value}
use Rattle.plane.proofs.Step.{step_length, step_positive, step_above}
use Rattle.plane.proofs.Helly.{plane_convex, Common, Few, Plane, helly}
use Rattle.plane.proofs.Parted.{lines_of, inside_above, above_inside, apart_none}

-- ---- the middle of a polygon

-- the sum of its corners
middle : List Corner → Point
middle [] = record { x = pos 0; y = pos 0; e = pos 0 }
middle (a ∷ rest) = mix (pos 1) (corner_point a) (pos 1) (middle rest)

module _ (s : Side) where
  left_sum : (v w : Point) → left_by s (mix (pos 1) v (pos 1) w) ≡ left_by s v +ℤ left_by s w
  left_sum v w = left_by_mix s (pos 1) v (pos 1) w ∙ ring (left_by s v ∷ left_by s w ∷ []) (search terms depth 100) refl

  middle_left : (A : List Corner) → NoneRight A s → pos 0 ≤ℤ left_by s (middle A)
  unfolding middle left_by
  middle_left [] h = ≡→≤ℤ (ring (s.from.x ∷ s.from.y ∷ s.to.x ∷ s.to.y ∷ []) (search terms depth 100) refl)
  middle_left (a ∷ rest) h =
      rw (left_sum (corner_point a) (middle rest)) (+ℤ_mono (h a first) (middle_left rest (λ b k. h b (later k))))

  middle_strictly : (A : List Corner) → NoneRight A s → (c : Corner) → c ∈ A → pos 0 <ℤ left_by s (corner_point c)
      → pos 0 <ℤ left_by s (middle A)
  unfolding middle
  middle_strictly [] h c k l = empty k
  middle_strictly (a ∷ rest) h c k l =
      let hs : NoneRight rest s = λ b j. h b (later j) in
      rw (left_sum (corner_point a) (middle rest))
      (⊎_elim
      (λ e. +ℤ_mono_< (rw e at l) (middle_left rest hs))
      (λ j.
      by_pos (+ℤ_mono_< (middle_strictly rest hs c j l) (h a first))
      (ring (left_by s (corner_point a) ∷ left_by s (middle rest) ∷ []) (search terms depth 100) refl))
      (Memᴰ.cases_cons k))

middle_e : (A : List Corner) → pos 0 ≤ℤ (middle A).e
unfolding middle corner_point
middle_e [] = ≤ℤ_refl (pos 0)
middle_e (a ∷ rest) = by_nn (+ℤ_mono (nonneg 1) (middle_e rest))
    (ring ((middle rest).e ∷ []) (search terms depth 100) refl)

middle_proper : (A : List Corner) (a : Corner) → a ∈ A → Plane (middle A)
unfolding middle corner_point
middle_proper [] a k = empty k
middle_proper (b ∷ rest) a k =
    by_pos (+ℤ_mono_< {a = pos 0} {b = pos 1} (lt_z_yes tt) (middle_e rest))
    (ring ((middle rest).e ∷ []) (search terms depth 100) refl)

corner_proper : (a : Corner) → Plane (corner_point a)
unfolding corner_point
corner_proper a = lt_z_yes tt

-- ---- a point inside A, and one that is left of a line besides, if a corner of A is

module _ {A : List Corner} (convex : Convex A) where
  middle_inside : Inside A (middle A)
  middle_inside s k =
      let l : SomeLeft s A = convex.some_left s k in
      middle_strictly s A (convex.none_right s k) l.corner l.there l.left

  within : Common Plane (lines_of A)
  within = record {
    point = middle A;
    in_region = middle_proper A convex.first convex.is_there;
    above = inside_above A (middle A) middle_inside;
  }

  -- next to the corner a
  beside : (g : Line) (a : Corner) → a ∈ A → pos 0 <ℤ value g (corner_point a) → Common Plane (g ∷ lines_of A)
  beside g a k h =
      let K : ℤ = step_length (g ∷ []) (middle A) in
      let v : Point = mix K (corner_point a) (pos 1) (middle A) in
      let positive : pos 0 <ℤ K = step_positive (g ∷ []) (middle A) in
      let inside : Inside A v = λ s j.
      rw (left_by_mix s K (corner_point a) (pos 1) (middle A))
      (by_pos (+ℤ_mono_< (middle_inside s j) (*ℤ_nonneg (<ℤ→≤ℤ positive) (convex.none_right s j a k)))
      (ring (step_length (g ∷ []) (middle A) ∷ left_by s (corner_point a) ∷ left_by s (middle A) ∷ [])
      (search terms depth 100) refl)) in
      record {
        point = v;
        in_region = plane_convex.between K (pos 1) (corner_point a) (middle A) positive (nonneg 1) (corner_proper a)
            (middle_proper A a k);
        above = each (step_above (g ∷ []) (corner_point a) (middle A) (each h (λ v k. empty k)) g first)
            (inside_above A v inside);
      }

-- ---- any three of the sides

-- each side of a list has a corner of B on its left
AllLeft : List Side → List Corner → Type 0
AllLeft ss B = (s : Side) → s ∈ ss → SomeLeft s B

left_or_none : (B : List Corner) (s : Side) → NoneLeft s B ⊎ SomeLeft s B
left_or_none B s =
    ⊎_elim
    (λ h. inr (record { corner = h.0; there = h.1; left = h.2 }))
    (λ h. inl h)
    (some_or_all (λ b. <ℤ_or_≤ℤ (pos 0) (left_by s (corner_point b))) B)

parts_or_all : (A B : List Corner) → Parting A B ⊎ AllLeft (sides A) B
unfolding AllLeft
parts_or_all A B =
    ⊎_elim (λ h. inl (record { side = h.0; of_first = h.1; none_left = h.2 })) (λ h. inr h)
    (some_or_all (left_or_none B) (sides A))

narrow : {L F : List Line} → ((f : Line) → f ∈ F → f ∈ L) → Common Plane L → Common Plane F
narrow i c = record { point = c.point; in_region = c.in_region; above = λ f k. c.above f (i f k) }

-- a point inside D and left of a side of C
over_one : (C : List Corner) {D : List Corner} → Convex D → AllLeft (sides C) D → (g : Line) → g ∈ lines_of C
    → Common Plane (g ∷ lines_of D)
unfolding AllLeft lines_of
over_one C {D} d cd g k = let (s, j, e) = Memᴰ.of_map line (sides C) k in over s (cd s j) e
  where
    over : (s : Side) → SomeLeft s D → line s ≡ g → Common Plane (g ∷ lines_of D)
    over s some e =
        beside d g some.corner some.there (rw (← e, line_value s (corner_point some.corner)) some.left)

module _ {A B : List Corner} (a : Convex A) (b : Convex B) (ab : AllLeft (sides A) B) (ba : AllLeft (sides B) A) where
  -- lines K of A and L of B, three at most: at most one is of A, or at most one of B
  of_three : (F K L : List Line) → ((f : Line) → f ∈ F → (f ∈ K) ⊎ (f ∈ L)) → ((f : Line) → f ∈ K → f ∈ lines_of A)
      → ((f : Line) → f ∈ L → f ∈ lines_of B) → length K + length L ≤ 3 → Common Plane F
  of_three F K [] i hk hl n = narrow (λ f k. ⊎_elim (λ j. hk f j) (λ j. empty j) (i f k)) (within a)
  of_three F K (g ∷ []) i hk hl n =
      narrow (λ f k. ⊎_elim (λ j. later (hk f j)) (λ j. Memᴰ.head (Memᴰ.eq_of_singleton j)) (i f k))
      (over_one B a ba g (hl g first))
  of_three F [] (g ∷ h ∷ L) i hk hl n = narrow (λ f k. ⊎_elim (λ j. empty j) (λ j. hl f j) (i f k)) (within b)
  of_three F (e ∷ []) (g ∷ h ∷ L) i hk hl n =
      narrow (λ f k. ⊎_elim (λ j. Memᴰ.head (Memᴰ.eq_of_singleton j)) (λ j. later (hl f j)) (i f k))
      (over_one A b ab e (hk e first))
  of_three F (d ∷ e ∷ K) (g ∷ h ∷ L) i hk hl n = absurd (omega arith)

  few : Few 3 Plane (lines_of A ++ lines_of B)
  few F n i =
      let r : Sorted (lines_of A) (lines_of B) F = sorted (lines_of A) (lines_of B) F i in
      of_three F r.of_first r.of_second r.all r.in_first r.in_second (omega (arith, r.count))

  share : Shared A B
  share =
      let c : Common Plane (lines_of A ++ lines_of B) = helly (lines_of A ++ lines_of B) few in
      record {
        point = c.point;
        proper = c.in_region;
        in_first = above_inside A c.point (λ f k. c.above f (Memᴰ.append_left (lines_of B) k));
        in_second = above_inside B c.point (λ f k. c.above f (Memᴰ.append_right (lines_of A) k));
      }

-- ---- both halves together

pub apart_or_shared : {A B : List Corner} → ApartOrShared A B
apart_or_shared {A} {B} a b =
    ⊎_elim
    (λ h. inl (inl h))
    (λ ab. ⊎_elim (λ h. inl (inr h)) (λ ba. inr (share a b ab ba)) (parts_or_all B A))
    (parts_or_all A B)

-- a line along a side decides it
pub a_side_decides : {A B : List Corner} → ASideDecides A B
a_side_decides a b = (apart_none a b, λ h. ⊎_elim (λ p. p) (λ s. absurd (h s)) (apart_or_shared a b))
