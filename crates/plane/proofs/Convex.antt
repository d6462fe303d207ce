-- Triangles and quadrilaterals with a left turn at each corner are convex: a left turn at b from a to c is one at c
-- from b to a too, so each other corner is strictly left of a side, whose own two corners are on its line.
use mathlib.Core.Path.{◌≡◌, refl, sym}
use mathlib.Core.List.{List, [], ◌∷◌}
use lib.IntN.{pos}
use lib.Signed.{◌<ℤ◌}
use Rattle.integer.proofs.Ring.{ring, terms}
use Rattle.integer.proofs.Order.{<ℤ→≤ℤ, ≡→≤ℤ}
use Rattle.integer.specs.Members.{◌∈◌}
use Rattle.plane.specs.Points.{Corner, corner_point, Side, ◌⟶◌, left_by}
use Rattle.plane.specs.Polygon.{sides_from, sides, SomeLeft, NoneRight, Convex}
use Rattle.plane.proofs.Lists.{empty, each, first, later, rotated}

at_from : (a b : Corner) → left_by (a ⟶ b) (corner_point a) ≡ pos 0
unfolding left_by corner_point
at_from a b = ring (a.x ∷ a.y ∷ b.x ∷ b.y ∷ []) (search terms depth 100 fits 10000) refl

at_to : (a b : Corner) → left_by (a ⟶ b) (corner_point b) ≡ pos 0
unfolding left_by corner_point
at_to a b = ring (a.x ∷ a.y ∷ b.x ∷ b.y ∷ []) (search terms depth 100 fits 10000) refl

same_area : (a b c : Corner) → left_by (b ⟶ c) (corner_point a) ≡ left_by (a ⟶ b) (corner_point c)
unfolding left_by corner_point
same_area a b c = ring (a.x ∷ a.y ∷ b.x ∷ b.y ∷ c.x ∷ c.y ∷ []) (search terms depth 100 fits 10000) refl

-- a left turn at b on the way from a to c
abbrev pub Turn : Corner → Corner → Corner → Type 0
Turn a b c = pos 0 <ℤ left_by (a ⟶ b) (corner_point c)

next_turn : (a b c : Corner) → Turn a b c → Turn b c a
next_turn a b c h = rw (same_area a b c) h

-- what a side of a convex polygon asks
record Good (A : List Corner) (s : Side) : Type 0 where
  none_right : NoneRight A s
  some_left : SomeLeft s A

-- the first side, where all other corners are strictly left of it, the next one of them
first_side : (a b c : Corner) (L : List Corner) → ((v : Corner) → v ∈ c ∷ L → Turn a b v) → Good (a ∷ b ∷ c ∷ L) (a ⟶ b)
first_side a b c L h = record {
  none_right = each (≡→≤ℤ (sym (at_from a b))) (each (≡→≤ℤ (sym (at_to a b))) (λ v k. <ℤ→≤ℤ (h v k)));
  some_left = record { corner = c; there = later (later first); left = h c first };
}

-- a list of the same corners
good_as : {A B : List Corner} {s : Side} → ((v : Corner) → v ∈ A → v ∈ B) → ((v : Corner) → v ∈ B → v ∈ A) → Good A s
    → Good B s
good_as to from g = record {
  none_right = λ v k. g.none_right v (from v k);
  some_left = record {
    corner = g.some_left.corner;
    there = to g.some_left.corner g.some_left.there;
    left =
        g.some_left.left;
  };
}

convex : (o : Corner) (cs : List Corner) → ((s : Side) → s ∈ sides (o ∷ cs) → Good (o ∷ cs) s) → Convex (o ∷ cs)
convex o cs good = record {
  first = o;
  is_there = first;
  none_right = λ s k. (good s k).none_right;
  some_left = λ s k. (good s k).some_left;
}

pub triangle : (a b c : Corner) → Turn a b c → Convex (a ∷ b ∷ c ∷ [])
unfolding sides sides_from
triangle a b c abc =
    convex a (b ∷ c ∷ [])
    (each (side a b c abc)
    (each (good_as (λ v k. turn2 k) (λ v k. turn1 k) (side b c a bca))
    (each (good_as (λ v k. turn1 k) (λ v k. turn2 k) (side c a b (next_turn b c a bca)))
    (λ s k. empty k))))
  where
    bca : Turn b c a
    bca = next_turn a b c abc

    side : (p q r : Corner) → Turn p q r → Good (p ∷ q ∷ r ∷ []) (p ⟶ q)
    side p q r h = first_side p q r [] (each h (λ v k. empty k))

    turn1 : {p q r v : Corner} → v ∈ p ∷ q ∷ r ∷ [] → v ∈ q ∷ r ∷ p ∷ []
    turn1 {p} {q} {r} k = rotated (q ∷ r ∷ []) k

    turn2 : {p q r v : Corner} → v ∈ p ∷ q ∷ r ∷ [] → v ∈ r ∷ p ∷ q ∷ []
    turn2 k = turn1 (turn1 k)

pub quadrilateral : (a b c d : Corner) → Turn d a b → Turn a b c → Turn b c d → Turn c d a → Convex (a ∷ b ∷ c ∷ d ∷ [])
unfolding sides sides_from
quadrilateral a b c d dab abc bcd cda =
    convex a (b ∷ c ∷ d ∷ [])
    (each (side a b c d abc dab)
    (each (good_as (λ v k. turn1 (turn2 k)) (λ v k. turn1 k) (side b c d a bcd abc))
    (each (good_as (λ v k. turn2 k) (λ v k. turn2 k) (side c d a b cda bcd))
    (each (good_as (λ v k. turn1 k) (λ v k. turn1 (turn2 k)) (side d a b c dab cda))
    (λ s k. empty k)))))
  where
    side : (p q r s : Corner) → Turn p q r → Turn s p q → Good (p ∷ q ∷ r ∷ s ∷ []) (p ⟶ q)
    side p q r s h k = first_side p q r (s ∷ []) (each h (each (next_turn s p q k) (λ v j. empty j)))

    turn1 : {p q r s v : Corner} → v ∈ p ∷ q ∷ r ∷ s ∷ [] → v ∈ q ∷ r ∷ s ∷ p ∷ []
    turn1 {p} {q} {r} {s} k = rotated (q ∷ r ∷ s ∷ []) k

    turn2 : {p q r s v : Corner} → v ∈ p ∷ q ∷ r ∷ s ∷ [] → v ∈ r ∷ s ∷ p ∷ q ∷ []
    turn2 k = turn1 (turn1 k)
