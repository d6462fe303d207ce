-- Where one box ends before the other begins an upright or a level line has the two polygons on its two sides, and they
-- share no inner point: proved from the statement, not from the test by sides.
use mathlib.Core.Path.{◌≡◌, refl}
use mathlib.Core.List.{List, [], ◌∷◌}
use mathlib.Core.Logic.{inl, inr}
use native.Mathlib.Omega.{arith}
use lib.IntN.{ℤ, pos, ◌-ℤ◌, neg_ℤ}
use lib.Signed.{◌≤ℤ◌, ◌<ℤ◌}
use Rattle.integer.proofs.Linear.{linear, facts, ◌&◌, nothing}
use Rattle.integer.proofs.Ring.{ring, terms}
use Rattle.integer.specs.Members.{◌∈◌}
use Rattle.plane.specs.Points.{Corner, Point, corner_point}
use Rattle.plane.specs.Polygon.{Shared, Convex}
use Rattle.plane.specs.Boxes.{ClearBoxesDecide}
use Rattle.plane.proofs.Lines.{Line, value}
use Rattle.plane.proofs.Parted.{swapped, turned_value, line_parts}

-- a line across, past the coordinate z, with a step along it, and what it says of a corner
record Across (along : Corner → ℤ) (z : ℤ) : Type 0 where
  line : Line
  step : Point
  forward : pos 0 <ℤ value line step
  level : step.e ≡ pos 0
  says : (c : Corner) → value line (corner_point c) ≡ along c -ℤ z

upright : (z : ℤ) → Across (λ c. c.x) z
unfolding value corner_point
upright z = record {
  line = record { p = pos 1; q = pos 0; r = neg_ℤ z };
  step = record { x = pos 1; y = pos 0; e = pos 0 };
  forward = linear nothing (search facts depth 40) (omega arith);
  level = refl;
  says = λ c. ring (z ∷ c.x ∷ c.y ∷ []) (search terms depth 100) refl;
}

flat : (z : ℤ) → Across (λ c. c.y) z
unfolding value corner_point
flat z = record {
  line = record { p = pos 0; q = pos 1; r = neg_ℤ z };
  step = record { x = pos 0; y = pos 1; e = pos 0 };
  forward = linear nothing (search facts depth 40) (omega arith);
  level = refl;
  says = λ c. ring (z ∷ c.x ∷ c.y ∷ []) (search terms depth 100) refl;
}

-- A up to z, B from z on
ends_before : {along : Corner → ℤ} {z : ℤ} → Across along z → {A B : List Corner} → Convex A → Convex B
    → ((c : Corner) → c ∈ A → along c ≤ℤ z) → ((c : Corner) → c ∈ B → z ≤ℤ along c) → Shared A B → ⊥
ends_before {along} {z} g a b before after =
    line_parts a b g.line g.step g.forward g.level
    (λ c j. rw (g.says c) (linear (before c j) (search facts depth 40) (omega arith)))
    (λ c j.
    rw (turned_value g.line (corner_point c), g.says c) (linear (after c j) (search facts depth 40) (omega arith)))

pub clear_boxes_decide : {A B : List Corner} → ClearBoxesDecide A B
clear_boxes_decide p q a b i j (inl h) s =
    ends_before (flat p.top) a b (λ c k. (i c k).to_top)
    (λ c k. let l = (j c k).from_bottom in linear (h & l) (search facts depth 40) (omega arith)) s
clear_boxes_decide p q a b i j (inr (inl h)) s =
    ends_before (upright p.right) a b (λ c k. (i c k).to_right)
    (λ c k. let l = (j c k).from_left in linear (h & l) (search facts depth 40) (omega arith)) s
clear_boxes_decide p q a b i j (inr (inr (inl h))) s =
    ends_before (upright q.right) b a (λ c k. (j c k).to_right)
    (λ c k. let l = (i c k).from_left in linear (h & l) (search facts depth 40) (omega arith)) (swapped s)
clear_boxes_decide p q a b i j (inr (inr (inr h))) s =
    ends_before (flat q.top) b a (λ c k. (j c k).to_top)
    (λ c k. let l = (i c k).from_bottom in linear (h & l) (search facts depth 40) (omega arith)) (swapped s)
