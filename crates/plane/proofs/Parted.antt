-- A line that no corner of a polygon is left of has no inner point of it on its left: the inner point lies in a
-- triangle of the fan from the first corner, and by Cramer's rule the line's value there is a mean of its values at the
-- triangle's corners. So polygons that a side parts share no inner point, and polygons that any line parts share none,
-- since an inner point may be moved a little across the line.
use mathlib.Core.Path.{◌≡◌, refl, sym}
use mathlib.Core.List.Memᴰ
use mathlib.Core.List.{List, [], ◌∷◌, map}
use mathlib.Core.Logic.{inl, inr, ⊎_elim}
use native.Mathlib.Omega.{arith}
use lib.IntN.{ℤ, pos, negsuc, ◌+ℤ◌, ◌-ℤ◌, ◌*ℤ◌, neg_ℤ}
use lib.Signed.{◌≤ℤ◌, ◌<ℤ◌, clash_ℤ}
use Rattle.integer.proofs.Ring.{ring, ring_from, terms, sides as both}
use Rattle.integer.proofs.Order.{by_nn, by_pos, nn_diff, <ℤ→≤ℤ, <ℤ_or_≤ℤ, +ℤ_mono, +ℤ_mono_<, *ℤ_nonneg, *ℤ_pos}
use Rattle.integer.proofs.Order.{*ℤ_cancel_<, *ℤ_cancel_≤, ≡→≤ℤ}
use Rattle.integer.proofs.Linear.{linear, facts, ◌&◌}
use Rattle.integer.specs.Members.{◌∈◌}
use Rattle.plane.specs.Points.{Corner, Point, corner_point, Side, ◌⟶◌, left_by}
use Rattle.plane.specs.Polygon.{sides_from, sides, Inside, Shared, Convex}
use Rattle.plane.specs.Apart.{Parting, Apart}
use Rattle.plane.proofs.Lists.{empty, first, later}
use Rattle.plane.proofs.Lines.{Line, value, Above, mix, value_mix, line, line_value}
use Rattle.plane.proofs.Step.{step_length, step_positive, step_above}
use Rattle.plane.proofs.Helly.{Plane}

-- ---- a polygon's sides as lines

unfoldable pub lines_of : List Corner → List Line
lines_of A = map line (sides A)

pub inside_above : (A : List Corner) (v : Point) → Inside A v → Above (lines_of A) v
unfolding lines_of
inside_above A v inside f k =
    let (s, j, e) = Memᴰ.of_map line (sides A) k in
    rw (← e, line_value s v) (inside s j)

pub above_inside : (A : List Corner) (v : Point) → Above (lines_of A) v → Inside A v
unfolding lines_of
above_inside A v above s k = rw (line_value s v) at (above (line s) (Memᴰ.map line k))

-- ---- a triangle and a point

-- Cramer's rule
cramer : (g : Line) (o b c : Corner) (v : Point)
    → left_by (o ⟶ b) (corner_point c) *ℤ value g v
    ≡ left_by (b ⟶ c) v *ℤ value g (corner_point o) -ℤ left_by (o ⟶ c) v *ℤ value g (corner_point b) +ℤ left_by
    (o ⟶ b) v *ℤ value g (corner_point c)
unfolding left_by corner_point value
cramer g o b c v =
    ring (g.p ∷ g.q ∷ g.r ∷ o.x ∷ o.y ∷ b.x ∷ b.y ∷ c.x ∷ c.y ∷ v.x ∷ v.y ∷ v.e ∷ [])
    (both (search terms depth 100 fits 10000) (search terms depth 100 fits 10000)) refl

area : (o b c : Corner) (v : Point) → left_by (o ⟶ b) (corner_point c) *ℤ v.e
    ≡ left_by (b ⟶ c) v -ℤ left_by (o ⟶ c) v +ℤ left_by (o ⟶ b) v
unfolding left_by corner_point
area o b c v =
    ring (o.x ∷ o.y ∷ b.x ∷ b.y ∷ c.x ∷ c.y ∷ v.x ∷ v.y ∷ v.e ∷ [])
    (both (search terms depth 100 fits 10000) (search terms depth 100 fits 10000)) refl

back : (a b : Corner) (v : Point) → left_by (b ⟶ a) v ≡ neg_ℤ (left_by (a ⟶ b) v)
unfolding left_by
back a b v = ring (a.x ∷ a.y ∷ b.x ∷ b.y ∷ v.x ∷ v.y ∷ v.e ∷ []) (search terms depth 100 fits 10000) refl

no_side : (a : Corner) (v : Point) → left_by (a ⟶ a) v ≡ pos 0
unfolding left_by
no_side a v = ring (a.x ∷ a.y ∷ v.x ∷ v.y ∷ v.e ∷ []) (search terms depth 100 fits 10000) refl

-- ---- an inner point is not left of a line that no corner is left of

-- no corner is left of a line
abbrev pub NotLeft : Line → List Corner → Type 0
NotLeft g B = (c : Corner) → c ∈ B → value g (corner_point c) ≤ℤ pos 0

module _ (g : Line) (v : Point) (positive : Plane v) where
  -- a point in the triangle o b c
  in_triangle : (o b c : Corner) → pos 0 ≤ℤ left_by (o ⟶ b) v → pos 0 <ℤ left_by (b ⟶ c) v → left_by (o ⟶ c) v ≤ℤ pos 0
      → value g (corner_point o) ≤ℤ pos 0 → value g (corner_point b) ≤ℤ pos 0 → value g (corner_point c) ≤ℤ pos 0
      → value g v ≤ℤ pos 0
  in_triangle o b c ob bc oc go gb gc =
      *ℤ_cancel_≤ wide
      (by_nn
      (+ℤ_mono (+ℤ_mono (*ℤ_nonneg (<ℤ→≤ℤ bc) (nn_diff go)) (*ℤ_nonneg (nn_diff oc) (nn_diff gb)))
      (*ℤ_nonneg ob (nn_diff gc)))
      (ring_from (negsuc 0) (cramer g o b c v)
      (ring
      (left_by (o ⟶ b) (corner_point c) ∷ left_by (o ⟶ b) v ∷ left_by (b ⟶ c) v ∷ left_by (o ⟶ c) v
      ∷ value g (corner_point o) ∷ value g (corner_point b) ∷ value g (corner_point c) ∷ value g v ∷ [])
      (search terms depth 100 fits 10000) refl)))
    where
      wide : pos 0 <ℤ left_by (o ⟶ b) (corner_point c)
      wide =
          *ℤ_cancel_< (<ℤ→≤ℤ positive)
          (by_pos (+ℤ_mono_< bc (+ℤ_mono (nn_diff oc) ob))
          (ring_from (pos 1) (area o b c v)
          (ring (left_by (o ⟶ b) (corner_point c) ∷ left_by (o ⟶ b) v ∷ left_by (b ⟶ c) v ∷ left_by (o ⟶ c) v ∷ v.e
          ∷ [])
          (search terms depth 100 fits 10000) refl)))

  -- the first corner c of the fan with the point not left of o ⟶ c closes the triangle
  fan : (o b : Corner) (cs : List Corner) → ((s : Side) → s ∈ sides_from o b cs → pos 0 <ℤ left_by s v)
      → pos 0 ≤ℤ left_by (o ⟶ b) v
      → value g (corner_point o) ≤ℤ pos 0 → value g (corner_point b) ≤ℤ pos 0 → NotLeft g cs → value g v ≤ℤ pos 0
  unfolding sides_from
  fan o b [] inside ob go gb gs =
      let last : pos 0 <ℤ neg_ℤ (left_by (o ⟶ b) v) = rw (back o b v) at (inside (b ⟶ o) first) in
      absurd (linear (last & ob) (search facts depth 40) (omega arith))
  fan o b (c ∷ cs) inside ob go gb gs =
      let gc : value g (corner_point c) ≤ℤ pos 0 = gs c first in
      ⊎_elim
      (λ h. fan o c cs (λ s k. inside s (later k)) (<ℤ→≤ℤ h) go gc (λ d k. gs d (later k)))
      (λ h. in_triangle o b c ob (inside (b ⟶ c) first) h go gb gc)
      (<ℤ_or_≤ℤ (pos 0) (left_by (o ⟶ c) v))

  pub inner_not_left : (B : List Corner) (b : Corner) → b ∈ B → Inside B v → NotLeft g B → value g v ≤ℤ pos 0
  unfolding sides
  inner_not_left [] b k inside gs = empty k
  inner_not_left (o ∷ cs) b k inside gs =
      let go : value g (corner_point o) ≤ℤ pos 0 = gs o first in
      fan o o cs inside (≡→≤ℤ (sym (no_side o v))) go go (λ c j. gs c (later j))

-- ---- parted polygons

parting_none : {A B : List Corner} → Convex B → Parting A B → Shared A B → ⊥
parting_none {A} {B} b parting shared =
    let s : Side = parting.side in
    let v : Point = shared.point in
    let right : value (line s) v ≤ℤ pos 0 =
    inner_not_left (line s) v shared.proper B b.first b.is_there shared.in_second
    (λ c k. rw (line_value s (corner_point c)) (parting.none_left c k)) in
    clash_ℤ (shared.in_first s parting.of_first) (rw (line_value s v) at right)

pub swapped : {A B : List Corner} → Shared A B → Shared B A
swapped h = record { point = h.point; proper = h.proper; in_first = h.in_second; in_second = h.in_first }

-- polygons that a line along a side parts share no inner point
pub apart_none : {A B : List Corner} → Convex A → Convex B → Apart A B → Shared A B → ⊥
apart_none a b (inl h) shared = parting_none b h shared
apart_none a b (inr h) shared = parting_none a h (swapped shared)

-- ---- polygons on the two sides of any line

-- the line turned round
pub turned : Line → Line
turned g = record { p = neg_ℤ g.p; q = neg_ℤ g.q; r = neg_ℤ g.r }

pub turned_value : (g : Line) (v : Point) → value (turned g) v ≡ neg_ℤ (value g v)
unfolding turned value
turned_value g v = ring (g.p ∷ g.q ∷ g.r ∷ v.x ∷ v.y ∷ v.e ∷ []) (search terms depth 100 fits 10000) refl

-- no corner of A is left of g and none of B right of it, and the step d goes left of g: the shared point, moved along
-- d, stays in A
pub line_parts : {A B : List Corner} → Convex A → Convex B → (g : Line) (d : Point) → pos 0 <ℤ value g d → d.e ≡ pos 0
    → NotLeft g A → NotLeft (turned g) B → Shared A B → ⊥
line_parts {A} {B} a b g d left level na nb shared =
    let v : Point = shared.point in
    let K : ℤ = step_length (lines_of A) d in
    let w : Point = mix K v (pos 1) d in
    let still : Inside A w = above_inside A w (step_above (lines_of A) v d (inside_above A v shared.in_first)) in
    let proper : Plane w = in_plane K v d (step_positive (lines_of A) d) shared.proper level in
    let on_a : value g w ≤ℤ pos 0 = inner_not_left g w proper A a.first a.is_there still na in
    let on_b : value (turned g) v ≤ℤ pos 0 =
    inner_not_left (turned g) v shared.proper B b.first b.is_there shared.in_second nb in
    across K (value g v) (value g d) (step_positive (lines_of A) d) (rw (value_mix g K v (pos 1) d) at on_a)
    (rw (turned_value g v) at on_b) left
  where
    in_plane : (K : ℤ) (v d : Point) → pos 0 <ℤ K → Plane v → d.e ≡ pos 0 → Plane (mix K v (pos 1) d)
    in_plane K v d h_k hv e = rw e (by_pos (*ℤ_pos h_k hv) (ring (K ∷ v.e ∷ []) (search terms depth 100) refl))

    across : (K s t : ℤ) → pos 0 <ℤ K → (K *ℤ s +ℤ pos 1 *ℤ t) ≤ℤ pos 0 → neg_ℤ s ≤ℤ pos 0 → pos 0 <ℤ t → ⊥
    across K s t h_k h k l =
        let up : pos 0 ≤ℤ s = linear k (search facts depth 40) (omega arith) in
        let product : pos 0 ≤ℤ (K *ℤ s) = *ℤ_nonneg (<ℤ→≤ℤ h_k) up in
        linear (h & product & l) (search facts depth 40) (omega arith)
