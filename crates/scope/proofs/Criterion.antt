-- Stresses that meet the rows of a polygon inside the circle meet the criterion.
-- With P = (h·(sx - sy), h·2t) and R = 2qCn - p(sx+sy) the row of the side v to w says r·(cross(P, w) + cross(v, P)) ≤
-- cross(v, w)·R.
-- Along the half of the polygon on P's side there is a side with P between its corners: both products on the left are
-- not below 0 there.
-- There cross(v, w)²·|P|² + cross(P, w)·cross(v, P)·|v - w|² = r²·(cross(P, w) + cross(v, P))², so |P|² ≤ R².
use mathlib.Core.Path.{◌≡◌, refl, ◌∙◌, ap}
use mathlib.Core.Logic.{⊎_elim}
use mathlib.Core.List.Memᴰ
use mathlib.Core.List.{List, [], ◌∷◌, ◌++◌}
use Prim.Native.Nat.{ℕ}
use lib.IntN.{ℤ, pos, negsuc, ◌+ℤ◌, ◌-ℤ◌, ◌*ℤ◌, neg_ℤ}
use lib.Signed.{◌≤ℤ◌, ◌<ℤ◌}
use Rattle.integer.proofs.Ring.{ring, ring_from, terms}
use Rattle.integer.proofs.Order.{by_nn, nn_diff, ≤ℤ_trans, ≤ℤ_total, <ℤ→≤ℤ, +ℤ_mono, *ℤ_nonneg, square_nonneg, *ℤ_pos}
use Rattle.integer.proofs.Order.{*ℤ_cancel_≤}
use Rattle.scope.proofs.PolygonRule.{polygon_rule}
use Rattle.integer.specs.Members.{◌∈◌}
use Rattle.scope.specs.Mesh.{sides, p, q, h, cohesion, ByDirection}
use Rattle.scope.specs.Polygon.{Point, point, Polygon, Side, sides_to, polygon_sides, polygon_of}
use Rattle.scope.specs.Rows.{sx, sy, t, Pair, strength_pairs, cross}
use Rattle.scope.specs.PolygonRule.{OnCircle, OnceAround, PolygonRule}
use Rattle.scope.specs.Printed.{deviator, MeetsPrinted}
use Rattle.scope.specs.Criterion.{circle_radius, WithinCriterion, CriterionAt}

-- ---- a side with P between its corners

module _ (P : Point) where
  record Between (sides : List Side) : Type 0 where
    side : Side
    listed : side ∈ sides
    after : pos 0 ≤ℤ cross side.from P
    before : pos 0 ≤ℤ cross P side.to

  among : {ss ts : List Side} → ((s : Side) → s ∈ ss → s ∈ ts) → Between ss → Between ts
  among f b = record { side = b.side; listed = f b.side b.listed; after = b.after; before = b.before }

  between : (end v : Point) (rest : List Point) → pos 0 ≤ℤ cross v P → pos 0 ≤ℤ cross P end
      → Between (sides_to end (v ∷ rest))
  unfolding sides_to cross
  between end v [] h k = record { side = record { from = v; to = end }; listed = Memᴰ.head refl; after = h; before = k }
  between end v (w ∷ rest) h k =
      ⊎_elim
      (λ g. record { side = record { from = v; to = w }; listed = Memᴰ.head refl; after = h; before = g })
      (λ g. among (λ s m. Memᴰ.tail m)
      (between end w rest (by_nn (nn_diff g) (ring (P.px ∷ P.py ∷ w.px ∷ w.py ∷ []) (search terms depth 100) refl))
      k))
      (≤ℤ_total (pos 0) (cross P w))

sides_to-++ : (e w : Point) (us ls : List Point) → sides_to e (us ++ (w ∷ ls)) ≡ sides_to w us ++ sides_to e (w ∷ ls)
unfolding sides_to
sides_to-++ e w [] ls = refl
sides_to-++ e w (u ∷ []) ls = refl
sides_to-++ e w (u ∷ v ∷ us) ls = ap (λ l. record { from = u; to = v } ∷ l) (sides_to-++ e w (v ∷ us) ls)

-- both corners of a side are corners of the polygon
record Ends (c : List Point) (s : Side) : Type 0 where
  from_corner : s.from ∈ c
  to_corner : s.to ∈ c

ends : (c : List Point) (end : Point) → end ∈ c → (part : List Point) → ((v : Point) → v ∈ part → v ∈ c) → (s : Side)
    → s ∈ sides_to end part → Ends c s
unfolding sides_to
ends c end h (v ∷ []) among s (Memᴰ.head e) = rw e (record { from_corner = among v (Memᴰ.head refl); to_corner = h })
ends c end h (v ∷ w ∷ rest) among s (Memᴰ.head e) =
    rw e (record { from_corner = among v (Memᴰ.head refl); to_corner = among w (Memᴰ.tail (Memᴰ.head refl)) })
ends c end h (v ∷ w ∷ rest) among s (Memᴰ.tail m) = ends c end h (w ∷ rest) (λ u k. among u (Memᴰ.tail k)) s m
ends c end h [] among s x'' = elim x'' [ ]
ends c end h (v ∷ []) among s (Memᴰ.tail m) = elim m [ ]

sides_ends : (c : List Point) (s : Side) → s ∈ polygon_sides c → Ends c s
unfolding polygon_sides
sides_ends (v ∷ rest) s m = ends (v ∷ rest) v (Memᴰ.head refl) (v ∷ rest) (λ u k. k) s m
sides_ends [] s m = elim m [ ]

-- along the upper half where P is not below the axis, else along the lower half
around : (P : Point) (r : ℤ) (c : List Point) → pos 0 <ℤ r → OnceAround r c → Between P (polygon_sides c)
unfolding polygon_sides cross
around P r c hr o =
    let east : Point = point r (pos 0) in
    let west : Point = point (neg_ℤ r) (pos 0) in
    let first : List Side = sides_to west (east ∷ o.upper) in
    let second : List Side = sides_to east (west ∷ o.lower) in
    let both : polygon_sides c ≡ first ++ second = ap polygon_sides o.halves
    ∙ sides_to-++ east west (east ∷ o.upper) o.lower in
    rw both
    (⊎_elim
    (λ h.
    let z = *ℤ_nonneg (<ℤ→≤ℤ hr) h in
    among P (λ s m. Memᴰ.append_left second m)
    (between P west east o.upper
    (by_nn z (ring (r ∷ P.px ∷ P.py ∷ []) (search terms depth 100) refl))
    (by_nn z (ring (r ∷ P.px ∷ P.py ∷ []) (search terms depth 100) refl))))
    (λ h.
    let z = *ℤ_nonneg (<ℤ→≤ℤ hr) (nn_diff h) in
    among P (λ s m. Memᴰ.append_right first m)
    (between P east west o.lower
    (by_nn z (ring (r ∷ P.px ∷ P.py ∷ []) (search terms depth 100) refl))
    (by_nn z (ring (r ∷ P.px ∷ P.py ∷ []) (search terms depth 100) refl))))
    (≤ℤ_total (pos 0) P.py))

-- ---- the criterion from that side

-- |v|², and |w - v|²
abbrev square : Point → ℤ
square v = v.px *ℤ v.px +ℤ v.py *ℤ v.py

abbrev apart : Point → Point → ℤ
apart v w = (w.px -ℤ v.px) *ℤ (w.px -ℤ v.px) +ℤ (w.py -ℤ v.py) *ℤ (w.py -ℤ v.py)

identity : (v w P : Point) → cross v w *ℤ cross v w *ℤ square P +ℤ cross P w *ℤ cross v P *ℤ apart v w
    ≡ (cross P w +ℤ cross v P) *ℤ (cross P w *ℤ square v +ℤ cross v P *ℤ square w)
unfolding cross
identity v w P = ring (v.px ∷ v.py ∷ w.px ∷ w.py ∷ P.px ∷ P.py ∷ []) (search terms depth 100) refl

bounded : (k α β r R Q S : ℤ) → pos 0 <ℤ k → pos 0 ≤ℤ α → pos 0 ≤ℤ β → pos 0 ≤ℤ r → pos 0 ≤ℤ S
    → k *ℤ k *ℤ Q +ℤ α *ℤ β *ℤ S ≡ (α +ℤ β) *ℤ (α *ℤ (r *ℤ r) +ℤ β *ℤ (r *ℤ r))
    → (r *ℤ (α +ℤ β)) ≤ℤ (k *ℤ R) → (pos 0 ≤ℤ R) × (Q ≤ℤ (R *ℤ R))
bounded k α β r R Q S hk hα hβ hr h_s e row =
    let left : pos 0 ≤ℤ (r *ℤ (α +ℤ β)) = *ℤ_nonneg hr (+ℤ_mono hα hβ) in
    let right : pos 0 ≤ℤ (k *ℤ R) = ≤ℤ_trans left row in (
      *ℤ_cancel_≤ hk (by_nn right (ring (k ∷ R ∷ []) (search terms depth 100) refl)),
      *ℤ_cancel_≤ (*ℤ_pos hk hk)
          (by_nn (+ℤ_mono (*ℤ_nonneg (nn_diff row) (+ℤ_mono right left)) (*ℤ_nonneg (*ℤ_nonneg hα hβ) h_s))
          (ring_from (negsuc 0) e (ring (k ∷ α ∷ β ∷ r ∷ R ∷ Q ∷ S ∷ []) (search terms depth 100) refl))),
    )

inside : (r R : ℤ) (v w P : Point) → pos 0 ≤ℤ r → OnCircle r v → OnCircle r w → pos 0 <ℤ cross v w → pos 0 ≤ℤ cross P w
    → pos 0 ≤ℤ cross v P
    → (r *ℤ (cross P w +ℤ cross v P)) ≤ℤ (cross v w *ℤ R) → (pos 0 ≤ℤ R) × (square P ≤ℤ (R *ℤ R))
inside r R v w P hr on_v on_w turn before after row =
    bounded (cross v w) (cross P w) (cross v P) r R (square P) (apart v w) turn before after hr
    (+ℤ_mono (square_nonneg (w.px -ℤ v.px)) (square_nonneg (w.py -ℤ v.py))) (rw (on_v, on_w) at (identity v w P)) row

-- P in the row and in the criterion
module _ (h sx sy t : ℤ) where
  abbrev P : Point
  P = point (h *ℤ (sx -ℤ sy)) (h *ℤ (pos 2 *ℤ t))

  in_row : (r : ℤ) (s : Side) → deviator r s h sx sy t ≡ r *ℤ (cross P s.to +ℤ cross s.from P)
  unfolding cross
  in_row r s = ring (r ∷ h ∷ sx ∷ sy ∷ t ∷ s.from.px ∷ s.from.py ∷ s.to.px ∷ s.to.py ∷ []) (search terms depth 100) refl

  in_criterion : square P ≡ h *ℤ h *ℤ ((sx -ℤ sy) *ℤ (sx -ℤ sy) +ℤ (pos 2 *ℤ t) *ℤ (pos 2 *ℤ t))
  in_criterion = ring (h ∷ sx ∷ sy ∷ t ∷ []) (search terms depth 100) refl

pub criterion : {g : Polygon} {sides : ℕ} → PolygonRule g sides → WithinCriterion g
unfolding cross
criterion {g} rule p q h C n sx sy t rows =
    let at = around (P h sx sy t) g.radius g.corners rule.has_radius rule.once_around in
    let s = at.side in
    let on = sides_ends g.corners s at.listed in
    let both =
    inside g.radius (circle_radius p q C n sx sy) s.from s.to (P h sx sy t) (<ℤ→≤ℤ rule.has_radius)
    (rule.on_circle s.from on.from_corner) (rule.on_circle s.to on.to_corner)
    (rule.left_turns s at.listed) at.before at.after
    (rw (in_row h sx sy t g.radius s) at (rows s at.listed)) in
    record { radius_not_below_0 = both.0; squares = rw (in_criterion h sx sy t) at both.1 }

-- ---- the listed polygons, and a mesh

pub criterion_of : (k : ℕ) → WithinCriterion (polygon_of k)
criterion_of k = let (sides, rule) = polygon_rule k in criterion rule

pub field_criterion : (m : List ℤ) (s : ℕ → ℤ) (l n : ℤ) → MeetsPrinted m s l n → (a : Pair) → a ∈ strength_pairs m
    → ¬ ByDirection m a.soil → CriterionAt m s n a
field_criterion m s l n f a k d =
    criterion_of (sides m) (p m a.soil) (q m a.soil) (h m a.soil) (cohesion m a.soil) n (s (sx a.at)) (s (sy a.at))
    (s (t a.at)) (f.strength a k d)
