-- The laws of what the rows mean: ring identities; the element's area and outward normal by its left turns.
use mathlib.Core.Path.{◌≡◌, refl, sym, ◌∙◌, ap, subst}
use mathlib.Core.Logic.{◌↔◌, ◌⊎◌, inl, inr, ⊎_elim}
use mathlib.Core.List.{List, [], ◌∷◌}
use Prim.Native.Nat.{ℕ, zero, suc, ◌+◌, ◌%◌, ◌<◌}
use native.Mathlib.Omega.{arith}
use native.Mathlib.Nat.{eq-or-lt_of_le}
use lib.Dec.{lit<}
use lib.IntN.{ℤ, pos, ◌+ℤ◌, ◌-ℤ◌, ◌*ℤ◌, neg_ℤ, +ℤ_idr}
use lib.Signed.{◌<ℤ◌}
use Rattle.integer.proofs.Ring.{ring, ring_from, sides as both_sides, terms}
use Rattle.integer.proofs.Order.{by_pos, +ℤ_mono_<, *ℤ_pos, *ℤ_cancel, <ℤ→≤ℤ}
use Rattle.scope.proofs.Triangles.{Shape, triangle, quadrilateral, shape_of, around_is, turn_at, turn_aab}
use Rattle.scope.specs.Mesh.{x, y, corner, corner_count, around, edge_entry, from_node, to_node}
use Rattle.scope.specs.Polygon.{Side}
use Rattle.scope.specs.Rows.{node, cross_at, twice_area, step_x, step_y, cross}
use Rattle.scope.specs.Tests.{turn}
use Rattle.scope.specs.Printed.{deviator}
use Rattle.scope.specs.Criterion.{circle_radius}
use Rattle.scope.specs.Statements.{LeftTurns}
use Rattle.scope.specs.Meaning.{doubled_area, Divergence, Area, Balanced, Tractions, Pressure, Inward, OutwardNormal}
use Rattle.scope.specs.Meaning.{SideMeaning}

-- ---- balance

pub divergence : (x y : ℕ → ℤ) → Divergence x y
divergence x y = record {
  in_x = λ a b c d e f. ring (x 0 ∷ x 1 ∷ x 2 ∷ x 3 ∷ y 0 ∷ y 1 ∷ y 2 ∷ y 3 ∷ b ∷ c ∷ e ∷ f ∷ a ∷ d ∷ [])
      (both_sides (search terms depth 100) (search terms depth 100)) refl;
  in_y = λ a b c d e f. ring (x 0 ∷ x 1 ∷ x 2 ∷ x 3 ∷ y 0 ∷ y 1 ∷ y 2 ∷ y 3 ∷ b ∷ c ∷ e ∷ f ∷ a ∷ d ∷ [])
      (both_sides (search terms depth 100) (search terms depth 100)) refl;
}

pub area : (m : List ℤ) (e : ℕ) → Area m e
unfolding twice_area cross_at node turn
area m e = record {
  within = refl;
  triangles = halves;
  repeated = λ h. repeat h;
  above_0 = λ left. above left (shape_of m e);
}
  where
    halves : twice_area m e ≡ turn m (corner m e 0) (corner m e 1) (corner m e 2) +ℤ turn m (corner m e 2)
        (corner m e 3) (corner m e 0)
    halves =
        ring
        (x m (corner m e 0) ∷ x m (corner m e 1) ∷ x m (corner m e 2) ∷ x m (corner m e 3) ∷ y m (corner m e 0) ∷ y m
        (corner m e 1) ∷ y m (corner m e 2) ∷ y m (corner m e 3) ∷ [])
        (search terms depth 100) refl

    repeat : corner m e 2 ≡ corner m e 3 → twice_area m e ≡ turn m (corner m e 0) (corner m e 1) (corner m e 2)
    repeat h = halves ∙ ap (λ z. turn m (corner m e 0) (corner m e 1) (corner m e 2) +ℤ z)
        (ap (λ v. turn m (corner m e 2) v (corner m e 0)) (sym h) ∙ turn_aab m (corner m e 2) (corner m e 0)) ∙ +ℤ_idr _

    above : LeftTurns m e → Shape m e → pos 0 <ℤ twice_area m e
    above left (triangle h c) = rw (repeat h) (turn_at m e 3 c left 1 (lit< tt))
    above left (quadrilateral h c) =
        rw halves (+ℤ_mono_< (turn_at m e 4 c left 1 (lit< tt)) (<ℤ→≤ℤ (turn_at m e 4 c left 3 (lit< tt))))

-- D·z = -D·f says z + f = 0, where D is above 0
cancelled : {L : ℤ} (D z f : ℤ) → pos 0 <ℤ D → L ≡ D *ℤ z → (L ≡ neg_ℤ D *ℤ f) ↔ (z +ℤ f ≡ pos 0)
cancelled {L} D z f h e = (
  λ g. *ℤ_cancel h (ring_from (pos 1) (sym e ∙ g) (ring (D ∷ z ∷ f ∷ []) (search terms depth 100) refl)),
  λ g. e ∙ ring_from D g (ring (D ∷ z ∷ f ∷ []) (search terms depth 100) refl),
)

pub balanced : (x y : ℕ → ℤ) (n l : ℤ) → pos 0 <ℤ doubled_area x y → Balanced x y n l
balanced x y n l h = record {
  in_x = λ a b c d e f F g. cancelled (doubled_area x y) (b +ℤ f) (n *ℤ F +ℤ l *ℤ g) h
      ((divergence x y).in_x a b c d e f);
  in_y = λ a b c d e f F g. cancelled (doubled_area x y) (e +ℤ c) (n *ℤ F +ℤ l *ℤ g) h
      ((divergence x y).in_y a b c d e f);
}

-- ---- sides

pub tractions : (u w sx sy t : ℤ) → Tractions u w sx sy t
tractions u w sx sy t = record {
  normal = ring (u ∷ w ∷ sx ∷ sy ∷ t ∷ []) (search terms depth 100) refl;
  shear = ring (u ∷ w ∷ sx ∷ sy ∷ t ∷ []) (search terms depth 100) refl;
}

pub pressure : (m : List ℤ) (s : ℕ → ℤ) (l n : ℤ) (g v : ℕ) → Pressure m s l n g v
pressure m s l n g v a b c fixed =
    rw (a, b, c) (ring (step_x m g ∷ step_y m g ∷ n ∷ l ∷ edge_entry m g 3 ∷ edge_entry m g 5 ∷ [])
    (search terms depth 100) refl)

-- a node to the left of the edge lies inward
inward : (m : List ℤ) (g a b z : ℕ) → from_node m g ≡ a → to_node m g ≡ b → pos 0 <ℤ turn m a b z → Inward m g z
unfolding turn step_x step_y
inward m g a b z from to left =
    rw (from, to) (by_pos left
    (ring (x m a ∷ x m b ∷ x m z ∷ y m a ∷ y m b ∷ y m z ∷ []) (search terms depth 100) refl))

turn_cycle : (m : List ℤ) (a b c : ℕ) → turn m c a b ≡ turn m a b c
unfolding turn
turn_cycle m a b c = ring (x m a ∷ x m b ∷ x m c ∷ y m a ∷ y m b ∷ y m c ∷ []) (search terms depth 100) refl

-- of a triangle the third corner lies inward, of a quadrilateral the other two
module _ (m : List ℤ) (g e : ℕ) (left : LeftTurns m e) where
  other_one : corner_count m e ≡ 3 → (i : ℕ) → i < 3 → from_node m g ≡ corner m e (i % 3)
      → to_node m g ≡ corner m e ((i + 1) % 3) → Inward m g (corner m e ((i + 2) % 3))
  other_one c zero h from to = inward m g _ _ _ from to (turn_at m e 3 c left 1 (lit< tt))
  other_one c (suc zero) h from to = inward m g _ _ _ from to (turn_at m e 3 c left 2 (lit< tt))
  other_one c (suc (suc zero)) h from to = inward m g _ _ _ from to (turn_at m e 3 c left 0 (lit< tt))
  other_one c (suc (suc (suc i))) h from to = absurd (omega arith)

  other_two : corner_count m e ≡ 4 → (i : ℕ) → i < 4 → from_node m g ≡ corner m e (i % 4)
      → to_node m g ≡ corner m e ((i + 1) % 4) → Inward m g (corner m e ((i + 2) % 4))
      × Inward m g (corner m e ((i + 3) % 4))
  other_two c i h from to = by i h from to
    where
      both : (a b z w : ℕ) → from_node m g ≡ a → to_node m g ≡ b → pos 0 <ℤ turn m a b z → pos 0 <ℤ turn m w a b
          → Inward m g z × Inward m g w
      both a b z w from to hz hw = (inward m g a b z from to hz, inward m g a b w from to (rw turn_cycle at hw))

      by : (i : ℕ) → i < 4 → from_node m g ≡ corner m e (i % 4) → to_node m g ≡ corner m e ((i + 1) % 4)
          → Inward m g (corner m e ((i + 2) % 4)) × Inward m g (corner m e ((i + 3) % 4))
      by zero h from to = both _ _ _ _ from to (turn_at m e 4 c left 1 (lit< tt)) (turn_at m e 4 c left 0 (lit< tt))
      by (suc zero) h from to = both _ _ _ _ from to (turn_at m e 4 c left 2 (lit< tt))
          (turn_at m e 4 c left 1 (lit< tt))
      by (suc (suc zero)) h from to = both _ _ _ _ from to (turn_at m e 4 c left 3 (lit< tt))
          (turn_at m e 4 c left 2 (lit< tt))
      by (suc (suc (suc zero))) h from to = both _ _ _ _ from to (turn_at m e 4 c left 0 (lit< tt))
          (turn_at m e 4 c left 3 (lit< tt))
      by (suc (suc (suc (suc i)))) h from to = absurd (omega arith)

pub outward_normal : (m : List ℤ) (g e : ℕ) → OutwardNormal m g e
outward_normal m g e i h from to left j two below = by (shape_of m e)
  where
    at : (k l : ℕ) → corner_count m e ≡ k → Inward m g (corner m e ((i + l) % k)) → j ≡ l
        → Inward m g (around m e (i + j))
    at k l c inw same = subst (Inward m g)
        (sym (around_is m e (i + j) k c ∙ ap (λ (n : ℕ). corner m e ((i + n) % k)) same)) inw

    last : (z : Inward m g (corner m e ((i + 2) % 4)) × Inward m g (corner m e ((i + 3) % 4))) → corner_count m e ≡ 4
        → (j ≡ 2) ⊎ (j ≡ 3) → Inward m g (around m e (i + j))
    last z c (inl same) = at 4 2 c z.0 same
    last z c (inr same) = at 4 3 c z.1 same

    by : Shape m e → Inward m g (around m e (i + j))
    by (triangle t c) = at 3 2 c
        (other_one m g e left c i (omega arith) (from ∙ around_is m e i 3 c) (to ∙ around_is m e (i + 1) 3 c))
        (omega arith)
    by (quadrilateral t c) =
        last (other_two m g e left c i (omega arith) (from ∙ around_is m e i 4 c) (to ∙ around_is m e (i + 1) 4 c)) c
        (⊎_elim (λ e. inl (omega arith)) (λ l. inr (omega arith)) (eq-or-lt_of_le two))

-- ---- strength

-- the left side by the two numbers that a corner gives
at-corner : (r h sx sy t R a b : ℤ) (s : Side) → r *ℤ (h *ℤ (sx -ℤ sy)) ≡ R *ℤ a → r *ℤ (h *ℤ (pos 2 *ℤ t)) ≡ R *ℤ b
    → deviator r s h sx sy t ≡ (s.to.py -ℤ s.from.py) *ℤ (R *ℤ a) -ℤ (s.to.px -ℤ s.from.px) *ℤ (R *ℤ b)
at-corner r h sx sy t R a b s e f = split (s.to.px -ℤ s.from.px) (s.to.py -ℤ s.from.py) ∙ rw (e, f)
  where
    split : (u w : ℤ) → r *ℤ h *ℤ (w *ℤ (sx -ℤ sy) -ℤ pos 2 *ℤ u *ℤ t)
        ≡ w *ℤ (r *ℤ (h *ℤ (sx -ℤ sy))) -ℤ u *ℤ (r *ℤ (h *ℤ (pos 2 *ℤ t)))
    split u w = ring (r ∷ h ∷ sx ∷ sy ∷ t ∷ u ∷ w ∷ []) (search terms depth 100) refl

pub side_meaning : (r : ℤ) (s : Side) (p q h C n sx sy t : ℤ) → SideMeaning r s p q h C n sx sy t
unfolding cross
side_meaning r s p q h C n sx sy t =
    let R : ℤ = circle_radius p q C n sx sy in
    record {
      at_from = λ k. at-corner r h sx sy t R s.from.px s.from.py s k.along k.across ∙ from_corner R;
      at_to = λ k. at-corner r h sx sy t R s.to.px s.to.py s k.along k.across ∙ to_corner R;
      at_centre = λ e f turn room. rw (centre e f) (*ℤ_pos turn room);
    }
  where
    a : ℤ
    a = s.from.px

    b : ℤ
    b = s.from.py

    c : ℤ
    c = s.to.px

    d : ℤ
    d = s.to.py

    from_corner : (R : ℤ) → (d -ℤ b) *ℤ (R *ℤ a) -ℤ (c -ℤ a) *ℤ (R *ℤ b) ≡ (a *ℤ d -ℤ b *ℤ c) *ℤ R
    from_corner R = ring (s.from.px ∷ s.from.py ∷ s.to.px ∷ s.to.py ∷ R ∷ []) (search terms depth 100) refl

    to_corner : (R : ℤ) → (d -ℤ b) *ℤ (R *ℤ c) -ℤ (c -ℤ a) *ℤ (R *ℤ d) ≡ (a *ℤ d -ℤ b *ℤ c) *ℤ R
    to_corner R = ring (s.from.px ∷ s.from.py ∷ s.to.px ∷ s.to.py ∷ R ∷ []) (search terms depth 100) refl

    centre : sx ≡ sy → t ≡ pos 0 → deviator r s h sx sy t ≡ pos 0
    centre e f = rw (e, f)
        (ring (s.from.px ∷ s.from.py ∷ s.to.px ∷ s.to.py ∷ r ∷ h ∷ sy ∷ []) (search terms depth 100) refl)
