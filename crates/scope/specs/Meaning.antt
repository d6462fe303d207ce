-- What the rows mean (document 01, 'Rows'; 001, 2.2 and 2.4): laws that show the printed rows to be balance, tractions
-- and strength.
use Rattle.std.specs.Prelude.{◌≡◌, ◌↔◌, List, ℕ, ◌+◌, ◌≤◌, ◌<◌, ℤ, pos, ◌+ℤ◌, ◌-ℤ◌, ◌*ℤ◌, neg_ℤ, ◌<ℤ◌}
use Rattle.scope.specs.Mesh.{x, y, corner, corner_count, around, edge_entry, from_node, to_node}
use Rattle.scope.specs.Polygon.{Point, Side}
use Rattle.scope.specs.Rows.{sx, sy, t, twice_area, step_x, step_y, cross}
use Rattle.scope.specs.Tests.{turn}
use Rattle.scope.specs.Statements.{LeftTurns}
use Rattle.scope.specs.Printed.{next, corner_sum, force_x, force_y, BalanceX, BalanceY, normal_force, shear_force}
use Rattle.scope.specs.Printed.{NormalAt, deviator, resistance}
use Rattle.scope.specs.Criterion.{circle_radius}

-- ---- balance

-- a + b·x + c·y at corner i: b is the derivative by x and c the derivative by y
abbrev pub linear : (a b c : ℤ) (x y : ℕ → ℤ) → ℕ → ℤ
linear a b c x y i = a +ℤ b *ℤ x i +ℤ c *ℤ y i

-- twice the area within the corners
abbrev pub doubled_area : (x y : ℕ → ℤ) → ℤ
doubled_area x y = corner_sum (λ i. x i *ℤ y (next i) -ℤ x (next i) *ℤ y i)

-- where the stresses are linear in x and y, the left sides are D·(∂sx/∂x + ∂t/∂y) and D·(∂t/∂x + ∂sy/∂y)
pub record Divergence (x y : ℕ → ℤ) : Type 0 where
  pub in_x : (sx ∂sx/∂x ∂sx/∂y t ∂t/∂x ∂t/∂y : ℤ)
      → force_x x y (linear sx ∂sx/∂x ∂sx/∂y x y) (linear t ∂t/∂x ∂t/∂y x y) ≡ doubled_area x y *ℤ (∂sx/∂x +ℤ ∂t/∂y)
  pub in_y : (sy ∂sy/∂x ∂sy/∂y t ∂t/∂x ∂t/∂y : ℤ)
      → force_y x y (linear sy ∂sy/∂x ∂sy/∂y x y) (linear t ∂t/∂x ∂t/∂y x y) ≡ doubled_area x y *ℤ (∂t/∂x +ℤ ∂sy/∂y)

-- "D twice its area": of two triangles, the second of which has none where the third corner is repeated; and above 0
pub record Area (m : List ℤ) (e : ℕ) : Type 0 where
  pub within : twice_area m e ≡ doubled_area (λ i. x m (corner m e i)) (λ i. y m (corner m e i))
  pub triangles : twice_area m e
      ≡ turn m (corner m e 0) (corner m e 1) (corner m e 2) +ℤ turn m (corner m e 2) (corner m e 3) (corner m e 0)
  pub repeated : corner m e 2 ≡ corner m e 3 → twice_area m e ≡ turn m (corner m e 0) (corner m e 1) (corner m e 2)
  pub above_0 : LeftTurns m e → pos 0 <ℤ twice_area m e

-- so the rows say what 001 does: "stress divergence plus force is zero"
pub record Balanced (x y : ℕ → ℤ) (n l : ℤ) : Type 0 where
  pub in_x : (sx ∂sx/∂x ∂sx/∂y t ∂t/∂x ∂t/∂y Fx fx : ℤ)
      → BalanceX x y (linear sx ∂sx/∂x ∂sx/∂y x y) (linear t ∂t/∂x ∂t/∂y x y) (doubled_area x y) Fx fx n l
      ↔ (∂sx/∂x +ℤ ∂t/∂y +ℤ (n *ℤ Fx +ℤ l *ℤ fx) ≡ pos 0)
  pub in_y : (sy ∂sy/∂x ∂sy/∂y t ∂t/∂x ∂t/∂y Fy fy : ℤ)
      → BalanceY x y (linear sy ∂sy/∂x ∂sy/∂y x y) (linear t ∂t/∂x ∂t/∂y x y) (doubled_area x y) Fy fy n l
      ↔ (∂t/∂x +ℤ ∂sy/∂y +ℤ (n *ℤ Fy +ℤ l *ℤ fy) ≡ pos 0)

-- ---- sides

-- the force on a side of step (u, w), across its normal (w, -u)
abbrev pub traction_x : (u w sx t : ℤ) → ℤ
traction_x u w sx t = sx *ℤ w +ℤ t *ℤ neg_ℤ u

abbrev pub traction_y : (u w sy t : ℤ) → ℤ
traction_y u w sy t = t *ℤ w +ℤ sy *ℤ neg_ℤ u

-- the normal expression is its part along the normal, the shear expression its part along the step
pub record Tractions (u w sx sy t : ℤ) : Type 0 where
  pub normal : normal_force u w sx sy t ≡ traction_x u w sx t *ℤ w +ℤ traction_y u w sy t *ℤ neg_ℤ u
  pub shear : shear_force u w sx sy t ≡ traction_x u w sx t *ℤ u +ℤ traction_y u w sy t *ℤ w

-- a uniform pressure presses on every side as it is: where sx and sy are n·dead + l·live and t is 0, edge g's normal
-- row holds at v
abbrev pub Pressure : List ℤ → (ℕ → ℤ) → ℤ → ℤ → ℕ → ℕ → Type 0
Pressure m s l n g v =
    let P : ℤ = n *ℤ edge_entry m g 3 +ℤ l *ℤ edge_entry m g 5 in
    s (sx v) ≡ P → s (sy v) ≡ P → s (t v) ≡ pos 0 → NormalAt m s l n g v

-- "outward normal (w, -u)": from the from-node of edge g the node z lies inward
abbrev pub Inward : List ℤ → ℕ → ℕ → Type 0
Inward m g z =
    (step_y m g *ℤ (x m z -ℤ x m (from_node m g)) +ℤ neg_ℤ (step_x m g) *ℤ (y m z -ℤ y m (from_node m g))) <ℤ pos 0

-- and so do the other corners, one or two, of the element whose side from corner i to the next the edge is
abbrev pub OutwardNormal : List ℤ → ℕ → ℕ → Type 0
OutwardNormal m g e =
    (i : ℕ) → i < corner_count m e → from_node m g ≡ around m e i → to_node m g ≡ around m e (i + 1) → LeftTurns m e
    → (j : ℕ) → 2 ≤ j → j < corner_count m e → Inward m g (around m e (i + j))

-- ---- strength

-- (h·(sx-sy), h·2t) is the corner v scaled from r to the criterion's radius
pub record AtCorner (r : ℤ) (v : Point) (p q h C n sx sy t : ℤ) : Type 0 where
  pub along : r *ℤ (h *ℤ (sx -ℤ sy)) ≡ circle_radius p q C n sx sy *ℤ v.px
  pub across : r *ℤ (h *ℤ (pos 2 *ℤ t)) ≡ circle_radius p q C n sx sy *ℤ v.py

-- the row of a side holds with equality at its two corners, and with strength to spare at the centre
pub record SideMeaning (r : ℤ) (s : Side) (p q h C n sx sy t : ℤ) : Type 0 where
  pub at_from : AtCorner r s.from p q h C n sx sy t → deviator r s h sx sy t ≡ resistance s p q C n sx sy
  pub at_to : AtCorner r s.to p q h C n sx sy t → deviator r s h sx sy t ≡ resistance s p q C n sx sy
  pub at_centre : sx ≡ sy → t ≡ pos 0 → pos 0 <ℤ cross s.from s.to → pos 0 <ℤ circle_radius p q C n sx sy
      → deviator r s h sx sy t <ℤ resistance s p q C n sx sy
