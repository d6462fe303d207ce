-- The rows as document 01 prints them ('Rows'), and those of jumps (N6) and of strength by direction (N14) as document
-- 02 says them, over whole numbers, with l and n on the side where they have them; and what a field that meets the rows
-- of a mesh meets.
use Rattle.std.specs.Prelude.{◌≡◌, ◌↔◌, ◌⊎◌, List, get_or, ℕ, suc, ◌+◌, ◌%◌, ◌<◌, ℤ, pos, ◌+ℤ◌, ◌-ℤ◌, ◌*ℤ◌, neg_ℤ, ◌≤ℤ◌}
use Rattle.integer.specs.Members.{◌∈◌}
use Rattle.scope.specs.Mesh.{elements, edges, sides, jumps, p, q, h, cohesion, dead_x, dead_y, live_x, live_y, x, y}
use Rattle.scope.specs.Mesh.{corner, element_soil, edge_entry, from_node, to_node, jump_from, jump_to, facing_from}
use Rattle.scope.specs.Mesh.{facing_to, cohesion_across, ByDirection}
use Rattle.scope.specs.Polygon.{Side, polygon_sides, polygon_of, Point, point, half_turn}
use Rattle.scope.specs.Rows.{sx, sy, t, twice_area, step_x, step_y, jump_step_x, jump_step_y, Pair, strength_pairs}
use Rattle.scope.specs.Rows.{rows_of}
use Rattle.scope.specs.Meets.{FieldMeets}

-- ---- balance: an element's corners are numbered 0 to 3; x, y, sx, sy and t go by corner; D is twice its area

-- "neighbours i+1 and i-1 around it"
abbrev pub next : ℕ → ℕ
next i = (i + 1) % 4

abbrev pub previous : ℕ → ℕ
previous i = (i + 3) % 4

-- the sum over the corners
abbrev pub corner_sum : (ℕ → ℤ) → ℤ
corner_sum f = f 0 +ℤ f 1 +ℤ f 2 +ℤ f 3

-- "sum of (y[i+1]-y[i-1])·sx[i] + (x[i-1]-x[i+1])·t[i] = -D·(n·Fx + l·fx)": its left side, its right side, then the
-- equation
abbrev pub force_x : (x y sx t : ℕ → ℤ) → ℤ
force_x x y sx t = corner_sum (λ i. (y (next i) -ℤ y (previous i)) *ℤ sx i +ℤ (x (previous i) -ℤ x (next i)) *ℤ t i)

abbrev pub body_force : (D F f n l : ℤ) → ℤ
body_force D F f n l = neg_ℤ D *ℤ (n *ℤ F +ℤ l *ℤ f)

abbrev pub BalanceX : (x y sx t : ℕ → ℤ) (D Fx fx n l : ℤ) → Type 0
BalanceX x y sx t D Fx fx n l = force_x x y sx t ≡ body_force D Fx fx n l

-- "sum of (x[i-1]-x[i+1])·sy[i] + (y[i+1]-y[i-1])·t[i] = -D·(n·Fy + l·fy)"
abbrev pub force_y : (x y sy t : ℕ → ℤ) → ℤ
force_y x y sy t = corner_sum (λ i. (x (previous i) -ℤ x (next i)) *ℤ sy i +ℤ (y (next i) -ℤ y (previous i)) *ℤ t i)

abbrev pub BalanceY : (x y sy t : ℕ → ℤ) (D Fy fy n l : ℤ) → Type 0
BalanceY x y sy t D Fy fy n l = force_y x y sy t ≡ body_force D Fy fy n l

-- ---- sides: (u, w) is the edge's step

-- "normal: w²·sx - 2uw·t + u²·sy = (u²+w²)·(n·dead + l·live)"
abbrev pub normal_force : (u w sx sy t : ℤ) → ℤ
normal_force u w sx sy t = w *ℤ w *ℤ sx -ℤ pos 2 *ℤ u *ℤ w *ℤ t +ℤ u *ℤ u *ℤ sy

abbrev pub edge_force : (u w dead live n l : ℤ) → ℤ
edge_force u w dead live n l = (u *ℤ u +ℤ w *ℤ w) *ℤ (n *ℤ dead +ℤ l *ℤ live)

abbrev pub Normal : (u w sx sy t dead live n l : ℤ) → Type 0
Normal u w sx sy t dead live n l = normal_force u w sx sy t ≡ edge_force u w dead live n l

-- "shear: uw·(sx-sy) + (w²-u²)·t = (u²+w²)·(n·dead + l·live)"
abbrev pub shear_force : (u w sx sy t : ℤ) → ℤ
shear_force u w sx sy t = u *ℤ w *ℤ (sx -ℤ sy) +ℤ (w *ℤ w -ℤ u *ℤ u) *ℤ t

abbrev pub Shear : (u w sx sy t dead live n l : ℤ) → Type 0
Shear u w sx sy t dead live n l = shear_force u w sx sy t ≡ edge_force u w dead live n l

-- "what is fixed (1 normal, 2 shear, 3 both)"
abbrev pub FixesNormal : ℤ → Type 0
FixesNormal fixed = (fixed ≡ pos 1) ⊎ (fixed ≡ pos 3)

abbrev pub FixesShear : ℤ → Type 0
FixesShear fixed = (fixed ≡ pos 2) ⊎ (fixed ≡ pos 3)

-- ---- jumps: (u, w) is the step from from to to; two nodes face each other

-- "the normal expression of document 01 .. is equal on both nodes, and the shear likewise" (document 02, N6)
abbrev pub NormalAgrees : (u w sx sy t facing_sx facing_sy facing_t : ℤ) → Type 0
NormalAgrees u w sx sy t facing_sx facing_sy facing_t =
    normal_force u w sx sy t ≡ normal_force u w facing_sx facing_sy facing_t

abbrev pub ShearAgrees : (u w sx sy t facing_sx facing_sy facing_t : ℤ) → Type 0
ShearAgrees u w sx sy t facing_sx facing_sy facing_t =
    shear_force u w sx sy t ≡ shear_force u w facing_sx facing_sy facing_t

-- ---- strength

-- "r·h·[(d-b)(sx-sy) - 2(c-a)t] ≤ (ad-bc)·[2qCn - p(sx+sy)]", for the side from (a, b) to (c, d): its left side, the
-- bracket on its right, its right side
abbrev pub deviator : (r : ℤ) → Side → (h sx sy t : ℤ) → ℤ
deviator r s h sx sy t =
    let a : ℤ = s.from.px in
    let b : ℤ = s.from.py in
    let c : ℤ = s.to.px in
    let d : ℤ = s.to.py in
    r *ℤ h *ℤ ((d -ℤ b) *ℤ (sx -ℤ sy) -ℤ pos 2 *ℤ (c -ℤ a) *ℤ t)

abbrev pub scaled_radius : (p q C n sx sy : ℤ) → ℤ
scaled_radius p q C n sx sy = pos 2 *ℤ q *ℤ C *ℤ n -ℤ p *ℤ (sx +ℤ sy)

abbrev pub resistance : Side → (p q C n sx sy : ℤ) → ℤ
resistance s p q C n sx sy =
    let a : ℤ = s.from.px in
    let b : ℤ = s.from.py in
    let c : ℤ = s.to.px in
    let d : ℤ = s.to.py in
    (a *ℤ d -ℤ b *ℤ c) *ℤ scaled_radius p q C n sx sy

abbrev pub Strength : (r : ℤ) → Side → (p q h C n sx sy t : ℤ) → Type 0
Strength r s p q h C n sx sy t = deviator r s h sx sy t ≤ℤ resistance s p q C n sx sy

-- ---- strength by direction (document 02, N14): the plane's normal is (a, b)/r

-- "N = a²sx + 2abt + b²sy and T = ab(sy-sx) + (a²-b²)t"
abbrev pub plane_normal : Point → (sx sy t : ℤ) → ℤ
plane_normal v sx sy t =
    let a : ℤ = v.px in
    let b : ℤ = v.py in
    a *ℤ a *ℤ sx +ℤ pos 2 *ℤ a *ℤ b *ℤ t +ℤ b *ℤ b *ℤ sy

abbrev pub plane_shear : Point → (sx sy t : ℤ) → ℤ
plane_shear v sx sy t =
    let a : ℤ = v.px in
    let b : ℤ = v.py in
    a *ℤ b *ℤ (sy -ℤ sx) +ℤ (a *ℤ a -ℤ b *ℤ b) *ℤ t

-- "each ≤ q·n·(r²·ch + (cv-ch)·a²)"
abbrev pub plane_resistance : (r : ℤ) → Point → (q ch cv n : ℤ) → ℤ
plane_resistance r v q ch cv n = q *ℤ n *ℤ (r *ℤ r *ℤ ch +ℤ (cv -ℤ ch) *ℤ (v.px *ℤ v.px))

-- "pN + qT, then pN - qT": their left sides, then the rows
abbrev pub plane_plus : Point → (p q sx sy t : ℤ) → ℤ
plane_plus v p q sx sy t = p *ℤ plane_normal v sx sy t +ℤ q *ℤ plane_shear v sx sy t

abbrev pub plane_minus : Point → (p q sx sy t : ℤ) → ℤ
plane_minus v p q sx sy t = p *ℤ plane_normal v sx sy t -ℤ q *ℤ plane_shear v sx sy t

abbrev pub PlanePlus : (r : ℤ) → Point → (p q ch cv n sx sy t : ℤ) → Type 0
PlanePlus r v p q ch cv n sx sy t = plane_plus v p q sx sy t ≤ℤ plane_resistance r v q ch cv n

abbrev pub PlaneMinus : (r : ℤ) → Point → (p q ch cv n sx sy t : ℤ) → Type 0
PlaneMinus r v p q ch cv n sx sy t = plane_minus v p q sx sy t ≤ℤ plane_resistance r v q ch cv n

-- ---- corners and sides, counted from 0

-- corner k of the mesh's polygon, "counterclockwise from (r, 0)"; after the last comes the first
abbrev pub nth_corner : List ℤ → ℕ → Point
nth_corner m k = get_or (polygon_of (sides m)).corners (k % sides m) (point (pos 0) (pos 0))

-- "Side k runs from corner (a, b) to the next, (c, d)"
abbrev pub nth_side : List ℤ → ℕ → Side
nth_side m k = record { from = nth_corner m k; to = nth_corner m (suc k) }

-- ---- a field on the mesh m: its stresses s by column, with l and n

module _ (m : List ℤ) (s : ℕ → ℤ) (l n : ℤ) where
  -- element e
  abbrev pub BalanceXAt : ℕ → Type 0
  BalanceXAt e =
      BalanceX (λ i. x m (corner m e i)) (λ i. y m (corner m e i)) (λ i. s (sx (corner m e i)))
      (λ i. s (t (corner m e i)))
      (twice_area m e) (dead_x m (element_soil m e)) (live_x m (element_soil m e)) n l

  abbrev pub BalanceYAt : ℕ → Type 0
  BalanceYAt e =
      BalanceY (λ i. x m (corner m e i)) (λ i. y m (corner m e i)) (λ i. s (sy (corner m e i)))
      (λ i. s (t (corner m e i)))
      (twice_area m e) (dead_y m (element_soil m e)) (live_y m (element_soil m e)) n l

  -- edge g at its end v: "An unfixed one .. asks nothing"
  abbrev pub NormalAt : ℕ → ℕ → Type 0
  NormalAt g v =
      FixesNormal (edge_entry m g 2)
      → Normal (step_x m g) (step_y m g) (s (sx v)) (s (sy v)) (s (t v)) (edge_entry m g 3) (edge_entry m g 5) n l

  abbrev pub ShearAt : ℕ → ℕ → Type 0
  ShearAt g v =
      FixesShear (edge_entry m g 2)
      → Shear (step_x m g) (step_y m g) (s (sx v)) (s (sy v)) (s (t v)) (edge_entry m g 4) (edge_entry m g 6) n l

  -- jump j at its end v, which f faces
  abbrev pub NormalAgreesAt : ℕ → ℕ → ℕ → Type 0
  NormalAgreesAt j v f =
      NormalAgrees (jump_step_x m j) (jump_step_y m j) (s (sx v)) (s (sy v)) (s (t v)) (s (sx f)) (s (sy f)) (s (t f))

  abbrev pub ShearAgreesAt : ℕ → ℕ → ℕ → Type 0
  ShearAgreesAt j v f =
      ShearAgrees (jump_step_x m j) (jump_step_y m j) (s (sx v)) (s (sy v)) (s (t v)) (s (sx f)) (s (sy f)) (s (t f))

  -- the pair a of a node and a soil, for the side d of a polygon of radius r
  abbrev pub StrengthAt : ℤ → Pair → Side → Type 0
  StrengthAt r a d =
      Strength r d (p m a.soil) (q m a.soil) (h m a.soil) (cohesion m a.soil) n (s (sx a.at))
      (s (sy a.at)) (s (t a.at))

  -- the same for a soil by direction, and a corner of that polygon
  abbrev pub PlanePlusAt : ℤ → Pair → Point → Type 0
  PlanePlusAt r a v =
      PlanePlus r v (p m a.soil) (q m a.soil) (cohesion m a.soil) (cohesion_across m a.soil) n
      (s (sx a.at)) (s (sy a.at)) (s (t a.at))

  abbrev pub PlaneMinusAt : ℤ → Pair → Point → Type 0
  PlaneMinusAt r a v =
      PlaneMinus r v (p m a.soil) (q m a.soil) (cohesion m a.soil) (cohesion_across m a.soil) n
      (s (sx a.at)) (s (sy a.at)) (s (t a.at))

  -- all that is asked of the field
  pub record MeetsPrinted : Type 0 where
    pub balance_x_lem : (e : ℕ) → e < elements m → BalanceXAt e
    pub balance_y_lem : (e : ℕ) → e < elements m → BalanceYAt e
    pub normal_from : (g : ℕ) → g < edges m → NormalAt g (from_node m g)
    pub shear_from : (g : ℕ) → g < edges m → ShearAt g (from_node m g)
    pub normal_to : (g : ℕ) → g < edges m → NormalAt g (to_node m g)
    pub shear_to : (g : ℕ) → g < edges m → ShearAt g (to_node m g)
    pub jump_normal_from : (j : ℕ) → j < jumps m → NormalAgreesAt j (jump_from m j) (facing_from m j)
    pub jump_shear_from : (j : ℕ) → j < jumps m → ShearAgreesAt j (jump_from m j) (facing_from m j)
    pub jump_normal_to : (j : ℕ) → j < jumps m → NormalAgreesAt j (jump_to m j) (facing_to m j)
    pub jump_shear_to : (j : ℕ) → j < jumps m → ShearAgreesAt j (jump_to m j) (facing_to m j)
    pub strength : (a : Pair) → a ∈ strength_pairs m → ¬ ByDirection m a.soil
        → (d : Side) → d ∈ polygon_sides (polygon_of (sides m)).corners → StrengthAt (polygon_of (sides m)).radius a d
    pub planes : (a : Pair) → a ∈ strength_pairs m → ByDirection m a.soil
        → (v : Point) → v ∈ half_turn (polygon_of (sides m)).corners
        → PlanePlusAt (polygon_of (sides m)).radius a v × PlaneMinusAt (polygon_of (sides m)).radius a v

  -- it meets the rows as data exactly when it meets them as printed
  abbrev pub FieldPrinted : Type 0
  FieldPrinted = FieldMeets s l n (rows_of m) ↔ MeetsPrinted
