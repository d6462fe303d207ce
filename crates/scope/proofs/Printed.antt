-- Each row's data says what document 01 prints: the two differ by moving l to the left and n out of the right side,
-- which the ring solver sees.
use mathlib.Core.Path.{◌≡◌, refl, sym, ◌∙◌}
use mathlib.Core.Bool.{Bool, true, false, cond, ◌||◌}
use mathlib.Core.Logic.{◌↔◌, ◌⊎◌}
use mathlib.Core.List.Memᴰ
use mathlib.Core.List.{List, [], ◌∷◌, ◌++◌}
use Prim.Native.Nat.{ℕ, ◌<◌, zero-le}
use native.Mathlib.Omega.{arith}
use lib.IntN.{ℤ, pos, ◌+ℤ◌, ◌-ℤ◌, ◌*ℤ◌, neg_ℤ, +ℤ_assoc, +ℤ_idr}
use lib.Signed.{◌≤ℤ◌}
use Rattle.integer.proofs.Ring.{ring, ring_from, sides as both_sides, terms}
use Rattle.integer.specs.Tests.{eq_z}
use Rattle.integer.proofs.Order.{by_nn, nn_diff}
use Rattle.scope.proofs.Lists.{in_joined, in_count, of_count, each_nil, each_cons, each_++, each_map, each_joined}
use Rattle.scope.proofs.Decides.{Decides, either, equalℤ}
use Rattle.scope.proofs.Directions.{is_direction, not_direction, by_kind}
use Rattle.scope.specs.Mesh.{elements, edges, sides, jumps, p, q, h, cohesion, dead_x, dead_y, live_x, live_y, x, y}
use Rattle.scope.specs.Mesh.{corner, element_soil, edge_entry, from_node, to_node, jump_from, jump_to, facing_from}
use Rattle.scope.specs.Mesh.{facing_to, cohesion_across, ByDirection}
use Rattle.scope.specs.Polygon.{Polygon, Side, polygon_sides, polygon_of, Point, half_turn}
use Rattle.scope.specs.Rows.{rows_of, equality_rows, balance_rows, side_rows, jump_rows, strength_pairs}
use Rattle.scope.specs.Rows.{strength_rows, pair_rows, asked, unfixed, Row, Pair, sx, sy, t, count_from, joined, node}
use Rattle.scope.specs.Rows.{rise_across, run_across, twice_area, balance_x, balance_y, step_x, step_y, step_square}
use Rattle.scope.specs.Rows.{normal_row, shear_row, fixed_if, jump_step_x, jump_step_y, agree_row, jump_normal}
use Rattle.scope.specs.Rows.{jump_shear, cross, strength_row, rows_by_sides, rows_by_planes, plane_row, plane_rows}
use Rattle.scope.specs.Sums.{weighted_sum, left_side, right_side}
use Rattle.integer.specs.Members.{◌∈◌}
use Rattle.scope.specs.Meets.{Asks, RowMet, FieldMeets}
use Rattle.scope.specs.PrintedColumns.{less_x, less_y, less_normal, less_shear, less_jump_normal, less_jump_shear}
use Rattle.scope.specs.PrintedColumns.{RowsPrinted}
use Rattle.scope.specs.Printed.{force_x, force_y, deviator, resistance, BalanceXAt, BalanceYAt, NormalAt, ShearAt}
use Rattle.scope.specs.Printed.{NormalAgreesAt, ShearAgreesAt, StrengthAt, MeetsPrinted, FieldPrinted, plane_normal}
use Rattle.scope.specs.Printed.{plane_shear, plane_minus, plane_resistance, PlanePlusAt, PlaneMinusAt}

same_equation : {a b c d : ℤ} → a -ℤ b ≡ c -ℤ d → (a ≡ b) ↔ (c ≡ d)
same_equation {a} {b} {c} {d} e = (
  λ f. ring_from (pos 1) f (sym e ∙ ring (a ∷ b ∷ []) (search terms depth 100) refl),
  λ f. ring_from (pos 1) f (e ∙ ring (c ∷ d ∷ []) (search terms depth 100) refl),
)

same_inequality : {a b c d : ℤ} → a -ℤ b ≡ c -ℤ d → (a ≤ℤ b) ↔ (c ≤ℤ d)
same_inequality {a} {b} {c} {d} e =
    let turned : b -ℤ a ≡ d -ℤ c = ring_from (neg_ℤ (pos 1)) e
    (ring (a ∷ b ∷ c ∷ d ∷ []) (search terms depth 100) refl) in
    (λ f. by_nn (nn_diff f) (sym turned), λ f. by_nn (nn_diff f) turned)

-- a row of an edge asks its equation where the edge fixes it
if_fixed : {B : Type 0} {a b : ℤ} (what fixed : ℤ) → ((a ≡ b) ↔ B)
    → Asks (fixed_if what fixed) a b ↔ ((fixed ≡ what) ⊎ (fixed ≡ pos 3) → B)
unfolding fixed_if
if_fixed {B} {a} {b} what fixed e = go (eq_z fixed what || eq_z fixed (pos 3))
    (either (equalℤ fixed what) (equalℤ fixed (pos 3)))
  where
    go : (is : Bool) → Decides is ((fixed ≡ what) ⊎ (fixed ≡ pos 3))
        → Asks (cond is asked unfixed) a b ↔ ((fixed ≡ what) ⊎ (fixed ≡ pos 3) → B)
    go true d = (λ h k. e.0 h, λ h. e.1 (h (d.holds tt)))
    go false d = (λ h k. absurd (d.passes k), λ h. tt)

-- the body force: a sum L of stresses with l moved to it and n taken out
with_force : (S : ℤ) {L : ℤ} (D F f n l : ℤ) → S ≡ L → S +ℤ D *ℤ f *ℤ l -ℤ neg_ℤ (D *ℤ F) *ℤ n
    ≡ L -ℤ neg_ℤ D *ℤ (n *ℤ F +ℤ l *ℤ f)
with_force S {L} D F f n l e = ring_from (pos 1) e (ring (S ∷ L ∷ D ∷ F ∷ f ∷ n ∷ l ∷ []) (search terms depth 100) refl)

-- a strength row of node v, for any soil's numbers
strength_less : (s : ℕ → ℤ) (l n r p q h C : ℤ) (v : ℕ) (d : Side)
    → left_side s l (strength_row r p q h C v d) -ℤ right_side n (strength_row r p q h C v d)
    ≡ deviator r d h (s (sx v)) (s (sy v)) (s (t v)) -ℤ resistance d p q C n (s (sx v)) (s (sy v))
unfolding strength_row left_side right_side weighted_sum cross
strength_less s l n r p q h C v d =
    ring
    (r ∷ p ∷ q ∷ h ∷ C ∷ n ∷ l ∷ s (sx v) ∷ s (sy v) ∷ s (t v) ∷ d.from.px ∷ d.from.py ∷ d.to.px ∷ d.to.py ∷ [])
    (both_sides (search terms depth 200 fits 100000) (search terms depth 200 fits 100000)) refl

-- a row of the plane with the normal c, for any soil's numbers
plane_less : (s : ℕ → ℤ) (l n r p q ch cv : ℤ) (v : ℕ) (c : Point) (k : ℤ)
    → left_side s l (plane_row r p q ch cv v c k) -ℤ right_side n (plane_row r p q ch cv v c k)
    ≡ p *ℤ plane_normal c (s (sx v)) (s (sy v)) (s (t v)) +ℤ k *ℤ plane_shear c (s (sx v)) (s (sy v)) (s (t v))
    -ℤ plane_resistance r c q ch cv n
unfolding plane_row left_side right_side weighted_sum
plane_less s l n r p q ch cv v c k =
    ring
    (r ∷ p ∷ q ∷ ch ∷ cv ∷ k ∷ n ∷ l ∷ s (sx v) ∷ s (sy v) ∷ s (t v) ∷ c.px ∷ c.py ∷ [])
    (both_sides (search terms depth 200 fits 100000) (search terms depth 200 fits 100000)) refl

minus_times : (a q b c : ℤ) → a +ℤ neg_ℤ q *ℤ b -ℤ c ≡ a -ℤ q *ℤ b -ℤ c
minus_times a q b c = ring (a ∷ q ∷ b ∷ c ∷ []) (search terms depth 100) refl

-- the rows of an element, of an edge, of a jump and of a pair among the rows of the mesh
module _ (m : List ℤ) where
  element_rows : ℕ → List Row
  element_rows e = balance_x m e ∷ balance_y m e ∷ []

  edge_rows : ℕ → List Row
  edge_rows g = normal_row m g (from_node m g) ∷ shear_row m g (from_node m g) ∷ normal_row m g (to_node m g)
      ∷ shear_row m g (to_node m g) ∷ []

  rows_of_jump : ℕ → List Row
  rows_of_jump j = jump_normal m j (jump_from m j) (facing_from m j) ∷ jump_shear m j (jump_from m j) (facing_from m j)
      ∷ jump_normal m j (jump_to m j) (facing_to m j) ∷ jump_shear m j (jump_to m j) (facing_to m j) ∷ []

  of_element_lem : (e : ℕ) {r : Row} → e < elements m → r ∈ element_rows e → r ∈ rows_of m
  unfolding rows_of equality_rows balance_rows element_rows
  of_element_lem e k j =
      Memᴰ.append_left (strength_rows m)
      (Memᴰ.append_left (side_rows m ++ jump_rows m)
      (in_joined element_rows (count_from 0 (elements m)) (in_count 0 (elements m) zero-le (omega arith)) j))

  of_edge_lem : (g : ℕ) {r : Row} → g < edges m → r ∈ edge_rows g → r ∈ rows_of m
  unfolding rows_of equality_rows side_rows edge_rows
  of_edge_lem g k j =
      Memᴰ.append_left (strength_rows m)
      (Memᴰ.append_right (balance_rows m)
      (Memᴰ.append_left (jump_rows m)
      (in_joined edge_rows (count_from 0 (edges m)) (in_count 0 (edges m) zero-le (omega arith)) j)))

  of_jump_lem : (i : ℕ) {r : Row} → i < jumps m → r ∈ rows_of_jump i → r ∈ rows_of m
  unfolding rows_of equality_rows jump_rows rows_of_jump
  of_jump_lem i k j =
      Memᴰ.append_left (strength_rows m)
      (Memᴰ.append_right (balance_rows m)
      (Memᴰ.append_right (side_rows m)
      (in_joined rows_of_jump (count_from 0 (jumps m)) (in_count 0 (jumps m) zero-le (omega arith)) j)))

  of_pair : (a : Pair) {r : Row} → a ∈ strength_pairs m → r ∈ pair_rows (polygon_of (sides m)) m a → r ∈ rows_of m
  unfolding rows_of strength_rows
  of_pair a k j = Memᴰ.append_right (equality_rows m)
      (in_joined (pair_rows (polygon_of (sides m)) m) (strength_pairs m) k j)

module _ (m : List ℤ) (s : ℕ → ℤ) (l n : ℤ) where
  -- ---- left minus right

  row_x : (e : ℕ) → left_side s l (balance_x m e) -ℤ right_side n (balance_x m e) ≡ less_x m s l n e
  unfolding balance_x left_side right_side weighted_sum joined count_from rise_across run_across node
  row_x e =
      let forces : weighted_sum s (balance_x m e).entries ≡ force_x (λ i. x m (corner m e i)) (λ i. y m (corner m e i))
      (λ i. s (sx (corner m e i))) (λ i. s (t (corner m e i))) = simp (+ℤ_assoc, +ℤ_idr) in
      with_force (weighted_sum s (balance_x m e).entries) (twice_area m e) (dead_x m (element_soil m e))
      (live_x m (element_soil m e)) n l forces

  row_y : (e : ℕ) → left_side s l (balance_y m e) -ℤ right_side n (balance_y m e) ≡ less_y m s l n e
  unfolding balance_y left_side right_side weighted_sum joined count_from rise_across run_across node
  row_y e =
      let forces : weighted_sum s (balance_y m e).entries ≡ force_y (λ i. x m (corner m e i)) (λ i. y m (corner m e i))
      (λ i. s (sy (corner m e i))) (λ i. s (t (corner m e i))) = simp (+ℤ_assoc, +ℤ_idr) in
      with_force (weighted_sum s (balance_y m e).entries) (twice_area m e) (dead_y m (element_soil m e))
      (live_y m (element_soil m e)) n l forces

  row_normal : (g v : ℕ) → left_side s l (normal_row m g v) -ℤ right_side n (normal_row m g v) ≡ less_normal m s l n g v
  unfolding normal_row left_side right_side weighted_sum step_square
  row_normal g v = ring
      (step_x m g ∷ step_y m g ∷ s (sx v) ∷ s (sy v) ∷ s (t v) ∷ edge_entry m g 3 ∷ edge_entry m g 5 ∷ n ∷ l ∷ [])
      (search terms depth 100) refl

  row_shear : (g v : ℕ) → left_side s l (shear_row m g v) -ℤ right_side n (shear_row m g v) ≡ less_shear m s l n g v
  unfolding shear_row left_side right_side weighted_sum step_square
  row_shear g v = ring (step_x m g ∷ step_y m g ∷ s (sx v) ∷ s (sy v) ∷ s (t v) ∷ edge_entry m g 4 ∷ edge_entry m g 6
      ∷ n ∷ l ∷ []) (search terms depth 100) refl

  row_jump_normal : (j v f : ℕ) → left_side s l (jump_normal m j v f) -ℤ right_side n (jump_normal m j v f)
      ≡ less_jump_normal m s l n j v f
  unfolding jump_normal agree_row left_side right_side weighted_sum
  row_jump_normal j v f =
      ring (jump_step_x m j ∷ jump_step_y m j ∷ s (sx v) ∷ s (sy v) ∷ s (t v) ∷ s (sx f) ∷ s (sy f) ∷ s (t f) ∷ n ∷ l
      ∷ []) (both_sides (search terms depth 200 fits 100000) (search terms depth 200 fits 100000)) refl

  row_jump_shear : (j v f : ℕ) → left_side s l (jump_shear m j v f) -ℤ right_side n (jump_shear m j v f)
      ≡ less_jump_shear m s l n j v f
  unfolding jump_shear agree_row left_side right_side weighted_sum
  row_jump_shear j v f =
      ring (jump_step_x m j ∷ jump_step_y m j ∷ s (sx v) ∷ s (sy v) ∷ s (t v) ∷ s (sx f) ∷ s (sy f) ∷ s (t f) ∷ n ∷ l
      ∷ []) (both_sides (search terms depth 200 fits 100000) (search terms depth 200 fits 100000)) refl

  row_strength : (r : ℤ) (a : Pair) (d : Side)
      → left_side s l (strength_row r (p m a.soil) (q m a.soil) (h m a.soil) (cohesion m a.soil) a.at d)
      -ℤ right_side n (strength_row r (p m a.soil) (q m a.soil) (h m a.soil) (cohesion m a.soil) a.at d)
      ≡ deviator r d (h m a.soil) (s (sx a.at)) (s (sy a.at)) (s (t a.at)) -ℤ resistance d (p m a.soil) (q m a.soil)
      (cohesion m a.soil) n (s (sx a.at)) (s (sy a.at))
  row_strength r a d = strength_less s l n r (p m a.soil) (q m a.soil) (h m a.soil) (cohesion m a.soil) a.at d

  -- a plane's row pN + kT, for a polygon of radius r
  abbrev row_of : ℤ → Pair → Point → ℤ → Row
  row_of r a v k = plane_row r (p m a.soil) (q m a.soil) (cohesion m a.soil) (cohesion_across m a.soil) a.at v k

  abbrev resists : ℤ → Pair → Point → ℤ
  resists r a v = plane_resistance r v (q m a.soil) (cohesion m a.soil) (cohesion_across m a.soil) n

  row_plane : (r : ℤ) (a : Pair) (v : Point) (k : ℤ)
      → left_side s l (row_of r a v k) -ℤ right_side n (row_of r a v k)
      ≡ p m a.soil *ℤ plane_normal v (s (sx a.at)) (s (sy a.at)) (s (t a.at)) +ℤ k *ℤ plane_shear v (s (sx a.at))
      (s (sy a.at)) (s (t a.at)) -ℤ resists r a v
  row_plane r a v k = plane_less s l n r (p m a.soil) (q m a.soil) (cohesion m a.soil)
      (cohesion_across m a.soil) a.at v k

  row_minus : (r : ℤ) (a : Pair) (v : Point)
      → left_side s l (row_of r a v (neg_ℤ (q m a.soil))) -ℤ right_side n (row_of r a v (neg_ℤ (q m a.soil)))
      ≡ plane_minus v (p m a.soil) (q m a.soil) (s (sx a.at)) (s (sy a.at)) (s (t a.at)) -ℤ resists r a v
  row_minus r a v =
      row_plane r a v (neg_ℤ (q m a.soil))
      ∙ minus_times (p m a.soil *ℤ plane_normal v (s (sx a.at)) (s (sy a.at)) (s (t a.at))) (q m a.soil)
      (plane_shear v (s (sx a.at)) (s (sy a.at)) (s (t a.at))) (resists r a v)

  pub rows_printed : RowsPrinted m s l n
  rows_printed = record {
    balance_x_lem = row_x;
    balance_y_lem = row_y;
    normal = row_normal;
    shear = row_shear;
    jump_normal_lem = row_jump_normal;
    jump_shear_lem = row_jump_shear;
    strength = row_strength (polygon_of (sides m)).radius;
    plane_plus = λ a v. row_plane (polygon_of (sides m)).radius a v (q m a.soil);
    plane_minus = row_minus (polygon_of (sides m)).radius;
  }

  -- ---- what is asked

  pub balance_x_lem : (e : ℕ) → RowMet s l n (balance_x m e) ↔ BalanceXAt m s l n e
  unfolding balance_x
  balance_x_lem e = same_equation (row_x e)

  pub balance_y_lem : (e : ℕ) → RowMet s l n (balance_y m e) ↔ BalanceYAt m s l n e
  unfolding balance_y
  balance_y_lem e = same_equation (row_y e)

  pub normal : (g v : ℕ) → RowMet s l n (normal_row m g v) ↔ NormalAt m s l n g v
  unfolding normal_row
  normal g v = if_fixed (pos 1) (edge_entry m g 2) (same_equation (row_normal g v))

  pub shear : (g v : ℕ) → RowMet s l n (shear_row m g v) ↔ ShearAt m s l n g v
  unfolding shear_row
  shear g v = if_fixed (pos 2) (edge_entry m g 2) (same_equation (row_shear g v))

  pub jump_normal_lem : (j v f : ℕ) → RowMet s l n (jump_normal m j v f) ↔ NormalAgreesAt m s l n j v f
  unfolding jump_normal agree_row
  jump_normal_lem j v f = same_equation (row_jump_normal j v f)

  pub jump_shear_lem : (j v f : ℕ) → RowMet s l n (jump_shear m j v f) ↔ ShearAgreesAt m s l n j v f
  unfolding jump_shear agree_row
  jump_shear_lem j v f = same_equation (row_jump_shear j v f)

  pub strength : (r : ℤ) (a : Pair) (d : Side) → RowMet s l n
      (strength_row r (p m a.soil) (q m a.soil) (h m a.soil) (cohesion m a.soil) a.at d) ↔ StrengthAt m s l n r a d
  unfolding strength_row
  strength r a d = same_inequality (row_strength r a d)

  pub plus_row : (r : ℤ) (a : Pair) (v : Point) → RowMet s l n (row_of r a v (q m a.soil)) ↔ PlanePlusAt m s l n r a v
  unfolding plane_row
  plus_row r a v = same_inequality (row_plane r a v (q m a.soil))

  pub minus_row : (r : ℤ) (a : Pair) (v : Point) → RowMet s l n
      (row_of r a v (neg_ℤ (q m a.soil))) ↔ PlaneMinusAt m s l n r a v
  unfolding plane_row
  minus_row r a v = same_inequality (row_minus r a v)

  -- the rows of a pair by sides, by planes, and by the kind of its soil
  BySides : Polygon → Pair → Type 0
  BySides g a = (d : Side) → d ∈ polygon_sides g.corners → StrengthAt m s l n g.radius a d

  ByPlanes : Polygon → Pair → Type 0
  ByPlanes g a = (v : Point) → v ∈ half_turn g.corners → PlanePlusAt m s l n g.radius a v
      × PlaneMinusAt m s l n g.radius a v

  by_sides : (g : Polygon) (a : Pair) → FieldMeets s l n (rows_by_sides g m a) ↔ BySides g a
  unfolding rows_by_sides BySides
  by_sides g a = (
    λ f d k. (strength g.radius a d).0 (f (row d) (Memᴰ.map row k)),
    λ f. each_map (RowMet s l n) row (polygon_sides g.corners) (λ d k. (strength g.radius a d).1 (f d k)),
  )
    where
      row : Side → Row
      row = strength_row g.radius (p m a.soil) (q m a.soil) (h m a.soil) (cohesion m a.soil) a.at

  by_planes : (g : Polygon) (a : Pair) → FieldMeets s l n (rows_by_planes g m a) ↔ ByPlanes g a
  unfolding rows_by_planes ByPlanes
  by_planes g a = (
    λ f v k. (
      (plus_row g.radius a v).0
          (f (row_of g.radius a v (q m a.soil)) (in_joined rows (half_turn g.corners) k (Memᴰ.head refl))),
      (minus_row g.radius a v).0
          (f (row_of g.radius a v (neg_ℤ (q m a.soil)))
          (in_joined rows (half_turn g.corners) k (Memᴰ.tail (Memᴰ.head refl)))),
    ),
    λ f.
        each_joined (RowMet s l n) rows (half_turn g.corners) (λ v k.
        each_cons (RowMet s l n) ((plus_row g.radius a v).1 (f v k).0)
        (each_cons (RowMet s l n) ((minus_row g.radius a v).1 (f v k).1) (each_nil (RowMet s l n)))),
  )
    where
      rows : Point → List Row
      rows = plane_rows g.radius (p m a.soil) (q m a.soil) (cohesion m a.soil) (cohesion_across m a.soil) a.at

  pair_rows_lem : (g : Polygon) (a : Pair) → FieldMeets s l n (pair_rows g m a) ↔
      ((¬ ByDirection m a.soil → BySides g a) × (ByDirection m a.soil → ByPlanes g a))
  pair_rows_lem g a =
      by_kind g m a (λ rs. FieldMeets s l n rs ↔
      ((¬ ByDirection m a.soil → BySides g a) × (ByDirection m a.soil → ByPlanes g a)))
      (λ e. (
        λ f. (λ no. absurd (no (is_direction m a.soil e)), λ yes. (by_planes g a).0 f),
        λ f. (by_planes g a).1 (f.1 (is_direction m a.soil e)),
      ))
      (λ e. (
        λ f. (λ no. (by_sides g a).0 f, λ yes. absurd (not_direction m a.soil e yes)),
        λ f. (by_sides g a).1 (f.0 (not_direction m a.soil e)),
      ))

  -- ---- the rows of a mesh

  meets_printed : FieldMeets s l n (rows_of m) → MeetsPrinted m s l n
  unfolding element_rows edge_rows rows_of_jump BySides ByPlanes
  meets_printed f = record {
    balance_x_lem = λ e k. (balance_x_lem e).0 (f (balance_x m e) (of_element_lem m e k (Memᴰ.head refl)));
    balance_y_lem = λ e k. (balance_y_lem e).0 (f (balance_y m e) (of_element_lem m e k (Memᴰ.tail (Memᴰ.head refl))));
    normal_from = λ g k. (normal g (from_node m g)).0
        (f (normal_row m g (from_node m g)) (of_edge_lem m g k (Memᴰ.head refl)));
    shear_from = λ g k. (shear g (from_node m g)).0
        (f (shear_row m g (from_node m g)) (of_edge_lem m g k (Memᴰ.tail (Memᴰ.head refl))));
    normal_to = λ g k. (normal g (to_node m g)).0
        (f (normal_row m g (to_node m g)) (of_edge_lem m g k (Memᴰ.tail (Memᴰ.tail (Memᴰ.head refl)))));
    shear_to = λ g k. (shear g (to_node m g)).0
        (f (shear_row m g (to_node m g)) (of_edge_lem m g k (Memᴰ.tail (Memᴰ.tail (Memᴰ.tail (Memᴰ.head refl))))));
    jump_normal_from = λ j k. (jump_normal_lem j (jump_from m j) (facing_from m j)).0
        (f (jump_normal m j (jump_from m j) (facing_from m j)) (of_jump_lem m j k (Memᴰ.head refl)));
    jump_shear_from = λ j k. (jump_shear_lem j (jump_from m j) (facing_from m j)).0
        (f (jump_shear m j (jump_from m j) (facing_from m j)) (of_jump_lem m j k (Memᴰ.tail (Memᴰ.head refl))));
    jump_normal_to = λ j k. (jump_normal_lem j (jump_to m j) (facing_to m j)).0
        (f (jump_normal m j (jump_to m j) (facing_to m j))
        (of_jump_lem m j k (Memᴰ.tail (Memᴰ.tail (Memᴰ.head refl)))));
    jump_shear_to = λ j k. (jump_shear_lem j (jump_to m j) (facing_to m j)).0
        (f (jump_shear m j (jump_to m j) (facing_to m j))
        (of_jump_lem m j k (Memᴰ.tail (Memᴰ.tail (Memᴰ.tail (Memᴰ.head refl))))));
    strength = λ a k. ((pair_rows_lem (polygon_of (sides m)) a).0 (λ r j. f r (of_pair m a k j))).0;
    planes = λ a k. ((pair_rows_lem (polygon_of (sides m)) a).0 (λ r j. f r (of_pair m a k j))).1;
  }

  printed_meets : MeetsPrinted m s l n → FieldMeets s l n (rows_of m)
  unfolding rows_of equality_rows balance_rows side_rows jump_rows strength_rows BySides ByPlanes
  printed_meets f =
      each_++ M
      (each_++ M
      (each_joined M _ (count_from 0 (elements m))
      (λ e j. let k = of_count 0 (elements m) j in each_cons M
      ((balance_x_lem e).1 (f.balance_x_lem e (omega arith)))
      (each_cons M ((balance_y_lem e).1 (f.balance_y_lem e (omega arith))) (each_nil M))))
      (each_++ M
      (each_joined M _ (count_from 0 (edges m)) (λ g j.
      let k : g < edges m = omega (arith, of_count 0 (edges m) j) in
      each_cons M ((normal g (from_node m g)).1 (f.normal_from g k))
      (each_cons M ((shear g (from_node m g)).1 (f.shear_from g k))
      (each_cons M ((normal g (to_node m g)).1 (f.normal_to g k))
      (each_cons M ((shear g (to_node m g)).1 (f.shear_to g k)) (each_nil M))))))
      (each_joined M _ (count_from 0 (jumps m)) (λ j i.
      let k : j < jumps m = omega (arith, of_count 0 (jumps m) i) in
      each_cons M ((jump_normal_lem j (jump_from m j) (facing_from m j)).1 (f.jump_normal_from j k))
      (each_cons M ((jump_shear_lem j (jump_from m j) (facing_from m j)).1 (f.jump_shear_from j k))
      (each_cons M ((jump_normal_lem j (jump_to m j) (facing_to m j)).1 (f.jump_normal_to j k))
      (each_cons M ((jump_shear_lem j (jump_to m j) (facing_to m j)).1 (f.jump_shear_to j k)) (each_nil M))))))))
      (each_joined M _ (strength_pairs m)
      (λ a j. (pair_rows_lem (polygon_of (sides m)) a).1 (f.strength a j, f.planes a j)))
    where
      M : Row → Type 0
      M = RowMet s l n

  pub field-printed : FieldPrinted m s l n
  field-printed = (meets_printed, printed_meets)
