-- The rows (document 01, 'Rows'), as data: "Move every stress and l to the left of each row, strength rows included;
-- set n = 1 to read its right side".
-- A stress has a column: "columns are numbered node by node: sx, sy, t", from 0 here.
use Rattle.std.specs.Prelude.{Bool, true, false, cond, ◌&&◌, ◌||◌, List, [], ◌∷◌, ◌++◌, map, ℕ, zero, suc, ◌+◌, ◌*◌}
use Rattle.std.specs.Prelude.{◌%◌, ℤ, pos, ◌+ℤ◌, ◌-ℤ◌, ◌*ℤ◌, neg_ℤ, eqb, length, get_or}
use Rattle.integer.specs.Tests.{eq_z}
use Rattle.scope.specs.Checks.{some_below}
use Rattle.scope.specs.Mesh.{nodes, elements, soils, edges, sides, jumps, p, q, h, cohesion, cohesion_across}
use Rattle.scope.specs.Mesh.{by_direction, dead_x, dead_y, live_x, live_y, x, y, corner, element_soil, edge_entry}
use Rattle.scope.specs.Mesh.{from_node, to_node, jump_from, jump_to, facing_from, facing_to}
use Rattle.scope.specs.Polygon.{Point, Side, Polygon, polygon_sides, half_turn, polygon_of}

-- ---- what a row is

-- an equality that is asked, an equality that is unfixed ("keeps its number and asks nothing"), or a strength row
pub data Kind : Type 0 where
  asked : Kind
  unfixed : Kind
  strength : Kind

-- coefficients with their columns, the coefficient of l on the left, and the right side at n = 1
pub record Row : Type 0 where
  pub kind : Kind
  pub entries : List (ℤ × ℕ)
  pub live : ℤ
  pub right : ℤ

-- the columns of node v's stresses
unfoldable pub sx : ℕ → ℕ
sx v = 3 * v

unfoldable pub sy : ℕ → ℕ
sy v = 3 * v + 1

unfoldable pub t : ℕ → ℕ
t v = 3 * v + 2

-- the numbers k, k + 1, .., k + n - 1
unfoldable pub count_from : ℕ → ℕ → List ℕ
count_from k zero = []
count_from k (suc n) = k ∷ count_from (suc k) n

-- the lists of f at each element, joined
unfoldable pub joined : {A B : Type 0} → (A → List B) → List A → List B
joined f [] = []
joined f (a ∷ rest) = f a ++ joined f rest

-- ---- balance (003, eq. 9, doubled; the body force's sign by 001, eq. 1)

-- the node at corner i of element e; corner 4 is corner 0 again
unfoldable pub node : List ℤ → ℕ → ℕ → ℕ
node m e i = corner m e (i % 4)

-- "neighbours i+1 and i-1 around it": y[i+1] - y[i-1] and x[i-1] - x[i+1]
unfoldable pub rise_across : List ℤ → ℕ → ℕ → ℤ
rise_across m e i = y m (node m e (i + 1)) -ℤ y m (node m e (i + 3))

unfoldable pub run_across : List ℤ → ℕ → ℕ → ℤ
run_across m e i = x m (node m e (i + 3)) -ℤ x m (node m e (i + 1))

-- x[i]·y[i+1] - x[i+1]·y[i]
unfoldable pub cross_at : List ℤ → ℕ → ℕ → ℤ
cross_at m e i = x m (node m e i) *ℤ y m (node m e (i + 1)) -ℤ x m (node m e (i + 1)) *ℤ y m (node m e i)

-- "D twice its area"
unfoldable pub twice_area : List ℤ → ℕ → ℤ
twice_area m e = cross_at m e 0 +ℤ cross_at m e 1 +ℤ cross_at m e 2 +ℤ cross_at m e 3

-- "sum of (y[i+1]-y[i-1])·sx[i] + (x[i-1]-x[i+1])·t[i] = -D·(n·Fx + l·fx)"
unfoldable pub balance_x : List ℤ → ℕ → Row
balance_x m e = record {
  kind = asked;
  entries = joined (λ i. (rise_across m e i, sx (node m e i)) ∷ (run_across m e i, t (node m e i)) ∷ [])
      (count_from 0 4);
  live = twice_area m e *ℤ live_x m (element_soil m e);
  right = neg_ℤ (twice_area m e *ℤ dead_x m (element_soil m e));
}

-- "sum of (x[i-1]-x[i+1])·sy[i] + (y[i+1]-y[i-1])·t[i] = -D·(n·Fy + l·fy)"
unfoldable pub balance_y : List ℤ → ℕ → Row
balance_y m e = record {
  kind = asked;
  entries = joined (λ i. (run_across m e i, sy (node m e i)) ∷ (rise_across m e i, t (node m e i)) ∷ [])
      (count_from 0 4);
  live = twice_area m e *ℤ live_y m (element_soil m e);
  right = neg_ℤ (twice_area m e *ℤ dead_y m (element_soil m e));
}

-- rows 2e-1 and 2e of element e, counted from 1
unfoldable pub balance_rows : List ℤ → List Row
balance_rows m = joined (λ e. balance_x m e ∷ balance_y m e ∷ []) (count_from 0 (elements m))

-- ---- sides (001, 2.4)

-- "Edge step (u, w) from its from-node to its to-node"
unfoldable pub step_x : List ℤ → ℕ → ℤ
step_x m g = x m (to_node m g) -ℤ x m (from_node m g)

unfoldable pub step_y : List ℤ → ℕ → ℤ
step_y m g = y m (to_node m g) -ℤ y m (from_node m g)

-- u² + w²
unfoldable pub step_square : List ℤ → ℕ → ℤ
step_square m g = step_x m g *ℤ step_x m g +ℤ step_y m g *ℤ step_y m g

-- "what is fixed (1 normal, 2 shear, 3 both)"
unfoldable pub fixed_if : ℤ → ℤ → Kind
fixed_if what fixed = cond (eq_z fixed what || eq_z fixed (pos 3)) asked unfixed

-- the normal expression at node v of a side with the step (u, w): "w²·sx - 2uw·t + u²·sy"
abbrev pub normal_entries : ℤ → ℤ → ℕ → List (ℤ × ℕ)
normal_entries u w v = (w *ℤ w, sx v) ∷ (neg_ℤ (pos 2 *ℤ u *ℤ w), t v) ∷ (u *ℤ u, sy v) ∷ []

-- the shear expression: "uw·(sx-sy) + (w²-u²)·t"
abbrev pub shear_entries : ℤ → ℤ → ℕ → List (ℤ × ℕ)
shear_entries u w v = (u *ℤ w, sx v) ∷ (neg_ℤ (u *ℤ w), sy v) ∷ (w *ℤ w -ℤ u *ℤ u, t v) ∷ []

-- "normal: w²·sx - 2uw·t + u²·sy = (u²+w²)·(n·dead + l·live)" at node v
unfoldable pub normal_row : List ℤ → ℕ → ℕ → Row
normal_row m g v = record {
  kind = fixed_if (pos 1) (edge_entry m g 2);
  entries = normal_entries (step_x m g) (step_y m g) v;
  live = neg_ℤ (step_square m g *ℤ edge_entry m g 5);
  right = step_square m g *ℤ edge_entry m g 3;
}

-- "shear: uw·(sx-sy) + (w²-u²)·t = (u²+w²)·(n·dead + l·live)" at node v
unfoldable pub shear_row : List ℤ → ℕ → ℕ → Row
shear_row m g v = record {
  kind = fixed_if (pos 2) (edge_entry m g 2);
  entries = shear_entries (step_x m g) (step_y m g) v;
  live = neg_ℤ (step_square m g *ℤ edge_entry m g 6);
  right = step_square m g *ℤ edge_entry m g 4;
}

-- "The four rows of an edge follow the balance rows: normal and shear at from, then at to"
unfoldable pub side_rows : List ℤ → List Row
side_rows m =
    joined
    (λ g.
    normal_row m g (from_node m g)
    ∷ shear_row m g (from_node m g)
    ∷ normal_row m g (to_node m g)
    ∷ shear_row m g (to_node m g)
    ∷ [])
    (count_from 0 (edges m))

-- ---- jumps (001, 2.3; document 02, N6)

-- "the step from from to to"
unfoldable pub jump_step_x : List ℤ → ℕ → ℤ
jump_step_x m j = x m (jump_to m j) -ℤ x m (jump_from m j)

unfoldable pub jump_step_y : List ℤ → ℕ → ℤ
jump_step_y m j = y m (jump_to m j) -ℤ y m (jump_from m j)

-- minus an expression
abbrev pub minus : List (ℤ × ℕ) → List (ℤ × ℕ)
minus [] = []
minus (e ∷ rest) = (neg_ℤ e.0, e.1) ∷ minus rest

-- "first node's minus the facing one's, right side 0": a row without load, never unfixed
unfoldable pub agree_row : List (ℤ × ℕ) → List (ℤ × ℕ) → Row
agree_row first facing = record { kind = asked; entries = first ++ minus facing; live = pos 0; right = pos 0 }

-- "the normal expression of document 01, with the step from from to to, is equal on both nodes, and the shear
-- likewise", at a node v and the one that faces it
unfoldable pub jump_normal : List ℤ → ℕ → ℕ → ℕ → Row
jump_normal m j v facing =
    agree_row (normal_entries (jump_step_x m j) (jump_step_y m j) v)
    (normal_entries (jump_step_x m j) (jump_step_y m j) facing)

unfoldable pub jump_shear : List ℤ → ℕ → ℕ → ℕ → Row
jump_shear m j v facing =
    agree_row (shear_entries (jump_step_x m j) (jump_step_y m j) v)
    (shear_entries (jump_step_x m j) (jump_step_y m j) facing)

-- "four rows after the edge rows, in an edge's order": normal and shear at from, then at to
unfoldable pub jump_rows : List ℤ → List Row
jump_rows m =
    joined
    (λ j.
    jump_normal m j (jump_from m j) (facing_from m j)
    ∷ jump_shear m j (jump_from m j) (facing_from m j)
    ∷ jump_normal m j (jump_to m j) (facing_to m j)
    ∷ jump_shear m j (jump_to m j) (facing_to m j)
    ∷ [])
    (count_from 0 (jumps m))

-- ---- strength (001, eq. 12 to 17, polygon inside the circle)

-- the lowest k below n at which f holds, or n where there is none
unfoldable pub first_where : (ℕ → Bool) → ℕ → ℕ
first_where f zero = 0
first_where f (suc n) =
    let k : ℕ = first_where f n in
    elim (eqb k n) [ true ↦ cond (f n) n (suc n) | false ↦ k ]

unfoldable pub has_corner : List ℤ → ℕ → ℕ → Bool
has_corner m v e = eqb (corner m e 0) v || eqb (corner m e 1) v || eqb (corner m e 2) v || eqb (corner m e 3) v

-- s is the soil of an element that has node v as a corner
unfoldable pub has_soil : List ℤ → ℕ → ℕ → Bool
has_soil m v s = some_below (λ e. has_corner m v e && eqb (element_soil m e) s) (elements m)

-- the numbers below n that pass a test, ascending
unfoldable pub passing : (ℕ → Bool) → ℕ → List ℕ
passing f zero = []
passing f (suc n) = passing f n ++ cond (f n) (n ∷ []) []

-- a node, and a soil whose strength it has
pub record Pair : Type 0 where
  pub at : ℕ
  pub soil : ℕ

-- "a node has strength rows for each soil of the elements around it, soils ascending" (document 02, N2)
unfoldable pub node_pairs : List ℤ → ℕ → List Pair
node_pairs m v = map (λ s. record { at = v; soil = s }) (passing (has_soil m v) (soils m))

-- the pairs of the nodes below k
unfoldable pub pairs_below : List ℤ → ℕ → List Pair
pairs_below m zero = []
pairs_below m (suc k) = pairs_below m k ++ node_pairs m k

-- "node-and-soil pairs in that order"
unfoldable pub strength_pairs : List ℤ → List Pair
strength_pairs m = pairs_below m (nodes m)

unfoldable pub pair_count : List ℤ → ℕ
pair_count m = length (strength_pairs m)

-- pair a, counted from 0
unfoldable pub pair_at : List ℤ → ℕ → Pair
pair_at m a = get_or (strength_pairs m) a (record { at = 0; soil = 0 })

-- ad - bc
unfoldable pub cross : Point → Point → ℤ
cross v w = v.px *ℤ w.py -ℤ v.py *ℤ w.px

-- "r·h·[(d-b)(sx-sy) - 2(c-a)t] ≤ (ad-bc)·[2qCn - p(sx+sy)]", for side (a, b) to (c, d) of a polygon of radius r
unfoldable pub strength_row : ℤ → ℤ → ℤ → ℤ → ℤ → ℕ → Side → Row
strength_row r p q h C v s =
    let rise : ℤ = r *ℤ h *ℤ (s.to.py -ℤ s.from.py) in
    let run : ℤ = r *ℤ h *ℤ (s.to.px -ℤ s.from.px) in
    let k : ℤ = cross s.from s.to in
    record {
      kind = strength;
      entries =
          (rise +ℤ k *ℤ p, sx v)
          ∷ (k *ℤ p -ℤ rise, sy v)
          ∷ (neg_ℤ (pos 2 *ℤ run), t v)
          ∷ [];
      live = pos 0;
      right = k *ℤ (pos 2 *ℤ q *ℤ C);
    }

-- ---- strength by direction (000, eq. 5 to 10; document 02, N14), on the plane with the normal (a, b)/r

-- "With N = a²sx + 2abt + b²sy and T = ab(sy-sx) + (a²-b²)t .. pN + qT, then pN - qT, each ≤ q·n·(r²·ch + (cv-ch)·a²)":
-- pN + kT, where k is q or -q
unfoldable pub plane_row : ℤ → ℤ → ℤ → ℤ → ℤ → ℕ → Point → ℤ → Row
plane_row r p q ch cv v c k =
    let aa : ℤ = c.px *ℤ c.px in
    let ab : ℤ = c.px *ℤ c.py in
    let bb : ℤ = c.py *ℤ c.py in
    record {
      kind = strength;
      entries =
          (p *ℤ aa -ℤ k *ℤ ab, sx v)
          ∷ (p *ℤ bb +ℤ k *ℤ ab, sy v)
          ∷ (p *ℤ (pos 2 *ℤ ab) +ℤ k *ℤ (aa -ℤ bb), t v)
          ∷ [];
      live = pos 0;
      right = q *ℤ (r *ℤ r *ℤ ch +ℤ (cv -ℤ ch) *ℤ aa);
    }

-- a corner's two rows: "pN + qT, then pN - qT"
abbrev pub plane_rows : ℤ → ℤ → ℤ → ℤ → ℤ → ℕ → Point → List Row
plane_rows r p q ch cv v c = plane_row r p q ch cv v c q ∷ plane_row r p q ch cv v c (neg_ℤ q) ∷ []

-- ---- the strength rows of a mesh

-- the rows of one pair, side by side; those of a soil by direction, "corner by corner" of the first half turn
unfoldable pub rows_by_sides : Polygon → List ℤ → Pair → List Row
rows_by_sides g m a =
    map
    (strength_row g.radius (p m a.soil) (q m a.soil) (h m a.soil) (cohesion m a.soil) a.at)
    (polygon_sides g.corners)

unfoldable pub rows_by_planes : Polygon → List ℤ → Pair → List Row
rows_by_planes g m a =
    joined
    (plane_rows g.radius (p m a.soil) (q m a.soil) (cohesion m a.soil) (cohesion_across m a.soil) a.at)
    (half_turn g.corners)

-- by the kind of its soil: "0 as before, 1 by direction"
unfoldable pub pair_rows : Polygon → List ℤ → Pair → List Row
pair_rows g m a = cond (by_direction m a.soil) (rows_by_planes g m a) (rows_by_sides g m a)

-- "Its number is (node-1)·sides + k", by pairs: "Strength rows and multiplier lines are numbered by node-and-soil
-- pairs in that order"
unfoldable pub strength_rows : List ℤ → List Row
strength_rows m = joined (pair_rows (polygon_of (sides m)) m) (strength_pairs m)

-- ---- all rows

-- the equality rows: balance rows, then side rows, then jump rows
unfoldable pub equality_rows : List ℤ → List Row
equality_rows m = balance_rows m ++ (side_rows m ++ jump_rows m)

unfoldable pub rows_of : List ℤ → List Row
rows_of m = equality_rows m ++ strength_rows m
