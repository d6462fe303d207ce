-- The columns (document 01, 'Rows', Columns) from the rows as it prints them, with l and n on the side where it has
-- them; and what accepted multipliers are in these terms.
-- Multipliers w are numbered as the rows are; a field is its stresses s by column, with l and n.
use Rattle.std.specs.Prelude.{◌≡◌, ◌↔◌, List, ℕ, zero, suc, ◌+◌, ◌*◌, ◌<◌, ℤ, pos, ◌+ℤ◌, ◌-ℤ◌, ◌*ℤ◌, neg_ℤ, ◌<ℤ◌}
use Rattle.std.specs.Prelude.{cond, ◌/◌}
use Rattle.scope.specs.Mesh.{nodes, elements, edges, sides, jumps, p, q, h, cohesion, dead_x, dead_y, live_x, live_y}
use Rattle.scope.specs.Mesh.{x, y, corner, element_soil, edge_entry, from_node, to_node, jump_from, jump_to}
use Rattle.scope.specs.Mesh.{facing_from, facing_to, cohesion_across, by_direction}
use Rattle.scope.specs.Polygon.{Side, polygon_of, Point}
use Rattle.scope.specs.Rows.{sx, sy, t, twice_area, step_x, step_y, jump_step_x, jump_step_y, Pair, pair_count}
use Rattle.scope.specs.Rows.{pair_at, balance_x, balance_y, normal_row, shear_row, jump_normal, jump_shear}
use Rattle.scope.specs.Rows.{equality_rows, rows_of}
use Rattle.scope.specs.Statements.{MeetsColumns}
use Rattle.scope.specs.Sums.{left_side, right_side, unit, column_sum, live_sum, limit_sum}
use Rattle.scope.specs.RowNumbers.{side_row, direction_row}
use Rattle.scope.specs.Printed.{force_x, force_y, body_force, normal_force, shear_force, edge_force, FixesNormal}
use Rattle.scope.specs.Printed.{FixesShear, deviator, resistance, plane_plus, plane_minus, plane_resistance, nth_corner}
use Rattle.scope.specs.Printed.{nth_side}

-- ---- a printed row in a field: its left side minus its right side

module _ (m : List ℤ) (s : ℕ → ℤ) (l n : ℤ) where
  abbrev pub less_x : ℕ → ℤ
  less_x e =
      force_x (λ i. x m (corner m e i)) (λ i. y m (corner m e i)) (λ i. s (sx (corner m e i)))
      (λ i. s (t (corner m e i)))
      -ℤ body_force (twice_area m e) (dead_x m (element_soil m e)) (live_x m (element_soil m e)) n l

  abbrev pub less_y : ℕ → ℤ
  less_y e =
      force_y (λ i. x m (corner m e i)) (λ i. y m (corner m e i)) (λ i. s (sy (corner m e i)))
      (λ i. s (t (corner m e i)))
      -ℤ body_force (twice_area m e) (dead_y m (element_soil m e)) (live_y m (element_soil m e)) n l

  abbrev pub less_normal : ℕ → ℕ → ℤ
  less_normal g v = normal_force (step_x m g) (step_y m g) (s (sx v)) (s (sy v)) (s (t v))
      -ℤ edge_force (step_x m g) (step_y m g) (edge_entry m g 3) (edge_entry m g 5) n l

  abbrev pub less_shear : ℕ → ℕ → ℤ
  less_shear g v = shear_force (step_x m g) (step_y m g) (s (sx v)) (s (sy v)) (s (t v))
      -ℤ edge_force (step_x m g) (step_y m g) (edge_entry m g 4) (edge_entry m g 6) n l

  -- "first node's minus the facing one's"
  abbrev pub less_jump_normal : ℕ → ℕ → ℕ → ℤ
  less_jump_normal j v f =
      normal_force (jump_step_x m j) (jump_step_y m j) (s (sx v)) (s (sy v)) (s (t v))
      -ℤ normal_force (jump_step_x m j) (jump_step_y m j) (s (sx f)) (s (sy f)) (s (t f))

  abbrev pub less_jump_shear : ℕ → ℕ → ℕ → ℤ
  less_jump_shear j v f =
      shear_force (jump_step_x m j) (jump_step_y m j) (s (sx v)) (s (sy v)) (s (t v))
      -ℤ shear_force (jump_step_x m j) (jump_step_y m j) (s (sx f)) (s (sy f)) (s (t f))

  abbrev pub less_strength : Pair → Side → ℤ
  less_strength a d =
      deviator (polygon_of (sides m)).radius d (h m a.soil) (s (sx a.at)) (s (sy a.at)) (s (t a.at))
      -ℤ resistance d (p m a.soil) (q m a.soil) (cohesion m a.soil) n (s (sx a.at)) (s (sy a.at))

  abbrev pub less_plus : Pair → Point → ℤ
  less_plus a v =
      plane_plus v (p m a.soil) (q m a.soil) (s (sx a.at)) (s (sy a.at)) (s (t a.at))
      -ℤ plane_resistance (polygon_of (sides m)).radius v (q m a.soil) (cohesion m a.soil)
      (cohesion_across m a.soil) n

  abbrev pub less_minus : Pair → Point → ℤ
  less_minus a v =
      plane_minus v (p m a.soil) (q m a.soil) (s (sx a.at)) (s (sy a.at)) (s (t a.at))
      -ℤ plane_resistance (polygon_of (sides m)).radius v (q m a.soil) (cohesion m a.soil)
      (cohesion_across m a.soil) n

  -- each row's data is the printed row itself, and no multiple of it: left minus right is the same in every field
  pub record RowsPrinted : Type 0 where
    pub balance_x_lem : (e : ℕ) → left_side s l (balance_x m e) -ℤ right_side n (balance_x m e) ≡ less_x e
    pub balance_y_lem : (e : ℕ) → left_side s l (balance_y m e) -ℤ right_side n (balance_y m e) ≡ less_y e
    pub normal : (g v : ℕ) → left_side s l (normal_row m g v) -ℤ right_side n (normal_row m g v) ≡ less_normal g v
    pub shear : (g v : ℕ) → left_side s l (shear_row m g v) -ℤ right_side n (shear_row m g v) ≡ less_shear g v
    pub jump_normal_lem : (j v f : ℕ)
        → left_side s l (jump_normal m j v f) -ℤ right_side n (jump_normal m j v f) ≡ less_jump_normal j v f
    pub jump_shear_lem : (j v f : ℕ)
        → left_side s l (jump_shear m j v f) -ℤ right_side n (jump_shear m j v f) ≡ less_jump_shear j v f
    pub strength : (a : Pair) (d : Side)
        → left_side s l (side_row m a d) -ℤ right_side n (side_row m a d) ≡ less_strength a d
    pub plane_plus : (a : Pair) (v : Point)
        → left_side s l (direction_row m a v (q m a.soil)) -ℤ right_side n (direction_row m a v (q m a.soil))
        ≡ less_plus a v
    pub plane_minus : (a : Pair) (v : Point)
        → left_side s l (direction_row m a v (neg_ℤ (q m a.soil)))
        -ℤ right_side n (direction_row m a v (neg_ℤ (q m a.soil)))
        ≡ less_minus a v

-- ---- the columns

-- f 0 + f 1 + .. + f (n - 1)
unfoldable pub sum_below : (ℕ → ℤ) → ℕ → ℤ
sum_below f zero = pos 0
sum_below f (suc n) = sum_below f n +ℤ f n

-- "for each element 2, for each edge 4 ..; then for each node a line of as many as there are sides", by pairs
-- (document 02, N2); "for each jump a line of four multipliers .. after the edge lines" (N6)
module _ (m : List ℤ) (w : ℕ → ℤ) where
  abbrev pub of_element : ℕ → ℕ → ℤ
  of_element e i = w (e * 2 + i)

  abbrev pub of_edge : ℕ → ℕ → ℤ
  of_edge g i = w (elements m * 2 + (g * 4 + i))

  abbrev pub of_jump : ℕ → ℕ → ℤ
  of_jump j i = w (elements m * 2 + edges m * 4 + (j * 4 + i))

  abbrev pub of_pair : ℕ → ℕ → ℤ
  of_pair a k = w (elements m * 2 + edges m * 4 + jumps m * 4 + (a * sides m + k))

  -- multiplier times left minus right over the rows of a pair: side by side; for a soil by direction corner by corner
  -- of the first half turn
  unfoldable pub weighed_sides : (ℕ → ℤ) → ℤ → ℤ → ℕ → ℤ
  weighed_sides s l n a =
      sum_below (λ k. of_pair a k *ℤ less_strength m s l n (pair_at m a) (nth_side m k)) (sides m)

  unfoldable pub weighed_planes : (ℕ → ℤ) → ℤ → ℤ → ℕ → ℤ
  weighed_planes s l n a =
      sum_below
      (λ j.
      of_pair a (2 * j) *ℤ less_plus m s l n (pair_at m a) (nth_corner m j)
      +ℤ of_pair a (2 * j + 1) *ℤ less_minus m s l n (pair_at m a) (nth_corner m j))
      (sides m / 2)

  unfoldable pub weighed_pair : (ℕ → ℤ) → ℤ → ℤ → ℕ → ℤ
  weighed_pair s l n a =
      cond (by_direction m (pair_at m a).soil) (weighed_planes s l n a) (weighed_sides s l n a)

  -- multiplier times left minus right, summed over all rows: elements, edges, jumps, pairs
  unfoldable pub weighed_rows : (ℕ → ℤ) → ℤ → ℤ → ℤ
  weighed_rows s l n =
      sum_below (λ e. of_element e 0 *ℤ less_x m s l n e +ℤ of_element e 1 *ℤ less_y m s l n e) (elements m)
      +ℤ sum_below
      (λ g.
      of_edge g 0 *ℤ less_normal m s l n g (from_node m g)
      +ℤ of_edge g 1 *ℤ less_shear m s l n g (from_node m g)
      +ℤ of_edge g 2 *ℤ less_normal m s l n g (to_node m g)
      +ℤ of_edge g 3 *ℤ less_shear m s l n g (to_node m g))
      (edges m)
      +ℤ sum_below
      (λ j.
      of_jump j 0 *ℤ less_jump_normal m s l n j (jump_from m j) (facing_from m j)
      +ℤ of_jump j 1 *ℤ less_jump_shear m s l n j (jump_from m j) (facing_from m j)
      +ℤ of_jump j 2 *ℤ less_jump_normal m s l n j (jump_to m j) (facing_to m j)
      +ℤ of_jump j 3 *ℤ less_jump_shear m s l n j (jump_to m j) (facing_to m j))
      (jumps m)
      +ℤ sum_below (weighed_pair s l n) (pair_count m)

  -- "For each node and stress, multiplier times coefficient, summed over all rows": a row's coefficient is left minus
  -- right where this stress is 1 and all else is 0
  abbrev pub printed_column : ℕ → ℤ
  printed_column j = weighed_rows (unit j) (pos 0) (pos 0)

  -- "For l that sum is m"
  abbrev pub printed_live : ℤ
  printed_live = weighed_rows (λ j. pos 0) (pos 1) (pos 0)

  -- "W is multiplier times right side, summed over all rows", "set n = 1 to read its right side"
  abbrev pub printed_limit : ℤ
  printed_limit = neg_ℤ (weighed_rows (λ j. pos 0) (pos 0) (pos 1))

  -- the sums that are defined over the rows' data are these
  pub record ColumnsPrinted : Type 0 where
    pub column : (j : ℕ) → column_sum w (rows_of m) j ≡ printed_column j
    pub live : live_sum w (rows_of m) ≡ printed_live
    pub limit : limit_sum w (rows_of m) ≡ printed_limit

  -- what document 01 asks of multipliers: none on an unfixed row, for each node and stress a sum of 0, and m above 0
  pub record MultipliersPrinted : Type 0 where
    pub normal_unfixed : (g : ℕ) → g < edges m → ¬ FixesNormal (edge_entry m g 2)
        → (of_edge g 0 ≡ pos 0) × (of_edge g 2 ≡ pos 0)
    pub shear_unfixed : (g : ℕ) → g < edges m → ¬ FixesShear (edge_entry m g 2)
        → (of_edge g 1 ≡ pos 0) × (of_edge g 3 ≡ pos 0)
    pub columns : (v : ℕ) → v < nodes m
        → (printed_column (sx v) ≡ pos 0) × (printed_column (sy v) ≡ pos 0) × (printed_column (t v) ≡ pos 0)
    pub live : pos 0 <ℤ printed_live

  -- they meet the columns of the rows' data exactly when they meet these
  abbrev pub ColumnsAndPrinted : Type 0
  ColumnsAndPrinted = MeetsColumns (equality_rows m) (rows_of m) (3 * nodes m) w ↔ MultipliersPrinted
