-- The columns of the printed rows are those of the rows' data: both sums run over the rows by number, and each row's
-- left minus right is the printed one.
use mathlib.Core.Path.{◌≡◌, refl, sym, ◌∙◌, ap, ap₂}
use mathlib.Core.Logic.{◌↔◌, ◌⊎◌, inl, inr}
use mathlib.Core.Bool.{Bool, true, false, cond, ◌||◌}
use mathlib.Core.List.{List, [], ◌∷◌}
use Prim.Native.Nat.{ℕ, zero, suc, ◌+◌, ◌*◌, ◌/◌, ◌%◌, ◌<◌}
use native.Mathlib.Nat.{zero-mul, suc-mul, div-add-mod', mod-lt}
use native.Mathlib.Omega.{arith}
use lib.IntN.{ℤ, pos, negsuc, ◌+ℤ◌, ◌-ℤ◌, ◌*ℤ◌, neg_ℤ, +ℤ_idl}
use lib.ListN.{length}
use Rattle.integer.proofs.Ring.{ring, terms}
use Rattle.integer.specs.Tests.{eq_z}
use Rattle.scope.specs.Mesh.{nodes, elements, edges, sides, jumps, edge_entry, from_node, to_node, jump_from, jump_to}
use Rattle.scope.specs.Mesh.{facing_from, facing_to, by_direction}
use Rattle.scope.specs.Polygon.{polygon_of, SidesListed}
use Rattle.scope.specs.Rows.{asked, unfixed, strength, Row, sx, sy, t, pair_count, pair_at, balance_x, balance_y}
use Rattle.scope.specs.Rows.{normal_row, shear_row, fixed_if, agree_row, jump_normal, jump_shear, equality_rows}
use Rattle.scope.specs.Rows.{rows_of, strength_rows}
use Rattle.scope.specs.Sums.{weighted_sum, left_side, right_side, weighed, unit, coefficient, column_sum, live_sum}
use Rattle.scope.specs.Sums.{limit_sum}
use Rattle.scope.specs.Statements.{NoneOnUnfixed}
use Rattle.scope.specs.RowNumbers.{side_at, corner_at}
use Rattle.scope.specs.Printed.{FixesNormal, FixesShear, nth_corner}
use Rattle.scope.specs.PrintedColumns.{less_x, less_y, less_normal, less_shear, less_jump_normal, less_jump_shear}
use Rattle.scope.specs.PrintedColumns.{less_strength}
use Rattle.scope.specs.PrintedColumns.{sum_below, of_element, of_edge, of_jump, of_pair, weighed_rows, ColumnsPrinted}
use Rattle.scope.specs.PrintedColumns.{ColumnsAndPrinted, MultipliersPrinted, less_plus, less_minus, weighed_sides}
use Rattle.scope.specs.PrintedColumns.{weighed_planes, weighed_pair}
use Rattle.scope.proofs.Decides.{Decides, either, equalℤ}
use Rattle.scope.proofs.SumBelow.{sum_below_cong, sum_below_front, sum_below_add}
use Rattle.scope.proofs.Weighted.{weighted_same, weighted_zero, weighted_multiple}
use Rattle.scope.proofs.Printed.{rows_printed}
use Rattle.scope.proofs.RowCounts.{equality_count_lem}
use Rattle.scope.proofs.SideCorners.{corner_is, side_is}
use Rattle.scope.proofs.RowNumbers.{element_rows, edge_rows, rows_of_jump, balance_at, side_at_lem, jump_at}
use Rattle.scope.proofs.RowNumbers.{equality_among, strength_among, strength_at, row_count, even_sides, plus_at}
use Rattle.scope.proofs.RowNumbers.{minus_at, InElementRows, InEdge, InJump, which_row}
use Rattle.scope.specs.Tests.{row_at}

-- ---- sums below a number, in pieces

-- n pieces of b terms
sum_pieces : (f : ℕ → ℤ) (b n : ℕ) → sum_below f (n * b) ≡ sum_below (λ i. sum_below (λ j. f (i * b + j)) b) n
unfolding sum_below
sum_pieces f b zero = ap (sum_below f) (zero-mul b)
sum_pieces f b (suc n) =
    ap (sum_below f) (suc-mul n b)
    ∙ sum_below_add f (n * b) b
    ∙ ap (λ z. z +ℤ sum_below (λ j. f (n * b + j)) b) (sum_pieces f b n)

-- a sum of four terms
sum_four : {a b c d p q r s : ℤ} → a ≡ p → b ≡ q → c ≡ r → d ≡ s → pos 0 +ℤ a +ℤ b +ℤ c +ℤ d ≡ p +ℤ q +ℤ r +ℤ s
sum_four {p = p} {q} {r} {s} e f g h =
    ap₂ (λ x y. x +ℤ y) (ap₂ (λ x y. x +ℤ y) (ap₂ (λ x y. pos 0 +ℤ x +ℤ y) e f) g) h
    ∙ ap (λ z. z +ℤ q +ℤ r +ℤ s) (+ℤ_idl p)

-- rows with their multipliers, by number
by_number : (f : Row → ℤ) (w : ℕ → ℤ) (rs : List Row) → weighted_sum f (weighed w rs)
    ≡ sum_below (λ k. w k *ℤ f (row_at rs k)) (length rs)
unfolding weighted_sum weighed sum_below row_at
by_number f w [] = refl
by_number f w (r ∷ rs) =
    ap (λ z. w 0 *ℤ f r +ℤ z) (by_number f (λ k. w (suc k)) rs)
    ∙ sym (sum_below_front (λ k. w k *ℤ f (row_at (r ∷ rs) k)) (length rs))

-- ---- the rows of a mesh

module _ (m : List ℤ) (listed : SidesListed (sides m)) (w : ℕ → ℤ) (s : ℕ → ℤ) (l n : ℤ) where
  less : Row → ℤ
  less r = left_side s l r -ℤ right_side n r

  term : ℕ → ℤ
  term k = w k *ℤ less (row_at (rows_of m) k)

  element_term : (e i : ℕ) → e < elements m → i < 2 → term (e * 2 + i)
      ≡ of_element m w e i *ℤ less (row_at (element_rows m e) i)
  unfolding term
  element_term e i h k = ap (λ (r : Row). w (e * 2 + i) *ℤ less r)
      (equality_among m (e * 2 + i) (omega arith) ∙ balance_at m e i h k)

  edge_term : (g i : ℕ) → g < edges m → i < 4 → term (elements m * 2 + (g * 4 + i))
      ≡ of_edge m w g i *ℤ less (row_at (edge_rows m g) i)
  unfolding term
  edge_term g i h k =
      ap (λ (r : Row). w (elements m * 2 + (g * 4 + i)) *ℤ less r)
      (equality_among m (elements m * 2 + (g * 4 + i)) (omega arith) ∙ side_at_lem m g i h k)

  jump_term : (j i : ℕ) → j < jumps m → i < 4 → term (elements m * 2 + edges m * 4 + (j * 4 + i))
      ≡ of_jump m w j i *ℤ less (row_at (rows_of_jump m j) i)
  unfolding term
  jump_term j i h k =
      ap (λ (r : Row). w (elements m * 2 + edges m * 4 + (j * 4 + i)) *ℤ less r)
      (equality_among m (elements m * 2 + edges m * 4 + (j * 4 + i)) (omega arith) ∙ jump_at m j i h k)

  -- a strength row by its place, and what it has left minus right
  strength_term : (i : ℕ) {r : Row} {z : ℤ} → row_at (strength_rows m) i ≡ r → left_side s l r -ℤ right_side n r ≡ z
      → term (elements m * 2 + edges m * 4 + jumps m * 4 + i) ≡ w (elements m * 2 + edges m * 4 + jumps m * 4 + i) *ℤ z
  unfolding term less
  strength_term i e f =
      ap (λ (r : Row). w (elements m * 2 + edges m * 4 + jumps m * 4 + i) *ℤ less r) (strength_among m i ∙ e)
      ∙ ap (λ z. w (elements m * 2 + edges m * 4 + jumps m * 4 + i) *ℤ z) f

  -- the rows of pair a
  module _ (a : ℕ) (h : a < pair_count m) where
    of_row : ℕ → ℤ
    of_row k = term (elements m * 2 + edges m * 4 + jumps m * 4 + (a * sides m + k))

    by_sides : by_direction m (pair_at m a).soil ≡ false → sum_below of_row (sides m) ≡ weighed_sides m w s l n a
    unfolding of_row weighed_sides
    by_sides e =
        sum_below_cong _ _ (sides m)
        (λ k j. strength_term (a * sides m + k) (strength_at m listed a k h j e)
        ((rows_printed m s l n).strength (pair_at m a) (side_at (polygon_of (sides m)) k)
        ∙ ap (less_strength m s l n (pair_at m a)) (side_is m listed k j)))

    by_planes : by_direction m (pair_at m a).soil ≡ true → sum_below of_row (sides m) ≡ weighed_planes m w s l n a
    unfolding of_row weighed_planes sum_below
    by_planes e =
        ap (sum_below of_row) (sym (even_sides m listed))
        ∙ sum_pieces of_row 2 (sides m / 2)
        ∙ sum_below_cong _ _ (sides m / 2) (λ j i.
        let v = corner_at (polygon_of (sides m)) j in
        let same : v ≡ nth_corner m j = corner_is m listed j (omega (arith, even_sides m listed)) in
        let low : 2 * j + 1 < sides m = omega (arith, even_sides m listed) in
        let first = of_pair m w a (2 * j) *ℤ less_plus m s l n (pair_at m a) (nth_corner m j) in
        ap₂ (λ x y. pos 0 +ℤ x +ℤ y)
        (ap of_row (omega arith) ∙ strength_term (a * sides m + 2 * j) (plus_at m listed a j h low e)
        ((rows_printed m s l n).plane_plus (pair_at m a) v ∙ ap (less_plus m s l n (pair_at m a)) same))
        (ap of_row (omega arith) ∙ strength_term (a * sides m + (2 * j + 1)) (minus_at m listed a j h low e)
        ((rows_printed m s l n).plane_minus (pair_at m a) v ∙ ap (less_minus m s l n (pair_at m a)) same))
        ∙ ap (λ x. x +ℤ of_pair m w a (2 * j + 1) *ℤ less_minus m s l n (pair_at m a) (nth_corner m j)) (+ℤ_idl first))

    pair_terms : sum_below of_row (sides m) ≡ weighed_pair m w s l n a
    unfolding weighed_pair
    pair_terms = by (by_direction m (pair_at m a).soil) refl
      where
        by : (b : Bool) → by_direction m (pair_at m a).soil ≡ b
            → sum_below of_row (sides m) ≡ cond b (weighed_planes m w s l n a) (weighed_sides m w s l n a)
        by true e = by_planes e
        by false e = by_sides e

  pub weighed_rows_lem : weighted_sum (λ r. left_side s l r -ℤ right_side n r) (weighed w (rows_of m))
      ≡ weighed_rows m w s l n
  unfolding weighed_rows sum_below term less row_at of_row
  weighed_rows_lem =
      by_number less w (rows_of m)
      ∙ ap (sum_below term) (row_count m listed)
      ∙ sum_below_add term (elements m * 2 + edges m * 4 + jumps m * 4) (pair_count m * sides m)
      ∙ ap₂ ◌+ℤ◌
      (sum_below_add term (elements m * 2 + edges m * 4) (jumps m * 4)
      ∙ ap₂ ◌+ℤ◌
      (sum_below_add term (elements m * 2) (edges m * 4)
      ∙ ap₂ ◌+ℤ◌
      (sum_pieces term 2 (elements m) ∙ sum_below_cong _ _ (elements m) of_element_lem)
      (sum_pieces (λ k. term (elements m * 2 + k)) 4 (edges m) ∙ sum_below_cong _ _ (edges m) of_edge_lem))
      (sum_pieces (λ k. term (elements m * 2 + edges m * 4 + k)) 4 (jumps m)
      ∙ sum_below_cong _ _ (jumps m) of_jump_lem))
      (sum_pieces (λ k. term (elements m * 2 + edges m * 4 + jumps m * 4 + k)) (sides m) (pair_count m)
      ∙ sum_below_cong _ _ (pair_count m) pair_terms)
    where
      of_element_lem : (e : ℕ) → e < elements m → sum_below (λ i. term (e * 2 + i)) 2
          ≡ of_element m w e 0 *ℤ less_x m s l n e +ℤ of_element m w e 1 *ℤ less_y m s l n e
      of_element_lem e h =
          let z = of_element m w e 0 *ℤ less_x m s l n e in
          ap₂ (λ a b. pos 0 +ℤ a +ℤ b)
          (element_term e 0 h (omega arith) ∙ ap (λ z. of_element m w e 0 *ℤ z)
          ((rows_printed m s l n).balance_x_lem e))
          (element_term e 1 h (omega arith) ∙ ap (λ z. of_element m w e 1 *ℤ z)
          ((rows_printed m s l n).balance_y_lem e))
          ∙ ap (λ a. a +ℤ of_element m w e 1 *ℤ less_y m s l n e) (+ℤ_idl z)

      of_edge_lem : (g : ℕ) → g < edges m → sum_below (λ i. term (elements m * 2 + (g * 4 + i))) 4
          ≡ of_edge m w g 0 *ℤ less_normal m s l n g (from_node m g) +ℤ of_edge m w g 1 *ℤ less_shear m s l n g
          (from_node m g) +ℤ of_edge m w g 2 *ℤ less_normal m s l n g (to_node m g)
          +ℤ of_edge m w g 3 *ℤ less_shear m s l n g (to_node m g)
      of_edge_lem g h =
          sum_four
          (edge_term g 0 h (omega arith) ∙ ap (λ z. of_edge m w g 0 *ℤ z)
          ((rows_printed m s l n).normal g (from_node m g)))
          (edge_term g 1 h (omega arith) ∙ ap (λ z. of_edge m w g 1 *ℤ z)
          ((rows_printed m s l n).shear g (from_node m g)))
          (edge_term g 2 h (omega arith) ∙ ap (λ z. of_edge m w g 2 *ℤ z)
          ((rows_printed m s l n).normal g (to_node m g)))
          (edge_term g 3 h (omega arith) ∙ ap (λ z. of_edge m w g 3 *ℤ z)
          ((rows_printed m s l n).shear g (to_node m g)))

      of_jump_lem : (j : ℕ) → j < jumps m → sum_below (λ i. term (elements m * 2 + edges m * 4 + (j * 4 + i))) 4
          ≡ of_jump m w j 0 *ℤ less_jump_normal m s l n j (jump_from m j) (facing_from m j)
          +ℤ of_jump m w j 1 *ℤ less_jump_shear m s l n j (jump_from m j) (facing_from m j)
          +ℤ of_jump m w j 2 *ℤ less_jump_normal m s l n j (jump_to m j) (facing_to m j)
          +ℤ of_jump m w j 3 *ℤ less_jump_shear m s l n j (jump_to m j) (facing_to m j)
      of_jump_lem j h =
          sum_four
          (jump_term j 0 h (omega arith) ∙ ap (λ z. of_jump m w j 0 *ℤ z)
          ((rows_printed m s l n).jump_normal_lem j (jump_from m j) (facing_from m j)))
          (jump_term j 1 h (omega arith) ∙ ap (λ z. of_jump m w j 1 *ℤ z)
          ((rows_printed m s l n).jump_shear_lem j (jump_from m j) (facing_from m j)))
          (jump_term j 2 h (omega arith) ∙ ap (λ z. of_jump m w j 2 *ℤ z)
          ((rows_printed m s l n).jump_normal_lem j (jump_to m j) (facing_to m j)))
          (jump_term j 3 h (omega arith) ∙ ap (λ z. of_jump m w j 3 *ℤ z)
          ((rows_printed m s l n).jump_shear_lem j (jump_to m j) (facing_to m j)))

-- ---- the three sums

module _ (m : List ℤ) (listed : SidesListed (sides m)) (w : ℕ → ℤ) where
  pub columns-printed : ColumnsPrinted m w
  unfolding column_sum coefficient live_sum limit_sum left_side right_side
  columns-printed = record {
    column = λ j.
        weighted_same (coefficient j) (λ r. left_side (unit j) (pos 0) r -ℤ right_side (pos 0) r)
        (weighed w (rows_of m))
        (λ a i. ring (coefficient j a.1 ∷ a.1.live ∷ a.1.right ∷ []) (search terms depth 100) refl)
        ∙ weighed_rows_lem m listed w (unit j) (pos 0) (pos 0);
    live =
        weighted_same (λ r. r.live) (λ r. left_side (λ j. pos 0) (pos 1) r -ℤ right_side (pos 0) r)
        (weighed w (rows_of m))
        (λ a i. rw (weighted_zero a.1.entries) (ring (a.1.live ∷ a.1.right ∷ []) (search terms depth 100) refl))
        ∙ weighed_rows_lem m listed w (λ j. pos 0) (pos 1) (pos 0);
    limit =
        let W = limit_sum w (rows_of m) in
        let turned : weighted_sum (λ r. r.right *ℤ negsuc 0) (weighed w (rows_of m)) ≡ W *ℤ negsuc 0 =
        weighted_multiple (negsuc 0) (λ r. r.right) (weighed w (rows_of m)) in
        let same : weighted_sum (λ r. r.right *ℤ negsuc 0) (weighed w (rows_of m))
        ≡ weighed_rows m w (λ j. pos 0) (pos 0) (pos 1) =
        weighted_same (λ r. r.right *ℤ negsuc 0) (λ r. left_side (λ j. pos 0) (pos 0) r -ℤ right_side (pos 1) r)
        (weighed w (rows_of m))
        (λ a i. rw (weighted_zero a.1.entries) (ring (a.1.live ∷ a.1.right ∷ []) (search terms depth 100) refl))
        ∙ weighed_rows_lem m listed w (λ j. pos 0) (pos 0) (pos 1) in
        ring (W ∷ []) (search terms depth 100) refl ∙ ap neg_ℤ (sym turned ∙ same);
  }

-- ---- multipliers on unfixed rows

-- none on an unfixed row, by what the edge fixes
none_if : (what fixed c : ℤ)
    → elim (fixed_if what fixed) as (λ x. Type 0) [ asked ↦ Unit {0} | unfixed ↦ c ≡ pos 0 | strength ↦ Unit {0} ] ↔
    (¬ ((fixed ≡ what) ⊎ (fixed ≡ pos 3)) → c ≡ pos 0)
unfolding fixed_if
none_if what fixed c = go (eq_z fixed what || eq_z fixed (pos 3)) (either (equalℤ fixed what) (equalℤ fixed (pos 3)))
  where
    go : (is : Bool) → Decides is ((fixed ≡ what) ⊎ (fixed ≡ pos 3))
        → elim (cond is asked unfixed) as
        (λ x. Type 0) [ asked ↦ Unit {0} | unfixed ↦ c ≡ pos 0 | strength ↦ Unit {0} ] ↔
        (¬ ((fixed ≡ what) ⊎ (fixed ≡ pos 3)) → c ≡ pos 0)
    go true d = (λ h f. absurd (f (d.holds tt)), λ h. tt)
    go false d = (λ h f. h, λ h. h (λ k. d.passes k))

pub normal_free : (m : List ℤ) (g v : ℕ) (c : ℤ) → NoneOnUnfixed c (normal_row m g v) ↔
    (¬ FixesNormal (edge_entry m g 2) → c ≡ pos 0)
unfolding normal_row
normal_free m g v c = none_if (pos 1) (edge_entry m g 2) c

pub shear_free : (m : List ℤ) (g v : ℕ) (c : ℤ) → NoneOnUnfixed c (shear_row m g v) ↔
    (¬ FixesShear (edge_entry m g 2) → c ≡ pos 0)
unfolding shear_row
shear_free m g v c = none_if (pos 2) (edge_entry m g 2) c

module _ (m : List ℤ) (w : ℕ → ℤ) where
  -- at each number of an edge's rows
  at_edge : ((k : ℕ) → k < length (equality_rows m) → NoneOnUnfixed (w k) (row_at (equality_rows m) k)) → (g i : ℕ)
      → g < edges m → i < 4 → NoneOnUnfixed (of_edge m w g i) (row_at (edge_rows m g) i)
  at_edge f g i h k = rw (side_at_lem m g i h k) at
      (f (elements m * 2 + (g * 4 + i)) (omega (arith, equality_count_lem m)))

  edge_row : MultipliersPrinted m w → (g i : ℕ) → g < edges m → i < 4
      → NoneOnUnfixed (of_edge m w g i) (row_at (edge_rows m g) i)
  unfolding row_at
  edge_row f g zero h k = (normal_free m g (from_node m g) (of_edge m w g 0)).1 (λ u. (f.normal_unfixed g h u).0)
  edge_row f g (suc zero) h k = (shear_free m g (from_node m g) (of_edge m w g 1)).1 (λ u. (f.shear_unfixed g h u).0)
  edge_row f g (suc (suc zero)) h k = (normal_free m g (to_node m g) (of_edge m w g 2)).1
      (λ u. (f.normal_unfixed g h u).1)
  edge_row f g (suc (suc (suc zero))) h k = (shear_free m g (to_node m g) (of_edge m w g 3)).1
      (λ u. (f.shear_unfixed g h u).1)
  edge_row f g (suc (suc (suc (suc i)))) h k = absurd (omega arith)

  pub element_row : (e i : ℕ) (c : ℤ) → i < 2 → NoneOnUnfixed c (row_at (element_rows m e) i)
  unfolding row_at balance_x balance_y
  element_row e zero c k = tt
  element_row e (suc zero) c k = tt
  element_row e (suc (suc i)) c k = absurd (omega arith)

  pub jump_row : (j i : ℕ) (c : ℤ) → i < 4 → NoneOnUnfixed c (row_at (rows_of_jump m j) i)
  unfolding row_at jump_normal jump_shear agree_row
  jump_row j zero c k = tt
  jump_row j (suc zero) c k = tt
  jump_row j (suc (suc zero)) c k = tt
  jump_row j (suc (suc (suc zero))) c k = tt
  jump_row j (suc (suc (suc (suc i)))) c k = absurd (omega arith)

  every_row : MultipliersPrinted m w → (k : ℕ) → k < length (equality_rows m)
      → NoneOnUnfixed (w k) (row_at (equality_rows m) k)
  every_row f k h = by (which_row m k (omega (arith, equality_count_lem m)))
    where
      by : InElementRows m k ⊎ (InEdge m k ⊎ InJump m k) → NoneOnUnfixed (w k) (row_at (equality_rows m) k)
      by (inl a) = rw (a.is, balance_at m a.element a.row a.there a.two)
          (element_row a.element a.row (w (a.element * 2 + a.row)) a.two)
      by (inr (inl a)) = rw (a.is, side_at_lem m a.edge a.row a.there a.four) (edge_row f a.edge a.row a.there a.four)
      by (inr (inr a)) = rw (a.is, jump_at m a.jump a.row a.there a.four)
          (jump_row a.jump a.row (w (elements m * 2 + edges m * 4 + (a.jump * 4 + a.row))) a.four)

-- ---- accepted multipliers

module _ (m : List ℤ) (listed : SidesListed (sides m)) (w : ℕ → ℤ) where
  sums : ColumnsPrinted m w
  sums = columns-printed m listed w

  column_of_lem : (v i : ℕ) → i < 3 → MultipliersPrinted m w → v < nodes m
      → column_sum w (rows_of m) (3 * v + i) ≡ pos 0
  unfolding sx sy t
  column_of_lem v zero k f h = ap (column_sum w (rows_of m)) (omega arith) ∙ sums.column (sx v) ∙ (f.columns v h).0
  column_of_lem v (suc zero) k f h = sums.column (sy v) ∙ (f.columns v h).1
  column_of_lem v (suc (suc zero)) k f h = sums.column (t v) ∙ (f.columns v h).2
  column_of_lem v (suc (suc (suc i))) k f h = absurd (omega arith)

  -- "31 to 33 for multipliers", in the terms of the printed rows
  pub multipliers_printed : ColumnsAndPrinted m w
  unfolding sx sy t row_at
  multipliers_printed = (
    λ f. record {
      normal_unfixed = λ g h u. (
        (normal_free m g (from_node m g) (of_edge m w g 0)).0 (at_edge m w f.unfixed g 0 h (omega arith)) u,
        (normal_free m g (to_node m g) (of_edge m w g 2)).0 (at_edge m w f.unfixed g 2 h (omega arith)) u,
      );
      shear_unfixed = λ g h u. (
        (shear_free m g (from_node m g) (of_edge m w g 1)).0 (at_edge m w f.unfixed g 1 h (omega arith)) u,
        (shear_free m g (to_node m g) (of_edge m w g 3)).0 (at_edge m w f.unfixed g 3 h (omega arith)) u,
      );
      columns = λ v h. (
        sym (sums.column (sx v)) ∙ f.sums (sx v) (omega arith),
        sym (sums.column (sy v)) ∙ f.sums (sy v) (omega arith),
        sym (sums.column (t v)) ∙ f.sums (t v) (omega arith),
      );
      live = rw sums.live at f.live;
    },
    λ f. record {
      unfixed = every_row m w f;
      sums = λ j h.
          let d = div-add-mod' j 3 in
          let r = mod-lt j {m = 3} (omega arith) in
          ap (column_sum w (rows_of m)) (omega arith) ∙ column_of_lem (j / 3) (j % 3) r f (omega arith);
      live = rw sums.live f.live;
    },
  )
