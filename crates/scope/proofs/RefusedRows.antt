-- Each number of a row has a printed row, and a field meets that exactly where it meets the row as data: so the lowest
-- row that fails, by the table, is the lowest printed one.
use mathlib.Core.Path.{◌≡◌, refl, subst}
use mathlib.Core.Logic.{◌↔◌, ◌⊎◌, inl, inr}
use mathlib.Core.Bool.{Bool, true, false}
use mathlib.Core.List.{List}
use Prim.Native.Nat.{ℕ, zero, suc, ◌+◌, ◌*◌, ◌-◌, ◌/◌, ◌%◌, ◌<◌, ◌≤◌}
use native.Mathlib.Nat.{div-add-mod', mod-lt, div-lt_iff_lt-mul}
use native.Mathlib.Decide.{dec_lt}
use native.Mathlib.Omega.{arith}
use lib.IntN.{ℤ, neg_ℤ}
use lib.ListN.{length}
use Rattle.std.proofs.lemmas.List.{get_or_past}
use Rattle.scope.specs.declared.Place.{Place}
use Rattle.scope.specs.Answer.{place_number}
use Rattle.scope.specs.Columns.{n, l}
use Rattle.scope.specs.Mesh.{elements, edges, sides, jumps, from_node, to_node, jump_from, jump_to}
use Rattle.scope.specs.Mesh.{facing_from, facing_to, by_direction, ByDirection, q}
use Rattle.scope.specs.Polygon.{polygon_of, SidesListed}
use Rattle.scope.specs.Claim.{stress}
use Rattle.scope.specs.Rows as R
use Rattle.scope.specs.Rows.{pair_count, pair_at, equality_rows, strength_rows}
use Rattle.scope.specs.Tests.{row_at}
use Rattle.scope.specs.Meets.{RowMet}
use Rattle.scope.specs.RowNumbers.{side_at, corner_at, side_row, direction_row}
use Rattle.scope.specs.Printed.{NormalAt, NormalAgreesAt, StrengthAt, PlanePlusAt, PlaneMinusAt, nth_corner, nth_side}
use Rattle.scope.specs.RefusalTable.{LowestFails, AtAll, of_lines, RefusalRow, of_mesh, of_claim_lines, twenty_one}
use Rattle.scope.specs.RefusalTable.{twenty_two}
use Rattle.scope.specs.RefusedRows.{Lowest, None, EqualityFails, balance_along_x, balance_along_y, normal_from}
use Rattle.scope.specs.RefusedRows.{shear_from, normal_to, shear_to, jump_normal_from, jump_shear_from}
use Rattle.scope.specs.RefusedRows.{jump_normal_to, jump_shear_to, StrengthFails, of_side, plane_plus, plane_minus}
use Rattle.scope.proofs.Directions.{direction_is, no_direction, is_direction, not_direction}
use Rattle.scope.proofs.LineRefusals.{mesh_line_number, claim_line_number}
use Rattle.scope.proofs.NumberRanges.{mesh_facts}
use Rattle.scope.proofs.PolygonRule.{listed_polygon}
use Rattle.scope.proofs.Printed.{balance_x_lem, balance_y_lem, normal, shear, jump_normal_lem, jump_shear_lem}
use Rattle.scope.proofs.Printed.{strength, plus_row, minus_row}
use Rattle.scope.proofs.RowCounts.{equality_count_lem, strength_count}
use Rattle.scope.proofs.RowNumbers.{element_rows, edge_rows, rows_of_jump, balance_at, side_at_lem, jump_at}
use Rattle.scope.proofs.RowNumbers.{strength_at, plus_at, minus_at, even_sides, InElementRows, InEdge, InJump}
use Rattle.scope.proofs.RowNumbers.{which_row}
use Rattle.scope.proofs.SideCorners.{corner_is, side_is}

-- the lowest among places counted from 0 is the lowest among numbers counted from 1
pub lowest_number : {count : ℕ} {P : ℕ → Type 0} {Fails : ℕ → Type 0} → ((i : ℕ) → i < count → ¬ P i → Fails (suc i))
    → ((j : ℕ) → Fails j → (0 < j) × (¬ P (j - 1))) → {k : ℕ} → LowestFails count P k → Lowest Fails (suc k)
lowest_number to from {k} h = record {
  fails = to k h.there h.fails;
  lower = λ j g f. (from j f).1 (h.lower (j - 1) (omega (arith, (from j f).0)));
}

module _ (m c : List ℤ) where
  abbrev s : ℕ → ℤ
  s = stress m c

  abbrev met : R.Row → Type 0
  met r = RowMet s (l c) (n c) r

  -- a printed row that fails is row i of its list, which is not met
  not_met : (rs : List R.Row) (i : ℕ) {k : ℕ} {r : R.Row} {P : Type 0} → row_at rs i ≡ r → (met r ↔ P) → ¬ P
      → suc i ≡ k → (0 < k) × (¬ met (row_at rs (k - 1)))
  not_met rs i {k} e g f d =
      let same : k - 1 ≡ i = omega arith in
      (omega arith, λ h. f (g.0 (subst met e (subst (λ j. met (row_at rs j)) same h))))

  -- ---- equality rows

  named : {i k : ℕ} → EqualityFails m c i → i ≡ k → EqualityFails m c k
  named f e = subst (EqualityFails m c) e f

  of_element : (e i : ℕ) → e < elements m → i < 2 → ¬ met (row_at (element_rows m e) i)
      → EqualityFails m c (suc (e * 2 + i))
  unfolding row_at
  of_element e zero h k f =
      named (balance_along_x e h (λ p. f ((balance_x_lem m s (l c) (n c) e).1 p))) (omega arith)
  of_element e (suc zero) h k f =
      named (balance_along_y e h (λ p. f ((balance_y_lem m s (l c) (n c) e).1 p))) (omega arith)
  of_element e (suc (suc i)) h k f = absurd (omega arith)

  of_edge : (g i : ℕ) → g < edges m → i < 4 → ¬ met (row_at (edge_rows m g) i)
      → EqualityFails m c (suc (elements m * 2 + (g * 4 + i)))
  unfolding row_at
  of_edge g zero h k f =
      named (normal_from g h (λ p. f ((normal m s (l c) (n c) g (from_node m g)).1 p))) (omega arith)
  of_edge g (suc zero) h k f =
      named (shear_from g h (λ p. f ((shear m s (l c) (n c) g (from_node m g)).1 p))) (omega arith)
  of_edge g (suc (suc zero)) h k f =
      named (normal_to g h (λ p. f ((normal m s (l c) (n c) g (to_node m g)).1 p))) (omega arith)
  of_edge g (suc (suc (suc zero))) h k f =
      named (shear_to g h (λ p. f ((shear m s (l c) (n c) g (to_node m g)).1 p))) (omega arith)
  of_edge g (suc (suc (suc (suc i)))) h k f = absurd (omega arith)

  of_jump : (j i : ℕ) → j < jumps m → i < 4 → ¬ met (row_at (rows_of_jump m j) i)
      → EqualityFails m c (suc (elements m * 2 + edges m * 4 + (j * 4 + i)))
  unfolding row_at
  of_jump j zero h k f =
      named (jump_normal_from j h (λ p.
      f ((jump_normal_lem m s (l c) (n c) j (jump_from m j) (facing_from m j)).1 p))) (omega arith)
  of_jump j (suc zero) h k f =
      named (jump_shear_from j h (λ p.
      f ((jump_shear_lem m s (l c) (n c) j (jump_from m j) (facing_from m j)).1 p))) (omega arith)
  of_jump j (suc (suc zero)) h k f =
      named (jump_normal_to j h (λ p.
      f ((jump_normal_lem m s (l c) (n c) j (jump_to m j) (facing_to m j)).1 p))) (omega arith)
  of_jump j (suc (suc (suc zero))) h k f =
      named (jump_shear_to j h (λ p.
      f ((jump_shear_lem m s (l c) (n c) j (jump_to m j) (facing_to m j)).1 p))) (omega arith)
  of_jump j (suc (suc (suc (suc i)))) h k f = absurd (omega arith)

  equality_fails : (k : ℕ) → k < length (equality_rows m) → ¬ met (row_at (equality_rows m) k)
      → EqualityFails m c (suc k)
  equality_fails k h f = by (which_row m k (omega (arith, equality_count_lem m)))
    where
      by : InElementRows m k ⊎ (InEdge m k ⊎ InJump m k) → EqualityFails m c (suc k)
      by (inl a) = rw a.is (of_element a.element a.row a.there a.two
          (λ p. f (rw (a.is, balance_at m a.element a.row a.there a.two) p)))
      by (inr (inl a)) = rw a.is (of_edge a.edge a.row a.there a.four
          (λ p. f (rw (a.is, side_at_lem m a.edge a.row a.there a.four) p)))
      by (inr (inr a)) = rw a.is (of_jump a.jump a.row a.there a.four
          (λ p. f (rw (a.is, jump_at m a.jump a.row a.there a.four) p)))

  equality_not_met : (k : ℕ) → EqualityFails m c k → (0 < k) × (¬ met (row_at (equality_rows m) (k - 1)))
  unfolding row_at
  equality_not_met k (balance_along_x e h f) =
      not_met (equality_rows m) (e * 2 + 0) (balance_at m e 0 h (omega arith))
      (balance_x_lem m s (l c) (n c) e) f (omega arith)
  equality_not_met k (balance_along_y e h f) =
      not_met (equality_rows m) (e * 2 + 1) (balance_at m e 1 h (omega arith))
      (balance_y_lem m s (l c) (n c) e) f (omega arith)
  equality_not_met k (normal_from g h f) =
      not_met (equality_rows m) (elements m * 2 + (g * 4 + 0)) (side_at_lem m g 0 h (omega arith))
      (normal m s (l c) (n c) g (from_node m g)) f (omega arith)
  equality_not_met k (shear_from g h f) =
      not_met (equality_rows m) (elements m * 2 + (g * 4 + 1)) (side_at_lem m g 1 h (omega arith))
      (shear m s (l c) (n c) g (from_node m g)) f (omega arith)
  equality_not_met k (normal_to g h f) =
      not_met (equality_rows m) (elements m * 2 + (g * 4 + 2)) (side_at_lem m g 2 h (omega arith))
      (normal m s (l c) (n c) g (to_node m g)) f (omega arith)
  equality_not_met k (shear_to g h f) =
      not_met (equality_rows m) (elements m * 2 + (g * 4 + 3)) (side_at_lem m g 3 h (omega arith))
      (shear m s (l c) (n c) g (to_node m g)) f (omega arith)
  equality_not_met k (jump_normal_from j h f) =
      not_met (equality_rows m) (elements m * 2 + edges m * 4 + (j * 4 + 0)) (jump_at m j 0 h (omega arith))
      (jump_normal_lem m s (l c) (n c) j (jump_from m j) (facing_from m j)) f (omega arith)
  equality_not_met k (jump_shear_from j h f) =
      not_met (equality_rows m) (elements m * 2 + edges m * 4 + (j * 4 + 1)) (jump_at m j 1 h (omega arith))
      (jump_shear_lem m s (l c) (n c) j (jump_from m j) (facing_from m j)) f (omega arith)
  equality_not_met k (jump_normal_to j h f) =
      not_met (equality_rows m) (elements m * 2 + edges m * 4 + (j * 4 + 2)) (jump_at m j 2 h (omega arith))
      (jump_normal_lem m s (l c) (n c) j (jump_to m j) (facing_to m j)) f (omega arith)
  equality_not_met k (jump_shear_to j h f) =
      not_met (equality_rows m) (elements m * 2 + edges m * 4 + (j * 4 + 3)) (jump_at m j 3 h (omega arith))
      (jump_shear_lem m s (l c) (n c) j (jump_to m j) (facing_to m j)) f (omega arith)

  -- ---- strength rows

  module _ (listed : SidesListed (sides m)) where
    numbered : {i k : ℕ} → StrengthFails m c i → i ≡ k → StrengthFails m c k
    numbered f e = subst (StrengthFails m c) e f

    -- what a pair's rows ask: row k, by sides; those of corner k, by planes
    asks_side : (a : R.Pair) (k : ℕ) → k < sides m → met (side_row m a (side_at (polygon_of (sides m)) k))
        ↔ StrengthAt m s (l c) (n c) (polygon_of (sides m)).radius a (nth_side m k)
    asks_side a k h =
        let r = (polygon_of (sides m)).radius in
        subst (λ d. met (side_row m a (side_at (polygon_of (sides m)) k))
        ↔ StrengthAt m s (l c) (n c) r a d) (side_is m listed k h)
        (strength m s (l c) (n c) r a (side_at (polygon_of (sides m)) k))

    asks_plus : (a : R.Pair) (k : ℕ) → k < sides m
        → met (direction_row m a (corner_at (polygon_of (sides m)) k) (q m a.soil))
        ↔ PlanePlusAt m s (l c) (n c) (polygon_of (sides m)).radius a (nth_corner m k)
    asks_plus a k h =
        let r = (polygon_of (sides m)).radius in
        subst (λ v. met (direction_row m a (corner_at (polygon_of (sides m)) k) (q m a.soil))
        ↔ PlanePlusAt m s (l c) (n c) r a v) (corner_is m listed k h)
        (plus_row m s (l c) (n c) r a (corner_at (polygon_of (sides m)) k))

    asks_minus : (a : R.Pair) (k : ℕ) → k < sides m
        → met (direction_row m a (corner_at (polygon_of (sides m)) k) (neg_ℤ (q m a.soil)))
        ↔ PlaneMinusAt m s (l c) (n c) (polygon_of (sides m)).radius a (nth_corner m k)
    asks_minus a k h =
        let r = (polygon_of (sides m)).radius in
        subst (λ v. met (direction_row m a (corner_at (polygon_of (sides m)) k) (neg_ℤ (q m a.soil)))
        ↔ PlaneMinusAt m s (l c) (n c) r a v) (corner_is m listed k h)
        (minus_row m s (l c) (n c) r a (corner_at (polygon_of (sides m)) k))

    module _ (a : ℕ) (h : a < pair_count m) where
      of_planes : (j i : ℕ) → i < 2 → 2 * j + i < sides m → by_direction m (pair_at m a).soil ≡ true
          → ¬ met (row_at (strength_rows m) (a * sides m + (2 * j + i)))
          → StrengthFails m c (suc (a * sides m + (2 * j + i)))
      of_planes j zero two g e f =
          let low : 2 * j + 1 < sides m = omega (arith, even_sides m listed) in
          let at : a * sides m + (2 * j + 0) ≡ a * sides m + 2 * j = omega arith in
          numbered
          (plane_plus a j h (omega arith) (is_direction m (pair_at m a).soil e)
          (λ p. f (rw (at, plus_at m listed a j h low e) ((asks_plus (pair_at m a) j (omega arith)).1 p))))
          (omega arith)
      of_planes j (suc zero) two g e f =
          numbered
          (plane_minus a j h (omega arith) (is_direction m (pair_at m a).soil e)
          (λ p. f (rw (minus_at m listed a j h g e) ((asks_minus (pair_at m a) j (omega arith)).1 p))))
          (omega arith)
      of_planes j (suc (suc i)) two g e f = absurd (omega arith)

      of_pair : (k : ℕ) → k < sides m → ¬ met (row_at (strength_rows m) (a * sides m + k))
          → StrengthFails m c (suc (a * sides m + k))
      of_pair k g f = by (by_direction m (pair_at m a).soil) refl
        where
          by : (b : Bool) → by_direction m (pair_at m a).soil ≡ b → StrengthFails m c (suc (a * sides m + k))
          by false e =
              numbered
              (of_side a k h g (not_direction m (pair_at m a).soil e)
              (λ p. f (rw (strength_at m listed a k h g e) ((asks_side (pair_at m a) k g).1 p))))
              (omega arith)
          by true e =
              let half : 2 * (k / 2) + k % 2 ≡ k = omega (arith, div-add-mod' k 2) in
              subst
              (λ i. ¬ met (row_at (strength_rows m) (a * sides m + i)) → StrengthFails m c (suc (a * sides m + i)))
              half (of_planes (k / 2) (k % 2) (mod-lt k (omega arith)) (omega (arith, half)) e) f

    strength_fails : (i : ℕ) → i < length (strength_rows m) → ¬ met (row_at (strength_rows m) i)
        → StrengthFails m c (suc i)
    strength_fails i h f =
        let some : 0 < sides m = (listed_polygon (sides m) listed).fits.some_sides in
        let pair : i / sides m < pair_count m = (div-lt_iff_lt-mul some).1 (omega (arith, strength_count m listed)) in
        subst (λ i. ¬ met (row_at (strength_rows m) i) → StrengthFails m c (suc i)) (div-add-mod' i (sides m))
        (of_pair (i / sides m) pair (i % sides m) (mod-lt i some)) f

    strength_not_met : (i : ℕ) → StrengthFails m c i → (0 < i) × (¬ met (row_at (strength_rows m) (i - 1)))
    strength_not_met i (of_side a k h g other f) =
        not_met (strength_rows m) (a * sides m + k)
        (strength_at m listed a k h g (no_direction m (pair_at m a).soil other))
        (asks_side (pair_at m a) k g) f (omega arith)
    strength_not_met i (plane_plus a k h g kind f) =
        not_met (strength_rows m) (a * sides m + 2 * k)
        (plus_at m listed a k h (omega arith) (direction_is m (pair_at m a).soil kind))
        (asks_plus (pair_at m a) k (omega arith)) f (omega arith)
    strength_not_met i (plane_minus a k h g kind f) =
        not_met (strength_rows m) (a * sides m + (2 * k + 1))
        (minus_at m listed a k h (omega arith) (direction_is m (pair_at m a).soil kind))
        (asks_minus (pair_at m a) k (omega arith)) f (omega arith)

  -- ---- a number that fails is that of one row

  only : (rs : List R.Row) (i : ℕ) {k : ℕ} {r : R.Row} {P : Type 0} → (0 < k) × (¬ met (row_at rs (k - 1)))
      → row_at rs i ≡ r → (met r ↔ P) → k ≡ suc i → ¬ P
  only rs i {k} f e g d p =
      let same : k - 1 ≡ i = omega arith in
      f.1 (rw (same, e) (g.1 p))

  pub normal_from_fails : {k : ℕ} → EqualityFails m c k → (g : ℕ) → g < edges m → k ≡ 2 * elements m + 4 * g + 1
      → ¬ NormalAt m s (l c) (n c) g (from_node m g)
  unfolding row_at
  normal_from_fails {k} f g h e =
      only (equality_rows m) (elements m * 2 + (g * 4 + 0)) (equality_not_met k f) (side_at_lem m g 0 h (omega arith))
      (normal m s (l c) (n c) g (from_node m g)) (omega arith)

  pub jump_normal_from_fails : {k : ℕ} → EqualityFails m c k → (j : ℕ) → j < jumps m
      → k ≡ 2 * elements m + 4 * edges m + 4 * j + 1
      → ¬ NormalAgreesAt m s (l c) (n c) j (jump_from m j) (facing_from m j)
  unfolding row_at
  jump_normal_from_fails {k} f j h e =
      only (equality_rows m) (elements m * 2 + edges m * 4 + (j * 4 + 0)) (equality_not_met k f)
      (jump_at m j 0 h (omega arith)) (jump_normal_lem m s (l c) (n c) j (jump_from m j) (facing_from m j))
      (omega arith)

  module _ (listed : SidesListed (sides m)) where
    pub side_fails : {i : ℕ} → StrengthFails m c i → (a k : ℕ) → a < pair_count m → k < sides m
        → ¬ ByDirection m (pair_at m a).soil → i ≡ a * sides m + suc k
        → ¬ StrengthAt m s (l c) (n c) (polygon_of (sides m)).radius (pair_at m a) (nth_side m k)
    side_fails {i} f a k h g kind e =
        only (strength_rows m) (a * sides m + k) (strength_not_met listed i f)
        (strength_at m listed a k h g (no_direction m (pair_at m a).soil kind))
        (asks_side listed (pair_at m a) k g) (omega arith)

    pub plane_minus_fails : {i : ℕ} → StrengthFails m c i → (a k : ℕ) → a < pair_count m → 2 * suc k ≤ sides m
        → ByDirection m (pair_at m a).soil → i ≡ a * sides m + 2 * suc k
        → ¬ PlaneMinusAt m s (l c) (n c) (polygon_of (sides m)).radius (pair_at m a) (nth_corner m k)
    plane_minus_fails {i} f a k h g kind e =
        only (strength_rows m) (a * sides m + (2 * k + 1)) (strength_not_met listed i f)
        (minus_at m listed a k h (omega arith) (direction_is m (pair_at m a).soil kind))
        (asks_minus listed (pair_at m a) k (omega arith)) (omega arith)

  -- ---- by the rows of the table

  -- a row past the last is met
  past_met : (rs : List R.Row) (i : ℕ) → length rs ≤ i → met (row_at rs i)
  unfolding row_at
  past_met rs i h = rw (get_or_past rs i _ h) tt

  no_equality_fails : AtAll (length (equality_rows m)) (λ i. met (row_at (equality_rows m) i))
      → None (EqualityFails m c)
  no_equality_fails all k f = (equality_not_met k f).1 (by (dec_lt (k - 1) (length (equality_rows m))))
    where
      by : Dec (k - 1 < length (equality_rows m)) → met (row_at (equality_rows m) (k - 1))
      by (yes l) = all (k - 1) l
      by (no g) = past_met (equality_rows m) (k - 1) (omega arith)

  pub refused_equality : {p : Place} → RefusalRow m c 21 p → Lowest (EqualityFails m c) (place_number p)
  refused_equality (of_mesh (of_lines r)) = absurd (omega (arith, mesh_line_number m r))
  refused_equality (of_claim_lines s r) = absurd (omega (arith, claim_line_number m c r))
  refused_equality (twenty_one k b h f) = lowest_number equality_fails equality_not_met f

  pub refused_strength : {p : Place} → RefusalRow m c 22 p
      → None (EqualityFails m c) × Lowest (StrengthFails m c) (place_number p)
  refused_strength (of_mesh (of_lines r)) = absurd (omega (arith, mesh_line_number m r))
  refused_strength (of_claim_lines s r) = absurd (omega (arith, claim_line_number m c r))
  refused_strength (twenty_two k b h a f) =
      let listed = (mesh_facts m b.mesh.lines).counts.sides_listed in
      (no_equality_fails a, lowest_number (strength_fails listed) (strength_not_met listed) f)
