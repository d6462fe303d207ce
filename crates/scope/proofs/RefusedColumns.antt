-- The unfixed rows by their number, and the sums of the columns as they are printed: so the lowest that fails, by the
-- table, is the lowest here too.
use mathlib.Core.Path.{◌≡◌, sym, ◌∙◌, ap, subst}
use mathlib.Core.Logic.{◌↔◌, ◌⊎◌, inl, inr}
use mathlib.Core.List.{List}
use Prim.Native.Nat.{ℕ, zero, suc, ◌+◌, ◌*◌, ◌-◌, ◌/◌, ◌%◌, ◌<◌}
use native.Mathlib.Nat.{div-add-mod', mod-lt}
use native.Mathlib.Omega.{arith}
use lib.IntN.{ℤ, pos}
use lib.ListN.{length}
use Rattle.scope.specs.declared.Place.{Place}
use Rattle.scope.specs.Answer.{place_number}
use Rattle.scope.specs.Mesh.{nodes, elements, edges, from_node, to_node}
use Rattle.scope.specs.Claim.{multiplier}
use Rattle.scope.specs.Rows as R
use Rattle.scope.specs.Rows.{sx, sy, t, equality_rows, rows_of}
use Rattle.scope.specs.Sums.{column_sum}
use Rattle.scope.specs.Statements.{NoneOnUnfixed}
use Rattle.scope.specs.Tests.{row_at}
use Rattle.scope.specs.RefusalTable.{AtAll, of_lines, RefusalRow, of_mesh, of_claim_lines, thirty_one, thirty_two}
use Rattle.scope.specs.RefusedRows.{Lowest, None}
use Rattle.scope.specs.RefusedColumns.{UnfixedRow, normal_from, shear_from, normal_to, shear_to, UnfixedWeighed}
use Rattle.scope.specs.RefusedColumns.{ColumnFails, of_sx, of_sy, of_t}
use Rattle.scope.specs.PrintedColumns.{printed_column, ColumnsPrinted}
use Rattle.scope.proofs.LineRefusals.{mesh_line_number, claim_line_number}
use Rattle.scope.proofs.NumberRanges.{mesh_facts}
use Rattle.scope.proofs.PrintedColumns.{columns-printed, normal_free, shear_free, element_row, jump_row}
use Rattle.scope.proofs.RowCounts.{equality_count_lem}
use Rattle.scope.proofs.RowNumbers.{edge_rows, balance_at, side_at_lem, jump_at, InElementRows, InEdge, InJump}
use Rattle.scope.proofs.RowNumbers.{which_row}
use Rattle.scope.proofs.RefusedRows.{lowest_number}

module _ (m c : List ℤ) where
  abbrev w : ℕ → ℤ
  w = multiplier m c

  -- ---- 31

  abbrev free : ℕ → Type 0
  free k = NoneOnUnfixed (w k) (row_at (equality_rows m) k)

  -- what is not none on an unfixed row is other than 0 on one that the edge does not fix
  not_free : {N F : Type 0} {z : ℤ} → N ↔ (¬ F → z ≡ pos 0) → ¬ N → (¬ F) × (¬ (z ≡ pos 0))
  not_free e f = (λ x. f (e.1 (λ g. absurd (g x))), λ z. f (e.1 (λ g. z)))

  weighed : {i k : ℕ} → UnfixedRow m k → ¬ (w i ≡ pos 0) → k ≡ suc i → UnfixedWeighed m c (suc i)
  weighed {i} {k} u f e = record {
    unfixed = subst (UnfixedRow m) e u;
    nonzero = λ z. f (subst (λ j. w j ≡ pos 0) (omega arith) z);
  }

  of_edge : (g i : ℕ) → g < edges m → i < 4
      → ¬ NoneOnUnfixed (w (elements m * 2 + (g * 4 + i))) (row_at (edge_rows m g) i)
      → UnfixedWeighed m c (suc (elements m * 2 + (g * 4 + i)))
  unfolding row_at
  of_edge g zero h k f =
      let (free, nonzero) = not_free (normal_free m g (from_node m g) (w (elements m * 2 + (g * 4 + 0)))) f in
      weighed (normal_from g h free) nonzero (omega arith)
  of_edge g (suc zero) h k f =
      let (free, nonzero) = not_free (shear_free m g (from_node m g) (w (elements m * 2 + (g * 4 + 1)))) f in
      weighed (shear_from g h free) nonzero (omega arith)
  of_edge g (suc (suc zero)) h k f =
      let (free, nonzero) = not_free (normal_free m g (to_node m g) (w (elements m * 2 + (g * 4 + 2)))) f in
      weighed (normal_to g h free) nonzero (omega arith)
  of_edge g (suc (suc (suc zero))) h k f =
      let (free, nonzero) = not_free (shear_free m g (to_node m g) (w (elements m * 2 + (g * 4 + 3)))) f in
      weighed (shear_to g h free) nonzero (omega arith)
  of_edge g (suc (suc (suc (suc i)))) h k f = absurd (omega arith)

  unfixed_weighed : (k : ℕ) → k < length (equality_rows m) → ¬ free k → UnfixedWeighed m c (suc k)
  unfixed_weighed k h f = by (which_row m k (omega (arith, equality_count_lem m)))
    where
      by : InElementRows m k ⊎ (InEdge m k ⊎ InJump m k) → UnfixedWeighed m c (suc k)
      by (inl a) = absurd (f (rw (a.is, balance_at m a.element a.row a.there a.two)
          (element_row m w a.element a.row _ a.two)))
      by (inr (inl a)) = rw a.is (of_edge a.edge a.row a.there a.four
          (λ p. f (rw (a.is, side_at_lem m a.edge a.row a.there a.four) p)))
      by (inr (inr a)) = absurd (f (rw (a.is, jump_at m a.jump a.row a.there a.four)
          (jump_row m w a.jump a.row _ a.four)))

  -- an unfixed row is row i of the list, and its multiplier is not none there
  not_none : (i : ℕ) {k : ℕ} {r : R.Row} {F : Type 0} → row_at (equality_rows m) i ≡ r
      → NoneOnUnfixed (w i) r ↔ (¬ F → w i ≡ pos 0) → ¬ F → ¬ (w (k - 1) ≡ pos 0) → suc i ≡ k
      → (0 < k) × (¬ free (k - 1))
  not_none i {k} e g u f d =
      let same : k - 1 ≡ i = omega arith in
      (omega arith, λ h. f (rw same (g.0 (subst (NoneOnUnfixed (w i)) e (subst free same h)) u)))

  weighed_not_free : (k : ℕ) → UnfixedRow m k → ¬ (w (k - 1) ≡ pos 0) → (0 < k) × (¬ free (k - 1))
  unfolding row_at
  weighed_not_free k (normal_from g h u) f = not_none (elements m * 2 + (g * 4 + 0))
      (side_at_lem m g 0 h (omega arith)) (normal_free m g (from_node m g) _) u f (omega arith)
  weighed_not_free k (shear_from g h u) f = not_none (elements m * 2 + (g * 4 + 1))
      (side_at_lem m g 1 h (omega arith)) (shear_free m g (from_node m g) _) u f (omega arith)
  weighed_not_free k (normal_to g h u) f = not_none (elements m * 2 + (g * 4 + 2))
      (side_at_lem m g 2 h (omega arith)) (normal_free m g (to_node m g) _) u f (omega arith)
  weighed_not_free k (shear_to g h u) f = not_none (elements m * 2 + (g * 4 + 3))
      (side_at_lem m g 3 h (omega arith)) (shear_free m g (to_node m g) _) u f (omega arith)

  row_there : (k : ℕ) → UnfixedRow m k → k - 1 < length (equality_rows m)
  row_there k (normal_from g h u) = omega (arith, equality_count_lem m)
  row_there k (shear_from g h u) = omega (arith, equality_count_lem m)
  row_there k (normal_to g h u) = omega (arith, equality_count_lem m)
  row_there k (shear_to g h u) = omega (arith, equality_count_lem m)

  pub refused_unfixed : {p : Place} → RefusalRow m c 31 p → Lowest (UnfixedWeighed m c) (place_number p)
  refused_unfixed (of_mesh (of_lines r)) = absurd (omega (arith, mesh_line_number m r))
  refused_unfixed (of_claim_lines s r) = absurd (omega (arith, claim_line_number m c r))
  refused_unfixed (thirty_one k b h f) = lowest_number unfixed_weighed (λ k g. weighed_not_free k g.unfixed g.nonzero) f

  none_weighed : AtAll (length (equality_rows m)) free → None (UnfixedWeighed m c)
  none_weighed all k f =
      (weighed_not_free k f.unfixed f.nonzero).1 (all (k - 1) (row_there k f.unfixed))

  -- ---- 32

  module _ (sums : ColumnsPrinted m (multiplier m c)) where
    abbrev zero_sum : ℕ → Type 0
    zero_sum j = column_sum (multiplier m c) (rows_of m) j ≡ pos 0

    printed : (j : ℕ) {k : ℕ} → ¬ (printed_column m (multiplier m c) j ≡ pos 0) → k ≡ j → ¬ zero_sum k
    printed j f e h = f (sym (sums.column j) ∙ subst zero_sum e h)

    of_node : (v i : ℕ) → v < nodes m → i < 3 → ¬ zero_sum (v * 3 + i) → ColumnFails m c (suc (v * 3 + i))
    unfolding sx sy t
    of_node v zero h k f = subst (ColumnFails m c) (omega arith)
        (of_sx v h (λ e. f (ap (column_sum (multiplier m c) (rows_of m)) (omega arith) ∙ sums.column (sx v) ∙ e)))
    of_node v (suc zero) h k f = subst (ColumnFails m c) (omega arith)
        (of_sy v h (λ e. f (ap (column_sum (multiplier m c) (rows_of m)) (omega arith) ∙ sums.column (sy v) ∙ e)))
    of_node v (suc (suc zero)) h k f = subst (ColumnFails m c) (omega arith)
        (of_t v h (λ e. f (ap (column_sum (multiplier m c) (rows_of m)) (omega arith) ∙ sums.column (t v) ∙ e)))
    of_node v (suc (suc (suc i))) h k f = absurd (omega arith)

    column_fails : (j : ℕ) → j < 3 * nodes m → ¬ zero_sum j → ColumnFails m c (suc j)
    column_fails j h f =
        let d = div-add-mod' j 3 in
        let r = mod-lt j {m = 3} (omega arith) in
        subst (λ j. ¬ zero_sum j → ColumnFails m c (suc j)) d (of_node (j / 3) (j % 3) (omega arith) r) f

    column_not_zero : (k : ℕ) → ColumnFails m c k → (0 < k) × (¬ zero_sum (k - 1))
    unfolding sx sy t
    column_not_zero k (of_sx v h f) = (omega arith, printed (sx v) f (omega arith))
    column_not_zero k (of_sy v h f) = (omega arith, printed (sy v) f (omega arith))
    column_not_zero k (of_t v h f) = (omega arith, printed (t v) f (omega arith))

  pub refused_column : {p : Place} → RefusalRow m c 32 p
      → None (UnfixedWeighed m c) × Lowest (ColumnFails m c) (place_number p)
  refused_column (of_mesh (of_lines r)) = absurd (omega (arith, mesh_line_number m r))
  refused_column (of_claim_lines s r) = absurd (omega (arith, claim_line_number m c r))
  refused_column (thirty_two j b h a f) =
      let listed = (mesh_facts m b.before.mesh.lines).counts.sides_listed in
      let sums = columns-printed m listed (multiplier m c) in
      (none_weighed a, lowest_number (column_fails sums) (column_not_zero sums) f)
