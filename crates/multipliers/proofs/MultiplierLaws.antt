-- Multipliers against the columns: what one row, one pair and all rows add to the sums, and the checks of the sums.
use mathlib.Core.Path.{◌≡◌, refl, sym, ◌∙◌, ap, subst}
use mathlib.Core.Bool.{true}
use mathlib.Core.List.{List, [], ◌∷◌}
use Prim.Native.Nat.{ℕ, zero, suc, ◌+◌, ◌*◌, ◌≤◌, ◌<◌, zero-le}
use native.Mathlib.Nat.{add-zero}
use native.Mathlib.Omega.{arith}
use lib.IntN.{ℤ, pos, ◌+ℤ◌, ◌*ℤ◌, zero-*ℤ}
use lib.ListN.{length, length-map}
use Rattle.integer.proofs.Ring.{ring, terms}
use Rattle.integer.specs.Bounds.{Within, AllWithin, Is}
use Rattle.integer.proofs.BoundLaws.{Within-le, Within-+ℤ, Within-*ℤ, AllWithin-le}
use Rattle.integer.proofs.Machine.{Is-as, Is-Within}
use Rattle.std.proofs.Common.{map}
use Rattle.equality.specs.declared.row.Term.{Term}
use Rattle.equality.specs.declared.row.EqualityRow.{EqualityRow}
use Rattle.multipliers.specs.declared.sums.Sums.{Sums}
use Rattle.scope.specs.Bounds.{most_entries, most_coefficient, equality_right}
use Rattle.scope.specs.Claim.{most_multiplier}
use Rattle.scope.specs.Claim.{if_there}
use Rattle.scope.specs.Mesh.{strength_multiplier, most_equality_rows, sides, equality_count}
use Rattle.scope.specs.Columns.{at, has_multipliers}
use Rattle.scope.specs.Rows.{pair_count, equality_rows, rows_of}
use Rattle.scope.specs.Sums.{weighted_sum, unit, coefficient}
use Rattle.scope.specs.Tests.{row_at}
use Rattle.scope.specs.PrintedColumns.{sum_below}
use Rattle.equality.specs.EqualityContracts.{entry_of, terms_of, entries_of, row_of, Filled, SumsAre}
use Rattle.multipliers.specs.MultiplierContracts.{Grown, row_sum}
use Rattle.multipliers.specs.MultiplierContracts.{Multipliers, SumsFit, RowSummed, NoSums, Summed}
use Rattle.equality.proofs.EntryLaws.{unit-within, sums_within}
use Rattle.multipliers.proofs.SumLaws.{sum_below-next}

-- ---- a claim's multipliers

pub claim_multipliers : {m : List ℤ} (c : List ℤ) {y : List ℤ} → has_multipliers c ≡ true
    → length y ≡ if_there (has_multipliers c) (equality_count m + pair_count m * sides m) → AllWithin most_multiplier y
    → ((k : ℕ) → k < pair_count m * sides m → Within (strength_multiplier (sides m)) (at y (equality_count m + k)))
    → Multipliers m y
unfolding if_there
claim_multipliers c e long within strengths = record {
  long = omega (arith, rw e at long);
  bounds = within;
  strength_bounds = strengths;
}

-- ---- one equality row

entries_within : (j : ℕ) (ts : List Term)
    → Within (length ts * most_coefficient) (weighted_sum (unit j) (map entry_of ts))
unfolding weighted_sum
entries_within j [] = record { within = zero-le }
entries_within j (t ∷ ts) =
    Within-le (Within-+ℤ (Within-*ℤ t.coefficient_fits (unit-within j t.column)) (entries_within j ts)) (omega arith)

coefficient-within : (r : EqualityRow) → length (entries_of r) ≤ most_entries → (j : ℕ)
    → Within (most_entries * most_coefficient) (coefficient j (row_of r))
unfolding coefficient row_of
coefficient-within r few j =
    Within-le (entries_within j (terms_of r.terms)) (omega (arith, few, length-map (terms_of r.terms) entry_of))

pub grown_by : {a b d : ℤ} {B : ℕ} → b ≡ a +ℤ d → Within B d → Grown a b d B
grown_by e h = record { by = e; step = h }

pub nothing_added : (a w d : ℤ) {B : ℕ} → w ≡ pos 0 → Grown a a (w *ℤ d) B
nothing_added a w d {B} e =
    rw e (grown_by (ring (a ∷ d ∷ []) (search terms depth 100) refl)
    (subst (Within B) (sym (zero-*ℤ d)) (record { within = zero-le })))

module _ (m y : List ℤ) (k : ℕ) where
  pub zero_summed : (columns : List ℤ) (a : Sums) → at y k ≡ pos 0 → RowSummed m y k columns columns a a
  zero_summed columns a e = record {
    columns = λ j. nothing_added (at columns j) (at y k) _ e;
    limit = nothing_added a.w (at y k) _ e;
    live = nothing_added a.m (at y k) _ e;
  }

  pub row_summed : (r : EqualityRow) {n B : ℕ} {before after : List ℤ} {a b : Sums} {w : ℤ}
      → Filled r (row_at (equality_rows m) k) n → row_at (rows_of m) k ≡ row_at (equality_rows m) k
      → Is w (at y k) most_multiplier → SumsAre B after (λ j. at before j +ℤ w *ℤ coefficient j (row_of r))
      → b.w ≡ a.w +ℤ w *ℤ r.right → b.m ≡ a.m +ℤ w *ℤ r.live → RowSummed m y k before after a b
  unfolding row_of
  row_summed r {before = before} {a = a} {w = w} f among hw s ew em = record {
    columns = λ j.
        grown_by ((s.each j).same ∙ rw (hw.same, is))
        (Within-*ℤ hw.inside
        (subst (λ z. Within (most_entries * most_coefficient) (coefficient j z)) is (coefficient-within r f.few j)));
    limit =
        grown_by (ew ∙ rw hw.same (ap (λ z. a.w +ℤ at y k *ℤ z.right) is))
        (Within-*ℤ hw.inside (subst (λ z. Within equality_right z.right) is r.right_fits));
    live =
        grown_by (em ∙ rw hw.same (ap (λ z. a.m +ℤ at y k *ℤ z.live) is))
        (Within-*ℤ hw.inside (subst (λ z. Within equality_right z.live) is r.live_fits));
  }
    where
      is : row_of r ≡ row_at (rows_of m) k
      is = f.is ∙ sym among

-- ---- all equality rows

pub grown_is : {a b d p : ℤ} {A B : ℕ} → Grown a b d B → Is a p A → Is b (p +ℤ d) (A + B)
grown_is {d = d} g h = record { same = g.by ∙ ap (λ z. z +ℤ d) h.same; inside = Within-+ℤ h.inside g.step }

pub none_summed : (m y : List ℤ) {columns : List ℤ} {sums : Sums} → NoSums columns → sums.w ≡ pos 0 → sums.m ≡ pos 0
    → Summed m y 0 columns sums
unfolding row_sum sum_below
none_summed m y h ew em = record {
  size = h.size;
  columns_are = record { each = λ j. record { same = h.none j; inside = record { within = zero-le } } };
  limit_is = record { same = ew; inside = record { within = zero-le } };
  live_is = record { same = em; inside = record { within = zero-le } };
}

pub one_summed : (m y : List ℤ) (k : ℕ) {before after : List ℤ} {a b : Sums} → Summed m y k before a
    → length after ≡ length before → RowSummed m y k before after a b → Summed m y (k + 1) after b
unfolding row_sum
one_summed m y k h e g = record {
  size = e ∙ h.size;
  columns_are = record {
    each = λ j. Is-as (grown_is (g.columns j) (h.columns_are.each j)) (omega arith) (sym (sum_below-next _ k));
  };
  limit_is = Is-as (grown_is g.limit h.limit_is) (omega arith) (sym (sum_below-next _ k));
  live_is = Is-as (grown_is g.live h.live_is) (omega arith) (sym (sum_below-next _ k));
}

pub all_summed : (m y : List ℤ) {k n : ℕ} {columns : List ℤ} {sums : Sums} → k ≡ n → Summed m y k columns sums
    → Summed m y n columns sums
all_summed m y {columns = columns} {sums = sums} e h = subst (λ k. Summed m y k columns sums) e h

-- rows whose multipliers are 0
pub skipped : (m y : List ℤ) (k n : ℕ) {columns : List ℤ} {sums : Sums} → ((i : ℕ) → i < n → at y (k + i) ≡ pos 0)
    → Summed m y k columns sums → Summed m y (k + n) columns sums
skipped m y k zero h s = all_summed m y (sym (add-zero k)) s
skipped m y k (suc n) h s =
    let place : k + n + 1 ≡ k + suc n = omega arith in
    all_summed m y place
    (one_summed m y (k + n) (skipped m y k n (λ i l. h i (omega arith)) s) refl
    (zero_summed m y (k + n) _ _ (h n (omega arith))))

-- sums over the equality rows leave room
pub room : (m y : List ℤ) {k : ℕ} {columns : List ℤ} {sums : Sums} → Summed m y k columns sums
    → k ≤ most_equality_rows → SumsFit columns sums
room m y h l = record {
  columns_fit = AllWithin-le (sums_within h.columns_are) (omega arith);
  limit_fits = Is-Within h.limit_is (omega arith);
  live_fits = Is-Within h.live_is (omega arith);
}
