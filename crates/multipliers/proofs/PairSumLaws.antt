-- The sums over the rows of all pairs: what one pair adds to its node's three columns and to the two sums is the part
-- of its rows, and by induction on the pairs the sums are those over all rows before.
use mathlib.Core.Path.{◌≡◌, refl, sym, ◌∙◌, ap, ap₂, subst}
use mathlib.Core.List.{List, [], ◌∷◌}
use Prim.Native.Nat.{ℕ, zero, suc, ◌+◌, ◌*◌, ◌^◌, ◌≤◌, ◌<◌}
use native.Mathlib.Nat.{le_refl, le_trans, zero-mul, suc-mul, mul-le-mul_right}
use native.Mathlib.Numerals.{add-one}
use native.Mathlib.Omega.{arith}
use lib.IntN.{ℤ, pos, ◌+ℤ◌, ◌*ℤ◌, +ℤ_idr}
use lib.ListN.{length, get_or, set, length-set, replicate, length-replicate, take}
use Rattle.std.proofs.lemmas.List.{length-take, get_or-take}
use Rattle.integer.proofs.Ring.{ring, terms}
use Rattle.integer.specs.Bounds.{Within, AllWithin}
use Rattle.integer.proofs.BoundLaws.{Within-le, Within-+ℤ, Within-*ℤ, AllWithin-le, all_within_lem}
use Rattle.integer.proofs.Machine.{Is-Within, Is-within, Is-read}
use Rattle.scope.specs.Mesh.{pairs_with, most_nodes, most_pairs, most_equality_rows, sides, equality_count}
use Rattle.scope.specs.Bounds.{most_strength_rows, equality_columns}
use Rattle.scope.specs.Bounds.{equality_sums, strength_sum, pair_column, most_column}
use Rattle.scope.proofs.PolygonRule.{listed_polygon}
use Rattle.scope.proofs.SideLimits.{few_most}
use Rattle.scope.specs.Columns.{at}
use Rattle.scope.specs.NumberRanges.{Counts}
use Rattle.scope.specs.Rows.{Row, pair_count, pair_at, sx, sy, t, rows_of}
use Rattle.scope.specs.Sums.{unit, coefficient}
use Rattle.scope.specs.Tests.{row_at}
use Rattle.mesh.specs.declared.pairs.PairedMesh.{PairedMesh}
use Rattle.multipliers.specs.declared.sums.Sums.{Sums}
use Rattle.multipliers.specs.declared.sums.PairSums.{PairSums}
use Rattle.scope.specs.PrintedColumns.{sum_below}
use Rattle.equality.specs.EqualityContracts.{SumsAre}
use Rattle.multipliers.specs.MultiplierContracts.{row_sum, part_sum, NoSums, SummedTo, Summed, PairsSummed}
use Rattle.multipliers.specs.MultiplierContracts.{pair_first, PairPart, three_added, WholeSumsFit}
use Rattle.equality.proofs.EntryLaws.{unit-within, sums_within, sums_add, sums_of, sums_as}
use Rattle.scope.proofs.SumBelow.{sum_below_add}
use Rattle.multipliers.proofs.PairLaws.{read}

-- ---- three columns, one after the other

-- d is added to the sum of column i
pub record ColumnAdded (B : ℕ) (before after : List ℤ) (f : ℕ → ℤ) : Type 0 where
  pub size : length after ≡ length before
  pub sums : SumsAre B after f

column_added : {B C : ℕ} (before : List ℤ) {after : List ℤ} {f : ℕ → ℤ} (i : ℕ) {d : ℤ} → SumsAre B before f
    → i < length before → Within C d → C < 2 ^ 63 → after ≡ set before i (at before i +ℤ read d)
    → ColumnAdded (B + C) before after (λ j. f j +ℤ d *ℤ unit j i)
column_added {B} {C} before {f = f} i {d = d} h l k few e =
    let s = e ∙ ap (λ z. set before i (at before i +ℤ z)) (Is-read (Is-within k) few).same in
    record {
      size = ap length s ∙ length-set before i _;
      sums = subst (λ z. SumsAre (B + C) z (λ j. f j +ℤ d *ℤ unit j i)) (sym s) (sums_add before i d l k h);
    }

module _ (before : List ℤ) (i : ℕ) (r : PairSums) (l : i + 2 < length before) (h : AllWithin most_column before)
    {one : List ℤ} (e : one ≡ set before i (at before i +ℤ read r.sx)) where
  pub sx_added : ColumnAdded (most_column + pair_column) before one (λ j. at before j +ℤ r.sx *ℤ unit j i)
  sx_added = column_added before i (sums_of h) (omega arith) r.sx_fits (omega arith) e

  module _ {two : List ℤ} (d : two ≡ set one (i + 1) (at one (i + 1) +ℤ read r.sy)) where
    pub sy_added : ColumnAdded (most_column + pair_column + pair_column) one two
        (λ j. at before j +ℤ r.sx *ℤ unit j i +ℤ r.sy *ℤ unit j (i + 1))
    sy_added = column_added one (i + 1) sx_added.sums (omega (arith, sx_added.size)) r.sy_fits (omega arith) d

    pub t_added : {after : List ℤ} → after ≡ set two (i + 2) (at two (i + 2) +ℤ read r.t)
        → SumsAre (most_column + 3 * pair_column) after (three_added before i r)
    t_added s =
        sums_as (column_added two (i + 2) sy_added.sums (omega (arith, sx_added.size, sy_added.size)) r.t_fits
        (omega arith) s).sums
        (omega arith) (λ j. refl)

-- ---- one pair more

pub three_within : (before : List ℤ) (column j : ℕ) (r : PairSums) {B : ℕ} → Within B (at before j)
    → Within (B + 3 * pair_column) (three_added before column r j)
three_within before column j r h =
    Within-le
    (Within-+ℤ (Within-+ℤ (Within-+ℤ h (Within-*ℤ r.sx_fits (unit-within j column)))
    (Within-*ℤ r.sy_fits (unit-within j (column + 1)))) (Within-*ℤ r.t_fits (unit-within j (column + 2))))
    (omega arith)

pub next_first : (m : List ℤ) (a : ℕ) → pair_first m a + sides m ≡ pair_first m (a + 1)
unfolding pair_first
next_first m a = omega (arith, ap (λ k. k * sides m) (add-one a) ∙ suc-mul a (sides m))

module _ (m y : List ℤ) (a : ℕ) where
  -- a sum over the rows of the pairs before, and of this one
  sum_next : (F : Row → ℤ)
      → row_sum F (at y) (rows_of m) (pair_first m a) +ℤ part_sum F (at y) (rows_of m) (pair_first m a) (sides m)
      ≡ row_sum F (at y) (rows_of m) (pair_first m (a + 1))
  unfolding row_sum part_sum
  sum_next F = sym (sum_below_add _ (pair_first m a) (sides m))
      ∙ ap (sum_below (λ k. at y k *ℤ F (row_at (rows_of m) k))) (next_first m a)

  pub one_pair_summed : {before after : List ℤ} {r : PairSums} {old new : Sums} {B column : ℕ}
      → PairsSummed m y a before old → PairPart r m y a → length after ≡ length before → column ≡ 3 * (pair_at m a).at
      → SumsAre B after (three_added before column r) → new.w ≡ old.w +ℤ r.right → new.m ≡ old.m
      → PairsSummed m y (a + 1) after new
  unfolding sx sy t
  one_pair_summed {before} {after} {r} {old} {new} {column = column} h g e ec s ew em = record {
    size = e ∙ h.size;
    columns_are = record {
      each = λ j. record {
        same = columns_are_lem j;
        inside = subst (Within (equality_columns + (a + 1) * (3 * pair_column)))
            (sym (s.each j).same ∙ columns_are_lem j)
            (Within-le (three_within before column j r (Is-Within (h.columns_are.each j) (le_refl _)))
            (omega arith));
      };
    };
    limit_is = record {
      same = limit_is;
      inside = subst (Within (equality_sums + (a + 1) * sides m * strength_sum)) (sym ew ∙ limit_is)
          (Within-le (Within-+ℤ (Is-Within h.limit_is (le_refl _)) g.limit_fits) (omega (arith, next_rows)));
    };
    live_is = record {
      same = live_is_lem;
      inside = subst (Within (equality_sums + (a + 1) * sides m * strength_sum)) (sym em ∙ live_is_lem)
          (Within-le (Is-Within h.live_is (le_refl _)) (omega (arith, next_rows)));
    };
  }
    where
      next_rows : (a + 1) * sides m ≡ a * sides m + sides m
      next_rows = ap (λ k. k * sides m) (add-one a) ∙ suc-mul a (sides m)

      columns_are_lem : (j : ℕ) → at after j ≡ row_sum (coefficient j) (at y) (rows_of m) (pair_first m (a + 1))
      columns_are_lem j =
          (s.each j).same
          ∙ rw (ec, (h.columns_are.each j).same)
          (ring
          (row_sum (coefficient j) (at y) (rows_of m) (pair_first m a)
          ∷ r.sx
          ∷ r.sy
          ∷ r.t
          ∷ unit j (3 * (pair_at m a).at)
          ∷ unit j (3 * (pair_at m a).at + 1)
          ∷ unit j (3 * (pair_at m a).at + 2)
          ∷ [])
          (search terms depth 100)
          refl)
          ∙ ap (λ z. row_sum (coefficient j) (at y) (rows_of m) (pair_first m a) +ℤ z) (sym (g.columns j))
          ∙ sum_next (coefficient j)

      limit_is : new.w ≡ row_sum (λ r. r.right) (at y) (rows_of m) (pair_first m (a + 1))
      limit_is = ew ∙ ap₂ ◌+ℤ◌ h.limit_is.same (sym g.limit) ∙ sum_next (λ r. r.right)

      live_is_lem : new.m ≡ row_sum (λ r. r.live) (at y) (rows_of m) (pair_first m (a + 1))
      live_is_lem = em ∙ sym (+ℤ_idr old.m) ∙ ap₂ ◌+ℤ◌ h.live_is.same (sym g.live) ∙ sum_next (λ r. r.live)

-- ---- all pairs

-- the strength rows before pair a
pub few_rows : {m : List ℤ} → Counts m → pair_count m ≤ pairs_with (sides m) → (a : ℕ) → a ≤ pair_count m
    → a * sides m ≤ most_strength_rows
few_rows {m} counts few a l =
    let most : a ≤ pairs_with (sides m) = omega arith in
    le_trans (mul-le-mul_right (sides m) most) (listed_polygon (sides m) counts.sides_listed).fits.rows_fit

module _ (m y : List ℤ) (counts : Counts m) (few : pair_count m ≤ pairs_with (sides m)) where
  -- before each pair the sums leave room
  pub pair_room : (a : ℕ) {columns : List ℤ} {sums : Sums} → a ≤ pair_count m → PairsSummed m y a columns sums
      → WholeSumsFit columns sums
  pair_room a l h =
      let most : a ≤ most_pairs = omega (arith, few_most (sides m) few) in
      let rows = few_rows counts few a l in
      record {
        columns_fit = AllWithin-le (sums_within h.columns_are) (omega arith);
        limit_fits = Is-Within h.limit_is (omega (arith, rows));
        live_fits = Is-Within h.live_is (omega (arith, rows));
      }

  -- the equality rows are few
  pub no_pairs_summed : {columns : List ℤ} {sums : Sums} → Summed m y (equality_count m) columns sums
      → PairsSummed m y 0 columns sums
  unfolding pair_first
  no_pairs_summed {columns} {sums} h =
      let equalities : equality_count m ≤ most_equality_rows =
      omega (arith, counts.elements_most, counts.edges_most, counts.jumps_most) in
      let all : equality_count m ≡ equality_count m + 0 * sides m = omega (arith, zero-mul (sides m)) in
      subst (λ k. SummedTo m y k (equality_columns + 0 * (3 * pair_column)) (equality_sums + 0 * sides m * strength_sum)
      columns sums) all
      (record {
        size = h.size;
        columns_are = record {
          each = λ j. record {
            same = (h.columns_are.each j).same;
            inside = Within-le (h.columns_are.each j).inside (omega arith);
          };
        };
        limit_is =
            record { same = h.limit_is.same; inside = Within-le h.limit_is.inside (omega (arith, zero-mul (sides m))) };
        live_is =
            record { same = h.live_is.same; inside = Within-le h.live_is.inside (omega (arith, zero-mul (sides m))) };
      })

  pub whole_room : {columns : List ℤ} {sums : Sums} → PairsSummed m y (pair_count m) columns sums
      → WholeSumsFit columns sums
  whole_room h = pair_room (pair_count m) (le_refl (pair_count m)) h

-- the first n columns alone
pub first_room : {columns : List ℤ} {sums : Sums} (n : ℕ) → WholeSumsFit columns sums
    → WholeSumsFit (take n columns) sums
first_room {columns} n h = record {
  columns_fit =
      all_within_lem (take n columns)
      (λ i l. rw (get_or-take n columns i (pos 0) (omega (arith, length-take n columns))) (h.columns_fit.each i));
  limit_fits = h.limit_fits;
  live_fits = h.live_fits;
}

pub all_pairs_summed : (m y : List ℤ) {a n : ℕ} {columns : List ℤ} {sums : Sums} → a ≡ n
    → PairsSummed m y a columns sums
    → PairsSummed m y n columns sums
all_pairs_summed m y {columns = columns} {sums = sums} e h = subst (λ a. PairsSummed m y a columns sums) e h

-- before pair a the sums leave room
pub room_before : (mesh : PairedMesh) {y columns : List ℤ} {sums : Sums} (a : ℕ) → a < pair_count mesh.mesh.numbers.now
    → PairsSummed mesh.mesh.numbers.now y a columns sums → WholeSumsFit columns sums
room_before mesh {y} a l h =
    let m = mesh.mesh.numbers.now in
    pair_room m y mesh.mesh.sized.facts.counts mesh.few_with_sides a (omega arith) h

pub no_sums : {z : ℤ} → z ≡ pos 0 → NoSums (replicate (3 * most_nodes) z)
unfolding at
no_sums {z} e = record {
  size = length-replicate (3 * most_nodes) z;
  none = λ j. ap (λ x. get_or (replicate (3 * most_nodes) x) j (pos 0)) e ∙ by (3 * most_nodes) j;
}
  where
    by : (n j : ℕ) → get_or (replicate n (pos 0)) j (pos 0) ≡ pos 0
    by zero j = refl
    by (suc n) zero = refl
    by (suc n) (suc j) = by n j
