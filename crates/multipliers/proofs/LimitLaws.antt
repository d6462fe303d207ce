-- The check of multipliers: what 31 asks of one row, what the lowest place that fails says of the checks,
-- and the sums over all rows as the definitions have them.
use mathlib.Core.Path.{◌≡◌, refl, sym, ◌∙◌, ap, ap₂, subst, fun_ext}
use mathlib.Core.Bool.{Bool, true, false}
use mathlib.Core.List.{List, [], ◌∷◌}
use Prim.Native.Nat.{ℕ, suc, ◌+◌, ◌*◌, ◌≤◌, ◌<◌}
use native.Mathlib.Numerals.{add-one}
use native.Mathlib.Omega.{arith}
use lib.Dec.{eqb}
use borrow.Author.Tests.{eq-eqb}
use lib.Ieee.Bits.{is_true, is_false}
use lib.IntN.{ℤ, pos}
use lib.Signed.{lt_z}
use mir.Syntax.{w64}
use mir.Val.{of_z}
use lib.ListN.{length, get_or, take}
use Rattle.std.specs.Prelude.{Result, Some, None, IfOk}
use Rattle.std.specs.List.{HoldsAt, AllWithin as AllFrom}
use Rattle.std.proofs.lemmas.List.{length-take-le, get_or-take}
use Rattle.integer.specs.Bounds.{AllWithin}
use Rattle.integer.specs.Tests.{eq_z}
use Rattle.integer.proofs.Machine.{machine, told, apart}
use Rattle.integer.proofs.TestLaws.{yes_eq_z, no_eq_z}
use Rattle.scope.specs.Answer.{load_of}
use Rattle.scope.specs.Bounds.{most_column}
use Rattle.scope.specs.Claim.{most_multiplier}
use Rattle.scope.specs.Cases.Outcome.{Outcome, Passed, Refused}
use Rattle.scope.specs.Checks.{demand, ◌then◌, lowest}
use Rattle.scope.specs.Columns.{at, has_multipliers}
use Rattle.scope.specs.Mesh.{nodes, sides}
use Rattle.scope.specs.Phases.{check_phase, check_phases}
use Rattle.scope.specs.Refusals.{columns_phase, live_phase, multiplier_part}
use Rattle.scope.specs.Rows.{Kind, asked, unfixed, strength, Row, pair_count, equality_rows, rows_of}
use Rattle.scope.specs.Sums.{coefficient, column_sum, live_sum, limit_sum, zero_if_unfixed}
use Rattle.scope.specs.Tests.{row_at}
use Rattle.scope.specs.Verdict.{multipliers_check, upper_load}
use Rattle.scope.specs.declared.Load.{Load}
use Rattle.scope.specs.declared.Place.TheVariants as P
use Rattle.scope.specs.declared.Refusal.{Refusal}
use Rattle.scope.proofs.Checks.{lowest_cong}
use Rattle.lines.proofs.Loops.{phase-at, phase_all}
use Rattle.equality.specs.EqualityContracts.{is_asked}
use Rattle.criterion.specs.StrengthContracts.{Listed}
use Rattle.criterion.proofs.RowLaws.{row_count}
use Rattle.multipliers.specs.declared.sums.Sums.{Sums}
use Rattle.multipliers.specs.declared.weighted_rows.WeightedRows.{WeightedRows}
use Rattle.multipliers.specs.RowContracts.{RowsOf}
use Rattle.multipliers.specs.MultiplierContracts.{row_sum, PairsSummed, pair_first}
use Rattle.multipliers.proofs.SumLaws.{weighed_sum}

-- ---- 31 at one row

zero_passes : {w : ℤ} (r : Row) → w ≡ pos 0 → true ≡ zero_if_unfixed w r
unfolding zero_if_unfixed
zero_passes r e = rw e (by r.kind)
  where
    by : (k : Kind) → true ≡ elim k [ asked ↦ true | unfixed ↦ true | strength ↦ true ]
    by asked = refl
    by unfixed = refl
    by strength = refl

asked_passes : {w : ℤ} {b : Bool} (r : Row) → ¬ (w ≡ pos 0) → b ≡ is_asked r → b ≡ zero_if_unfixed w r
unfolding zero_if_unfixed is_asked
asked_passes {w} r n e = e ∙ by r.kind
  where
    by : (k : Kind)
        → ◌≡◌ {A = Bool} (elim k [ asked ↦ true | unfixed ↦ false | strength ↦ true ])
        (elim k [ asked ↦ true | unfixed ↦ eq_z w (pos 0) | strength ↦ true ])
    by asked = refl
    by unfixed = sym (is_false _ (no_eq_z n))
    by strength = refl

-- the same, as the code tests it
module _ {y : List ℤ} (k : ℕ) (r : Row) (h : AllWithin most_multiplier y) where
  pub zero_read : of_z w64 (get_or y k (pos 0)) ≡ 0
      → eqb (of_z w64 (get_or y k (pos 0))) 0 ≡ zero_if_unfixed (at y k) r
  unfolding at
  zero_read e = eq-eqb _ _ e ∙ zero_passes r (told e (search machine depth 30) (omega arith))

  pub asked_read : {b : Bool} → ¬ (of_z w64 (get_or y k (pos 0)) ≡ 0) → b ≡ is_asked r → b ≡ zero_if_unfixed (at y k) r
  unfolding at
  asked_read n e = asked_passes r (apart n (search machine depth 30) (omega arith)) e

-- ---- the rows that 31 asks, and the lowest column that 32 refuses

abbrev pub unfixed_test : List ℤ → List ℤ → ℕ → Bool
unfixed_test m y k = zero_if_unfixed (at y k) (row_at (equality_rows m) k)

-- a column is 0, and is not, as the code tests it
abbrev pub IsZero : ℤ → Type 0
IsZero z = of_z w64 z ≡ 0

abbrev pub IsNotZero : ℤ → Type 0
IsNotZero z = ¬ (of_z w64 z ≡ 0)

module _ (columns : List ℤ) (fit : AllWithin most_column columns) where
  abbrev zero_test : ℕ → Bool
  zero_test j = eq_z (at columns j) (pos 0)

  zero_there : (j : ℕ) → IsZero (get_or columns j (pos 0)) → zero_test j ≡ true
  unfolding at
  zero_there j e = is_true _ (yes_eq_z (told e (search machine depth 30) (omega arith)))

  pub column_fails : {j : ℕ} → (j < length columns) × HoldsAt IsNotZero columns j × AllFrom IsZero columns 0 j
      → Refused 32 (P.Column (j + 1)) ≡ check_phase (columns_phase (at columns) (length columns))
  unfolding check_phase at
  column_fails {j} h =
      phase-at zero_test 32 (λ i. P.Column (suc i)) (length columns)
      (λ k l. zero_there k (h.2 k (pos 0) (omega arith) l)) h.0
      (is_false _ (no_eq_z (apart (h.1 (pos 0)) (search machine depth 30) (omega arith)))) (ap P.Column (add-one j))

  pub columns_done : AllFrom IsZero columns 0 (length columns)
      → Passed ≡ check_phase (columns_phase (at columns) (length columns))
  unfolding check_phase
  columns_done h =
      phase_all zero_test 32 (λ i. P.Column (suc i)) (length columns)
      (λ k l. zero_there k (h k (pos 0) (omega arith) l))

-- ---- 33

pub live_check : (z : ℤ) → demand (lt_z (pos 0) z) 33 (P.Column 0) ≡ check_phase (live_phase z)
unfolding check_phase lowest
live_check z = refl

-- ---- 32 and 33 by the sums over all rows

-- of n columns with these sums, and of this m
abbrev pub sums_check : (ℕ → ℤ) → ℕ → ℤ → Outcome
sums_check f n z = check_phases (columns_phase f n ∷ live_phase z ∷ [])

-- of the first n columns alone
first_columns : (columns : List ℤ) (n : ℕ) (z : ℤ) → n ≤ length columns
    → sums_check (at (take n columns)) (length (take n columns)) z ≡ sums_check (at columns) n z
unfolding check_phases check_phase at
first_columns columns n z h =
    ap (λ (o : Outcome). o then check_phase (live_phase z))
    (ap (λ (k : ℕ). check_phase (columns_phase (at (take n columns)) k)) (length-take-le n columns h)
    ∙ lowest_cong _ _ n (λ i l. ap (λ z. demand (eq_z z (pos 0)) 32 (P.Column (suc i)))
    (get_or-take n columns i (pos 0) l)))

pub same_load : {a b c d : ℤ} → a ≡ c → b ≡ d
    → ◌≡◌ {A = Load} (record { num = a; den = b }) (record { num = c; den = d })
same_load e f = ap₂ (λ w z. record { num = w; den = z }) e f

module _ (m y : List ℤ) (listed : Listed (sides m)) {columns : List ℤ} (sums : Sums)
    (h : PairsSummed m y (pair_count m) columns sums) where
  whole : (F : Row → ℤ)
      → row_sum F (at y) (rows_of m) (pair_first m (pair_count m)) ≡ row_sum F (at y) (rows_of m) (length (rows_of m))
  unfolding pair_first
  whole F = ap (row_sum F (at y) (rows_of m)) (sym (row_count m listed))

  column_is : (j : ℕ) → at columns j ≡ column_sum (at y) (rows_of m) j
  unfolding column_sum
  column_is j =
      (h.columns_are.each j).same ∙ whole (coefficient j) ∙ sym (weighed_sum (coefficient j) (at y) (rows_of m))

  live_is_lem : sums.m ≡ live_sum (at y) (rows_of m)
  unfolding live_sum
  live_is_lem = h.live_is.same ∙ whole (λ r. r.live) ∙ sym (weighed_sum (λ r. r.live) (at y) (rows_of m))

  limit_is : sums.w ≡ limit_sum (at y) (rows_of m)
  unfolding limit_sum
  limit_is = h.limit_is.same ∙ whole (λ r. r.right) ∙ sym (weighed_sum (λ r. r.right) (at y) (rows_of m))

  -- by the first n columns
  pub sums_checked : {n : ℕ} → n ≡ 3 * nodes m → n ≤ length columns
      → sums_check (at (take n columns)) (length (take n columns)) sums.m
      ≡ sums_check (column_sum (at y) (rows_of m)) (3 * nodes m) (live_sum (at y) (rows_of m))
  sums_checked {n} d l =
      first_columns columns n sums.m l ∙ ap (λ k. sums_check (at columns) k sums.m) d
      ∙ ap₂ (λ f z. sums_check f (3 * nodes m) z) (fun_ext column_is) live_is_lem

  pub limit_found : (r : Result Load Refusal) → IfOk r (λ l. l ≡ record { num = sums.w; den = sums.m })
      → IfOk r (λ l. l ≡ record { num = limit_sum (at y) (rows_of m); den = live_sum (at y) (rows_of m) })
  limit_found r e = subst (λ x. IfOk r (λ l. l ≡ x)) (same_load limit_is live_is_lem) e

-- ---- a claim's multipliers

module _ (m c : List ℤ) (rows : WeightedRows) (h : RowsOf rows m c) where
  abbrev of_rows : List ℤ
  of_rows = rows.mesh.mesh.numbers.now

  abbrev weights : ℕ → ℤ
  weights = at rows.multipliers.now

  -- the check, and the limit
  pub claim_checked : multipliers_check (equality_rows of_rows) (rows_of of_rows) (3 * nodes of_rows) weights
      ≡ check_phases (multiplier_part m c)
  unfolding multipliers_check
  claim_checked = rw (h.there, h.its_mesh, h.its_multipliers)

  pub claim_load : {l : Load}
      → l ≡ record { num = limit_sum weights (rows_of of_rows); den = live_sum weights (rows_of of_rows) }
      → load_of (Some l) ≡ upper_load m c
  unfolding upper_load
  claim_load e = rw (e, h.there, h.its_mesh, h.its_multipliers)

module _ (m c : List ℤ) (none : has_multipliers c ≡ false) where
  pub no_check : Passed ≡ check_phases (multiplier_part m c)
  unfolding check_phases
  no_check = sym (rw none)

  pub no_limit : load_of None ≡ upper_load m c
  unfolding upper_load
  no_limit = sym (rw none)
