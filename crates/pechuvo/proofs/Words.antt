-- "Whichever part the claim lacks gives the four letters none; open rows need both parts": an accepted part has a load
-- over a number above 0, so its column says a number.
use mathlib.Core.Path.{◌≡◌, refl}
use mathlib.Core.Logic.Iff
use mathlib.Core.Logic.{◌↔◌, ◌⊎◌, inl, inr, ◌≢◌}
use mathlib.Core.Bool.{Bool, true, false, cond, not, ◌&&◌}
use mathlib.Core.List.{List}
use mathlib.Core.Option.{some}
use Prim.Native.Nat.{ℕ, ◌≤◌}
use native.Mathlib.Decide.{ℕ_discrete}
use native.Mathlib.Omega.{arith}
use lib.Dec.{T}
use lib.IntN.{ℤ, pos}
use lib.Signed.{◌<ℤ◌, <ℤ_irrefl, <ℤ-≤ℤ_trans}
use Rattle.integer.specs.Tests.{eq_z}
use Rattle.integer.proofs.TestLaws.{eq_z_yes, eq_z_no, no_eq_z}
use Rattle.scope.specs.Cases.Load.{Absent, Exact}
use Rattle.scope.specs.Cases.OpenRows.{Absent as NoCount, Count}
use Rattle.scope.specs.Cases.Verdict.{Verdict}
use Rattle.scope.specs.Cases.Verdict.{Accepted, Refused}
use Rattle.scope.specs.Answer.{number_of}
use Rattle.scope.specs.Columns.{at, has_field, has_multipliers, n, l}
use Rattle.scope.specs.Claim.{stress, multiplier}
use Rattle.scope.specs.Mesh.{some_by_direction, ListsDirection}
use Rattle.scope.specs.Rows.{rows_of}
use Rattle.scope.specs.Sums.{live_sum, limit_sum, open_rows}
use Rattle.scope.specs.Accepted.{ClaimAccepted}
use Rattle.scope.specs.Verdict.{verdict, lower_load, upper_load, open_count}
use Rattle.scope.proofs.Decides.{Decides, equalℤ}
use Rattle.scope.proofs.Directions.{lists_direction}
use Rattle.scope.proofs.Exactly.{accepted_exactly, claim_by_parts, returns_zero}
use Rattle.scope.proofs.Parts.{field-n}
use Rattle.scope.specs.Statements.{HasField, HasMultipliers}
use Rattle.report.specs.Text.{said, word}
use Rattle.report.specs.Report.{report_line}
use Rattle.report.specs.Says.{column_of, Held, NoLoad, NoLower, NoUpper}
use Rattle.report.proofs.Line.{lower_none, upper_none, rows_none}
use Rattle.pechuvo.proofs.VerdictFits.{held}

-- a load that is there only where a test passes, over a number above 0
load_if : (b : Bool) (num den : ℤ) → (T b → pos 0 <ℤ den) → NoLoad (cond b (Exact num den) Absent) ↔ T (not b)
load_if true num den p = (λ h. <ℤ_irrefl (<ℤ-≤ℤ_trans (p tt) h), λ t. absurd t)
load_if false num den p = (λ h. tt, λ t. tt)

-- a load that is there only where one test passes and another fails
load_told : (a b : Bool) (num den : ℤ) {A B : Type 0} → Decides a A → Decides b B → (A → pos 0 <ℤ den)
    → NoLoad (cond (a && not b) (Exact num den) Absent) ↔ ((¬ A) ⊎ B)
load_told true true num den f g p = (λ h. inr (g.holds tt), λ h. tt)
load_told true false num den {A} {B} f g p = (λ h. absurd (<ℤ_irrefl (<ℤ-≤ℤ_trans (p (f.holds tt)) h)), back)
  where
    back : (¬ A) ⊎ B → NoLoad (Exact num den)
    back (inl h) = absurd (h (f.holds tt))
    back (inr h) = absurd (g.passes h)
load_told false b num den f g p = (λ h. inl f.passes, λ h. tt)

-- a count that is there only where two tests pass
count_if : (a b : Bool) (k : ℕ) {A B : Type 0} → T (not a) ↔ (¬ A) → T (not b) ↔ (¬ B)
    → (cond (a && b) (Count k) NoCount ≡ NoCount) ↔ ((¬ A) ⊎ (¬ B))
count_if true true k {A} {B} f g = (λ e. let z : ◌≡◌ {A = ℕ} 0 1 = cc in absurd (omega arith), back)
  where
    back : (¬ A) ⊎ (¬ B) → Count k ≡ NoCount
    back (inl h) = absurd (f.1 h)
    back (inr h) = absurd (g.1 h)
count_if true false k f g = (λ e. inr (g.0 tt), λ h. refl)
count_if false b k f g = (λ e. inl (f.0 tt), λ h. refl)

not_equal : (a b : ℤ) → T (not (eq_z a b)) ↔ (¬ (a ≡ b))
not_equal a b = (eq_z_no, no_eq_z)

refused_lower : (v : Verdict) → number_of v ≢ 0 → NoLower v
refused_lower (Accepted o lower upper) h = absurd (h refl)
refused_lower (Refused k place) h = tt

refused_upper : (v : Verdict) → number_of v ≢ 0 → NoUpper v
refused_upper (Accepted o lower upper) h = absurd (h refl)
refused_upper (Refused k place) h = tt

-- what holds of each refusal, and of what is accepted where H holds
refused_or : {A H : Type 0} (k : ℕ) → (k ≢ 0 → A) → (k ≡ 0 → A ↔ H) → A ↔ ((k ≢ 0) ⊎ H)
refused_or {A} {H} k f g = by (ℕ_discrete k 0)
  where
    by : Dec (k ≡ 0) → A ↔ ((k ≢ 0) ⊎ H)
    by (yes e) = (λ a. inr ((g e).0 a), back)
      where
        back : (k ≢ 0) ⊎ H → A
        back (inl q) = absurd (q e)
        back (inr h) = (g e).1 h
    by (no q) = (λ a. inl q, λ h. f q)

module _ (m c : List ℤ) where
  -- an accepted field whose load is not told: the mesh lists a soil by direction
  lower_absent : ClaimAccepted m c → NoLoad (lower_load m c) ↔ ((¬ HasField c) ⊎ ListsDirection m)
  unfolding lower_load has_field
  lower_absent a =
      load_told (has_field c) (some_by_direction m) (l c) (n c) (equalℤ (at c 0) (pos 1)) (lists_direction m)
      (λ f. field-n m c (((claim_by_parts m c).0 a).2 f))

  upper_absent : ClaimAccepted m c → NoLoad (upper_load m c) ↔ (¬ HasMultipliers c)
  unfolding upper_load has_multipliers
  upper_absent a =
      Iff.trans
      (load_if (has_multipliers c) (limit_sum (multiplier m c) (rows_of m)) (live_sum (multiplier m c) (rows_of m))
      (λ t. (a.multipliers_meet (eq_z_yes t)).live))
      (not_equal (at c 1) (pos 1))

  -- what is said where 0 is returned
  accepted_so : (P : Verdict → Type 0) → number_of (verdict m c) ≡ 0
      → (ClaimAccepted m c → P (Accepted (open_count m c) (lower_load m c) (upper_load m c))) → P (verdict m c)
  accepted_so P e h = let a = (returns_zero m c).0 e in rw ((accepted_exactly m c).1 a) (h a)

  no_lower : NoLower (verdict m c) ↔ ((number_of (verdict m c) ≢ 0) ⊎ ((¬ HasField c) ⊎ ListsDirection m))
  no_lower =
      refused_or (number_of (verdict m c)) (refused_lower (verdict m c))
      (λ e. accepted_so (λ v. NoLower v ↔ ((¬ HasField c) ⊎ ListsDirection m)) e lower_absent)

  no_upper : NoUpper (verdict m c) ↔ ((number_of (verdict m c) ≢ 0) ⊎ (¬ HasMultipliers c))
  no_upper =
      refused_or (number_of (verdict m c)) (refused_upper (verdict m c))
      (λ e. accepted_so (λ v. NoUpper v ↔ (¬ HasMultipliers c)) e upper_absent)

  no_count : (open_count m c ≡ NoCount) ↔ ((¬ HasField c) ⊎ (¬ HasMultipliers c))
  unfolding open_count has_field has_multipliers
  no_count =
      count_if (has_field c) (has_multipliers c) (open_rows (stress m c) (l c) (n c) (multiplier m c) (rows_of m))
      (not_equal (at c 0) (pos 1)) (not_equal (at c 1) (pos 1))

  -- the third and the fourth column have the word none exactly when the claim is refused or lacks that part; the third
  -- also where the mesh lists a soil by direction
  pub lower_word : (d : ℕ) → d ≤ 7 → (said (column_of 2 (report_line d (verdict m c))) ≡ some word) ↔
      ((number_of (verdict m c) ≢ 0) ⊎ ((¬ HasField c) ⊎ ListsDirection m))
  lower_word d h = Iff.trans (lower_none d (verdict m c) h (held m c)) no_lower

  pub upper_word : (d : ℕ) → d ≤ 7 → (said (column_of 3 (report_line d (verdict m c))) ≡ some word) ↔
      ((number_of (verdict m c) ≢ 0) ⊎ (¬ HasMultipliers c))
  upper_word d h = Iff.trans (upper_none d (verdict m c) h (held m c)) no_upper

  -- the second column of an accepted claim, exactly when it lacks a part
  pub rows_word : (d : ℕ) → d ≤ 7 → number_of (verdict m c) ≡ 0
      → (said (column_of 1 (report_line d (verdict m c))) ≡ some word) ↔ ((¬ HasField c) ⊎ (¬ HasMultipliers c))
  rows_word d h e =
      accepted_so (λ v. Held v → (said (column_of 1 (report_line d v)) ≡ some word) ↔
      ((¬ HasField c) ⊎ (¬ HasMultipliers c))) e
      (λ a y. Iff.trans (rows_none d (open_count m c) (lower_load m c) (upper_load m c) h y) no_count)
      (held m c)
