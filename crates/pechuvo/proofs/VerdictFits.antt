-- Every verdict is one that the line can hold: a refusal's number and place are small, l is within its limit, W fits
-- 64 bits, and no more rows are open than there are.
use mathlib.Core.Path.{◌≡◌, refl, sym, subst}
use mathlib.Core.Logic.{◌⊎◌, inl, inr, ⊎_elim, ◌≢◌}
use mathlib.Core.Bool.{Bool, true, false, cond, not, ◌&&◌}
use mathlib.Core.List.Memᴰ
use mathlib.Core.List.{List, [], ◌∷◌}
use Prim.Native.Nat.{ℕ, zero, suc, ◌+◌, ◌^◌, ◌≤◌, ◌<◌}
use native.Mathlib.Omega.{arith}
use lib.Dec.{T, eqb}
use lib.IntN.{ℤ, nat_abs}
use lib.ListN.{length, length-append}
use Rattle.integer.proofs.TestLaws.{eq_z_yes}
use Rattle.scope.specs.declared.Place.{Place}
use Rattle.scope.specs.Cases.Load.{Absent, Exact}
use Rattle.scope.specs.Cases.OpenRows.{Absent as NoCount, Count}
use Rattle.scope.specs.Cases.Verdict.{Verdict}
use Rattle.scope.specs.Cases.Verdict.{Accepted, Refused}
use Rattle.integer.specs.Members.{◌∈◌}
use Rattle.scope.specs.Answer.{number_of, place_of}
use Rattle.scope.specs.Columns.{has_field, has_multipliers, n, l}
use Rattle.scope.specs.Mesh.{some_by_direction}
use Rattle.scope.specs.Rows.{Row, equality_rows, strength_rows, rows_of}
use Rattle.scope.specs.Sums.{weighed, limit_sum, live_sum, how_many, is_open, open_rows}
use Rattle.scope.specs.Claim.{stress, multiplier}
use Rattle.scope.specs.Verdict.{verdict, lower_load, upper_load, open_count}
use Rattle.scope.specs.Table.{mesh_read}
use Rattle.scope.specs.TableVerdict.{tabled_verdict}
use Rattle.scope.specs.Accepted.{ClaimAccepted}
use Rattle.scope.specs.NumberRanges.{MeshFacts, ClaimFacts}
use Rattle.scope.proofs.Exactly.{verdict_cases, accepted_exactly, refused_exactly}
use Rattle.scope.proofs.Decides.{both, opposite, equal}
use Rattle.scope.proofs.TableVerdict.{OfTable, Came, early, late, came, early_number, early_small}
use Rattle.scope.proofs.NumberRanges.{mesh_facts}
use Rattle.scope.proofs.ClaimNumberRanges.{claim_facts}
use Rattle.scope.proofs.RowCounts.{equality_count_lem}
use Rattle.scope.proofs.SumBounds.{between, limit_bound}
use Rattle.scope.proofs.AnswerBounds.{few_strengths, refusal_bounds}
use Rattle.numbers.specs.Promises.{returned_numbers}
use Rattle.numbers.proofs.Promises.{numbers_listed}
use Rattle.report.specs.Says.{HeldLoad, HeldRows, Held}

at_most_all : {A : Type 0} (f : A → Bool) (l : List A) → how_many f l ≤ length l
unfolding how_many
at_most_all f [] = omega arith
at_most_all f (a ∷ l) = by (f a) (at_most_all f l)
  where
    by : (b : Bool) → how_many f l ≤ length l → cond b 1 0 + how_many f l ≤ suc (length l)
    by true h = omega arith
    by false h = omega arith

as_many : (w : ℕ → ℤ) (rs : List Row) → length (weighed w rs) ≡ length rs
unfolding weighed
as_many w [] = omega arith
as_many w (r ∷ rs) = omega (arith, as_many (λ k. w (suc k)) rs)

if_load : (b : Bool) (num den : ℤ) → (T b → nat_abs num ≤ 2 ^ 63) → HeldLoad (cond b (Exact num den) Absent)
if_load true num den h = h tt
if_load false num den h = tt

if_rows : (b : Bool) (k : ℕ) → k < 2 ^ 64 → HeldRows (cond b (Count k) NoCount)
if_rows true k h = h
if_rows false k h = tt

module _ (m c : List ℤ) (a : ClaimAccepted m c) where
  mesh : MeshFacts m
  mesh = mesh_facts m a.mesh.lines

  claim : ClaimFacts m c
  claim = claim_facts m c a.lines mesh

  rows_held : HeldRows (open_count m c)
  unfolding open_count open_rows rows_of
  rows_held =
      if_rows (has_field c && has_multipliers c) (open_rows (stress m c) (l c) (n c) (multiplier m c) (rows_of m))
      (omega (
        arith,
        at_most_all (is_open (stress m c) (l c) (n c)) (weighed (multiplier m c) (rows_of m)),
        as_many (multiplier m c) (rows_of m),
        length-append (equality_rows m) (strength_rows m),
        equality_count_lem m,
        few_strengths m a.mesh,
        mesh.counts,
      ))

  pub lower_held : HeldLoad (lower_load m c)
  unfolding lower_load
  lower_held = if_load (has_field c && not (some_by_direction m)) (l c) (n c)
      (λ t. omega (arith, (between claim.l_range).within))

  pub upper_held : HeldLoad (upper_load m c)
  unfolding upper_load has_multipliers
  upper_held =
      if_load (has_multipliers c) (limit_sum (multiplier m c) (rows_of m)) (live_sum (multiplier m c) (rows_of m))
      (λ t. omega (arith, (limit_bound m c a.mesh claim (eq_z_yes t)).within))

pub held : (m c : List ℤ) → Held (verdict m c)
held m c = by (verdict_cases m c)
  where
    by : ((k : ℕ) × (p : Place) × (verdict m c ≡ Refused k p))
        ⊎ (verdict m c ≡ Accepted (open_count m c) (lower_load m c) (upper_load m c)) → Held (verdict m c)
    by (inl (k, p, e)) = let b = refusal_bounds ((refused_exactly m c k p).0 e) in subst Held (sym e)
        (omega (arith, b.0), omega (arith, b.1))
    by (inr e) = let a = (accepted_exactly m c).0 e in subst Held (sym e)
        (rows_held m c a, lower_held m c a, upper_held m c a)

-- ---- with a table

tabled_held : (t m c : List ℤ) → Held (tabled_verdict t m c)
tabled_held t m c = by (came t m c)
  where
    small : {k : ℕ} → (k ≤ 4) ⊎ ((k ≡ 45) ⊎ (k ≡ 46)) → k < 2 ^ 32
    small (inl l) = omega arith
    small (inr (inl e)) = omega arith
    small (inr (inr e)) = omega arith

    by : Came t m c → Held (tabled_verdict t m c)
    by (early k p r e) = subst Held (sym e) (small (early_number t m k p r).1, omega (arith, early_small t m k p r))
    by (late f e) = subst Held (sym e) (held (mesh_read t m) c)

-- ---- the numbers that a verdict can have

abbrev all_numbers : List ℕ
all_numbers = 45 ∷ 46 ∷ returned_numbers

verdict_listed : (m c : List ℤ) → number_of (verdict m c) ∈ all_numbers
verdict_listed m c =
    let v = verdict m c in
    Memᴰ.tail (Memᴰ.tail (numbers_listed m c (number_of v) (place_of v)
    (record { number_is = refl; place_is = refl })).listed)

pub tabled_listed : (t m c : List ℤ) → number_of (tabled_verdict t m c) ∈ all_numbers
tabled_listed t m c = by (came t m c)
  where
    first_four : (k : ℕ) → 0 < k → k ≤ 4 → k ∈ returned_numbers
    first_four zero p l = absurd (omega arith)
    first_four (suc zero) p l = Memᴰ.tail (Memᴰ.head refl)
    first_four (suc (suc zero)) p l = Memᴰ.tail (Memᴰ.tail (Memᴰ.head refl))
    first_four (suc (suc (suc zero))) p l = Memᴰ.tail (Memᴰ.tail (Memᴰ.tail (Memᴰ.head refl)))
    first_four (suc (suc (suc (suc zero)))) p l = Memᴰ.tail (Memᴰ.tail (Memᴰ.tail (Memᴰ.tail (Memᴰ.head refl))))
    first_four (suc (suc (suc (suc (suc k))))) p l = absurd (omega arith)

    own : {k : ℕ} → OfTable k → k ∈ all_numbers
    own {k} (p, inl l) = Memᴰ.tail (Memᴰ.tail (first_four k p l))
    own (p, inr (inl e)) = Memᴰ.head e
    own (p, inr (inr e)) = Memᴰ.tail (Memᴰ.head e)

    by : Came t m c → number_of (tabled_verdict t m c) ∈ all_numbers
    by (early k p r e) = subst (λ (v : Verdict). number_of v ∈ all_numbers) (sym e) (own (early_number t m k p r))
    by (late f e) = subst (λ (v : Verdict). number_of v ∈ all_numbers) (sym e) (verdict_listed (mesh_read t m) c)

unlike : ℕ → List ℕ → Bool
unlike x [] = true
unlike x (k ∷ rest) = not (eqb x k) && unlike x rest

not_listed : (x : ℕ) (ks : List ℕ) → T (unlike x ks) → ¬ (x ∈ ks)
unfolding unlike
not_listed x [] t h = absurd (Memᴰ.not-nil h)
not_listed x (k ∷ rest) t h =
    let (differs, later) = (both (opposite (equal x k)) (record { holds = λ t. t; passes = λ t. t })).holds t in
    ⊎_elim differs (not_listed x rest later) (Memᴰ.cases_cons h)

other_than : (x : ℕ) → T (unlike x all_numbers) → {k : ℕ} → k ∈ all_numbers → k ≢ x
other_than x t there e = not_listed x all_numbers t (subst (λ (k : ℕ). k ∈ all_numbers) e there)

-- 48 is about a book, and no verdict has it
pub not_48 : (t m c : List ℤ) → number_of (tabled_verdict t m c) ≢ 48
unfolding unlike
not_48 t m c = other_than 48 tt (tabled_listed t m c)

-- ---- what the answer and the line ask of a verdict

pub record Sayable (v : Verdict) : Type 0 where
  pub held : Held v
  pub not_41 : number_of v ≢ 41
  pub not_43 : number_of v ≢ 43

-- neither 41 nor 43 is listed
say : {v : Verdict} → Held v → number_of v ∈ all_numbers → Sayable v
unfolding unlike
say {v} h there = record {
  held = h;
  not_41 = other_than 41 tt there;
  not_43 = other_than 43 tt there;
}

pub sayable : (m c : List ℤ) → Sayable (verdict m c)
sayable m c = say (held m c) (verdict_listed m c)

pub tabled_sayable : (t m c : List ℤ) → Sayable (tabled_verdict t m c)
tabled_sayable t m c = say (tabled_held t m c) (tabled_listed t m c)
