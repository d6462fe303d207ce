-- Laws of checks in order: by cases on the first outcome, and by induction on the number of places.
use mathlib.Core.Path.{◌≡◌, refl, sym, ap₂}
use mathlib.Core.Logic.{◌↔◌, ◌⊎◌, inl, inr}
use mathlib.Core.Bool.{Bool, true, false, cond, not}
use Prim.Native.Nat.{ℕ, zero, suc, ◌+◌, ◌<◌}
use native.Mathlib.Nat.{add-suc, add-zero}
use native.Mathlib.Decide.{dec_lt}
use native.Mathlib.Omega.{arith}
use lib.Dec.{T}
use Rattle.scope.specs.declared.Place.{Place}
use Rattle.scope.specs.Cases.Outcome.{Outcome}
use Rattle.scope.specs.Cases.Outcome.{Passed, Refused}
use Rattle.scope.specs.Checks.{demand, ◌then◌, lowest}

-- ---- one check

pub passed_is_not_refused {ℓ} : {X : Type ℓ} {n : ℕ} {p : Place} → Passed ≡ Refused n p → X
passed_is_not_refused e = let z : ◌≡◌ {A = ℕ} 0 1 = cc in absurd (omega arith)

pub demand_passed : (b : Bool) (n : ℕ) (p : Place) → (demand b n p ≡ Passed) ↔ T b
demand_passed true n p = (λ e. tt, λ h. refl)
demand_passed false n p = (λ e. passed_is_not_refused (sym e), λ h. absurd h)

pub demand_refused : (b : Bool) (n k : ℕ) (p q : Place) → (demand b n p ≡ Refused k q) ↔ (T (not b) × (n ≡ k) × (p ≡ q))
demand_refused true n k p q = (λ e. passed_is_not_refused e, λ h. absurd h.0)
demand_refused false n k p q = (λ e. (tt, cc, cc), λ h. cc (h.1, h.2))

-- ---- one check after another

pub then_passed : (a b : Outcome) → (a then b ≡ Passed) ↔ ((a ≡ Passed) × (b ≡ Passed))
then_passed Passed b = (λ e. (refl, e), λ h. h.1)
then_passed (Refused n p) b = (λ e. (e, passed_is_not_refused (sym e)), λ h. h.0)

pub then_refused : (a b : Outcome) (n : ℕ) (p : Place) → (a then b ≡ Refused n p) ↔
    ((a ≡ Refused n p) ⊎ ((a ≡ Passed) × (b ≡ Refused n p)))
then_refused Passed b n p = (λ e. inr (refl, e), λ h. from h)
  where
    from : (Passed ≡ Refused n p) ⊎ ((Passed ≡ Passed) × (b ≡ Refused n p)) → b ≡ Refused n p
    from (inl e) = passed_is_not_refused e
    from (inr e) = e.1
then_refused (Refused k q) b n p = (λ e. inl e, λ h. from h)
  where
    from : (Refused k q ≡ Refused n p) ⊎ ((Refused k q ≡ Passed) × (b ≡ Refused n p)) → Refused k q ≡ Refused n p
    from (inl e) = e
    from (inr e) = passed_is_not_refused (sym e.0)

pub then_assoc : (a b c : Outcome) → a then b then c ≡ a then (b then c)
then_assoc Passed b c = refl
then_assoc (Refused n p) b c = refl

pub demand_then : (b : Bool) (n : ℕ) (p : Place) (o : Outcome) → demand b n p then o ≡ cond b o (Refused n p)
demand_then true n p o = refl
demand_then false n p o = refl

pub then_Passed : (a : Outcome) → a then Passed ≡ a
then_Passed Passed = refl
then_Passed (Refused n p) = refl

-- ---- the lowest place

-- a number below n + 1 is below n, or is n
pub below_suc : {k n : ℕ} → k < suc n → (k < n) ⊎ (k ≡ n)
below_suc {k} {n} h = from (dec_lt k n)
  where
    from : Dec (k < n) → (k < n) ⊎ (k ≡ n)
    from (yes l) = inl l
    from (no g) = inr (omega arith)

pub lowest_all : (f : ℕ → Outcome) (n : ℕ) → lowest f n ≡ Passed → (k : ℕ) → k < n → f k ≡ Passed
unfolding lowest
lowest_all f zero e k h = absurd (omega arith)
lowest_all f (suc n) e k h = by (lowest_all f n ((then_passed (lowest f n) (f n)).0 e).0 k)
    ((then_passed (lowest f n) (f n)).0 e).1 (below_suc h)
  where
    by : (k < n → f k ≡ Passed) → f n ≡ Passed → (k < n) ⊎ (k ≡ n) → f k ≡ Passed
    by lower last (inl l) = lower l
    by lower last (inr l) = rw l last

pub all_lowest : (f : ℕ → Outcome) (n : ℕ) → ((k : ℕ) → k < n → f k ≡ Passed) → lowest f n ≡ Passed
unfolding lowest
all_lowest f zero h = refl
all_lowest f (suc n) h =
    (then_passed (lowest f n) (f n)).1 (all_lowest f n (λ k l. h k (omega arith)), h n (omega arith))

-- the first refusal, at k: all before it pass
abbrev pub FirstAt : (ℕ → Outcome) → ℕ → ℕ → Place → ℕ → Type 0
FirstAt f n c p k = (k < n) × ((j : ℕ) → j < k → f j ≡ Passed) × (f k ≡ Refused c p)

pub first_refused : (f : ℕ → Outcome) (n c : ℕ) (p : Place) (k : ℕ) → FirstAt f n c p k → lowest f n ≡ Refused c p
unfolding lowest
first_refused f zero c p k h = absurd (omega (arith, h.0))
first_refused f (suc n) c p k h =
    (then_refused (lowest f n) (f n) c p).1 (by (λ l. first_refused f n c p k (l, h.1, h.2)) (below_suc h.0))
  where
    by : (k < n → lowest f n ≡ Refused c p) → (k < n) ⊎ (k ≡ n)
        → (lowest f n ≡ Refused c p) ⊎ ((lowest f n ≡ Passed) × (f n ≡ Refused c p))
    by lower (inl l) = inl (lower l)
    by lower (inr l) = inr (all_lowest f n (λ j i. h.1 j (omega arith)), rw l at h.2)

-- a + b places are a places and then b more
pub lowest_add : (f : ℕ → Outcome) (a b : ℕ) → lowest f (a + b) ≡ lowest f a then lowest (λ k. f (a + k)) b
unfolding lowest
lowest_add f a zero = rw (add-zero a) (sym (then_Passed (lowest f a)))
lowest_add f a (suc b) =
    rw (add-suc a b) (rw (lowest_add f a b) (then_assoc (lowest f a) (lowest (λ k. f (a + k)) b) (f (a + b))))

pub lowest_cong : (f g : ℕ → Outcome) (n : ℕ) → ((k : ℕ) → k < n → f k ≡ g k) → lowest f n ≡ lowest g n
unfolding lowest
lowest_cong f g zero h = refl
lowest_cong f g (suc n) h = ap₂ ◌then◌ (lowest_cong f g n (λ k l. h k (omega arith))) (h n (omega arith))
