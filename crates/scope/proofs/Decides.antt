-- A test decides a statement: it passes exactly when the statement holds. One law for each way of building a test.
use mathlib.Core.Path.{◌≡◌, refl, sym, subst}
use mathlib.Core.Logic.{◌⊎◌, inl, inr, ⊎_elim}
use mathlib.Core.Bool.{Bool, true, false, cond, not, ◌&&◌, ◌||◌}
use Prim.Native.Nat.{ℕ, zero, suc, ◌<◌, ◌≤◌, zero-le}
use native.Mathlib.Nat.{eq-or-lt_of_le}
use native.Mathlib.Omega.{arith}
use lib.IntN.{ℤ}
use lib.Signed.{le_z, lt_z, ◌≤ℤ◌, ◌<ℤ◌, le_z_yes, lt_z_yes}
use lib.Dec.{T, T_not, not_T, eqb, eqb→eq, eqb_refl, leb, leb→le, le→leb}
use Rattle.integer.specs.Tests.{eq_z}
use Rattle.integer.proofs.TestLaws.{eq_z_yes, yes_eq_z, yes_le_z, yes_lt_z}
use Rattle.scope.specs.declared.Place.{Place}
use Rattle.scope.specs.Cases.Outcome.{Outcome}
use Rattle.scope.specs.Cases.Outcome.{Passed, Refused}
use Rattle.scope.specs.Checks.{demand, some_below, all_below}
use Rattle.scope.specs.Rows.{first_where}
use Rattle.scope.proofs.Checks.{below_suc, demand_passed, demand_refused}

pub record Decides (b : Bool) (A : Type 0) : Type 0 where
  pub holds : T b → A
  pub passes : A → T b

pub decides : {b : Bool} {A : Type 0} → (A → T b) → (T b → A) → Decides b A
decides p h = record { holds = h; passes = p }

-- ---- connectives

pub both : {a b : Bool} {A B : Type 0} → Decides a A → Decides b B → Decides (a && b) (A × B)
both {a = true} d e = record { holds = λ t. (d.holds tt, e.holds t); passes = λ h. e.passes h.1 }
both {a = false} d e = record { holds = λ t. absurd t; passes = λ h. d.passes h.0 }

pub either : {a b : Bool} {A B : Type 0} → Decides a A → Decides b B → Decides (a || b) (A ⊎ B)
either {a = true} d e = record { holds = λ t. inl (d.holds tt); passes = λ h. tt }
either {a = false} {b} {A} {B} d e = record { holds = λ t. inr (e.holds t); passes = from }
  where
    from : A ⊎ B → T b
    from (inl h) = absurd (d.passes h)
    from (inr h) = e.passes h

pub opposite : {a : Bool} {A : Type 0} → Decides a A → Decides (not a) (¬ A)
opposite {a} d = record { holds = λ t h. T_not a t (d.passes h); passes = λ f. not_T a (λ t. f (d.holds t)) }

-- the same statement in other words
pub said_as : {a : Bool} {A B : Type 0} → Decides a A → (A → B) → (B → A) → Decides a B
said_as d f g = record { holds = λ t. f (d.holds t); passes = λ h. d.passes (g h) }

-- a test's answer, as an equation
pub is_yes : {a : Bool} {A : Type 0} → Decides a A → A → a ≡ true
is_yes {a = true} d h = refl
is_yes {a = false} d h = absurd (d.passes h)

pub is_no : {a : Bool} {A : Type 0} → Decides a A → ¬ A → a ≡ false
is_no {a = true} d f = absurd (f (d.holds tt))
is_no {a = false} d f = refl

pub yes_is : {a : Bool} {A : Type 0} → Decides a A → a ≡ true → A
yes_is d e = d.holds (subst T (sym e) tt)

pub no_is : {a : Bool} {A : Type 0} → Decides a A → a ≡ false → ¬ A
no_is d e h = subst T e (d.passes h)

-- ---- numbers

pub equal : (a b : ℕ) → Decides (eqb a b) (a ≡ b)
equal a b = record { holds = eqb→eq a b; passes = λ e. subst (λ x. T (eqb a x)) e (eqb_refl a) }

pub at_most : (a b : ℕ) → Decides (leb a b) (a ≤ b)
at_most a b = record { holds = leb→le a b; passes = le→leb a b }

pub equalℤ : (a b : ℤ) → Decides (eq_z a b) (a ≡ b)
equalℤ a b = record { holds = eq_z_yes; passes = yes_eq_z }

pub at_mostℤ : (a b : ℤ) → Decides (le_z a b) (a ≤ℤ b)
at_mostℤ a b = record { holds = le_z_yes; passes = yes_le_z }

pub belowℤ : (a b : ℤ) → Decides (lt_z a b) (a <ℤ b)
belowℤ a b = record { holds = lt_z_yes; passes = yes_lt_z }

-- ---- some and all below n

pub some_below_lem : {f : ℕ → Bool} {P : ℕ → Type 0} → ((k : ℕ) → Decides (f k) (P k)) → (n : ℕ)
    → Decides (some_below f n) ((k : ℕ) × (k < n) × P k)
unfolding some_below
some_below_lem d zero = record { holds = λ t. absurd t; passes = λ h. absurd (omega (arith, h.1)) }
some_below_lem {f} {P} d (suc n) = said_as (either (some_below_lem d n) (d n)) up (λ h. down (below_suc h.1) h.2)
  where
    up : ((k : ℕ) × (k < n) × P k) ⊎ P n → (k : ℕ) × (k < suc n) × P k
    up (inl h) = (h.0, omega (arith, h.1), h.2)
    up (inr h) = (n, omega arith, h)

    down : {k : ℕ} → (k < n) ⊎ (k ≡ n) → P k → ((k : ℕ) × (k < n) × P k) ⊎ P n
    down {k} (inl l) h = inl (k, l, h)
    down {k} (inr l) h = inr (rw l at h)

-- where each test below n decides its statement
pub all_below_where : {f : ℕ → Bool} {P : ℕ → Type 0} (n : ℕ) → ((k : ℕ) → k < n → Decides (f k) (P k))
    → Decides (all_below f n) ((k : ℕ) → k < n → P k)
unfolding all_below
all_below_where zero d = record { holds = λ t k h. absurd (omega arith); passes = λ h. tt }
all_below_where {f} {P} (suc n) d =
    said_as (both (all_below_where n (λ k h. d k (omega arith))) (d n (omega arith))) (λ h k l. up h (below_suc l))
    (λ h. (λ k l. h k (omega arith), h n (omega arith)))
  where
    up : {k : ℕ} → (((k : ℕ) → k < n → P k) × P n) → (k < n) ⊎ (k ≡ n) → P k
    up {k} h (inl l) = h.0 k l
    up {k} h (inr l) = rw l h.1

pub all_below_lem : {f : ℕ → Bool} {P : ℕ → Type 0} → ((k : ℕ) → Decides (f k) (P k)) → (n : ℕ)
    → Decides (all_below f n) ((k : ℕ) → k < n → P k)
all_below_lem d n = all_below_where n (λ k h. d k)

-- ---- the lowest

-- k is the lowest number below n that passes, or is n
pub record First (f : ℕ → Bool) (n k : ℕ) : Type 0 where
  pub fits : k ≤ n
  pub before : (j : ℕ) → j < k → T (not (f j))
  pub passes : k < n → T (f k)

pub first_where_lem : (f : ℕ → Bool) (n : ℕ) → First f n (first_where f n)
unfolding first_where
first_where_lem f zero =
    record { fits = zero-le; before = λ j h. absurd (omega arith); passes = λ h. absurd (omega arith) }
first_where_lem f (suc n) = step (first_where f n) (first_where_lem f n) (eqb (first_where f n) n)
    (equal (first_where f n) n) (f n) (λ t. t) (λ t. t)
  where
    step : (k : ℕ) → First f n k → (same : Bool) → Decides same (k ≡ n) → (b : Bool) → (T b → T (f n))
        → (T (not b) → T (not (f n)))
        → First f (suc n) (elim same [ true ↦ cond b n (suc n) | false ↦ k ])
    step k g true is true pass fail =
        record { fits = omega arith; before = rw (is.holds tt) at g.before; passes = λ h. pass tt }
    step k g true is false pass fail = record {
      fits = omega arith;
      before = λ j h. let small : j ≤ n = omega arith in ⊎_elim (λ p. rw p (fail tt))
          (λ l. g.before j (rw (is.holds tt) l)) (eq-or-lt_of_le small);
      passes = λ h. absurd (omega arith);
    }
    step k g false is b pass fail =
        let small = g.fits in record {
          fits = omega arith;
          before = g.before;
          passes =
              λ h. ⊎_elim (λ e. absurd (is.passes e)) g.passes (eq-or-lt_of_le small);
        }

-- ---- checks of such tests

-- checks pass exactly when a statement holds
pub record Passes (o : Outcome) (A : Type 0) : Type 0 where
  pub says : o ≡ Passed → A
  pub passed : A → o ≡ Passed

pub put_as : {o : Outcome} {A B : Type 0} → Passes o A → (A → B) → (B → A) → Passes o B
put_as h f g = record { says = λ e. f (h.says e); passed = λ b. h.passed (g b) }

pub one_check : {b : Bool} {A : Type 0} → Decides b A → (c : ℕ) (p : Place) → Passes (demand b c p) A
one_check {b} d c p =
    record { says = λ e. d.holds ((demand_passed b c p).0 e); passed = λ h. (demand_passed b c p).1 (d.passes h) }

-- checks are refused with a number and a place exactly when a statement about them holds
pub record Refuses (o : Outcome) (R : ℕ → Place → Type 0) : Type 0 where
  pub why : (c : ℕ) (p : Place) → o ≡ Refused c p → R c p
  pub refused : (c : ℕ) (p : Place) → R c p → o ≡ Refused c p

pub told_as : {o : Outcome} {R S : ℕ → Place → Type 0} → Refuses o R → ((c : ℕ) (p : Place) → R c p → S c p)
    → ((c : ℕ) (p : Place) → S c p → R c p) → Refuses o S
told_as h f g = record { why = λ c p e. f c p (h.why c p e); refused = λ c p s. h.refused c p (g c p s) }

pub one_refusal : {b : Bool} {A : Type 0} → Decides b A → (k : ℕ) (q : Place)
    → Refuses (demand b k q) (λ c p. (¬ A) × (k ≡ c) × (q ≡ p))
one_refusal {b} d k q = record {
  why = λ c p e. let r : T (not b) × (k ≡ c) × (q ≡ p) = (demand_refused b k c q p).0 e in
      ((opposite d).holds r.0, r.1, r.2);
  refused = λ c p r. (demand_refused b k c q p).1 ((opposite d).passes r.0, r.1, r.2);
}
