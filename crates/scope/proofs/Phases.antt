-- Phases in order: what is tested is refused exactly as is said. One law for a check after another, where the second
-- need be decided only if the first passes.
use mathlib.Core.Path.{◌≡◌, refl, sym, ◌∙◌, ap, subst}
use mathlib.Core.Logic.{◌⊎◌, inl, inr}
use mathlib.Core.Bool.{Bool, true, false}
use mathlib.Core.List.{List, [], ◌∷◌, ◌++◌}
use Prim.Native.Nat.{ℕ, zero, suc, ◌≤◌, ◌<◌}
use native.Mathlib.Omega.{arith}
use lib.Dec.{leb}
use Rattle.scope.specs.declared.Place.{Place}
use Rattle.scope.specs.Cases.Outcome.{Outcome}
use Rattle.scope.specs.Cases.Outcome.{Passed, Refused}
use Rattle.scope.specs.Checks.{◌then◌, lowest}
use Rattle.scope.specs.Phases.{Step, Phase, phase, if_part, Below, AllHold, FirstFails, HoldsAt, Everywhere, FailsIn}
use Rattle.scope.specs.Phases.{AllPass, RefusedBy, check_steps, check_phase, check_phases}
use Rattle.scope.proofs.Checks.{passed_is_not_refused, below_suc, demand_then, then_assoc, then_Passed}
use Rattle.scope.proofs.Decides.{Decides, said_as, at_most, Passes, put_as, one_check, Refuses, told_as, one_refusal}

-- ---- checks that are exact

pub record Exact (o : Outcome) (A : Type 0) (R : ℕ → Place → Type 0) : Type 0 where
  pub passes : Passes o A
  pub refuses : Refuses o R

pub exact_as : {o : Outcome} {A B : Type 0} {R S : ℕ → Place → Type 0} → Exact o A R → (A → B) → (B → A)
    → ((c : ℕ) (p : Place) → R c p → S c p) → ((c : ℕ) (p : Place) → S c p → R c p) → Exact o B S
exact_as e f g r s = record { passes = put_as e.passes f g; refuses = told_as e.refuses r s }

-- one check after another: the second is exact where the first has passed
pub then_exact : {a b : Outcome} {A B : Type 0} {R S : ℕ → Place → Type 0} → Exact a A R → (A → Exact b B S)
    → Exact (a then b) (A × B) (λ c p. R c p ⊎ (A × S c p))
then_exact {a = Passed} {b} {A} {B} {R} {S} h k =
    let held : A = h.passes.says refl in
    let e : Exact b B S = k held in
    record {
      passes = record { says = λ x. (held, e.passes.says x); passed = λ r. e.passes.passed r.1 };
      refuses = record { why = λ c p x. inr (held, e.refuses.why c p x); refused = λ c p r. from c p r };
    }
  where
    from : (c : ℕ) (p : Place) → R c p ⊎ (A × S c p) → b ≡ Refused c p
    from c p (inl r) = passed_is_not_refused (h.refuses.refused c p r)
    from c p (inr r) = (k r.0).refuses.refused c p r.1
then_exact {a = Refused n q} {b} {A} {B} {R} {S} h k = record {
  passes = record { says = λ x. passed_is_not_refused (sym x); passed = λ r. h.passes.passed r.0 };
  refuses = record { why = λ c p x. inl (h.refuses.why c p x); refused = λ c p r. from c p r };
}
  where
    from : (c : ℕ) (p : Place) → R c p ⊎ (A × S c p) → Refused n q ≡ Refused c p
    from c p (inl r) = h.refuses.refused c p r
    from c p (inr r) = passed_is_not_refused (sym (h.passes.passed r.0))

-- the lowest place: the check of a place is exact where all lower ones have passed
pub lowest_exact : {f : ℕ → Outcome} {P : ℕ → Type 0} {R : ℕ → ℕ → Place → Type 0} (n : ℕ)
    → ((k : ℕ) → k < n → Below k P → Exact (f k) (P k) (R k))
    → Exact (lowest f n) (Below n P) (λ c p. (k : ℕ) × (k < n) × Below k P × R k c p)
unfolding lowest
lowest_exact zero e = record {
  passes = record { says = λ x k h. absurd (omega arith); passed = λ r. refl };
  refuses = record { why = λ c p x. passed_is_not_refused x; refused = λ c p r. absurd (omega (arith, r.1)) };
}
lowest_exact {f} {P} {R} (suc n) e =
    exact_as (then_exact (lowest_exact n (λ k h. e k (omega arith))) (e n (omega arith)))
    (λ h k l. up h (below_suc l))
    (λ h. (λ k l. h k (omega arith), h n (omega arith)))
    to
    (λ c p r. from c p (below_suc r.1) r.2 r.3)
  where
    up : {k : ℕ} → Below n P × P n → (k < n) ⊎ (k ≡ n) → P k
    up {k} h (inl l) = h.0 k l
    up {k} h (inr l) = rw l h.1

    to : (c : ℕ) (p : Place) → ((k : ℕ) × (k < n) × Below k P × R k c p) ⊎ (Below n P × R n c p)
        → (k : ℕ) × (k < suc n) × Below k P × R k c p
    to c p (inl (k, l, b, r)) = (k, omega arith, b, r)
    to c p (inr (b, r)) = (n, omega arith, b, r)

    from : (c : ℕ) (p : Place) {k : ℕ} → (k < n) ⊎ (k ≡ n) → Below k P → R k c p
        → ((k : ℕ) × (k < n) × Below k P × R k c p) ⊎ (Below n P × R n c p)
    from c p {k} (inl l) b r = inl (k, l, b, r)
    from c p {k} (inr l) b r = inr (rw l at b, rw l at r)

-- ---- tests that decide

-- each step's test decides its statement where the steps before it hold
abbrev pub DecidedSteps : List Step → Type 0
DecidedSteps [] = Unit {0}
DecidedSteps (s ∷ ss) = Decides s.test s.Holds × (s.Holds → DecidedSteps ss)

-- .. where all hold at all lower places
abbrev pub DecidedPhase : Phase → Type 0
DecidedPhase f = (k : ℕ) → k < f.count → Below k (HoldsAt f) → DecidedSteps (f.steps k)

-- .. and where the phases before it hold everywhere
abbrev pub Decided : List Phase → Type 0
Decided [] = Unit {0}
Decided (f ∷ fs) = DecidedPhase f × (Everywhere f → Decided fs)

-- ---- the law

pub steps_exact : (ss : List Step) (q : Place) → DecidedSteps ss
    → Exact (check_steps ss q) (AllHold ss) (λ c p. FirstFails ss c × (q ≡ p))
steps_exact [] q d = record {
  passes = record { says = λ x. tt; passed = λ r. refl };
  refuses = record { why = λ c p x. passed_is_not_refused x; refused = λ c p r. absurd r.0 };
}
steps_exact (s ∷ ss) q d =
    subst (λ o. Exact o (AllHold (s ∷ ss)) (λ c p. FirstFails (s ∷ ss) c × (q ≡ p)))
    (demand_then s.test s.number q (check_steps ss q))
    (exact_as
    (then_exact (record { passes = one_check d.0 s.number q; refuses = one_refusal d.0 s.number q })
    (λ h. steps_exact ss q (d.1 h)))
    (λ h. h)
    (λ h. h)
    to
    from)
  where
    to : (c : ℕ) (p : Place) → ((¬ s.Holds) × (s.number ≡ c) × (q ≡ p)) ⊎ (s.Holds × (FirstFails ss c × (q ≡ p)))
        → FirstFails (s ∷ ss) c × (q ≡ p)
    to c p (inl h) = (inl (h.0, h.1), h.2)
    to c p (inr h) = (inr (h.0, h.1.0), h.1.1)

    from : (c : ℕ) (p : Place) → FirstFails (s ∷ ss) c × (q ≡ p)
        → ((¬ s.Holds) × (s.number ≡ c) × (q ≡ p)) ⊎ (s.Holds × (FirstFails ss c × (q ≡ p)))
    from c p (inl h, e) = inl (h.0, h.1, e)
    from c p (inr h, e) = inr (h.0, (h.1, e))

phase_exact : (f : Phase) → DecidedPhase f → Exact (check_phase f) (Everywhere f) (FailsIn f)
unfolding check_phase
phase_exact f d =
    exact_as
    (lowest_exact f.count (λ k h b. steps_exact (f.steps k) (f.place k) (d k h b)))
    (λ h. h)
    (λ h. h)
    (λ c p r. record { here = r.0; there = r.1; lower = r.2; fails = r.3.0; called = r.3.1 })
    (λ c p r. (r.here, r.there, r.lower, (r.fails, r.called)))

pub phases_cons : (f : Phase) (fs : List Phase) → check_phases (f ∷ fs) ≡ check_phase f then check_phases fs
unfolding check_phases
phases_cons f [] = sym (then_Passed (check_phase f))
phases_cons f (g ∷ fs) = refl

-- the one law: phases are refused with a number and a place exactly when all phases before hold everywhere, all lower
-- places of this one hold, and this place fails
pub phases_exact : (fs : List Phase) → Decided fs → Exact (check_phases fs) (AllPass fs) (RefusedBy fs)
unfolding check_phases
phases_exact [] d = record {
  passes = record { says = λ x. tt; passed = λ r. refl };
  refuses = record { why = λ c p x. passed_is_not_refused x; refused = λ c p r. absurd r };
}
phases_exact (f ∷ fs) d =
    subst (λ o. Exact o (AllPass (f ∷ fs)) (RefusedBy (f ∷ fs))) (sym (phases_cons f fs))
    (then_exact (phase_exact f d.0) (λ h. phases_exact fs (d.1 h)))

-- a phase of one step at each place: its test decides its statement
pub one_step : {b : Bool} {A : Type 0} → Decides b A → Decides b A × (A → Unit {0})
one_step d = (d, λ h. tt)

-- example: a test that decides its statement only where the phase before it holds: a is at most b (1); then a is b,
-- tested by b ≤ a (2)
abbrev two_phases : (a b : ℕ) (p q : Place) → List Phase
two_phases a b p q = phase 1 1 (λ k. a ≤ b) (λ k. leb a b) (λ k. p) ∷ phase 2 1 (λ k. a ≡ b) (λ k. leb b a) (λ k. q)
    ∷ []

example_conditional : (a b : ℕ) (p q : Place) → Exact (check_phases (two_phases a b p q))
    (AllPass (two_phases a b p q)) (RefusedBy (two_phases a b p q))
example_conditional a b p q =
    phases_exact (two_phases a b p q) (
      λ k h l. one_step (at_most a b),
      λ e. let below : a ≤ b =
          (e 0 (omega arith)).0 in
          (λ k h l. one_step (said_as (at_most b a) (λ g. omega arith) (λ g. omega arith)), λ i. tt),
    )

-- ---- phases joined

pub check_join : (fs gs : List Phase) → check_phases (fs ++ gs) ≡ check_phases fs then check_phases gs
unfolding check_phases
check_join [] gs = refl
check_join (f ∷ fs) gs =
    phases_cons f (fs ++ gs)
    ∙ ap (λ o. check_phase f then o) (check_join fs gs)
    ∙ sym (then_assoc (check_phase f) (check_phases fs) (check_phases gs))
    ∙ ap (λ o. o then check_phases gs) (sym (phases_cons f fs))

pub pass_join : (fs gs : List Phase) → AllPass fs → AllPass gs → AllPass (fs ++ gs)
pass_join [] gs a b = b
pass_join (f ∷ fs) gs a b = (a.0, pass_join fs gs a.1 b)

pub pass_parts : (fs gs : List Phase) → AllPass (fs ++ gs) → AllPass fs × AllPass gs
pass_parts [] gs a = (tt, a)
pass_parts (f ∷ fs) gs a = let r = pass_parts fs gs a.1 in ((a.0, r.0), r.1)

pub decided_join : (fs gs : List Phase) → Decided fs → (AllPass fs → Decided gs) → Decided (fs ++ gs)
decided_join [] gs a b = b tt
decided_join (f ∷ fs) gs a b = (a.0, λ h. decided_join fs gs (a.1 h) (λ r. b (h, r)))

-- a refusal by phases joined is one by the first, or one by the others where the first hold
pub refused_join : (fs gs : List Phase) (c : ℕ) (p : Place) → RefusedBy (fs ++ gs) c p
    → RefusedBy fs c p ⊎ (AllPass fs × RefusedBy gs c p)
refused_join [] gs c p r = inr (tt, r)
refused_join (f ∷ fs) gs c p (inl r) = inl (inl r)
refused_join (f ∷ fs) gs c p (inr (h, r)) = by (refused_join fs gs c p r)
  where
    by : RefusedBy fs c p ⊎ (AllPass fs × RefusedBy gs c p) → RefusedBy (f ∷ fs) c p
        ⊎ (AllPass (f ∷ fs) × RefusedBy gs c p)
    by (inl x) = inl (inr (h, x))
    by (inr x) = inr ((h, x.0), x.1)

pub join_refused : (fs gs : List Phase) (c : ℕ) (p : Place) → RefusedBy fs c p ⊎ (AllPass fs × RefusedBy gs c p)
    → RefusedBy (fs ++ gs) c p
join_refused [] gs c p (inl r) = absurd r
join_refused [] gs c p (inr r) = r.1
join_refused (f ∷ fs) gs c p (inl (inl r)) = inl r
join_refused (f ∷ fs) gs c p (inl (inr (h, r))) = inr (h, join_refused fs gs c p (inl r))
join_refused (f ∷ fs) gs c p (inr (h, r)) = inr (h.0, join_refused fs gs c p (inr (h.1, r)))

-- ---- a part that may be absent

pub decided_part : (b : Bool) (fs : List Phase) → Decided fs → Decided (if_part b fs)
decided_part true fs d = d
decided_part false fs d = tt

pub part_passes : {b : Bool} {B : Type 0} (fs : List Phase) → Decides b B → AllPass (if_part b fs) → B → AllPass fs
part_passes {b = true} fs d a h = a
part_passes {b = false} fs d a h = absurd (d.passes h)

pub passes_part : {b : Bool} {B : Type 0} (fs : List Phase) → Decides b B → (B → AllPass fs) → AllPass (if_part b fs)
passes_part {b = true} fs d a = a (d.holds tt)
passes_part {b = false} fs d a = tt

pub refused_there : {b : Bool} {B : Type 0} (fs : List Phase) → Decides b B → B → (c : ℕ) (p : Place)
    → RefusedBy fs c p → RefusedBy (if_part b fs) c p
refused_there {b = true} fs d h c p r = r
refused_there {b = false} fs d h c p r = absurd (d.passes h)

-- ---- what holds of every refusal

-- of a phase: Q holds of each number and place with which it refuses
abbrev pub EachRefusal : (ℕ → Place → Type 0) → Phase → Type 0
EachRefusal Q f = (k c : ℕ) → k < f.count → Below k (HoldsAt f) → FirstFails (f.steps k) c → Q c (f.place k)

abbrev pub EachIn : (ℕ → Place → Type 0) → List Phase → Type 0
EachIn Q [] = Unit {0}
EachIn Q (f ∷ fs) = EachRefusal Q f × (Everywhere f → EachIn Q fs)

pub each_refusal : (Q : ℕ → Place → Type 0) (fs : List Phase) → EachIn Q fs → {c : ℕ} {p : Place} → RefusedBy fs c p
    → Q c p
each_refusal Q (f ∷ fs) e {c} {p} (inl r) = rw (← r.called) (e.0 r.here c r.there r.lower r.fails)
each_refusal Q (f ∷ fs) e (inr (h, r)) = each_refusal Q fs (e.1 h) r
each_refusal Q [] e {c = c} {p = p} x'' = elim x'' [ ]

pub each_join : (Q : ℕ → Place → Type 0) (fs gs : List Phase) → EachIn Q fs → (AllPass fs → EachIn Q gs)
    → EachIn Q (fs ++ gs)
each_join Q [] gs a b = b tt
each_join Q (f ∷ fs) gs a b = (a.0, λ h. each_join Q fs gs (a.1 h) (λ r. b (h, r)))

-- where all hold, none fails
pub never_fails : (ss : List Step) (c : ℕ) → AllHold ss → FirstFails ss c → ⊥
never_fails (s ∷ ss) c h (inl f) = f.0 h.0
never_fails (s ∷ ss) c h (inr f) = never_fails ss c h.1 f.1
never_fails [] c h x'' = elim x'' [ ]

pub each_passed : (Q : ℕ → Place → Type 0) (fs : List Phase) → AllPass fs → EachIn Q fs
each_passed Q [] a = tt
each_passed Q (f ∷ fs) a = (λ k c h b r. absurd (never_fails (f.steps k) c (a.0 k h) r), λ h. each_passed Q fs a.1)

pub each_part : (Q : ℕ → Place → Type 0) (b : Bool) (fs : List Phase) → EachIn Q fs → EachIn Q (if_part b fs)
each_part Q true fs e = e
each_part Q false fs e = tt

-- where the part is there
pub each_there : {b : Bool} {B : Type 0} (Q : ℕ → Place → Type 0) (fs : List Phase) → Decides b B → (B → EachIn Q fs)
    → EachIn Q (if_part b fs)
each_there {b = true} Q fs d e = e (d.holds tt)
each_there {b = false} Q fs d e = tt

pub each_as : (Q R : ℕ → Place → Type 0) (fs : List Phase) → ((k : ℕ) (p : Place) → Q k p → R k p) → EachIn Q fs
    → EachIn R fs
each_as Q R [] f e = tt
each_as Q R (g ∷ fs) f e = (λ k c h l r. f c (g.place k) (e.0 k c h l r), λ h. each_as Q R fs f (e.1 h))

-- a phase of one step refuses with its own number
pub own_number : {k number c : ℕ} {H : Type 0} → k ≡ number → ((¬ H) × (number ≡ c)) ⊎ (H × ⊥) → k ≡ c
own_number e (inl h) = e ∙ h.1
own_number e (inr h) = absurd h.1
