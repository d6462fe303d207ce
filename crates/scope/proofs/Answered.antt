-- What a `?` hands on, in the words of the definitions: a refusal as it is, and else what follows.
use mathlib.Core.Path.{◌≡◌, refl, sym, ◌∙◌, ap}
use mathlib.Core.Bool.{Bool, true, false}
use Prim.Native.Nat.{ℕ}
use Rattle.std.specs.Prelude.{Result, Ok, Err}
use Rattle.std.specs.Result.{IsErrAnd}
use Rattle.scope.specs.declared.Place.{Place}
use Rattle.scope.specs.declared.Refusal.{Refusal}
use Rattle.scope.specs.Answer.{outcome_of}
use Rattle.scope.specs.Cases.Outcome.{Outcome, Passed, Refused}
use Rattle.scope.specs.Checks.{demand, ◌then◌}
use Rattle.scope.proofs.Checks.{passed_is_not_refused}

-- a refusal that is passed on
pub passed_on : {B : Type 0} (s : Result B Refusal) (e : Refusal) → IsErrAnd s (λ d. d ≡ e)
    → outcome_of s ≡ Refused e.number e.place
passed_on (Ok x) e h = absurd h
passed_on (Err d) e h = ap (λ (e : Refusal). Refused e.number e.place) h

-- a refusal that is made and returned: the left side is what `outcome_of (Err r)` computes to
pub refused_at : {r : Refusal} {n : ℕ} {p : Place} → r ≡ record { number = n; place = p }
    → Refused r.number r.place ≡ Refused n p
refused_at e = ap (λ (e : Refusal). Refused e.number e.place) e

-- the first of two checks refuses, and so do both
pub first_refuses : {B : Type 0} (s : Result B Refusal) (e : Refusal) {a : Outcome} (b : Outcome) {all : Outcome}
    → IsErrAnd s (λ d. d ≡ e) → Refused e.number e.place ≡ a → a then b ≡ all → outcome_of s ≡ all
first_refuses s e b h w k = passed_on s e h ∙ ap (λ (a : Outcome). a then b) w ∙ k

-- it passes, and the second decides
pub second_decides : {a b all t : Outcome} → Passed ≡ a → a then b ≡ all → t ≡ b → t ≡ all
second_decides {b = b} w k e = e ∙ ap (λ (a : Outcome). a then b) w ∙ k

-- a test that is asked
pub test_held : (b : Bool) (n : ℕ) (p : Place) → Passed ≡ demand b n p → b ≡ true
test_held true n p e = refl
test_held false n p e = passed_is_not_refused e

pub test_failed : (b : Bool) (n : ℕ) (p : Place) {k : ℕ} {q : Place} → Refused k q ≡ demand b n p → b ≡ false
test_failed true n p e = passed_is_not_refused (sym e)
test_failed false n p e = refl
