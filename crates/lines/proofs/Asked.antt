-- A loop that asks a test at each place in turn, by `?`: it stops at the first that fails, or goes through.
use mathlib.Core.Path.{◌≡◌, sym, ◌∙◌, ap}
use mathlib.Core.Bool.{Bool, true}
use Prim.Native.Nat.{ℕ, ◌+◌, ◌≤◌, ◌<◌}
use native.Mathlib.Omega.{arith}
use Rattle.std.specs.Prelude.{Result}
use Rattle.std.specs.Result.{IsErrAnd}
use Rattle.scope.specs.declared.Place.{Place}
use Rattle.scope.specs.declared.Refusal.{Refusal}
use Rattle.scope.specs.Answer.{outcome_of}
use Rattle.scope.specs.Cases.Outcome.{Passed, Refused}
use Rattle.scope.specs.Checks.{demand, all_below}
use Rattle.scope.proofs.Answered.{passed_on, refused_at, test_held, test_failed}
use Rattle.lines.proofs.Loops.{Phase, all_more, each_below, phase-at, phase_all}

module _ (f : ℕ → Bool) {k : ℕ} (h : all_below f k ≡ true) where
  pub asked_more : {b : Bool} → b ≡ f k → (c : ℕ) (q : Place) → Passed ≡ demand b c q → all_below f (k + 1) ≡ true
  asked_more {b} d c q w = all_more f h (sym d ∙ test_held b c q w)

  -- the place is called as the phase calls it
  pub asked_stops : {b : Bool} → b ≡ f k → {B : Type 0} (s : Result B Refusal) (e : Refusal) → IsErrAnd s (λ x. x ≡ e)
      → {r : Refusal} {c : ℕ} {q : Place} → r ≡ record { number = c; place = q }
      → Refused e.number e.place ≡ demand b r.number r.place → (p : ℕ → Place) → q ≡ p k → (n : ℕ) → k < n
      → outcome_of s ≡ Phase f c p n
  asked_stops {b} d s e i {r} {c} {q} is w p at n l =
      let fails = test_failed b r.number r.place w in
      passed_on s e i ∙ w ∙ ap (λ (b : Bool). demand b r.number r.place) fails ∙ refused_at is
      ∙ phase-at f c p n (each_below f k h) l (sym d ∙ fails) at

  pub asked_all : (c : ℕ) (p : ℕ → Place) (n : ℕ) → n ≤ k → Passed ≡ Phase f c p n
  asked_all c p n l = phase_all f c p n (λ i j. each_below f k h i (omega arith))
