-- What a `?` hands on, as a verdict: a refusal as it is, and else what follows.
use mathlib.Core.Path.{◌≡◌, refl, ◌∙◌, ap}
use Rattle.std.specs.Prelude.{Result, Ok, Err}
use Rattle.std.specs.Result.{IsErrAnd}
use Rattle.scope.specs.declared.Refusal.{Refusal}
use Rattle.scope.specs.declared.Accepted.{Accepted}
use Rattle.scope.specs.Answer.{verdict_of}
use Rattle.scope.specs.Cases.Outcome.{Outcome, Passed, Refused as Fails}
use Rattle.scope.specs.Cases.Verdict.{Verdict, Refused}
use Rattle.scope.specs.Checks.{◌then◌}
use Rattle.scope.specs.Verdict.{answer}

passed_on : (s : Result Accepted Refusal) (e : Refusal) → IsErrAnd s (λ d. d ≡ e)
    → verdict_of s ≡ Refused e.number e.place
passed_on (Ok x) e h = absurd h
passed_on (Err d) e h = ap (λ (e : Refusal). Refused e.number e.place) h

-- the check refuses, and so does the verdict
pub answer_refuses : (s : Result Accepted Refusal) (e : Refusal) {a : Outcome} (v : Verdict) {all : Verdict}
    → IsErrAnd s (λ d. d ≡ e) → Fails e.number e.place ≡ a → answer a v ≡ all → verdict_of s ≡ all
unfolding answer
answer_refuses s e v h w k = passed_on s e h ∙ ap (λ (a : Outcome). answer a v) w ∙ k

-- it passes, and what follows decides
pub answer_goes_on : {a : Outcome} {v t all : Verdict} → Passed ≡ a → answer a v ≡ all → t ≡ v → t ≡ all
unfolding answer
answer_goes_on {v = v} w k e = e ∙ ap (λ (a : Outcome). answer a v) w ∙ k

-- one check after another
pub answer_then : (a b : Outcome) (v : Verdict) → answer a (answer b v) ≡ answer (a then b) v
unfolding answer
answer_then Passed b v = refl
answer_then (Fails k p) b v = refl
