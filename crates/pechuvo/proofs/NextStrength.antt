-- The promises of `strength` are those of the call, whose four numbers are its two trials.
use mathlib.Core.Path.{refl}
use lib.Ieee.{Float}
use Rattle.strength.specs.declared.NextAnswer.{NextAnswer}
use Rattle.strength.specs.Next.{trial}
use Rattle.strength.specs.Promises.{Accepted}
use Rattle.strength.proofs.Promises as Trials
use Rattle.strength.proofs.PromisesApplied.{high, low, strength, strength_answered, steep, flat, refusal}
use Rattle.strength.proofs.PromisesApplied.{refusal_answered}
use Rattle.pechuvo.specs.NextStrength.{NextAnswers, NextStrength}

pub next_strength : (k₁ l₁ k₂ l₂ : Float) (r : NextAnswer) → NextAnswers k₁ l₁ k₂ l₂ r → NextStrength k₁ l₁ k₂ l₂ r
next_strength k₁ l₁ k₂ l₂ r h =
    record {
      gives_or_refuses = Trials.gives_or_refuses (trial k₁ l₁) (trial k₂ l₂) r h;
      exact_on_64ths = λ a b c d p q s t.
          Trials.exact_on_64ths (trial k₁ l₁) (trial k₂ l₂) r h a b c d (record { k_is = p; l_is = q })
          (record { k_is = s; l_is = t });
    }

-- K 1.5 at L 2 and K 1 at L 0.5: 4/3, rounded
given : NextStrength high.k high.l low.k low.l strength
given = next_strength high.k high.l low.k low.l strength strength_answered

-- K 4 at L 3 and K 1 at L 2: the exact quotient is -8
refused : ¬ Accepted steep flat
refused = (next_strength steep.k steep.l flat.k flat.l refusal refusal_answered).gives_or_refuses.refuses.0 refl
