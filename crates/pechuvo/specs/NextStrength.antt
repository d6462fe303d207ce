-- What a caller of `pechuvo_next_strength` may rely on (document 02, N13), by the four numbers that it hands over.
-- Proved of every call and applied to a strength and to a refusal (`proofs/NextStrength.antt`).
use Rattle.std.specs.Prelude.{◌≡◌, ℕ}
use lib.Ieee.{Float}
use Rattle.strength.specs.declared.NextAnswer.{NextAnswer}
use Rattle.strength.specs.Next.{trial, next_strength, next_answer}
use Rattle.strength.specs.Exact.{Whole64ths}
use Rattle.strength.specs.Promises.{GivesOrRefuses, ExactOn64ths}

-- the contract: for every four numbers, the definition's answer
abbrev pub NextAnswers : Float → Float → Float → Float → NextAnswer → Type 0
NextAnswers k₁ l₁ k₂ l₂ r = r ≡ next_answer (next_strength (trial k₁ l₁) (trial k₂ l₂))

pub record NextStrength (k₁ l₁ k₂ l₂ : Float) (r : NextAnswer) : Type 0 where
  -- 0 with eq. 23's strength, each operation rounded once, or 49, each exactly when
  pub gives_or_refuses : GivesOrRefuses (trial k₁ l₁) (trial k₂ l₂) r
  -- "If all four are whole 64ths above 0 and up to 16, the division is the only rounding"
  pub exact_on_64ths : (a b c d : ℕ) → Whole64ths k₁ a → Whole64ths l₁ b → Whole64ths k₂ c → Whole64ths l₂ d
      → ExactOn64ths a b c d r
