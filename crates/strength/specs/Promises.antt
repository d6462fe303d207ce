-- What a caller of the next strength may rely on, each promise a plain statement about the answer r to two trials.
-- Each is proved of every answer (`proofs/Promises.antt`) and applied to a strength that is given and to a refusal
-- (`proofs/PromisesApplied.antt`).
use Rattle.std.specs.Prelude.{◌≡◌, ◌↔◌, ◌⊎◌, ℕ, T, pos, ◌<ℤ◌}
use lib.Ieee.{Float}
use lib.Ieee.Scale.{finite}
use Rattle.integer.specs.Fraction.{◌≤ᶠ◌, ◌≈ᶠ◌}
use Rattle.strength.specs.declared.Trial.{Trial}
use Rattle.strength.specs.declared.NextAnswer.{NextAnswer}
use Rattle.strength.specs.Next.{zero, hyperbola, next_strength, next_answer}
use Rattle.strength.specs.Rounded.{zeroᶠ, value_of, Rounded}
use Rattle.strength.specs.Exact.{exact_strength, EachRounded, in64ths}

-- the answer to any two trials, as the contracts of `next_strength` and `NextAnswer::from` have it
abbrev pub Answers : Trial → Trial → NextAnswer → Type 0
Answers a b r = r ≡ next_answer (next_strength a b)

-- "finite and above 0"
pub record FiniteAboveZero (x : Float) : Type 0 where
  pub is_finite : T (finite x)
  pub above : pos 0 <ℤ (value_of x).num

-- the inputs and the result are finite and above 0, and L1 is not L2
pub record Accepted (a b : Trial) : Type 0 where
  pub k₁ : FiniteAboveZero a.k
  pub l₁ : FiniteAboveZero a.l
  pub k₂ : FiniteAboveZero b.k
  pub l₂ : FiniteAboveZero b.l
  pub apart : ¬ (value_of a.l ≈ᶠ value_of b.l)
  pub result : FiniteAboveZero (hyperbola a b)

-- 0 exactly when all of that holds, and 49 else; the place is 0; a strength is eq. 23, each operation rounded once,
-- and 0 where it is refused
pub record GivesOrRefuses (a b : Trial) (r : NextAnswer) : Type 0 where
  pub gives : (r.number ≡ 0) ↔ Accepted a b
  pub refuses : (r.number ≡ 49) ↔ (¬ Accepted a b)
  pub place : r.place ≡ 0
  pub strength : r.number ≡ 0 → (r.strength ≡ hyperbola a b) × EachRounded a b
  pub nothing : r.number ≡ 49 → r.strength ≡ zero

-- of whole 64ths, above 0 and up to 16: 49 exactly when L1 = L2 or the exact quotient of eq. 23 is 0 or less, and a
-- strength is that quotient rounded once
pub record ExactOn64ths (k₁ l₁ k₂ l₂ : ℕ) (r : NextAnswer) : Type 0 where
  pub refuses : (r.number ≡ 49) ↔ ((l₁ ≡ l₂) ⊎ (exact_strength (in64ths k₁ l₁) (in64ths k₂ l₂) ≤ᶠ zeroᶠ))
  pub strength : r.number ≡ 0 → Rounded r.strength (exact_strength (in64ths k₁ l₁) (in64ths k₂ l₂))
