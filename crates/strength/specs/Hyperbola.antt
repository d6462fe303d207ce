-- Where eq. 23 comes from (source 001, eq. 21 and 22): the hyperbola through two trials has the load factor 1 at the
-- strength of eq. 23.
use Rattle.std.specs.Prelude.{◌≢◌, pos}
use Rattle.integer.specs.Fraction.{Frac, ◌≈ᶠ◌, Positive}
use Rattle.strength.specs.Rounded.{◌-ᶠ◌, ◌*ᶠ◌, ◌/ᶠ◌, oneᶠ}
use Rattle.strength.specs.Exact.{ExactTrial, exact_strength}

-- eq. 21, λ = b / (K - a), as (K - a)·λ = b
pub record OnHyperbola (a b : Frac) (t : ExactTrial) : Type 0 where
  pub on : (t.K -ᶠ a) *ᶠ t.L ≈ᶠ b

-- eq. 22: a = (λ1·K1 - λ2·K2) / (λ1 - λ2)
abbrev pub asymptote : ExactTrial → ExactTrial → Frac
asymptote A B = (A.L *ᶠ A.K -ᶠ B.L *ᶠ B.K) /ᶠ (A.L -ᶠ B.L)

-- eq. 22: b = λ1·(K1 - a)
abbrev pub scale : ExactTrial → ExactTrial → Frac
scale A B = A.L *ᶠ (A.K -ᶠ asymptote A B)

-- eq. 23's strength, with the load factor 1
abbrev pub at_one : ExactTrial → ExactTrial → ExactTrial
at_one A B = record { K = exact_strength A B; L = oneᶠ }

-- denominators are above 0, so that equal cross products are equal fractions
pub record InFractions (t : ExactTrial) : Type 0 where
  pub K_is : Positive t.K
  pub L_is : Positive t.L

-- both trials and eq. 23's are on one hyperbola
pub record OneHyperbola (A B : ExactTrial) : Type 0 where
  pub a_is : Positive (asymptote A B)
  pub b_is : Positive (scale A B)
  pub next_is : InFractions (at_one A B)
  pub first : OnHyperbola (asymptote A B) (scale A B) A
  pub second : OnHyperbola (asymptote A B) (scale A B) B
  pub next : OnHyperbola (asymptote A B) (scale A B) (at_one A B)

abbrev pub ThroughTwoTrials : Type 0
ThroughTwoTrials =
    (A B : ExactTrial) → InFractions A → InFractions B → (A.L -ᶠ B.L).num ≢ pos 0 → OneHyperbola A B
