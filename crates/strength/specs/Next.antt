-- The next strength to try (document 02, N13). Numbers are binary64's, as `lib.Ieee` has them: each operation rounds
-- its exact result once, to nearest and at a tie to even, and `positive` is finite and above 0.
use Rattle.std.specs.Prelude.{Bool, false, not, ◌&&◌, cond, ℕ, pos, Result, Ok, Err}
use lib.Ieee.{Float, fin, binary64, sub, mul, div, eq}
use lib.Ieee.Positive.{positive}
use Rattle.strength.specs.declared.Trial.{Trial}
use Rattle.strength.specs.declared.StrengthError.{StrengthError}
use Rattle.strength.specs.declared.StrengthError.TheVariants.{NoStrength}
use Rattle.strength.specs.declared.NextAnswer.{NextAnswer}

abbrev pub one : Float
one = fin false 1 (pos 0)

abbrev pub zero : Float
zero = fin false 0 (pos 0)

-- the rounded difference, product and quotient
infixl 62 ◌⊖◌
abbrev pub ◌⊖◌ : Float → Float → Float
x ⊖ y = sub binary64 x y

infixl 64 ◌⊗◌ ◌⊘◌
abbrev pub ◌⊗◌ : Float → Float → Float
x ⊗ y = mul binary64 x y

abbrev pub ◌⊘◌ : Float → Float → Float
x ⊘ y = div binary64 x y

-- the trial of two numbers
abbrev pub trial : Float → Float → Trial
trial k l = record { k = k; l = l }

-- "from left to right (1-L2)·L1·K1", of the trials 1 and 2; and "then (1-L1)·L2·K2", of 2 and 1
unfoldable pub term : Trial → Trial → Float
term a b = (one ⊖ b.l) ⊗ a.l ⊗ a.k

-- "their difference, then divided by (L1-L2), each operation rounded once"
unfoldable pub hyperbola : Trial → Trial → Float
hyperbola a b = (term a b ⊖ term b a) ⊘ (a.l ⊖ b.l)

unfoldable pub usable : Trial → Bool
usable t = positive t.k && positive t.l

-- "Refused .. when an input isn't finite and above 0, when L1 = L2, or when the result isn't finite and above 0"
unfoldable pub accepted : Trial → Trial → Bool
accepted a b = usable a && usable b && not (eq a.l b.l) && positive (hyperbola a b)

unfoldable pub next_strength : Trial → Trial → Result Float StrengthError
next_strength a b = cond (accepted a b) (Ok (hyperbola a b)) (Err NoStrength)

-- "Refused: 49, place 0"
abbrev pub error_number : StrengthError → ℕ
error_number NoStrength = 49

unfoldable pub next_answer : Result Float StrengthError → NextAnswer
next_answer (Ok x) = record { number = 0; place = 0; strength = x }
next_answer (Err e) = record { number = error_number e; place = 0; strength = zero }
