-- How the report spells a load (document 01, 'Verdict and report'): "at least one digit before the point; a zero has
-- no minus"; with d decimals, "with no point at 0" (document 02, N5).
-- And what such a text says, read with no look at how it was written.
use Rattle.std.specs.Prelude.{◌≡◌, Bool, true, false, cond, ◌&&◌, List, [], ◌∷◌, ◌++◌, length, replicate}
use Rattle.std.specs.Prelude.{ℕ, zero, suc, ◌/◌, ◌^◌, ℤ, pos, negsuc, ◌<ℤ◌, eqb}
use Rattle.std.proofs.Math.Option.{Option, none, some}
use Rattle.integer.specs.Decimal.{digits, last_digits, proper_digits, all_digits, value_after}

-- ---- writing

-- k/10^d with d decimals, and no point where d is 0; byte 46 is the point
unfoldable pub pointed : ℕ → ℕ → List ℕ
pointed zero k = digits k
pointed (suc d) k = digits (k / 10 ^ suc d) ++ (46 ∷ last_digits (suc d) k)

-- v/10^d with d decimals
unfoldable pub fixed : ℕ → ℤ → List ℕ
fixed d (pos k) = pointed d k
fixed d (negsuc k) = 45 ∷ pointed d (suc k)

-- "the four letters none"
unfoldable pub none_text : List ℕ
none_text = 110 ∷ 111 ∷ 110 ∷ 101 ∷ []

-- ---- reading

-- what a column says: the word none, or the number v/10^d written with d decimals
pub data Said : Type 0 where
  word : Said
  number : ℤ → ℕ → Said

-- the bytes before the first point, and those after it where there is a point
unfoldable pub before_point : List ℕ → List ℕ
before_point [] = []
before_point (b ∷ bs) = elim (eqb b 46) [ true ↦ [] | false ↦ b ∷ before_point bs ]

unfoldable pub after_point : List ℕ → Option (List ℕ)
after_point [] = none
after_point (b ∷ bs) = elim (eqb b 46) [ true ↦ some bs | false ↦ after_point bs ]

-- digits, or digits, a point and at least one digit
unfoldable pub decimal : List ℕ → Option (ℕ × ℕ)
decimal bs =
    let whole : List ℕ = before_point bs in
    elim (after_point bs) [
      | none ↦ cond (proper_digits whole) (some (value_after 0 whole, 0)) none
      | some [] ↦ none
      | some (c ∷ cs) ↦
          cond (proper_digits whole && all_digits (c ∷ cs))
          (some (value_after (value_after 0 whole) (c ∷ cs), length (c ∷ cs))) none
    ]

unfoldable pub said_number : ℕ × ℕ → Option Said
said_number vd = some (number (pos vd.0) vd.1)

-- after a minus: "a zero has no minus"
unfoldable pub below_zero : ℕ → ℕ → Option Said
below_zero zero d = none
below_zero (suc k) d = some (number (negsuc k) d)

unfoldable pub said_minus : ℕ × ℕ → Option Said
said_minus vd = below_zero vd.0 vd.1

-- what is read, said on
unfoldable pub and_said : (ℕ × ℕ → Option Said) → Option (ℕ × ℕ) → Option Said
and_said f none = none
and_said f (some vd) = f vd

-- a minus and a number that is not zero, or a number
unfoldable pub signed_decimal : List ℕ → Option Said
signed_decimal [] = none
signed_decimal (b ∷ bs) =
    elim (eqb b 45) [
      | true ↦ and_said said_minus (decimal bs)
      | false ↦ and_said said_number (decimal (b ∷ bs))
    ]

unfoldable pub is_none : List ℕ → Bool
is_none [] = false
is_none (a ∷ []) = false
is_none (a ∷ b ∷ []) = false
is_none (a ∷ b ∷ c ∷ []) = false
is_none (a ∷ b ∷ c ∷ d ∷ []) = eqb a 110 && eqb b 111 && eqb c 110 && eqb d 101
is_none (a ∷ b ∷ c ∷ d ∷ e ∷ rest) = false

-- a report's column: spaces, then the word none or a number
unfoldable pub said : List ℕ → Option Said
said [] = none
said (b ∷ bs) =
    elim (eqb b 32) [
      | true ↦ said bs
      | false ↦ cond (is_none (b ∷ bs)) (some word) (signed_decimal (b ∷ bs))
    ]

-- "a zero has no minus": a column with a minus says a number below 0, or nothing
abbrev pub MinusSaid : Type 0
MinusSaid = (k : ℕ) (bs : List ℕ) (v : ℤ) (d : ℕ) → said (replicate k 32 ++ (45 ∷ bs)) ≡ some (number v d) → v <ℤ pos 0
