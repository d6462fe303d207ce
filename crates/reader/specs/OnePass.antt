-- A column read in one pass, each byte taken once, front to back (document 02, N4): what is kept after some of its bytes.
use Rattle.std.specs.Prelude.{◌≡◌, refl, true, false, cond, List, [], ◌∷◌, ◌++◌, ℕ, ◌+◌, ◌*◌, ◌-◌, ◌^◌, ◌≤◌, ◌<◌, eqb}
use Rattle.std.specs.Prelude.{ℤ, pos, negsuc, neg_ℤ, length}
use Rattle.std.proofs.Math.Option.{Option, none, some}
use Rattle.integer.specs.Decimal.{digits_within, digits, right_justified, is_digit}
use Rattle.reader.specs.Spelling.{spelling, column, read_column}
use Rattle.reader.specs.File.{file_width}

-- ---- what is kept: a phase, and the value of the digits

-- what no number begins with; only spaces; a minus; a zero alone; digits; a minus and digits
pub data Phase : Type 0 where
  bad blank sign nought up down : Phase

-- the phase after one byte more
unfoldable pub turn : Phase → ℕ → Phase
turn bad b = bad
turn blank b =
    elim (eqb b 32) [
      | true ↦ blank
      | false ↦ elim
          (eqb b 45) [ true ↦ sign | false ↦ elim (eqb b 48) [ true ↦ nought | false ↦ cond (is_digit b) up bad ] ]
    ]
turn sign b = elim (eqb b 48) [ true ↦ bad | false ↦ cond (is_digit b) down bad ]
turn nought b = bad
turn up b = cond (is_digit b) up bad
turn down b = cond (is_digit b) down bad

-- the digit of a byte, and 0 of any other byte
unfoldable pub digit_of : ℕ → ℕ
digit_of b = cond (is_digit b) (b - 48) 0

unfoldable pub phase_after : Phase → List ℕ → Phase
phase_after p [] = p
phase_after p (b ∷ bs) = phase_after (turn p b) bs

unfoldable pub value_over : ℕ → List ℕ → ℕ
value_over a [] = a
value_over a (b ∷ bs) = value_over (a * 10 + digit_of b) bs

-- the number that a column is, from what is kept after its last byte
unfoldable pub meant : Phase → ℕ → Option ℤ
meant bad v = none
meant blank v = none
meant sign v = none
meant nought v = some (pos v)
meant up v = some (pos v)
meant down v = some (neg_ℤ (pos v))

-- ---- what document 02 asks of the reading (N4)

-- "a kept state of fixed size that copies none of them": the state after some bytes of a column
abbrev pub state_after : List ℕ → Phase × ℕ
state_after bs = (phase_after blank bs, value_over 0 bs)

-- example: the twelve bytes of -20
example_state : state_after (column file_width (negsuc 19)) ≡ (down, 20)
unfolding column spelling right_justified digits digits_within phase_after value_over turn digit_of is_digit
example_state = refl

-- the state that the byte b makes of the state s
abbrev pub next_state : Phase × ℕ → ℕ → Phase × ℕ
next_state s b = (turn s.0 b, s.1 * 10 + digit_of b)

-- the digits of a column have a value below this
abbrev pub value_bound : ℕ
value_bound = 10 ^ file_width

-- "a column's bytes are to be taken once each, front to back, into a kept state of fixed size ..; after the twelfth,
-- spelling and value follow from that state, with no byte read again. For every twelve bytes they are shown to be
-- document 01's."
pub record InOnePass : Type 0 where
  pub starts : state_after [] ≡ (blank, 0)
  -- the state after one byte more is a function of the state and that byte alone
  pub goes_on : (bs : List ℕ) (b : ℕ) → state_after (bs ++ (b ∷ [])) ≡ next_state (state_after bs) b
  pub fixed_size : (bs : List ℕ) → length bs ≤ file_width → (state_after bs).1 < value_bound
  pub says : (bs : List ℕ) → length bs ≡ file_width → meant (state_after bs).0 (state_after bs).1 ≡ read_column bs
