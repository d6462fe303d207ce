-- Whole numbers in decimal, as bytes: digits with no leading zero, the value of digits, a text right-justified in a
-- column.
-- What is written here is defined by the last digit and what is read by the first, so that neither is the other turned
-- round.
-- Example (`example_column`, checked after `right_justified`): 120 in a column of five bytes is two spaces and the
-- bytes of 1, 2 and 0, by `refl`.
-- Example (`example_read`, checked after `value_after`): the value of those three bytes is 120, by `refl`.
use Rattle.std.specs.Prelude.{◌≡◌, refl, Bool, true, false, ◌&&◌, List, [], ◌∷◌, ◌++◌, ℕ, zero, suc, ◌+◌, ◌*◌, ◌-◌}
use Rattle.std.specs.Prelude.{◌/◌, ◌%◌, leb, ltb, length, replicate}

-- ---- writing

-- the digits of k, as long as there are at most `depth` of them
unfoldable pub digits_within : ℕ → ℕ → List ℕ
digits_within zero k = []
digits_within (suc depth) k =
    elim (ltb k 10) [ true ↦ (48 + k) ∷ [] | false ↦ digits_within depth (k / 10) ++ ((48 + k % 10) ∷ []) ]

-- the digits of k, no leading zero, by the last digit
unfoldable pub digits : ℕ → List ℕ
digits k = digits_within (suc k) k

-- the last d digits of k, leading zeros included
unfoldable pub last_digits : ℕ → ℕ → List ℕ
last_digits zero k = []
last_digits (suc d) k = last_digits d (k / 10) ++ ((48 + k % 10) ∷ [])

-- a text at the end of a column of w bytes, filled with spaces (byte 32)
unfoldable pub right_justified : ℕ → List ℕ → List ℕ
right_justified w text = replicate (w - length text) 32 ++ text

-- example: a number in a column
example_column : right_justified 5 (digits 120) ≡ 32 ∷ 32 ∷ 49 ∷ 50 ∷ 48 ∷ []
unfolding right_justified digits digits_within
example_column = refl

-- ---- reading

unfoldable pub is_digit : ℕ → Bool
is_digit b = leb 48 b && leb b 57

unfoldable pub all_digits : List ℕ → Bool
all_digits [] = true
all_digits (b ∷ bs) = is_digit b && all_digits bs

-- the value of digits that follow the value a
unfoldable pub value_after : ℕ → List ℕ → ℕ
value_after a [] = a
value_after a (b ∷ bs) = value_after (a * 10 + (b - 48)) bs

-- example: the value of three bytes
example_read : value_after 0 (49 ∷ 50 ∷ 48 ∷ []) ≡ 120
unfolding value_after
example_read = refl

-- at least one digit, and a zero stands first only where it stands alone
unfoldable pub proper_digits : List ℕ → Bool
proper_digits [] = false
proper_digits (b ∷ []) = is_digit b
proper_digits (b ∷ c ∷ bs) = leb 49 b && leb b 57 && all_digits (c ∷ bs)
