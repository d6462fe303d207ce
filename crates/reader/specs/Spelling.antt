-- How a number stands in a column (document 01, 'The two files'): "Every number is decimal, right-justified in a
-- column of 12 characters, filled with spaces (byte 32). A minus stands directly before the first digit; no plus, no
-- leading zero, no minus zero."
-- The column's width is a parameter: `file_width` in a file.
use Rattle.std.specs.Prelude.{true, false, cond, List, [], ◌∷◌, ℕ, zero, suc, ℤ, pos, negsuc, eqb}
use Rattle.std.proofs.Math.Option.{Option, none, some, map}
use Rattle.integer.specs.Decimal.{digits, right_justified, value_after, proper_digits}

-- ---- writing

-- the spelling of a number; byte 45 is the minus
unfoldable pub spelling : ℤ → List ℕ
spelling (pos k) = digits k
spelling (negsuc k) = 45 ∷ digits (suc k)

unfoldable pub column : ℕ → ℤ → List ℕ
column w z = right_justified w (spelling z)

-- ---- reading

-- digits with "no leading zero"
unfoldable pub unsigned : List ℕ → Option ℕ
unsigned bs = cond (proper_digits bs) (some (value_after 0 bs)) none

-- "no minus zero"
unfoldable pub negated : Option ℕ → Option ℤ
negated none = none
negated (some zero) = none
negated (some (suc k)) = some (negsuc k)

-- "A minus stands directly before the first digit"
unfoldable pub signed : List ℕ → Option ℤ
signed [] = none
signed (b ∷ bs) = elim (eqb b 45) [ true ↦ negated (unsigned bs) | false ↦ map pos (unsigned (b ∷ bs)) ]

-- the number of a column: spaces, then the number
unfoldable pub read_column : List ℕ → Option ℤ
read_column [] = none
read_column (b ∷ bs) = elim (eqb b 32) [ true ↦ read_column bs | false ↦ signed (b ∷ bs) ]
