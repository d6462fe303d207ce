-- A load's text as it is written: the decimals apart from the whole part, the minus apart from both, and rounded to one
-- of two sides.
use Rattle.std.specs.Prelude.{Bool, true, false, List, [], ◌∷◌, ℕ, zero, suc, ℤ, pos, neg_ℤ}
use Rattle.integer.specs.Decimal.{last_digits}
use Rattle.integer.specs.Round.{floor_div, ceil_div}

-- the point and the last d digits of k, and no point where d is 0
unfoldable pub decimals_text : ℕ → ℕ → List ℕ
decimals_text zero k = []
decimals_text (suc d) k = 46 ∷ last_digits (suc d) k

-- towards plus infinity where `up`, else towards minus infinity
abbrev pub round_to : Bool → ℤ → ℕ → ℤ
round_to false = floor_div
round_to true = ceil_div

-- n with a minus where `below`: zero has none
unfoldable pub signed : Bool → ℕ → ℤ
signed false n = pos n
signed true n = neg_ℤ (pos n)
