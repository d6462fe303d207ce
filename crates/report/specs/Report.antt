-- The report line (document 01, 'Verdict and report'): "The report is 113 bytes: four columns of 28, right-justified,
-- and byte 10."
use Rattle.std.specs.Prelude.{Bool, ◌&&◌, List, [], ◌∷◌, ◌++◌, ℕ, zero, suc, ◌+◌, ◌*◌, ◌^◌, ℤ, pos, negsuc, ◌*ℤ◌, ◌≤ℤ◌}
use Rattle.std.specs.Int.Signed.{le_z}
use Rattle.integer.specs.Decimal.{digits, right_justified}
use Rattle.integer.specs.Round.{floor_div, ceil_div}
use Rattle.scope.specs.Cases.Load.{Load}
use Rattle.scope.specs.Cases.Load.{Absent, Exact}
use Rattle.scope.specs.Cases.OpenRows.{OpenRows}
use Rattle.scope.specs.Cases.OpenRows.{Absent as NoCount, Count}
use Rattle.scope.specs.Cases.Verdict.{Verdict}
use Rattle.scope.specs.Cases.Verdict.{Accepted, Refused}
use Rattle.scope.specs.Answer.{place_number}
use Rattle.report.specs.Text.{fixed, none_text}

-- "four columns of 28"
abbrev pub column_bytes : ℕ
column_bytes = 28

-- "The report is 113 bytes": the columns and byte 10
abbrev pub report_bytes : ℕ
report_bytes = 4 * column_bytes + 1

-- a load with d decimals, rounded once by `round`; a load whose denominator is not above 0 is none (an accepted claim
-- has no such load)
unfoldable pub load_text : (ℤ → ℕ → ℤ) → ℕ → Load → List ℕ
load_text round d Absent = none_text
load_text round d (Exact num (pos zero)) = none_text
load_text round d (Exact num (pos (suc k))) = fixed d (round (num *ℤ pos (10 ^ d)) (suc k))
load_text round d (Exact num (negsuc k)) = none_text

-- "The lower goes towards minus infinity, the upper towards plus infinity"
unfoldable pub lower_text : ℕ → Load → List ℕ
lower_text = load_text floor_div

unfoldable pub upper_text : ℕ → Load → List ℕ
upper_text = load_text ceil_div

unfoldable pub open_text : OpenRows → List ℕ
open_text NoCount = none_text
open_text (Count k) = digits k

unfoldable pub four_columns : List ℕ → List ℕ → List ℕ → List ℕ → List ℕ
four_columns a b c e =
    right_justified column_bytes a
    ++ (right_justified column_bytes b
    ++ (right_justified column_bytes c ++ (right_justified column_bytes e ++ (10 ∷ []))))

-- "Accepted .. reports: 0; the open rows ..; l/n; W/m"; "Refused: number, place, none, none"
unfoldable pub report_line : ℕ → Verdict → List ℕ
report_line d (Accepted o lower upper) = four_columns (digits 0) (open_text o) (lower_text d lower) (upper_text d upper)
report_line d (Refused k place) = four_columns (digits k) (digits (place_number place)) none_text none_text

-- ---- how many decimals (document 02, N5)

-- "The report takes a number of decimals from 0 to 7 for both loads"
abbrev pub most_decimals : ℕ
most_decimals = 7

pub record Decimals (z : ℤ) : Type 0 where
  pub from_0 : pos 0 ≤ℤ z
  pub to_most : z ≤ℤ pos most_decimals

unfoldable pub is_decimals : ℤ → Bool
is_decimals z = le_z (pos 0) z && le_z z (pos most_decimals)

-- "The desk program and N3's runs go on with six"
unfoldable pub usual_decimals : ℕ
usual_decimals = 6
