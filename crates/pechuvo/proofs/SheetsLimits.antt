-- The sheets at limits give their lines, by computing as `Sheets` does; and with another number of decimals than 0 to 7
-- the buffer stays as it was.
use mathlib.Core.Path.{◌≡◌, refl}
use mathlib.Core.List.{[], ◌∷◌, map}
use lib.ListN.{replicate}
use Rattle.scope.specs.declared.Place.TheVariants.{Line}
use Rattle.scope.specs.Cases.Outcome.{Refused}
use Rattle.scope.specs.Table.{tabled_check}
use Rattle.scope.specs.Rows.{strength_pairs}
use Rattle.scope.proofs.Pairs.{pair_of}
use Rattle.pechuvo.specs.Bytes.{numbers}
use Rattle.pechuvo.specs.Check.{check}
use Rattle.pechuvo.specs.Sheets.{printed, printed_with}
use Rattle.pechuvo.specs.SheetsLimits.{limit_sheets, other_decimals, table_of_33, mesh_of_33, asked_for, pair_sheets}
use Rattle.pechuvo.specs.SheetsLimits.{clay_first}
use Rattle.pechuvo.proofs.Sheets.{computed_line}

pub limit_sheets_lem : map printed limit_sheets ≡ map (λ s. s.line) limit_sheets
unfolding computed_line limit_sheets
limit_sheets_lem = refl

pub other_decimals_lem : map (λ s. printed_with s.0 s.1) other_decimals ≡ map (λ s. s.1.line) other_decimals
unfolding computed_line other_decimals
other_decimals_lem = refl

-- "1 to 32 lines": of numbers too the 33rd is left over
pub numbers_33 : tabled_check (numbers table_of_33) (numbers mesh_of_33) ≡ Refused 1 (Line 1033)
unfolding computed_line table_of_33 mesh_of_33
numbers_33 = refl

-- 43 whether or not there is room
pub other_numbers : map (λ a. (check [] [] [] a.0 (replicate a.1 0)).number) asked_for ≡ 43 ∷ 43 ∷ 43 ∷ 43 ∷ []
unfolding computed_line asked_for
other_numbers = refl

pub pair_sheets_lem : map printed pair_sheets ≡ map (λ s. s.line) pair_sheets
unfolding computed_line pair_sheets
pair_sheets_lem = refl

pub pairs_ascend : strength_pairs (numbers clay_first) ≡ pair_of 0 1 ∷ pair_of 1 1 ∷ pair_of 2 0 ∷ pair_of 2 1
    ∷ pair_of 3 0 ∷ pair_of 3 1 ∷ pair_of 4 0 ∷ pair_of 5 0 ∷ []
unfolding computed_line clay_first
pairs_ascend = refl
