-- The sheets with joints give their lines, by computing as `Sheets` does.
use mathlib.Core.Path.{◌≡◌, refl}
use mathlib.Core.List.{map}
use Rattle.pechuvo.specs.Sheets.{printed}
use Rattle.pechuvo.specs.SheetsJoints.{joint_sheets}
use Rattle.pechuvo.proofs.Sheets.{computed_line}

pub joint_sheets_lem : map printed joint_sheets ≡ map (λ s. s.line) joint_sheets
unfolding computed_line joint_sheets
joint_sheets_lem = refl
