-- The sheets with two faults give their lines, by computing as `Sheets` does.
use mathlib.Core.Path.{◌≡◌, refl}
use mathlib.Core.List.{map}
use Rattle.pechuvo.specs.Sheets.{printed}
use Rattle.pechuvo.specs.SheetsOrder.{order_sheets}
use Rattle.pechuvo.proofs.Sheets.{computed_line}

pub order_sheets_lem : map printed order_sheets ≡ map (λ s. s.line) order_sheets
unfolding computed_line order_sheets
order_sheets_lem = refl
