-- The sheets with ground that is stronger one way give their lines, by computing as `Sheets` does.
use mathlib.Core.Path.{◌≡◌, refl}
use mathlib.Core.List.{map}
use Rattle.pechuvo.specs.Sheets.{printed}
use Rattle.pechuvo.specs.SheetsBeds.{bedded_block, bedded_half, bedded_unused, bedded_sheets}
use Rattle.pechuvo.proofs.Sheets.{computed_line}

pub bedded_sheets_lem : map printed bedded_sheets ≡ map (λ s. s.line) bedded_sheets
unfolding computed_line bedded_block bedded_half bedded_unused bedded_sheets
bedded_sheets_lem = refl
