-- The sheets with 108 sides give their lines, by computing as `Sheets` does.
use mathlib.Core.Path.{◌≡◌, refl}
use mathlib.Core.List.{map}
use Rattle.pechuvo.specs.Sheets.{printed}
use Rattle.pechuvo.specs.Sheets108.{many_nodes, sheets_108}
use Rattle.pechuvo.proofs.Sheets.{computed_line}

pub sheets_108_lem : map printed sheets_108 ≡ map (λ s. s.line) sheets_108
unfolding computed_line many_nodes sheets_108
sheets_108_lem = refl
