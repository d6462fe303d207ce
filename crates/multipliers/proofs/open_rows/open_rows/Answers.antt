-- `open_rows` meets its contract: the count where there are both parts.
use mathlib.Core.Path.{sym, ◌∙◌}
use Rattle.multipliers.proofs.OpenLaws.{counted, no_field, no_multipliers}
use Rattle.multipliers.proofs.open_rows.open_rows.Goals as goal

pub returns-in_err-field : goal.returns-in_err-field
returns-in_err-field c = no_field _ _ c.from_residual.ensures c.in_err-field.ensures.none

pub returns-in_err-rows : goal.returns-in_err-rows
returns-in_err-rows c = no_multipliers _ _ c.from_residual-in_err-rows.ensures c.in_err-rows.ensures.none

pub open_count-requires : goal.open_count-requires
open_count-requires c = c.in_ok-field.ensures.found.its_mesh ∙ sym c.in_ok-rows.ensures.found.its_mesh

pub returns : goal.returns
returns c = counted _ _ _ _ c.in_ok-field.ensures.found c.in_ok-rows.ensures.found c.open_count.ensures
