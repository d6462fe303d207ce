-- `claim_field` meets its contract: a field is checked where there is one.
use mathlib.Core.Path.{◌∙◌}
use Rattle.verdict.proofs.PartLaws.{field_as, part_there, no_part}
use Rattle.verdict.proofs.claim_parts.claim_field.Goals as goal

pub returns-in-Some : goal.returns-in-Some
returns-in-Some c =
    let found = c.in-Some.ensures.found in
    c.field_check.ensures ∙ field_as found ∙ part_there _ _ found.there

pub returns-in-None : goal.returns-in-None
returns-in-None c = no_part _ _ c.in-None.ensures.none
