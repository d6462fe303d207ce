-- `lower_load` meets its contract: the field's load, where there is a field and no soil is by direction.
use mathlib.Core.Path.{sym, ◌∙◌, ap}
use native.Mathlib.Omega.{arith}
use Rattle.integer.proofs.Machine.{Is-read, Is-within}
use Rattle.scope.specs.Answer.{load_of}
use Rattle.verdict.proofs.PartLaws.{load_there, no_load, load_untold}
use Rattle.verdict.proofs.claim_parts.lower_load.Goals as goal

pub returns : goal.returns
returns c =
    let field = c.in_ok-field.field in
    let found = c.in_ok-field.ensures.found in
    let load = Is-read (Is-within field.l_fits) (omega arith) in
    let scale = Is-read (Is-within field.n_fits) (omega arith) in
    load_there _ _ found.there (sym c.lists_direction.ensures ∙ c.if-lists_direction.false)
    (load.same ∙ found.its_load) (scale.same ∙ found.its_scale)

pub returns-in_err-field : goal.returns-in_err-field
returns-in_err-field c = ap load_of c.from_residual.ensures ∙ no_load _ _ c.in_err-field.ensures.none

pub returns-then-lists_direction : goal.returns-then-lists_direction
returns-then-lists_direction c = load_untold _ _ (sym c.lists_direction.ensures ∙ c.if-lists_direction.true)
