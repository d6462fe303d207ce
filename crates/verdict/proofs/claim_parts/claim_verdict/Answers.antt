-- `claim_verdict` meets its contract: the field's check, then the multipliers', then what is accepted.
use mathlib.Core.Path.{refl}
use Rattle.scope.specs.Cases.Verdict.{Accepted}
use Rattle.scope.specs.Phases.{check_phases}
use Rattle.scope.specs.Refusals.{multiplier_part}
use Rattle.scope.specs.Verdict.{answer}
use Rattle.verdict.proofs.Handed.{answer_refuses, answer_goes_on}
use Rattle.verdict.proofs.VerdictLaws.{all_accepted, field_first}
use Rattle.verdict.proofs.claim_parts.claim_verdict.Goals as goal

pub returns-in_err-claim_field : goal.returns-in_err-claim_field
returns-in_err-claim_field c =
    let m = c.args.claim.now.mesh.mesh.numbers.now in
    let k = c.args.claim.now.numbers.now in
    answer_refuses c.from_residual.result c.in_err-claim_field.field-0.0
    (answer (check_phases (multiplier_part m k)) (all_accepted m k))
    c.from_residual.ensures.1 c.in_err-claim_field.ensures (field_first m k)

pub returns-in_err-upper : goal.returns-in_err-upper
returns-in_err-upper c =
    let m = c.args.claim.now.mesh.mesh.numbers.now in
    let k = c.args.claim.now.numbers.now in
    answer_goes_on c.in_ok-claim_field.ensures (field_first m k)
    (answer_refuses c.from_residual-in_err-upper.result c.in_err-upper.field-0.0 (all_accepted m k)
    c.from_residual-in_err-upper.ensures.1 c.in_err-upper.ensures.outcome refl)

pub returns : goal.returns
returns c =
    let m = c.args.claim.now.mesh.mesh.numbers.now in
    let k = c.args.claim.now.numbers.now in
    answer_goes_on c.in_ok-claim_field.ensures (field_first m k)
    (answer_goes_on c.in_ok-upper.ensures.outcome refl
    (λ i. Accepted (c.open_rows.ensures i) (c.lower_load.ensures i) (c.in_ok-upper.ensures.load i)))
