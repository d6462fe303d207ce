-- `claim_limit` meets its contract: the limit of the claim's multipliers, where there are any.
use mathlib.Core.Path.{◌∙◌}
use Rattle.scope.proofs.Answered.{passed_on}
use Rattle.multipliers.proofs.LimitLaws.{claim_checked, claim_load, no_check, no_limit}
use Rattle.multipliers.proofs.multiplier_checks.claim_limit.Goals as goal

pub returns-in_default : goal.returns-in_default
returns-in_default c = record {
  outcome = no_check _ _ c.in_default.ensures.none;
  load = no_limit _ _ c.in_default.ensures.none;
}

pub returns-in_err-limit-clause-outcome : goal.returns-in_err-limit-clause-outcome
returns-in_err-limit-clause-outcome c =
    passed_on c.from_residual.result c.in_err-limit.field-0.0 c.from_residual.ensures.1
    ∙ c.in_err-limit.ensures.outcome
    ∙ claim_checked _ _ _ c.in-Some.ensures.found

pub returns : goal.returns
returns c = record {
  outcome = c.in_ok-limit.ensures.outcome ∙ claim_checked _ _ _ c.in-Some.ensures.found;
  load = claim_load _ _ _ c.in-Some.ensures.found c.in_ok-limit.ensures.load;
}
