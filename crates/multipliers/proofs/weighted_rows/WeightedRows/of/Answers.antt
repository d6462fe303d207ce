-- `of` meets its contract: the claim says how many multipliers it has, and how large they are.
use mathlib.Core.Path.{refl, sym, ◌∙◌}
use Rattle.multipliers.proofs.MultiplierLaws.{claim_multipliers}
use Rattle.multipliers.proofs.weighted_rows.WeightedRows.of.Goals as goal

pub invariant_of-result-clause-of_each_row : goal.invariant_of-result-clause-of_each_row
invariant_of-result-clause-of_each_row c =
    let given = c.multipliers.ensures in
    claim_multipliers _ (sym c.has_multipliers.ensures ∙ c.if-not-has_multipliers.false) given.there given.in_range
    given.strengths_in_range

pub returns-clause-found : goal.returns-clause-found
returns-clause-found c = record {
  there = sym c.has_multipliers.ensures ∙ c.if-not-has_multipliers.false;
  its_mesh = refl;
  its_multipliers = c.multipliers.ensures.by_row;
}
