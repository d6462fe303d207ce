-- `columns_check` meets its contract: the columns before the first that is not 0 are 0.
use mathlib.Core.Path.{◌∙◌}
use Rattle.std.proofs.Common.{rules, tests}
use Rattle.std.proofs.lemmas.Iterator.{YieldsList-from_slice, IsFirst-from_position}
use Rattle.scope.proofs.Answered.{refused_at}
use Rattle.multipliers.proofs.LimitLaws.{IsZero, IsNotZero, column_fails, columns_done}
use Rattle.multipliers.proofs.multiplier_checks.columns_check.Goals as goal

pub returns-in-Some : goal.returns-in-Some
returns-in-Some c =
    refused_at c.at.ensures
    ∙ column_fails c.args.columns.now c.requires.columns_fit
    (IsFirst-from_position _ _ _ IsNotZero IsZero c.in-Some.ensures.ran
    (YieldsList-from_slice c.args.columns.now cc) (λ x q k. search (rules, tests)) (λ x q k. search (rules, tests)))

pub returns-in-None : goal.returns-in-None
returns-in-None c =
    columns_done c.args.columns.now c.requires.columns_fit
    (IsFirst-from_position _ _ _ IsNotZero IsZero c.in-None.ensures.ran
    (YieldsList-from_slice c.args.columns.now cc) (λ x q k. search (rules, tests)) (λ x q k. search (rules, tests)))
