-- `claim_header` meets its contract: each return by the law of the check that it stands for.
use mathlib.Core.Path.{◌≡◌, refl, ◌∙◌, sym, ap}
use mathlib.Core.Bool.{Bool, true}
use mathlib.Core.List.{List, [], ◌∷◌}
use lib.Dec.{leb}
use lib.IntN.{ℤ}
use lib.ListN.{length, take}
use lib.Seq.{length-take-le}
use Rattle.scope.specs.declared.Place.TheVariants.{Line}
use Rattle.scope.specs.Checks.{demand, ◌then◌}
use Rattle.scope.specs.Columns.{up_to, parts, all_within}
use Rattle.scope.specs.Claim.{claim_header_columns, claim_layout, claim_header}
use Rattle.scope.specs.Refusals.{rule_number}
use Rattle.scope.specs.Verdict.{line_check, rules_hold}
use Rattle.scope.proofs.Answered.{first_refuses, second_decides, test_held}
use Rattle.lines.specs.LineContracts.{ranges}
use Rattle.lines.proofs.LineLaws.{line_there, line_limits, one_rule, past_end, not_past_end, parts_read}
use borrow.Author.Rules.{rules}
use Rattle.lines.proofs.line_checks.claim_header.Goals as goal

-- the line is there, and then its limits
header_there : (c : List ℤ) → demand (leb claim_header_columns (length c)) 11 (Line 1)
    then line_check (claim_layout []) claim_header (take claim_header_columns c) (Line 1)
    ≡ line_check (claim_layout []) claim_header (take claim_header_columns c) (Line 1)
unfolding claim_header claim_layout
header_there c =
    line_there (claim_layout []) claim_header c (Line 1) (leb claim_header_columns (length c)) (past_end _ _)

header_limits : (c : List ℤ) → leb claim_header_columns (length c) ≡ true
    → demand (all_within claim_header.limits (take claim_header_columns c)) 12 (Line 1)
    then rules_hold (parts ∷ []) (take claim_header_columns c) (Line 1)
    ≡ line_check (claim_layout []) claim_header (take claim_header_columns c) (Line 1)
unfolding claim_header claim_layout
header_limits c e =
    line_limits (claim_layout []) claim_header (take claim_header_columns c) (Line 1)
    (length-take-le claim_header_columns c (not_past_end _ _ e)) refl

pub returns-in_err-demand : goal.returns-in_err-demand
returns-in_err-demand c =
    let cs = c.args.c.now in
    first_refuses c.from_residual.result c.in_err-demand.field-0.0
    (line_check (claim_layout []) claim_header (take claim_header_columns cs) (Line 1))
    c.from_residual.ensures.1 (rw c.at.ensures at c.in_err-demand.ensures) (header_there cs)

pub returns-in_err-demand-2 : goal.returns-in_err-demand-2
unfolding claim_header up_to ranges
returns-in_err-demand-2 c =
    let cs = c.args.c.now in
    first_refuses c.from_residual-in_err-demand-2.result c.in_err-demand-2.field-0.0
    (rules_hold (parts ∷ []) (take claim_header_columns cs) (Line 1))
    c.from_residual-in_err-demand-2.ensures.1
    ((rw c.at-2.ensures at c.in_err-demand-2.ensures)
    ∙ ap (λ (b : Bool). demand b 12 (Line 1)) c.limits_hold-in_limits.ensures)
    (header_limits cs (test_held _ _ _ c.in_ok-demand.ensures))

pub returns : goal.returns
unfolding claim_header up_to ranges rule_number
returns c =
    let cs = c.args.c.now in
    let line = take claim_header_columns cs in
    second_decides ((rw c.at-2.ensures at c.in_ok-demand-2.ensures)
    ∙ ap (λ (b : Bool). demand b 12 (Line 1)) c.limits_hold-in_limits.ensures)
    (header_limits cs (test_held _ _ _ c.in_ok-demand.ensures))
    ((rw c.at-3.ensures at c.demand-3.ensures)
    ∙ one_rule parts line _ (parts_read line (search rules) (search rules) (search rules) (search rules)
    ∙ sym c.parts_fit-fit.ensures))
