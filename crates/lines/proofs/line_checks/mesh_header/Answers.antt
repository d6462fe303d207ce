-- `mesh_header` meets its contract: each return by the law of the check that it stands for.
use mathlib.Core.Path.{◌≡◌, ◌∙◌, sym}
use mathlib.Core.Bool.{Bool, true}
use mathlib.Core.List.{List, [], ◌∷◌}
use lib.Dec.{leb}
use lib.IntN.{ℤ}
use lib.ListN.{length, take}
use lib.Seq.{length-take-le}
use Rattle.scope.specs.declared.Place.TheVariants.{Line}
use Rattle.scope.specs.Checks.{demand, ◌then◌}
use Rattle.scope.specs.Columns.{Rule, at_most_where, all_within}
use Rattle.scope.specs.Mesh.{most_sides, nodes_for_108, mesh_header_columns, mesh_layout, layout_with, mesh_header}
use Rattle.scope.specs.Verdict.{line_check, line_at, rules_hold}
use Rattle.scope.specs.Refusals.{rule_number}
use Rattle.scope.proofs.Answered.{first_refuses, second_decides, test_held}
use Rattle.lines.proofs.LineLaws.{line_there, line_limits, past_end, not_past_end, mesh_header_line}
use Rattle.lines.proofs.LineLaws.{one_rule, nodes_read}
use borrow.Author.Rules.{rules}
use Rattle.lines.proofs.line_checks.mesh_header.Goals as goal

-- the line is there
header_there : (m : List ℤ) → demand (leb mesh_header_columns (length m)) 1 (Line 1)
    then line_check mesh_layout mesh_header (take mesh_header_columns m) (Line 1) ≡ line_at mesh_layout m 0
unfolding mesh_header layout_with
header_there m = line_there mesh_layout mesh_header m (Line 1) (leb mesh_header_columns (length m)) (past_end _ _)
    ∙ mesh_header_line m

pub returns-in_err-demand : goal.returns-in_err-demand
returns-in_err-demand c =
    let m = c.args.m.now in
    first_refuses c.from_residual.result c.in_err-demand.field-0.0
    (line_check mesh_layout mesh_header (take mesh_header_columns m) (Line 1))
    c.from_residual.ensures.1 (rw c.at.ensures at c.in_err-demand.ensures) (header_there m)

abbrev few : Rule
few = at_most_where 0 nodes_for_108 4 most_sides

-- its limits, and then its rule
header_limits : (m : List ℤ) {b : Bool} → leb mesh_header_columns (length m) ≡ true
    → all_within mesh_header.limits (take mesh_header_columns m) ≡ b
    → demand b 2 (Line 1) then rules_hold (few ∷ []) (take mesh_header_columns m) (Line 1)
    ≡ line_check mesh_layout mesh_header (take mesh_header_columns m) (Line 1)
unfolding mesh_header layout_with
header_limits m e w =
    line_limits mesh_layout mesh_header (take mesh_header_columns m) (Line 1)
    (length-take-le mesh_header_columns m (not_past_end _ _ e)) w

pub returns-in_err-demand-2 : goal.returns-in_err-demand-2
returns-in_err-demand-2 c =
    let m = c.args.m.now in
    let there = test_held _ _ _ c.in_ok-demand.ensures in
    second_decides (rw c.at.ensures at c.in_ok-demand.ensures) (header_there m)
    (first_refuses c.from_residual-in_err-demand-2.result c.in_err-demand-2.field-0.0
    (rules_hold (few ∷ []) (take mesh_header_columns m) (Line 1)) c.from_residual-in_err-demand-2.ensures.1
    (rw c.at-2.ensures at c.in_err-demand-2.ensures) (header_limits m there (sym c.header_within.ensures)))

pub returns : goal.returns
unfolding rule_number
returns c =
    let m = c.args.m.now in
    let there = test_held _ _ _ c.in_ok-demand.ensures in
    second_decides (rw c.at.ensures at c.in_ok-demand.ensures) (header_there m)
    (second_decides (rw c.at-2.ensures at c.in_ok-demand-2.ensures)
    (header_limits m there (sym c.header_within.ensures))
    ((rw c.at-3.ensures at c.demand-3.ensures)
    ∙ one_rule few (take mesh_header_columns m) (Line 1)
    (nodes_read m (not_past_end _ _ there) (search rules) (search rules) ∙ sym c.nodes_fit.ensures)))
