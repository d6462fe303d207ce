-- `RuledLine::check` meets its contract: the limits, and then the rule.
use mathlib.Core.Path.{sym, ◌∙◌}
use Rattle.scope.specs.Verdict.{rules_hold}
use Rattle.scope.proofs.Answered.{first_refuses, second_decides}
use Rattle.lines.specs.LineContracts.{file_numbers}
use Rattle.lines.specs.Table.{ruled_lines}
use Rattle.lines.proofs.LineLaws.{line_limits, width_is}
use Rattle.lines.proofs.line_tests.RuledLine.check.Goals as goal

pub returns-in_err-demand : goal.returns-in_err-demand
unfolding file_numbers
returns-in_err-demand c =
    let a = c.args in
    let line = a.self.now in
    let g = ruled_lines line.rule a.sizes 0 in
    first_refuses c.from_residual.result c.in_err-demand.field-0.0 (rules_hold g.rules line.numbers.now a.place)
    c.from_residual.ensures.1 c.in_err-demand.ensures
    (line_limits (file_numbers a.file) g line.numbers.now a.place (line.whole ∙ sym (width_is line.rule a.sizes 0))
    (sym c.within_limits.ensures))

pub returns : goal.returns
unfolding file_numbers
returns c =
    let a = c.args in
    let line = a.self.now in
    second_decides c.in_ok-demand.ensures
    (line_limits (file_numbers a.file) (ruled_lines line.rule a.sizes 0) line.numbers.now a.place
    (line.whole ∙ sym (width_is line.rule a.sizes 0)) (sym c.within_limits.ensures))
    c.rule_check.ensures
