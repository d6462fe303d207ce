-- Each arm is a case of the line.
use Rattle.std.proofs.Common.{◌∙◌, ap}
use Rattle.integer.specs.Decimal.{digits, right_justified}
use Rattle.report.specs.Report.{lower_text, upper_text, report_line}
use Rattle.report.proofs.BufferLaws.{columns_joined}
use Rattle.report.proofs.line_columns.Goals as goal

pub returns-in-Ok : goal.returns-in-Ok
unfolding report_line lower_text upper_text
returns-in-Ok c = rw c.in-Ok.is (search columns_joined)

pub returns-in-Err : goal.returns-in-Err
unfolding report_line
returns-in-Err c =
    let k = c.number_column-in-Err.ensures ∙ ap (λ n. right_justified 28 (digits n)) c.from.ensures in
    let n = c.from-in-Err.ensures ∙ c.number.ensures in
    let place = c.number_column-in-Err-2.ensures ∙ ap (λ n. right_justified 28 (digits n)) n in
    rw c.in-Err.is (columns_joined _ _ _ _ k place c.none_column.ensures c.none_column-in-Err.ensures)
