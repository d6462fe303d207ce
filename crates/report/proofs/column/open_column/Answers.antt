-- Either case of the count is a case of the text.
use Rattle.std.proofs.Common.{◌≡◌, ◌∙◌, ℕ, List, Option, None, Some, MatchOption}
use Rattle.integer.specs.Decimal.{digits, right_justified}
use Rattle.scope.specs.Answer.{open_rows_of}
use Rattle.report.specs.Text.{none_text}
use Rattle.report.specs.Report.{open_text}
use Rattle.report.proofs.column.open_column.Goals as goal

either : (o : Option ℕ) (column blank : List ℕ) → blank ≡ right_justified 28 none_text
    → MatchOption o (column ≡ blank) (λ k. column ≡ right_justified 28 (digits k))
    → column ≡ right_justified 28 (open_text (open_rows_of o))
unfolding open_text
either None column blank n h = h ∙ n
either (Some k) column blank n h = h

pub returns : goal.returns
returns c = either c.args.open_rows c.map_or.result c.none_column.result c.none_column.ensures c.map_or.ensures
