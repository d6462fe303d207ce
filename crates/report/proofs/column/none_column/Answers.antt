-- The bytes as they stand are the four letters after 24 spaces.
use Rattle.std.proofs.Common.{refl}
use Rattle.integer.specs.Decimal.{right_justified}
use Rattle.report.specs.Text.{none_text}
use Rattle.report.proofs.column.none_column.Goals as goal

pub returns : goal.returns
unfolding right_justified none_text
returns c = refl
