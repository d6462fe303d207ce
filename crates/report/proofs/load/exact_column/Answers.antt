-- Below 0 the size is rounded to the other side, and its opposite is what is asked.
use Rattle.report.proofs.LoadLaws.{exact_above, exact_below}
use Rattle.report.proofs.load.exact_column.Goals as goal

pub returns-then-num-lt0 : goal.returns-then-num-lt0
returns-then-num-lt0 c = search exact_below

pub returns-else-num-lt0 : goal.returns-else-num-lt0
returns-else-num-lt0 c = search exact_above
