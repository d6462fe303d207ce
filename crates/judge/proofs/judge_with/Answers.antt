-- `judge_with` meets its contract: an empty file is no table, and else the numbers of the table that are judged are
-- those that were read.
use mathlib.Core.Path.{◌∙◌}
use native.Mathlib.Omega.{arith}
use borrow.Author.Tests.{tests}
use Rattle.judge.proofs.FilesJudged.{alone_check, alone_read, alone_left, some_file, table_fits, front}
use Rattle.judge.proofs.judge_with.Goals as goal

pub returns-then-is_empty-clause-outcome : goal.returns-then-is_empty-clause-outcome
returns-then-is_empty-clause-outcome c =
    c.judge_mesh.ensures.outcome ∙ alone_check c.args.table.now c.args.m.now (omega (arith, tests))

pub returns-then-is_empty-clause-pairs : goal.returns-then-is_empty-clause-pairs
returns-then-is_empty-clause-pairs c =
    rw (← alone_read c.args.table.now c.args.m.now (omega (arith, tests))) c.judge_mesh.ensures.pairs

pub returns-then-is_empty-clause-left : goal.returns-then-is_empty-clause-left
returns-then-is_empty-clause-left c = alone_left c.args.table.now c.args.m.now (omega (arith, tests))

pub read_table-count-requires : goal.read_table-count-requires
read_table-count-requires c = table_fits _

pub judge_tabled-requires : goal.judge_tabled-requires
judge_tabled-requires c = rw (front c.read_table-count.ensures) (some_file _ _ (omega (arith, tests)))

pub returns-clause-outcome : goal.returns-clause-outcome
returns-clause-outcome c = rw (front c.read_table-count.ensures) at c.judge_tabled.ensures.outcome

pub returns-clause-pairs : goal.returns-clause-pairs
returns-clause-pairs c = rw (front c.read_table-count.ensures) at c.judge_tabled.ensures.pairs

pub returns-clause-left : goal.returns-clause-left
returns-clause-left c = rw (front c.read_table-count.ensures) at c.judge_tabled.ensures.left
