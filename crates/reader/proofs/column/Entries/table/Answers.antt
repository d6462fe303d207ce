-- `Entries::table` meets its contract: the test of a table is computed over the array that the code makes.
-- Assumes nothing.
use Rattle.reader.proofs.Entries.{table_test, table_means}
use Rattle.reader.proofs.column.Entries.table.Goals as goal

pub invariant_of-result : goal.invariant_of-result
unfolding table_test
invariant_of-result c = record { is_table = table_means _ tt }
