-- `reader::read_table` meets its contract: the well-formed lines, and one number more where bytes follow them.
-- Assumes nothing.
use native.Mathlib.Omega.{arith}
use Rattle.reader.proofs.TableRead.{table_room, table_listed}
use Rattle.reader.proofs.read_table.Goals as goal

pub finish-requires : goal.finish-requires
finish-requires c =
    let fits = rw (← c.new-source.ensures) at c.requires in
    table_room c.read_rows-p.ensures (omega arith) fits

pub returns : goal.returns
returns c = rw (← c.new-source.ensures) (table_listed c.read_rows-p.ensures c.finish.ensures)
