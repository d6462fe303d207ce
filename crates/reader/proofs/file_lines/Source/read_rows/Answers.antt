-- `Source::read_rows` meets its contract. The loop's invariant: the lines before the next one are read.
-- Assumes nothing.
use mathlib.Core.Path.{◌≡◌}
use native.Mathlib.Omega.{arith}
use lib.ListN.{length}
use Rattle.scope.specs.Layers.{layer_columns}
use Rattle.reader.proofs.LinesRead.{is_start}
use Rattle.reader.proofs.TableRead.{rows_first, rows_stop, rows_end, rows_room, rows_next}
use Rattle.reader.proofs.file_lines.Source.read_rows.Goals as goal

pub loop-init : goal.loop-init
loop-init c = rw (is_start c.default-q.ensures) rows_first

pub next_line-requires-clause-room : goal.next_line-requires-clause-room
next_line-requires-clause-room c =
    let e : length c.loop.line ≡ layer_columns = omega arith in
    rw e (rows_room c.loop.invariant c.loop-test.true (omega arith) c.requires)

pub returns-in_default : goal.returns-in_default
returns-in_default c =
    let e : length c.loop.line ≡ layer_columns = omega arith in
    rows_stop c.loop.invariant c.loop-test.true (rw (e, c.in_default.is) at c.next_line.ensures)

pub loop-preserved : goal.loop-preserved
loop-preserved c =
    let e : length c.loop.line ≡ layer_columns = omega arith in
    rows_next c.loop.invariant c.loop-test.true (rw (e, c.in-Some.is) at c.next_line.ensures)

pub returns : goal.returns
returns c = rows_end c.loop.invariant c.loop-test.false
