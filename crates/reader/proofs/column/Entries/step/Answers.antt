-- `Entries::step` meets its contract: the byte's entry tells the next phase and the digit.
-- Assumes nothing.
use native.Mathlib.Omega.{arith}
use Rattle.reader.proofs.OnePass.{entry_digit, stepped}
use Rattle.reader.proofs.column.Entries.step.Goals as goal

pub overflow_add-result : goal.overflow_add-result
overflow_add-result c =
    let t = c.args.self.now in
    omega (arith, entry_digit t.of_byte t.is_table c.args.b (omega arith))

pub returns : goal.returns
returns c =
    let t = c.args.self.now in
    rw c.from.ensures (stepped t.of_byte t.is_table c.args.b (omega arith) c.args.c)
