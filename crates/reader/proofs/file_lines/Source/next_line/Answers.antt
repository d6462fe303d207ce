-- `Source::next_line` meets its contract: the line's numbers are copied where it is well formed.
-- Assumes nothing.
use native.Mathlib.Omega.{arith}
use Prim.Native.Nat.{◌+◌, ◌-◌}
use lib.ListN.{length}
use borrow.Rule.Slice.PartMut.{mid_of}
use Rattle.std.proofs.lemmas.Slice.{between_to_end}
use Rattle.mesh.proofs.Copied.{copied_whole}
use Rattle.reader.proofs.LinesRead.{line_malformed, line_formed}
use Rattle.reader.proofs.file_lines.Source.next_line.Goals as goal

pub returns-in_err-read_line : goal.returns-in_err-read_line
returns-in_err-read_line c =
    let bs = c.args.self.now.bytes.now in
    let rest = between_to_end bs c.args.p.at (length bs) (omega arith) in
    rw c.from_residual.ensures (line_malformed _ (rw rest at c.in_err-read_line.ensures.read))

pub returns : goal.returns
returns c =
    let bs = c.args.self.now.bytes.now in
    let rest = between_to_end bs c.args.p.at (length bs) (omega arith) in
    let line = c.read_line.new.line in
    let n = c.args.p.numbers in
    let room = mid_of n (n + length line - n) c.args.out.now in
    line_formed _ (rw rest at c.in_ok-read_line.ensures.read) (omega arith)
    (rw (copied_whole line room c.copy_numbers.ensures (omega arith)))
