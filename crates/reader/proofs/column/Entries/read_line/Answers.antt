-- `Entries::read_line` meets its contract. The loop's invariant: the columns before this one are read.
use mathlib.Core.Path.{ap, ◌∙◌}
use mathlib.Core.List.{List, []}
use Prim.Native.Nat.{ℕ}
use native.Mathlib.Omega.{arith}
use lib.IntN.{ℤ, pos}
use mir.Facts.{to_z-of_z}
use mir.Syntax.{w64}
use borrow.Author.Rules.{rules}
use Rattle.std.specs.Prelude.{Option, Some}
use Rattle.std.proofs.lemmas.List.{set-get_or}
use Rattle.reader.specs.Spelling.{read_column}
use Rattle.reader.specs.ColumnState.{reading_of}
use Rattle.reader.proofs.InLine.{line_short, line_there, text_at, line_first, line_stops, line_next, line_ends}
use Rattle.reader.proofs.InLine.{is_then_some}
use Rattle.reader.proofs.LinePut.{short_put, there_put, put_first, put_stops, put_next, put_ends}
use Rattle.reader.proofs.column.Entries.read_line.Goals as goal

-- what a column's text says
abbrev said_of : List ℕ → Option ℤ
said_of text = reading_of (read_column text)

pub returns-then-bytes-end-clause-read : goal.returns-then-bytes-end-clause-read
returns-then-bytes-end-clause-read c = line_short _ _ (omega arith)

pub returns-then-bytes-end-clause-put : goal.returns-then-bytes-end-clause-put
returns-then-bytes-end-clause-put c = short_put _ _ (omega arith)

pub loop-i-init : goal.loop-i-init
loop-i-init c = record { columns = line_first; put = put_first }

pub returns-in_err-number-clause-read : goal.returns-in_err-number-clause-read
returns-in_err-number-clause-read c =
    let text = text_at c.args.bytes.now c.loop-i.i [] c.as_chunks.ensures.front (omega arith) in
    rw c.from_residual.ensures
    (line_there _ _ (omega arith)
    ∙ line_stops c.loop-i.invariant.columns c.loop-i-test.true (c.in_err-number.ensures ∙ ap said_of text))

pub returns-in_err-number-clause-put : goal.returns-in_err-number-clause-put
returns-in_err-number-clause-put c =
    let text = text_at c.args.bytes.now c.loop-i.i [] c.as_chunks.ensures.front (omega arith) in
    set-get_or c.loop-i.line c.loop-i.i (pos 0)
    ∙ put_stops c.loop-i.invariant.put (c.in_err-number.ensures ∙ ap said_of text) ∙ there_put _ _ (omega arith)

pub loop-i-preserved : goal.loop-i-preserved
loop-i-preserved c =
    let text = text_at c.args.bytes.now c.loop-i.i [] c.as_chunks.ensures.front (omega arith) in
    let said = ap Some (to_z-of_z {w = w64} (search rules)) ∙ c.in_ok-number.ensures ∙ ap said_of text in
    record {
      columns = line_next c.loop-i.invariant.columns c.loop-i-test.true (omega arith) said;
      put = put_next c.loop-i.invariant.put (omega arith) said;
    }

pub returns-clause-read : goal.returns-clause-read
returns-clause-read c =
    rw (c.then_some.ensures, is_then_some)
    (line_there _ _ (omega arith)
    ∙ line_ends c.loop-i.invariant.columns (omega arith) (omega arith) (omega arith))

pub returns-clause-put : goal.returns-clause-put
returns-clause-put c = put_ends c.loop-i.invariant.put (omega arith) ∙ there_put _ _ (omega arith)
