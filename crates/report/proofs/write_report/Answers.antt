-- Another number of decimals comes first, then a buffer under 113 bytes; each is left as it was. Any other buffer has
-- the line at its front.
use Rattle.report.proofs.BufferLaws.{other_decimals, too_short, written}
use Rattle.report.proofs.write_report.Goals as goal

pub returns-in_err-d : goal.returns-in_err-d
returns-in_err-d c =
    other_decimals c.args.decimals c.ranges.decimals _ _ c.from_residual.result c.in_err-d.field-0.0
    c.from_residual.ensures.1 c.in_err-d.ensures.0 c.in_err-d.ensures.1

pub returns-then-buffer-lt-LINE : goal.returns-then-buffer-lt-LINE
returns-then-buffer-lt-LINE c =
    too_short c.args.decimals c.ranges.decimals _ _ c.in_ok-d.d.count c.in_ok-d.d.few c.in_ok-d.ensures
    c.if-buffer-lt-LINE.true

pub returns : goal.returns
returns c =
    written c.args.decimals c.ranges.decimals _ _ c.in_ok-d.d.count c.in_ok-d.d.few c.in_ok-d.ensures _
    c.if-buffer-lt-LINE.false c.line_columns.ensures c.put_line.ensures
