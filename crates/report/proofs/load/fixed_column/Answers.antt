-- Below the point are the last d digits, above it the whole part, and before them a minus where there is one.
use mathlib.Core.Logic.{inl, inr}
use Rattle.report.proofs.LoadLaws.{point_there, whole_room, minus_room, plain_put, minus_put}
use Rattle.report.proofs.load.fixed_column.Goals as goal
use Rattle.report.proofs.load.fixed_column.Goals.{else-minus-via-then-minus+else-u-gt0, else-minus-via-else-minus}

pub write_digits-from-requires : goal.write_digits-from-requires
write_digits-from-requires c = (search whole_room, search point_there)

pub overflow_sub-column : goal.overflow_sub-column
overflow_sub-column c = search minus_room

pub returns-then-u-gt0 : goal.returns-then-u-gt0
returns-then-u-gt0 c = search minus_put

pub returns-else-minus : goal.returns-else-minus
returns-else-minus c =
    let u = c.args.u in
    let d = c.args.d in
    let p = c.put_decimals-point.ensures in
    let w = c.write_digits-from.ensures in
    plain_put d.count u.whole u.part d.few c.requires.whole c.requires.part p.place c.write_digits-from.result w.start
    c.write_digits-from.new.buf p.text w.written w.before c.args.minus
    (elim c.else-minus.branch [
      | else-minus-via-then-minus+else-u-gt0 w ↦ inr (w.if-minus.true, w.if-u-gt0.false)
      | else-minus-via-else-minus w ↦ inl w.if-minus.false
    ])
