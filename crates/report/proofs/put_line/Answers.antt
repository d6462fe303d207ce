-- The columns one after another are 112 bytes, and go over the front of the buffer.
use Rattle.std.proofs.Common.{sym, ap, ◌*◌, ◌∙◌, arith}
use lib.Seq.{length-take-le}
use Rattle.report.proofs.BufferLaws.{line_put}
use Rattle.report.proofs.put_line.Goals as goal

pub copy_from_slice-requires : goal.copy_from_slice-requires
copy_from_slice-requires c =
    length-take-le 112 c.args.buffer.now (omega arith)
    ∙ sym (c.as_flattened.ensures.len ∙ ap (λ n. n * 28) c.told-columns)

pub returns : goal.returns
returns c =
    let l = c.copy_from_slice.ensures.len ∙ length-take-le 112 c.args.buffer.now (omega arith) in
    line_put c.copy_from_slice.new.self _ c.args.buffer.now
    (c.copy_from_slice.ensures.after ∙ c.as_flattened.ensures.value) l c.requires.room
