-- `apart_from` meets its contract: the first of the two ends before, or else the second.
use mathlib.Core.Path.{◌∙◌}
use Rattle.outlines.specs.OutlineContracts.{boxes_apart}
use Rattle.outlines.proofs.BoxLaws.{or_first, or_next, read_ends}
use borrow.Author.Rules.{rules}
use Rattle.outlines.proofs.boxes.ElementBox.apart_from.Goals as goal

pub returns-then-ends_before : goal.returns-then-ends_before
unfolding boxes_apart
returns-then-ends_before c =
    let p = c.args.self.now in
    or_first _ (c.ends_before.ensures ∙ read_ends p.right p.top c.args.other.now (search rules) (search rules))
    c.if-ends_before.true

pub returns-else-ends_before : goal.returns-else-ends_before
unfolding boxes_apart
returns-else-ends_before c =
    let p = c.args.self.now in
    let q = c.args.other.now in
    or_next (c.ends_before.ensures ∙ read_ends p.right p.top q (search rules) (search rules)) c.if-ends_before.false
    (c.ends_before-else-ends_before.ensures ∙ read_ends q.right q.top p (search rules) (search rules))
