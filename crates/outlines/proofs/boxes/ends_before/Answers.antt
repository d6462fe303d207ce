-- `ends_before` meets its contract: the first test, or else the second.
use Rattle.outlines.specs.OutlineContracts.{ends_before}
use Rattle.outlines.proofs.BoxLaws.{or_first, or_next, read_le}
use borrow.Author.Rules.{rules}
use Rattle.outlines.proofs.boxes.ends_before.Goals as goal

pub returns-then-top-other : goal.returns-then-top-other
unfolding ends_before
returns-then-top-other c =
    or_first _ (read_le c.args.top c.args.other.now.bottom (search rules) (search rules)) c.if-top-other.true

pub returns-else-top-other : goal.returns-else-top-other
unfolding ends_before
returns-else-top-other c =
    or_next (read_le c.args.top c.args.other.now.bottom (search rules) (search rules)) c.if-top-other.false
    (read_le c.args.right c.args.other.now.left (search rules) (search rules))
