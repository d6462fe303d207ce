-- `all_before` meets its contract: what is told of the element is asked.
use mathlib.Core.Path.{◌∙◌}
use Rattle.outlines.proofs.BoxLaws.{read_ends}
use borrow.Author.Rules.{rules}
use Rattle.outlines.proofs.boxes.Boxed.all_before.Goals as goal

pub returns : goal.returns
returns c =
    let b = c.args.self.now in
    c.ends_before.ensures ∙ read_ends b.right b.top c.args.other.now (search rules) (search rules)
