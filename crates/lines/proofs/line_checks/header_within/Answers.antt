-- `header_within` meets its contract: the limits of the counts, and then the numbers of sides and of jumps.
use mathlib.Core.Path.{◌∙◌, sym}
use Rattle.scope.specs.Mesh.{mesh_header}
use Rattle.lines.specs.LineContracts.{ranges}
use Rattle.lines.proofs.LineLaws.{mesh_header_limits, last_read, first_fails, second_decides, so, not_so}
use borrow.Author.Rules.{rules}
use Rattle.lines.proofs.line_checks.header_within.Goals as goal

pub returns-then-limits_hold : goal.returns-then-limits_hold
unfolding mesh_header ranges
returns-then-limits_hold c =
    sym
    (second_decides (mesh_header_limits c.args.m.now c.requires) (so c.limits_hold.ensures c.if-limits_hold.true)
    ∙ last_read (search rules) (search rules) ∙ sym c.sides_and_jumps.ensures)

pub returns-else-limits_hold : goal.returns-else-limits_hold
unfolding mesh_header ranges
returns-else-limits_hold c =
    c.if-limits_hold.false
    ∙ sym (first_fails _ (mesh_header_limits c.args.m.now c.requires)
    (not_so c.limits_hold.ensures c.if-limits_hold.false))
