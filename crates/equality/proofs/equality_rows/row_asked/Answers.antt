-- `row_asked` meets its contract: the rows of elements and of jumps ask, and those of an edge if it fixes their part.
use mathlib.Core.Path.{◌∙◌}
use Prim.Native.Nat.{◌-◌, ◌+◌, ◌*◌}
use native.Mathlib.Omega.{arith}
use Rattle.equality.proofs.EqualityLaws.{read, balance_asked, side_asked, jump_asked}
use Rattle.equality.proofs.equality_rows.row_asked.Goals as goal

pub returns-then-k-first : goal.returns-then-k-first
returns-then-k-first c = balance_asked c.args.m.now.numbers.now c.args.k (omega arith)

pub returns-then-k-after : goal.returns-then-k-after
returns-then-k-after c =
    let m = c.args.m.now in
    c.is_fixed.ensures
    ∙ side_asked m.numbers.now c.args.k (c.args.k - m.sizes.elements * 2) (omega arith) (omega arith) c.part_of.ensures
    (read c.edge.result.fixed_fits (omega arith) ∙ c.edge.ensures.fixed)

pub returns : goal.returns
returns c =
    let m = c.args.m.now in
    let before = m.sizes.elements * 2 + m.sizes.edges * 4 in
    jump_asked m.numbers.now c.args.k (c.args.k - before) (omega arith) (omega arith)
