-- `mark_sides` meets its contract. The invariant: the sides passed have the number of an element up to e.
use mathlib.Core.Path.{◌∙◌, ap₂}
use Prim.Native.Nat.{ℕ}
use native.Mathlib.Omega.{arith}
use Rattle.shape.specs.ShapeContracts.{keep_first}
use Rattle.shape.proofs.SideTables.{no_side_yet, side_more, all_sides}
use Rattle.shape.proofs.sides.mark_sides.Goals as goal

pub loop-i-init : goal.loop-i-init
loop-i-init c = no_side_yet _ _ c.requires.lower

pub loop-i-preserved : goal.loop-i-preserved
loop-i-preserved c =
    side_more _ c.args.m.now.sized c.requires.there c.loop-i.i c.loop-i.invariant
    (c.keep_first.ensures
    ∙ ap₂ (λ (a b : ℕ). keep_first c.loop-i.sides a b c.args.e) c.corner_around-a.ensures.same
    c.corner_around-b.ensures.same)

pub returns : goal.returns
returns c =
    all_sides _ c.args.m.now.sized c.requires.there c.loop-i.invariant (omega arith) (omega arith)
