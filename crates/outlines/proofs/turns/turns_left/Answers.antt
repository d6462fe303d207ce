-- `turns_left` meets its contract: the sign of the cross product of two steps.
use mathlib.Core.Path.{◌∙◌, ap}
use native.Mathlib.Omega.{arith}
use lib.IntN.{pos}
use lib.Signed.{lt_z}
use Rattle.integer.proofs.Machine.{Is-read, machine, decides}
use Rattle.scope.specs.Tests.{turn}
use Rattle.outlines.proofs.CornerLaws.{cross_from}
use Rattle.outlines.proofs.turns.turns_left.Goals as goal

pub returns : goal.returns
unfolding turn
returns c =
    decides (search machine depth 30) (omega arith)
    ∙ ap (lt_z (pos 0))
    (cross_from
    (Is-read c.run-ux.ensures (omega arith))
    (Is-read c.rise-uy.ensures (omega arith))
    (Is-read c.run-vx.ensures (omega arith))
    (Is-read c.rise-vy.ensures (omega arith)))
