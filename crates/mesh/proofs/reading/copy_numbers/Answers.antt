-- Each turn copies one number more.
use native.Mathlib.Omega.{arith}
use mir.Syntax.{w64}
use mir.Facts.{to_z-of_z}
use borrow.Author.Rules.{rules}
use Rattle.mesh.proofs.Copied.{copied_none, copied_next, copied_all}
use Rattle.mesh.proofs.reading.copy_numbers.Goals as goal

pub loop-i-init : goal.loop-i-init
loop-i-init c = copied_none c.args.m.now c.args.out.now

pub loop-i-preserved : goal.loop-i-preserved
loop-i-preserved c =
    copied_next c.args.m.now c.args.out.now c.loop-i.invariant (omega arith) (omega arith)
    (to_z-of_z {w = w64} (search rules))

pub returns : goal.returns
returns c = copied_all c.args.m.now c.args.out.now c.loop-i.invariant (omega arith)
