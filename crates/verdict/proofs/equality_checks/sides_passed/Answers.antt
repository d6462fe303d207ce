-- `sides_passed` meets its contract: four rows more.
use mathlib.Core.Path.{sym, ◌∙◌}
use Prim.Native.Nat.{◌+◌, ◌*◌}
use native.Mathlib.Omega.{arith}
use Rattle.scope.specs.Mesh.{elements}
use Rattle.verdict.specs.FieldContracts.{passes}
use Rattle.verdict.proofs.FieldLaws.{more_pass}
use Rattle.verdict.proofs.equality_checks.sides_passed.Goals as goal

pub loop-g-preserved : goal.loop-g-preserved
loop-g-preserved c =
    let field = c.args.field.now in
    more_pass (passes field) (elements field.mesh.mesh.numbers.now * 2 + c.loop-g.g * 4) 4 c.loop-g.invariant
    (sym c.side_passes.ensures ∙ c.if-not-side_passes.false) (omega arith)
