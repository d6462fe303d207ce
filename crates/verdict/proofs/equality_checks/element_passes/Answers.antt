-- `element_passes` meets its contract: the two rows are those of the element along x and along y.
use mathlib.Core.Path.{sym, ◌∙◌, ap}
use mathlib.Core.Bool.{◌&&◌}
use Prim.Native.Nat.{◌+◌, ◌*◌}
use native.Mathlib.Omega.{arith}
use Rattle.scope.specs.Checks.{all_below}
use Rattle.verdict.specs.FieldContracts.{passes}
use Rattle.verdict.proofs.FieldLaws.{passes_at}
use Rattle.verdict.proofs.equality_checks.element_passes.Goals as goal

pub returns-then-row_passes : goal.returns-then-row_passes
unfolding all_below
returns-then-row_passes c =
    let field = c.args.field.now in
    let element = c.of-element.ensures in
    let is = rw (element.mesh, element.number) at c.row.ensures.is in
    let x = passes_at field c.row_passes.ensures is (omega arith) in
    let is_y = rw (element.mesh, element.number) at c.row-then-row_passes.ensures.is in
    let y = passes_at field c.row_passes-then-row_passes.ensures is_y (omega arith) in
    y ∙ ap (λ b. b && passes field (c.args.e * 2 + 1)) (sym c.if-row_passes.true ∙ x)

pub returns-else-row_passes : goal.returns-else-row_passes
unfolding all_below
returns-else-row_passes c =
    let field = c.args.field.now in
    let element = c.of-element.ensures in
    let is = rw (element.mesh, element.number) at c.row.ensures.is in
    let x = passes_at field c.row_passes.ensures is (omega arith) in
    let fails = c.if-row_passes.false in
    fails ∙ ap (λ b. b && passes field (c.args.e * 2 + 1)) (sym fails ∙ x)
