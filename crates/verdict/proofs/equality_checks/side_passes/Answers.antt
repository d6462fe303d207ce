-- `side_passes` meets its contract: each row is that of the edge at its place, and the first that fails decides.
use mathlib.Core.Path.{refl, sym, ◌∙◌}
use Prim.Native.Nat.{ℕ, ◌+◌, ◌*◌}
use native.Mathlib.Omega.{arith}
use Rattle.scope.specs.Checks.{all_below}
use Rattle.scope.specs.Mesh.{elements}
use Rattle.lines.proofs.Loops.{all_more, all_fails}
use Rattle.verdict.specs.FieldContracts.{passes}
use Rattle.verdict.proofs.FieldLaws.{passes_at}
use Rattle.verdict.proofs.equality_checks.side_passes.Goals as goal

pub loop-i-init : goal.loop-i-init
unfolding all_below
loop-i-init c = refl

pub returns-then-not-row_passes : goal.returns-then-not-row_passes
returns-then-not-row_passes c =
    let field = c.args.field.now in
    let side = c.of-side.ensures in
    let first : ℕ = elements field.mesh.mesh.numbers.now * 2 + c.args.g * 4 in
    let is = rw (side.mesh, side.number) at c.row.ensures.is in
    let row = passes_at field {l = first + c.loop-i.i} c.row_passes.ensures is (omega arith) in
    sym (all_fails (λ i. passes field (first + i)) 4 {i = c.loop-i.i}
    (omega (arith, c.loop-i-test.true)) (sym row ∙ c.if-not-row_passes.true))

pub loop-i-preserved : goal.loop-i-preserved
loop-i-preserved c =
    let field = c.args.field.now in
    let side = c.of-side.ensures in
    let first : ℕ = elements field.mesh.mesh.numbers.now * 2 + c.args.g * 4 in
    let is = rw (side.mesh, side.number) at c.row.ensures.is in
    let row = passes_at field {l = first + c.loop-i.i} c.row_passes.ensures is (omega arith) in
    all_more (λ i. passes field (first + i)) c.loop-i.invariant (sym row ∙ c.if-not-row_passes.false)
