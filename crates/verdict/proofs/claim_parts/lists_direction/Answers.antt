-- `lists_direction` meets its contract: a soil by direction is found, or each soil has been passed.
use mathlib.Core.Path.{◌≡◌, refl, sym, subst}
use mathlib.Core.Bool.{false}
use Prim.Native.Nat.{ℕ}
use native.Mathlib.Omega.{arith}
use Rattle.scope.specs.Checks.{some_below}
use Rattle.scope.specs.Mesh.{soils, by_direction, some_by_direction}
use Rattle.shape.proofs.Tables.{some_there}
use Rattle.verdict.proofs.PartLaws.{none_more}
use Rattle.verdict.proofs.claim_parts.lists_direction.Goals as goal

pub loop-k-init : goal.loop-k-init
unfolding some_below
loop-k-init c = refl

pub returns-in-ByDirection : goal.returns-in-ByDirection
unfolding some_by_direction
returns-in-ByDirection c =
    let mesh = c.args.mesh.now in
    sym (some_there (by_direction mesh.numbers.now) (soils mesh.numbers.now) {e = c.loop-k.k}
    (omega (arith, mesh.sized.soils_are, c.loop-k-test.true)) (sym c.in-ByDirection.ensures))

pub loop-k-preserved : goal.loop-k-preserved
loop-k-preserved c = none_more (by_direction c.args.mesh.now.numbers.now) c.loop-k.invariant (sym c.in_default.ensures)

pub returns : goal.returns
unfolding some_by_direction
returns c =
    let mesh = c.args.mesh.now in
    let m = mesh.numbers.now in
    let e : c.loop-k.k ≡ soils m = omega (arith, mesh.sized.soils_are, c.loop-k.auto.k-end, c.loop-k-test.false) in
    sym (subst (λ (n : ℕ). some_below (by_direction m) n ≡ false) e c.loop-k.invariant)
