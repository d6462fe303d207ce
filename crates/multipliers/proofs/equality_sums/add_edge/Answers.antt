-- `add_edge` meets its contract: a row more, or none where all multipliers are 0.
use Prim.Native.Nat.{◌+◌, ◌*◌}
use native.Mathlib.Omega.{arith}
use Rattle.scope.specs.Mesh.{elements}
use Rattle.multipliers.proofs.MultiplierLaws.{all_summed, skipped}
use Rattle.multipliers.proofs.equality_sums.add_edge.Goals as goal

pub loop-i-init : goal.loop-i-init
loop-i-init c = all_summed _ _ (omega arith) c.requires.before

pub returns-then-none_weighted : goal.returns-then-none_weighted
returns-then-none_weighted c =
    let mesh = c.args.rows.now.mesh.mesh in
    let m = mesh.numbers.now in
    let none = rw mesh.sized.elements_are at c.none_weighted.ensures c.if-none_weighted.true in
    all_summed _ _ (omega arith) (skipped m _ (elements m * 2 + c.args.g * 4) 4 none c.requires.before)
