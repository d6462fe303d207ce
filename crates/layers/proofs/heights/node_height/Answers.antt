-- `node_height` meets its contract: a node's y is from 0 to 1,000.
use mathlib.Core.Path.{◌≡◌, ◌∙◌, ap}
use native.Mathlib.Omega.{arith}
use lib.IntN.{nat_abs}
use mir.Syntax.{w64}
use mir.Val.{to_z, of_z}
use Rattle.scope.specs.Mesh.{y}
use Rattle.integer.proofs.Machine.{machine, exact}
use Rattle.mesh.proofs.Places.{count_nat_abs}
use Rattle.layers.proofs.HeightLaws.{not_negative, height_most}
use Rattle.layers.proofs.heights.node_height.Goals as goal

pub returns : goal.returns
returns c =
    let r = c.y.ensures in
    let m = c.args.m.now in
    let z : to_z w64 (of_z w64 c.y.result) ≡ y m.numbers.now c.args.v = exact (search machine depth 30) (omega arith) in
    let e = ap nat_abs z ∙ count_nat_abs (not_negative m.sized.facts c.requires) in
    record { same = e; few = omega (arith, e, height_most m.sized.facts c.requires) }
