-- `plane_sums` meets its contract: one plane more, with the multipliers of its two rows.
use native.Mathlib.Omega.{arith}
use Rattle.integer.proofs.Machine.{Is-read, Is-within}
use Rattle.scope.specs.Columns.{at}
use Rattle.multipliers.proofs.PlaneSumLaws.{no_planes, one_plane, added_as}
use Rattle.multipliers.proofs.plane_sums.plane_sums.Goals as goal

pub loop-j-init : goal.loop-j-init
loop-j-init c =
    let none = c.default-sums.ensures in
    no_planes _ _ none.0 none.1.0 none.1.1.0 none.1.1.1.0 none.1.1.1.1.0 none.1.1.1.1.1

pub loop-j-preserved : goal.loop-j-preserved
unfolding at
loop-j-preserved c =
    let normals = c.requires.normals in
    let y = c.requires.multipliers_fit in
    one_plane _ _ _ c.loop-j.invariant
    (added_as c.add_plane-sums.ensures (Is-read (Is-within (normals.x c.loop-j.j)) (omega arith)).same
    (Is-read (Is-within (normals.y c.loop-j.j)) (omega arith)).same
    (Is-read (Is-within (y.each _)) (omega arith)).same (Is-read (Is-within (y.each _)) (omega arith)).same)
