-- `planes_open` meets its contract: the two rows of one plane more.
use mathlib.Core.Path.{refl, ◌∙◌, ap₂}
use mathlib.Core.Bool.{cond}
use Prim.Native.Nat.{ℕ, ◌+◌, ◌*◌, ◌≤◌}
use native.Mathlib.Nat.{div-add-mod'}
use native.Mathlib.Omega.{arith}
use lib.IntN.{ℤ}
use lib.ListN.{length}
use Rattle.integer.proofs.Machine.{Is-read, Is-within}
use Rattle.scope.specs.Mesh.{most_sides}
use Rattle.scope.specs.Columns.{at}
use Rattle.multipliers.specs.MultiplierContracts.{count_below}
use Rattle.multipliers.specs.OpenContracts.{plane_open}
use Rattle.multipliers.proofs.OpenLaws.{two_fit, two_more}
use Rattle.multipliers.proofs.open_rows.planes_open.Goals as goal

pub loop-j-init : goal.loop-j-init
unfolding count_below
loop-j-init c = refl

pub overflow_add-count : goal.overflow_add-count
overflow_add-count c =
    let j : ℕ = c.loop-j.j in
    let low : 2 * j ≤ most_sides =
    omega (arith, c.loop-j-test.true, c.requires.few, div-add-mod' (length c.args.y.now) 2) in
    record { fits = omega (arith, two_fit _ j _ _ c.plane_open-count.ensures c.loop-j.invariant low) }

pub loop-j-preserved : goal.loop-j-preserved
unfolding at
loop-j-preserved c =
    let planes = c.args.planes.now in
    let j : ℕ = c.loop-j.j in
    let row : ℕ → ℤ → ℕ = λ k w. cond (plane_open planes k w) 1 0 in
    let y = c.requires.multipliers_fit in
    two_more (λ k. plane_open planes k (at c.args.y.now k)) j
    (c.plane_open-count.ensures
    ∙ ap₂ (λ u v. row (2 * j) u + row (2 * j + 1) v) (Is-read (Is-within (y.each (2 * j))) (omega arith)).same
    (Is-read (Is-within (y.each (2 * j + 1))) (omega arith)).same)
    c.loop-j.invariant
