-- `corner_slacks` meets its contract: the corner is there, and the slacks are those of its rows.
use mathlib.Core.Path.{◌≡◌, ◌∙◌, ap₂}
use Prim.Native.Nat.{ℕ, ◌+◌, ◌*◌, ◌/◌, ◌%◌}
use native.Mathlib.Nat.{le_refl, div-add-mod', mod-lt}
use native.Mathlib.Omega.{arith}
use lib.IntN.{◌+ℤ◌, ◌-ℤ◌}
use Rattle.integer.proofs.Machine.{Is-read, Is-within, Is-as}
use Rattle.bedded.specs.PlaneContracts.{reserve_of, shear_of}
use Rattle.bedded.proofs.PlaneLaws.{slack_even, slack_odd}
use Rattle.bedded.proofs.plane_rows.StressedPlanes.corner_slacks.Goals as goal

half : (j : ℕ) → 2 * j / 2 ≡ j
half j = omega (arith, div-add-mod' (2 * j) 2, mod-lt (2 * j) {m = 2} (omega arith))

pub returns : goal.returns
returns c =
    let h = c.args.self.now.numbers in
    let t = c.args.self.now.corners.now in
    let j : ℕ = c.args.j in
    let x = (Is-read (Is-within (c.args.self.now.normals.x j)) (omega arith)).same in
    let y = (Is-read (Is-within (c.args.self.now.normals.y j)) (omega arith)).same in
    let even : 2 * j % 2 ≡ 0 = omega (arith, div-add-mod' (2 * j) 2) in
    let half_odd : (2 * j + 1) / 2 ≡ j =
    omega (arith, div-add-mod' (2 * j + 1) 2, mod-lt (2 * j + 1) {m = 2} (omega arith)) in
    let odd : (2 * j + 1) % 2 ≡ 1 = omega (arith, div-add-mod' (2 * j + 1) 2) in
    record {
      plus = Is-as c.plane_slacks.ensures.plus (le_refl _)
          (ap₂ (λ x y. reserve_of h x y -ℤ shear_of h x y) x y ∙ slack_even h t j (2 * j) (half j) even);
      minus = Is-as c.plane_slacks.ensures.minus (le_refl _)
          (ap₂ (λ x y. reserve_of h x y +ℤ shear_of h x y) x y
          ∙ slack_odd h t j (2 * j + 1) half_odd (λ e. omega (arith, e, odd)));
    }
