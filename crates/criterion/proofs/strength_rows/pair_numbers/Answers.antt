-- `pair_numbers` meets its contract: each number is computed as the contract says.
use mathlib.Core.Path.{◌≡◌}
use native.Mathlib.Omega.{arith}
use lib.IntN.{ℤ, ◌+ℤ◌, ◌-ℤ◌, ◌*ℤ◌}
use mir.Syntax.{w64}
use mir.Val.{to_z, of_z}
use Rattle.integer.specs.Bounds.{Within}
use Rattle.integer.proofs.Machine.{machine, fits, exact, bounded, Is-read, Is-within}
use Rattle.scope.specs.Bounds.{twice_strength}
use Rattle.scope.specs.Mesh.{most_friction}
use Rattle.scope.specs.Claim.{most_scale, most_stress}
use Rattle.scope.specs.Columns.{at}
use Rattle.criterion.proofs.strength_rows.pair_numbers.Goals as goal

abbrev read : ℤ → ℤ
read z = to_z w64 (of_z w64 z)

-- 2qCn - p(sx + sy) by itself: among what is known of the result `search` would find the result's own bound
reserve_is : (right p n x y : ℤ) → Within twice_strength right → Within most_friction p → Within most_scale n
    → Within most_stress x → Within most_stress y
    → read (read (read right *ℤ read n) -ℤ read (read p *ℤ read (read x +ℤ read y))) ≡ right *ℤ n -ℤ p *ℤ (x +ℤ y)
reserve_is right p n x y h k l a b = exact (search machine depth 30) (omega arith)

pub overflow_mul-result-2 : goal.overflow_mul-result-2
overflow_mul-result-2 c =
    let soil = c.args.soil in
    let scale = c.requires.scale_fits in
    fits (search machine depth 30) (omega arith)

pub overflow_mul-result-3 : goal.overflow_mul-result-3
overflow_mul-result-3 c =
    let soil = c.args.soil in
    let field = c.requires.stresses_fit in
    fits (search machine depth 30) (omega arith)

pub overflow_sub-result-2 : goal.overflow_sub-result-2
overflow_sub-result-2 c =
    let soil = c.args.soil in
    let field = c.requires.stresses_fit in
    let scale = c.requires.scale_fits in
    fits (search machine depth 30) (omega arith)

pub invariant_of-result : goal.invariant_of-result
invariant_of-result c =
    let soil = c.args.soil in
    let field = c.requires.stresses_fit in
    let scale = c.requires.scale_fits in
    record {
      lever_fits = bounded (search machine depth 30) (omega arith);
      spread_fits = bounded (search machine depth 30) (omega arith);
      twist_fits = bounded (search machine depth 30) (omega arith);
      reserve_fits = bounded (search machine depth 30) (omega arith);
    }

pub returns : goal.returns
unfolding at
returns c =
    let soil = c.args.soil in
    let field = c.requires.stresses_fit in
    let scale = c.requires.scale_fits in
    record {
      lever = (Is-read (Is-within soil.lever_fits) (omega arith)).same;
      spread = exact (search machine depth 30) (omega arith);
      twist = exact (search machine depth 30) (omega arith);
      reserve = reserve_is _ _ _ _ _ soil.right_fits soil.friction_fits scale (field.each _) (field.each _);
    }
