-- `plane_numbers` meets its contract: each number is computed as the contract says, within the bounds of its parts.
use mathlib.Core.Path.{◌≡◌}
use native.Mathlib.Omega.{arith}
use lib.IntN.{ℤ, pos, ◌-ℤ◌, ◌*ℤ◌, neg_ℤ}
use mir.Syntax.{w64}
use mir.Val.{to_z, of_z}
use Rattle.integer.specs.Bounds.{Within}
use Rattle.integer.proofs.Machine.{machine, fits, exact, bounded}
use Rattle.scope.specs.Bounds.{most_plane_radius}
use Rattle.scope.specs.Mesh.{most_friction, most_cohesion}
use Rattle.scope.specs.Claim.{most_scale, most_stress}
use Rattle.bedded.proofs.plane_rows.plane_numbers.Goals as goal

abbrev read : ℤ → ℤ
read z = to_z w64 (of_z w64 z)

-- the numbers by themselves: among what is known of the result `search` would find the result's own bounds
module _ {p q n x y t : ℤ} (hp : Within most_friction p) (hq : Within most_friction q) (hn : Within most_scale n)
    (hx : Within most_stress x) (hy : Within most_stress y) (ht : Within most_stress t) where
  module _ {r along excess : ℤ} (hr : Within most_plane_radius r) (ha : Within most_cohesion along)
      (he : Within most_cohesion excess) where
    base_is : read (read (read q *ℤ read n) *ℤ read (read (read r *ℤ read r) *ℤ read along))
        ≡ q *ℤ n *ℤ (r *ℤ r *ℤ along)
    base_is = exact (search machine depth 30) (omega arith)

    aa_is : read (read (read (read q *ℤ read n) *ℤ read excess) -ℤ read (read p *ℤ read x))
        ≡ q *ℤ n *ℤ excess -ℤ p *ℤ x
    aa_is = exact (search machine depth 30) (omega arith)

  bb_is : read (pos 0 -ℤ read (read p *ℤ read y)) ≡ neg_ℤ (p *ℤ y)
  bb_is = exact (search machine depth 30) (omega arith)

  ab_is : read (pos 0 -ℤ read (read (pos 2 *ℤ read p) *ℤ read t)) ≡ neg_ℤ (pos 2 *ℤ p *ℤ t)
  ab_is = exact (search machine depth 30) (omega arith)

  shear_ab_is : read (read q *ℤ read (read y -ℤ read x)) ≡ q *ℤ (y -ℤ x)
  shear_ab_is = exact (search machine depth 30) (omega arith)

  shear_squares_is : read (read q *ℤ read t) ≡ q *ℤ t
  shear_squares_is = exact (search machine depth 30) (omega arith)

pub overflow_mul-result-2 : goal.overflow_mul-result-2
overflow_mul-result-2 c =
    let bed = c.args.bed.now in
    let stresses = c.args.stresses.now in
    fits (search machine depth 30) (omega arith)

pub overflow_mul-result-3 : goal.overflow_mul-result-3
overflow_mul-result-3 c =
    let bed = c.args.bed.now in
    let stresses = c.args.stresses.now in
    fits (search machine depth 30) (omega arith)

pub overflow_mul-result-4 : goal.overflow_mul-result-4
overflow_mul-result-4 c =
    let bed = c.args.bed.now in
    let stresses = c.args.stresses.now in
    fits (search machine depth 30) (omega arith)

pub overflow_mul-result-5 : goal.overflow_mul-result-5
overflow_mul-result-5 c =
    let bed = c.args.bed.now in
    let stresses = c.args.stresses.now in
    fits (search machine depth 30) (omega arith)

pub overflow_sub-result : goal.overflow_sub-result
overflow_sub-result c =
    let bed = c.args.bed.now in
    let stresses = c.args.stresses.now in
    fits (search machine depth 30) (omega arith)

pub overflow_mul-result-6 : goal.overflow_mul-result-6
overflow_mul-result-6 c =
    let bed = c.args.bed.now in
    let stresses = c.args.stresses.now in
    fits (search machine depth 30) (omega arith)

pub overflow_sub-result-2 : goal.overflow_sub-result-2
overflow_sub-result-2 c =
    let bed = c.args.bed.now in
    let stresses = c.args.stresses.now in
    fits (search machine depth 30) (omega arith)

pub overflow_mul-result-8 : goal.overflow_mul-result-8
overflow_mul-result-8 c =
    let bed = c.args.bed.now in
    let stresses = c.args.stresses.now in
    fits (search machine depth 30) (omega arith)

pub overflow_sub-result-3 : goal.overflow_sub-result-3
overflow_sub-result-3 c =
    let bed = c.args.bed.now in
    let stresses = c.args.stresses.now in
    fits (search machine depth 30) (omega arith)

pub overflow_mul-result-9 : goal.overflow_mul-result-9
overflow_mul-result-9 c =
    let bed = c.args.bed.now in
    let stresses = c.args.stresses.now in
    fits (search machine depth 30) (omega arith)

pub overflow_mul-result-10 : goal.overflow_mul-result-10
overflow_mul-result-10 c =
    let bed = c.args.bed.now in
    let stresses = c.args.stresses.now in
    fits (search machine depth 30) (omega arith)

pub invariant_of-result : goal.invariant_of-result
invariant_of-result c =
    let bed = c.args.bed.now in
    let stresses = c.args.stresses.now in
    record {
      base_fits = bounded (search machine depth 30) (omega arith);
      aa_fits = bounded (search machine depth 30) (omega arith);
      bb_fits = bounded (search machine depth 30) (omega arith);
      ab_fits = bounded (search machine depth 30) (omega arith);
      shear_ab_fits = bounded (search machine depth 30) (omega arith);
      shear_squares_fits = bounded (search machine depth 30) (omega arith);
    }

pub returns : goal.returns
returns c =
    let b = c.args.bed.now in
    let d = c.args.stresses.now in
    record {
      base = base_is b.p_fits b.q_fits d.n_fits d.sx_fits d.sy_fits d.t_fits b.radius_fits b.along_fits b.excess_fits;
      aa = aa_is b.p_fits b.q_fits d.n_fits d.sx_fits d.sy_fits d.t_fits b.radius_fits b.along_fits b.excess_fits;
      bb = bb_is b.p_fits b.q_fits d.n_fits d.sx_fits d.sy_fits d.t_fits;
      ab = ab_is b.p_fits b.q_fits d.n_fits d.sx_fits d.sy_fits d.t_fits;
      shear_ab = shear_ab_is b.p_fits b.q_fits d.n_fits d.sx_fits d.sy_fits d.t_fits;
      shear_squares = shear_squares_is b.p_fits b.q_fits d.n_fits d.sx_fits d.sy_fits d.t_fits;
    }
