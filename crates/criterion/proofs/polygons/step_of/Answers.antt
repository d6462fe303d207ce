-- `step_of` meets its contract: differences and products of the coordinates of two corners, in 32 bits.
use mathlib.Core.Path.{◌∙◌, sym, subst}
use Prim.Native.Nat.{◌+◌, ◌%◌}
use native.Mathlib.Omega.{arith}
use lib.ListN.{length}
use Rattle.integer.specs.Bounds.{Within}
use Rattle.integer.proofs.BoundLaws.{Within-le}
use Rattle.integer.proofs.Machine.{machine, fits, exact, by_value}
use Rattle.scope.specs.Bounds.{most_step, most_cross}
use Rattle.criterion.specs.StrengthContracts.{next, table_run, table_rise, table_cross}
use Rattle.criterion.proofs.SideLaws.{narrowed}
use Rattle.criterion.proofs.polygons.step_of.Goals as goal

pub overflow_sub-d : goal.overflow_sub-d
overflow_sub-d c =
    let b = c.requires.corners.y c.args.k in
    let d = c.requires.corners.y ((c.args.k + 1) % length c.args.corners.now) in
    fits (search machine depth 30) (omega arith)

pub narrow-requires-2 : goal.narrow-requires-2
unfolding next table_rise
narrow-requires-2 c =
    let t = c.requires.corners in
    let b = t.y c.args.k in
    let d = t.y ((c.args.k + 1) % length c.args.corners.now) in
    by_value (Within most_cross) (search machine depth 30) (omega arith)
    (Within-le (t.rise c.args.k c.requires.there) (omega arith))

pub overflow_mul-a : goal.overflow_mul-a
overflow_mul-a c =
    let a = c.requires.corners.x c.args.k in
    let d = c.requires.corners.y ((c.args.k + 1) % length c.args.corners.now) in
    fits (search machine depth 30) (omega arith)

pub overflow_mul-b : goal.overflow_mul-b
overflow_mul-b c =
    let b = c.requires.corners.y c.args.k in
    let c' = c.requires.corners.x ((c.args.k + 1) % length c.args.corners.now) in
    fits (search machine depth 30) (omega arith)

pub overflow_sub-a : goal.overflow_sub-a
overflow_sub-a c =
    let t = c.requires.corners in
    let a = t.x c.args.k in
    let b = t.y c.args.k in
    let c' = t.x ((c.args.k + 1) % length c.args.corners.now) in
    let d = t.y ((c.args.k + 1) % length c.args.corners.now) in
    fits (search machine depth 30) (omega arith)

pub narrow-requires-3 : goal.narrow-requires-3
unfolding next table_cross
narrow-requires-3 c =
    let t = c.requires.corners in
    let a = t.x c.args.k in
    let b = t.y c.args.k in
    let c' = t.x ((c.args.k + 1) % length c.args.corners.now) in
    let d = t.y ((c.args.k + 1) % length c.args.corners.now) in
    by_value (Within most_cross) (search machine depth 30) (omega arith) (t.cross c.args.k c.requires.there)

pub invariant_of-result : goal.invariant_of-result
unfolding next table_run table_rise table_cross
invariant_of-result c =
    let t = c.requires.corners in
    let l = c.requires.there in
    let a = t.x c.args.k in
    let b = t.y c.args.k in
    let c' = t.x ((c.args.k + 1) % length c.args.corners.now) in
    let d = t.y ((c.args.k + 1) % length c.args.corners.now) in
    let run = narrowed (c.narrow.ensures ∙ exact (search machine depth 30) (omega arith))
    (Within-le (t.run c.args.k l) (omega arith)) in
    let rise = narrowed (c.narrow-2.ensures ∙ exact (search machine depth 30) (omega arith))
    (Within-le (t.rise c.args.k l) (omega arith)) in
    let cross = narrowed (c.narrow-3.ensures ∙ exact (search machine depth 30) (omega arith)) (t.cross c.args.k l) in
    record {
      run_fits = subst (Within most_step) (sym run) (t.run c.args.k l);
      rise_fits = subst (Within most_step) (sym rise) (t.rise c.args.k l);
      cross_fits = subst (Within most_cross) (sym cross) (t.cross c.args.k l);
    }

pub returns : goal.returns
unfolding next table_run table_rise table_cross
returns c =
    let t = c.requires.corners in
    let l = c.requires.there in
    let a = t.x c.args.k in
    let b = t.y c.args.k in
    let c' = t.x ((c.args.k + 1) % length c.args.corners.now) in
    let d = t.y ((c.args.k + 1) % length c.args.corners.now) in
    record {
      run = narrowed (c.narrow.ensures ∙ exact (search machine depth 30) (omega arith))
          (Within-le (t.run c.args.k l) (omega arith));
      rise = narrowed (c.narrow-2.ensures ∙ exact (search machine depth 30) (omega arith))
          (Within-le (t.rise c.args.k l) (omega arith));
      cross = narrowed (c.narrow-3.ensures ∙ exact (search machine depth 30) (omega arith)) (t.cross c.args.k l);
    }
