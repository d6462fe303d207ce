-- `node_stresses` meets its contract: three numbers of the field, and n.
use native.Mathlib.Omega.{arith}
use Rattle.integer.proofs.Machine.{Is-read, Is-within, machine, bounded}
use Rattle.scope.specs.Columns.{at}
use Rattle.scope.specs.Rows.{sx, sy, t}
use Rattle.criterion.proofs.pair_planes.node_stresses.Goals as goal

pub invariant_of-result : goal.invariant_of-result
invariant_of-result c =
    let stresses = c.requires.stresses_fit in
    let scale = c.requires.scale_fits in
    record {
      sx_fits = bounded (search machine depth 30) (omega arith);
      sy_fits = bounded (search machine depth 30) (omega arith);
      t_fits = bounded (search machine depth 30) (omega arith);
      n_fits = bounded (search machine depth 30) (omega arith);
    }

pub returns : goal.returns
unfolding at sx sy t
returns c =
    let stresses = c.requires.stresses_fit in
    record {
      sx = (Is-read (Is-within (stresses.each _)) (omega arith)).same;
      sy = (Is-read (Is-within (stresses.each _)) (omega arith)).same;
      t = (Is-read (Is-within (stresses.each _)) (omega arith)).same;
      n = (Is-read (Is-within c.requires.scale_fits) (omega arith)).same;
    }
