-- `run` meets its contract: a difference of numbers from 0 to 1,000.
use native.Mathlib.Omega.{arith}
use Rattle.integer.proofs.Machine.{machine, fits, exact}
use Rattle.mesh.proofs.Places.{run-within}
use Rattle.mesh.proofs.Mesh.run.Goals as goal

pub overflow_sub-result : goal.overflow_sub-result
overflow_sub-result c = fits (search machine depth 30) (omega arith)

pub returns : goal.returns
returns c =
    let pre = c.requires in record {
      same = exact (search machine depth 30) (omega arith);
      inside = run-within c.args.self.now.sized.facts pre.a_there pre.b_there;
    }
