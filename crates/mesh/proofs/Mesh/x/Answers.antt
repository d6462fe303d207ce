-- `x` meets its contract: the number stands where the nodes begin, one line to a node.
use native.Mathlib.Omega.{arith}
use Rattle.integer.proofs.Machine.{Is-read}
use Rattle.mesh.proofs.Places.{x_read}
use Rattle.mesh.proofs.Mesh.x.Goals as goal

pub returns : goal.returns
returns c = Is-read (x_read c.args.self.now.sized c.requires c.nodes_from.ensures c.entry.ensures) (omega arith)
