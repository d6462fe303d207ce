-- `y` meets its contract: the number stands where the nodes begin, one line to a node.
use native.Mathlib.Omega.{arith}
use Rattle.integer.proofs.Machine.{Is-read}
use Rattle.mesh.proofs.Places.{y_read}
use Rattle.mesh.proofs.Mesh.y.Goals as goal

pub returns : goal.returns
returns c = Is-read (y_read c.args.self.now.sized c.requires c.nodes_from.ensures c.entry.ensures) (omega arith)
