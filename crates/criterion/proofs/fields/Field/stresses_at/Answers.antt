-- `stresses_at` meets its contract: the pair's node is looked up.
use native.Mathlib.Omega.{arith}
use Rattle.integer.proofs.Machine.{Is-read, Is-within}
use Rattle.criterion.proofs.StrengthLaws.{pair_within, node_read, stresses_as}
use Rattle.criterion.proofs.fields.Field.stresses_at.Goals as goal

pub bounds-self-a : goal.bounds-self-a
bounds-self-a c = pair_within _ _ c.args.self.now.mesh.paired c.args.a c.requires

pub node_stresses-requires-clause-node_there : goal.node_stresses-requires-clause-node_there
node_stresses-requires-clause-node_there c =
    let field = c.args.self.now in
    let node = node_read _ _ field.mesh.paired c.args.a c.requires _ c.from.ensures in
    omega (arith, node.1)

pub returns : goal.returns
returns c =
    let field = c.args.self.now in
    let node = node_read _ _ field.mesh.paired c.args.a c.requires _ c.from.ensures in
    let scale = Is-read (Is-within field.n_fits) (omega arith) in
    stresses_as c.node_stresses.ensures node.0 scale.same
