-- `sides_to_joints` meets its contract: either table has room for the sides of all nodes.
use native.Mathlib.Omega.{arith}
use Rattle.scope.specs.Mesh.{most_nodes}
use Rattle.shape.proofs.SideTables.{no_sides}
use Rattle.shape.proofs.mesh_checks.sides_to_joints.Goals as goal

pub checks_by_table-requires-clause-none_given : goal.checks_by_table-requires-clause-none_given
checks_by_table-requires-clause-none_given c =
    no_sides _ 16 (omega (arith, c.args.marked.now.mesh.sized.nodes_are))

pub checks_by_table-requires-else-marked-le-SMALL_NODES-clause-none_given
    : goal.checks_by_table-requires-else-marked-le-SMALL_NODES-clause-none_given
checks_by_table-requires-else-marked-le-SMALL_NODES-clause-none_given c =
    no_sides _ most_nodes (omega (arith, c.args.marked.now.mesh.sized.facts.counts.nodes_most))
