-- `nodes_check` meets its contract. The invariant: the nodes passed are in an element.
use mathlib.Core.Path.{◌≡◌}
use mathlib.Core.Bool.{true}
use Rattle.scope.specs.Checks.{all_below}
use Rattle.scope.specs.Tests.{in_element}
use Rattle.shape.proofs.nodes.nodes_check.Given as goal

abbrev pub invariant-loop-v : goal.invariant-loop-v
invariant-loop-v l = all_below (in_element l.marked.mesh.numbers.now) l.v ≡ true
