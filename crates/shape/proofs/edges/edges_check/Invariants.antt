-- `edges_check` meets its contract. The invariant: the edges passed are outer sides, each once.
use mathlib.Core.Path.{◌≡◌}
use mathlib.Core.Bool.{true}
use Rattle.scope.specs.Checks.{all_below}
use Rattle.scope.specs.Tests.{outer_edge}
use Rattle.shape.proofs.edges.edges_check.Given as goal

abbrev pub invariant-loop-g : goal.invariant-loop-g
invariant-loop-g l = all_below (outer_edge l.sides.mesh.numbers.now) l.g ≡ true
