-- `sides_check` meets its contract. The invariant: the elements passed have sides of their own.
use mathlib.Core.Path.{◌≡◌}
use mathlib.Core.Bool.{true}
use Rattle.scope.specs.Checks.{all_below}
use Rattle.scope.specs.Tests.{own_sides}
use Rattle.shape.proofs.sides.sides_check.Given as goal

abbrev pub invariant-loop-e : goal.invariant-loop-e
invariant-loop-e l = all_below (own_sides l.sides.mesh.numbers.now) l.e ≡ true
