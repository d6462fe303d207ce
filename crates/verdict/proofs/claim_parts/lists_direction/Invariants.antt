-- `lists_direction` meets its contract. The invariant: no soil passed is by direction.
use mathlib.Core.Path.{◌≡◌}
use mathlib.Core.Bool.{false}
use Rattle.scope.specs.Checks.{some_below}
use Rattle.scope.specs.Mesh.{by_direction}
use Rattle.verdict.proofs.claim_parts.lists_direction.Given as goal

abbrev pub invariant-loop-k : goal.invariant-loop-k
invariant-loop-k l = some_below (by_direction l.mesh.numbers.now) l.k ≡ false
