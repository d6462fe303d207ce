-- `sides_passed` meets its contract. The invariant: all rows before those of the next edge hold.
use mathlib.Core.Path.{◌≡◌}
use mathlib.Core.Bool.{true}
use Prim.Native.Nat.{◌+◌, ◌*◌}
use Rattle.scope.specs.Checks.{all_below}
use Rattle.scope.specs.Mesh.{elements}
use Rattle.verdict.specs.FieldContracts.{passes}
use Rattle.verdict.proofs.equality_checks.sides_passed.Given as goal

abbrev pub invariant-loop-g : goal.invariant-loop-g
invariant-loop-g l = all_below (passes l.field) (elements l.field.mesh.mesh.numbers.now * 2 + l.g * 4) ≡ true
