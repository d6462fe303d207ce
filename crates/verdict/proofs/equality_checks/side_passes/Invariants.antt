-- `side_passes` meets its contract. The invariant: the rows passed hold.
use mathlib.Core.Path.{◌≡◌}
use mathlib.Core.Bool.{true}
use Prim.Native.Nat.{◌+◌, ◌*◌}
use Rattle.scope.specs.Mesh.{elements}
use Rattle.verdict.specs.FieldContracts.{pass_from}
use Rattle.verdict.proofs.equality_checks.side_passes.Given as goal

abbrev pub invariant-loop-i : goal.invariant-loop-i
invariant-loop-i l = pass_from l.field (elements l.field.mesh.mesh.numbers.now * 2 + l.g * 4) l.i ≡ true
