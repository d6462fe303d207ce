-- `all_apart` meets its contract. The invariant: the elements passed lie apart from those below them.
use mathlib.Core.Path.{◌≡◌}
use mathlib.Core.Bool.{true}
use Rattle.scope.specs.Checks.{all_below}
use Rattle.scope.specs.Tests.{lies_apart}
use Rattle.outlines.proofs.overlaps.all_apart.Given as goal

abbrev pub invariant-loop-e : goal.invariant-loop-e
invariant-loop-e g l = all_below (lies_apart l.m.mesh.numbers.now) l.e ≡ true
