-- `tops_check` meets its contract. The invariant: the layers passed hold.
use mathlib.Core.Path.{◌≡◌}
use mathlib.Core.Bool.{true}
use Rattle.scope.specs.Checks.{all_below}
use Rattle.scope.specs.Layers.{top_above}
use Rattle.layers.proofs.layer_checks.tops_check.Given as goal

abbrev pub invariant-loop-i : goal.invariant-loop-i
invariant-loop-i l = all_below (top_above l.layers.numbers.now) l.i ≡ true
