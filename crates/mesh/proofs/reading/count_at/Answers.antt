-- `count_at` meets its contract: a number that is not negative is its count.
use mathlib.Core.Path.{◌≡◌}
use native.Mathlib.Omega.{arith}
use lib.IntN.{ℤ, nat_abs}
use mir.Syntax.{w64}
use mir.Val.{to_z, of_z}
use Rattle.integer.proofs.Machine.{machine, unbounded, by_value, meets}
use Rattle.scope.specs.Columns.{at}
use Rattle.scope.specs.Layout.{count}
use Rattle.mesh.proofs.Places.{count_nat_abs}
use Rattle.mesh.proofs.reading.count_at.Goals as goal

pub overflow_cast-result : goal.overflow_cast-result
unfolding at
overflow_cast-result c = (
  meets (search (machine, unbounded) depth 30) (omega arith) c.requires.counted,
  meets (search (machine, unbounded) depth 30) (omega arith) (omega arith),
)

pub returns : goal.returns
unfolding at
returns c =
    let z = at c.args.ns.now c.args.k in
    by_value (λ (v : ℤ). nat_abs v ≡ count z) {v = to_z w64 (of_z w64 z)} (search (machine, unbounded) depth 30)
    (omega arith) (count_nat_abs c.requires.counted)
