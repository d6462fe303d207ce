-- `soil_kind` meets its contract: the machine's test of the kind is the definition's.
use mathlib.Core.Path.{sym}
use native.Mathlib.Omega.{arith}
use lib.Ieee.Bits.{is_true, is_false}
use Rattle.integer.proofs.Machine.{machine, told, apart}
use Rattle.integer.proofs.TestLaws.{yes_eq_z, no_eq_z}
use Rattle.scope.specs.Mesh.{soil_kind, by_direction}
use Rattle.mesh.proofs.Places.{soil_number}
use Rattle.mesh.proofs.Mesh.soil_kind.Goals as goal

pub returns-then-kind-eq1 : goal.returns-then-kind-eq1
unfolding by_direction soil_kind
returns-then-kind-eq1 c =
    let kind = soil_number c.args.self.now.sized c.requires (omega arith) c.entry-kind.ensures in
    sym (is_true _ (yes_eq_z (told c.if-kind-eq1.true (search machine depth 30) (omega arith))))

pub returns-else-kind-eq1 : goal.returns-else-kind-eq1
unfolding by_direction soil_kind
returns-else-kind-eq1 c =
    let kind = soil_number c.args.self.now.sized c.requires (omega arith) c.entry-kind.ensures in
    sym (is_false _ (no_eq_z (apart c.if-kind-eq1.false (search machine depth 30) (omega arith))))
