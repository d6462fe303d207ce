-- `soil_most` meets its contract: the largest kind is read back as it was found.
use mathlib.Core.Path.{refl}
use native.Mathlib.Omega.{arith}
use lib.IntN.{pos}
use mir.Facts.{to_z-of_z}
use Rattle.integer.proofs.Machine.{Within-SFits}
use Rattle.scope.specs.Mesh.{kind_with}
use Rattle.scope.proofs.SideLimits.{kind_most}
use Rattle.lines.proofs.layout.soil_most.Goals as goal

pub returns : goal.returns
returns c =
    let sides = c.args.sides in
    let small = Within-SFits {B = 1} {z = pos (kind_with sides)} (record { within = kind_most sides }) (omega arith) in
    rw (c.kind_most.ensures, to_z-of_z small) refl
