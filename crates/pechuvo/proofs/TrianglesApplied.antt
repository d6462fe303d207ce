-- The promise about triangles (document 02, N1) at document 01's sheet as a file, which has none; sheets that have some
-- are in `MixedApplied`.
use mathlib.Core.Path.{refl}
use mathlib.Core.List.{List}
use Prim.Native.Nat.{zero, suc}
use native.Mathlib.Omega.{arith}
use lib.IntN.{ℤ, pos}
use lib.Signed.{lt_z_yes}
use Rattle.scope.specs.Mesh.{elements, edges}
use Rattle.scope.specs.RefusalTable.{AtAll}
use Rattle.scope.specs.Triangles.{FourLeftTurns, OwnSidesBefore, OuterEdgeBefore}
use Rattle.pechuvo.specs.Promises.{mesh_in, claim_in, OnMesh}
use Rattle.pechuvo.proofs.Sheets.{computed_line}
use Rattle.pechuvo.proofs.Promises.{on_mesh}
use Rattle.pechuvo.proofs.PromisesApplied.{at, room, fits, plain, sheet-answered}

abbrev mesh : List ℤ
mesh = mesh_in (at 0).mesh

call : OnMesh mesh (claim_in mesh (at 0).claim) 0 0
call = on_mesh mesh (at 0).claim (pos 6) room 0 0 (at 0).line (plain (at 0).mesh (at 0).claim sheet-answered) fits

-- it passed document 01's 5
turns : AtAll (elements mesh) (FourLeftTurns mesh)
unfolding computed_line
turns zero l zero h = lt_z_yes tt
turns zero l (suc zero) h = lt_z_yes tt
turns zero l (suc (suc zero)) h = lt_z_yes tt
turns zero l (suc (suc (suc zero))) h = lt_z_yes tt
turns zero l (suc (suc (suc (suc i)))) h = absurd (omega (arith, h))
turns (suc e) l i h = absurd (omega (arith, l))

-- so it passes document 01's own 6 and 8 as it passes today's
pub sheet_passed_before : AtAll (elements mesh) (OwnSidesBefore mesh) × AtAll (edges mesh) (OuterEdgeBefore mesh)
sheet_passed_before =
    let sound = (call.returns_zero.exactly.0 refl).mesh in
    let before = call.triangles.before in
    let same = before.same (before.passed_before turns) in
    (same.six.pass.0 sound.own_sides, same.eight.pass.0 sound.outer_edges)
