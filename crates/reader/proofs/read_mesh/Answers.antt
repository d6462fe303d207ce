-- `reader::read_mesh` meets its contract: by what the header is, and what its checks say.
use native.Mathlib.Omega.{arith}
use Rattle.scope.specs.Mesh.{mesh_layout, layout_with, mesh_header}
use Rattle.reader.proofs.Regular.{mesh_regular}
use Rattle.reader.proofs.Whole.{first_room, no_header, header_read, header_refused, header_room, header_passed}
use Rattle.reader.proofs.LinesAfterHeader.{mesh_tested, mesh_header_there}
use Rattle.reader.proofs.read_mesh.Goals as goal

pub read_header-requires-clause-room : goal.read_header-requires-clause-room
unfolding layout_with mesh_header
read_header-requires-clause-room c = rw c.new-source.ensures (first_room mesh_layout _ _ c.requires)

pub returns-in_default : goal.returns-in_default
unfolding layout_with mesh_header
returns-in_default c = rw (← c.new-source.ensures) (no_header mesh_layout _ _ c.in_default.ensures)

-- past the first test a header stands at the front
pub returns-then-is_err : goal.returns-then-is_err
unfolding layout_with mesh_header
returns-then-is_err c =
    rw (← c.new-source.ensures)
    (header_refused mesh_layout _ _ (header_read mesh_layout _ _ c.in-Some.ensures)
    (mesh_tested _ _ c.mesh_header.ensures c.if-is_err.ensures.value))

pub mesh_body-requires : goal.mesh_body-requires
unfolding layout_with mesh_header
mesh_body-requires c =
    let h = header_read mesh_layout _ _ c.in-Some.ensures in
    let e = mesh_tested _ _ c.mesh_header.ensures c.if-is_err.ensures.value in
    let fits = rw (← c.new-source.ensures) at c.requires in
    record {
      header = mesh_header_there _ e;
      room = header_room mesh_layout _ _ mesh_regular h e (omega (arith, fits));
    }

pub returns : goal.returns
unfolding layout_with mesh_header
returns c =
    let h = header_read mesh_layout _ _ c.in-Some.ensures in
    let e = mesh_tested _ _ c.mesh_header.ensures c.if-is_err.ensures.value in
    rw (← c.new-source.ensures) (header_passed mesh_layout _ _ mesh_regular h e c.mesh_body.ensures)
