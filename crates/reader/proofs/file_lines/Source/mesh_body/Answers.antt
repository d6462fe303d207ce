-- `Source::mesh_body` meets its contract: the header tells the table, whose numbers fit.
use Rattle.reader.proofs.LinesAfterHeader.{mesh_lines_lem}
use Rattle.reader.proofs.file_lines.Source.mesh_body.Goals as goal

pub read_groups-requires : goal.read_groups-requires
read_groups-requires c = rw (mesh_lines_lem c.mesh_groups-groups.ensures c.of_header.ensures) c.requires.room

pub returns : goal.returns
returns c = rw (mesh_lines_lem c.mesh_groups-groups.ensures c.of_header.ensures) at c.read_groups.ensures
