-- `new` meets its contract: the counts are those of the header.
use Rattle.mesh.proofs.Places.{header_there, sized}
use Rattle.mesh.proofs.Mesh.new.Goals as goal

pub of_header-requires : goal.of_header-requires
of_header-requires c = header_there c.requires

pub invariant_of-result : goal.invariant_of-result
invariant_of-result c = record { sized = sized c.requires c.of_header.ensures }
