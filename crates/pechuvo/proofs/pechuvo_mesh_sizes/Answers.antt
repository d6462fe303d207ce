-- `pechuvo_mesh_sizes` meets its contract: it is the sizes of the mesh.
use Rattle.pechuvo.proofs.pechuvo_mesh_sizes.Goals as goal

pub returns : goal.returns
returns c =
    c.mesh_sizes.ensures
