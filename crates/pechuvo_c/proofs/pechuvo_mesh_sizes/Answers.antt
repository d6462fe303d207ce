-- `pechuvo_mesh_sizes` meets its contract: it hands the call on.
use Rattle.pechuvo_c.proofs.pechuvo_mesh_sizes.Goals as goal

pub returns : goal.returns
returns c =
    c.pechuvo_mesh_sizes.ensures
