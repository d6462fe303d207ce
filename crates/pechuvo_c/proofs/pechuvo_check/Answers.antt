-- `pechuvo_check` meets its contract: it hands the call on, and the number of decimals as the machine reads it.
use mir.Facts.{to_z-of_z}
use Rattle.pechuvo_c.proofs.pechuvo_check.Goals as goal

pub returns : goal.returns
returns c =
    rw (to_z-of_z c.ranges.decimals) at c.pechuvo_check.ensures
