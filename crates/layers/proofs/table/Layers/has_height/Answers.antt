-- `has_height` meets its contract: "bottom ≤ height < top", in quarters.
use mathlib.Core.Path.{◌∙◌}
use native.Mathlib.Omega.{arith}
use Rattle.integer.proofs.Machine.{machine, casts, decides}
use Rattle.scope.specs.Layers.{has}
use Rattle.layers.proofs.LayerLaws.{flag_contains}
use Rattle.layers.proofs.table.Layers.has_height.Goals as goal

pub returns : goal.returns
unfolding has
returns c =
    let bottom = c.layer-layer.ensures.bottom in
    let top = c.layer-layer.ensures.top in
    let most = c.requires.low in
    c.contains.ensures.value ∙ decides (search (machine, casts, flag_contains) depth 30) (omega arith)
