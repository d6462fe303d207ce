-- `is_sides` meets its contract: the listed numbers are those of the definition.
use mathlib.Core.Path.{◌∙◌}
use mir.Facts.{to_z-of_z}
use Rattle.scope.specs.Mesh.{listed_sides}
use Rattle.lines.proofs.LineLaws.{listed}
use Rattle.lines.proofs.line_checks.is_sides.Goals as goal

pub returns : goal.returns
returns c = (rw (to_z-of_z c.ranges.z) at c.contains.ensures.value)
    ∙ listed c.args.z listed_sides
