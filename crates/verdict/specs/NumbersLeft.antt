-- What the judging of a mesh with a table leaves of the mesh's numbers, whatever is answered (document 02, N8): "An
-- element with soil 0 takes its soil from the layer", where the mesh's lines and the table pass: the table is judged
-- "after the mesh lines and before 5".
use Rattle.std.specs.Prelude.{List, ◌++◌, ℤ}
use Rattle.scope.specs.Cases.Outcome.{Outcome}
use Rattle.scope.specs.Cases.Outcome.{Passed, Refused as Fails}
use Rattle.scope.specs.Phases.{Phase, check_phases}
use Rattle.scope.specs.Mesh.{layout_with}
use Rattle.scope.specs.Refusals.{line_phases}
use Rattle.scope.specs.Table.{table_part, has_table, mesh_read}

-- all before 5: the lines of the mesh, and where there is a table its lines, 46 and 45
abbrev pub before_shape : List ℤ → List ℤ → List Phase
before_shape t m = line_phases (layout_with (has_table t)) m ++ table_part t m

-- where it passes, the mesh as all after its lines reads it; else the mesh as it was
unfoldable pub left_after : Outcome → List ℤ → List ℤ → List ℤ
left_after Passed t m = mesh_read t m
left_after (Fails k place) t m = m

unfoldable pub numbers_left : List ℤ → List ℤ → List ℤ
numbers_left t m = left_after (check_phases (before_shape t m)) t m
