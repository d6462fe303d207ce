-- Refusal 1 said of the bytes of a mesh file and a table file (document 02, N8): "The table's own form .. [is] judged
-- as a mesh's, with 1", "after the mesh lines", and "its lines are numbered from 1,001".
-- Lines are counted from 0 here; a place counts from 1.
use Rattle.std.specs.Prelude.{◌≡◌, ◌⊎◌, true, List, ℕ, ◌+◌}
use Rattle.scope.specs.Mesh.{layout_with}
use Rattle.scope.specs.Statements.{LinesSound}
use Rattle.scope.specs.Table.{has_table}
use Rattle.reader.specs.File.{table_numbers_of}
use Rattle.reader.specs.TableFile.{TableFormFails}
use Rattle.reader.specs.WellFormed.{FormFails}
use Rattle.judge.specs.Judge.{mesh_numbers}

-- at line j: the form of the mesh file, or, from the 1,001st line on, that of the table file once the mesh's lines have
-- passed
abbrev pub MeshFormFails : ℕ → List ℕ → List ℕ → ℕ → Type 0
MeshFormFails w mesh table j =
    FormFails w (layout_with (has_table (table_numbers_of w table))) mesh j
    ⊎ ((i : ℕ) × (j ≡ 1000 + i) × LinesSound (layout_with true) (mesh_numbers w mesh)
    × TableFormFails w (mesh_numbers w mesh) table i)
