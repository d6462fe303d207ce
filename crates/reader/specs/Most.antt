-- How many numbers a file has at most: by its bytes, and by the lines that a mesh and a claim can have.
use Rattle.std.specs.Prelude.{ℕ, ◌+◌, ◌*◌, ◌/◌}
use Rattle.scope.specs.Mesh.{most_nodes, most_elements, most_soils, most_edges, most_jumps, nodes_for_108}
use Rattle.scope.specs.Mesh.{mesh_header_columns, soil_columns, node_columns, element_columns, edge_columns}
use Rattle.scope.specs.Mesh.{jump_columns, element_rows, edge_rows, rows_per_jump}
use Rattle.scope.specs.Bounds.{most_strength_rows}
use Rattle.scope.specs.Claim.{claim_header_columns, stress_columns}
use Rattle.scope.specs.Layers.{most_layers, layer_columns}
use Rattle.reader.specs.File.{file_width}

-- a file of so many bytes: each number has a column, and bytes left over add one number more
abbrev pub most_numbers : ℕ → ℕ
most_numbers bytes = bytes / file_width + 1

-- a mesh file, and a claim file: their headers, as many lines as there can be, and one for bytes left over; with 108
-- sides a claim has the most numbers
abbrev pub mesh_room : ℕ
mesh_room =
    mesh_header_columns
    + most_soils * soil_columns
    + most_nodes * node_columns
    + most_elements * element_columns
    + most_edges * edge_columns
    + most_jumps * jump_columns
    + 1

abbrev pub claim_room : ℕ
claim_room =
    claim_header_columns
    + nodes_for_108 * stress_columns
    + most_elements * element_rows
    + most_edges * edge_rows
    + most_jumps * rows_per_jump
    + most_strength_rows
    + 1

-- a table file: as many lines as there can be, and one for bytes left over
abbrev pub table_room : ℕ
table_room = most_layers * layer_columns + 1
