-- The bytes of the lines of a table.
use Rattle.std.specs.Prelude.{List, ℕ, ◌+◌, ◌*◌, sum_by}
use Rattle.lines.specs.declared.layout.Group.{Group}
use Rattle.lines.specs.Table.{group_count, most_lines, most_columns}
use Rattle.reader.specs.File.{file_width}

-- the most bytes of a line, and of all lines
abbrev pub most_line_bytes : ℕ
most_line_bytes = most_columns * file_width + 1

abbrev pub most_bytes : ℕ
most_bytes = group_count * (most_lines * most_line_bytes)

-- the lines of a group: a column takes `file_width` bytes, and a line one more
abbrev pub group_bytes : Group → ℕ
group_bytes g = g.lines * (g.columns * file_width + 1)

abbrev pub bytes_in : List Group → ℕ
bytes_in gs = sum_by group_bytes gs
