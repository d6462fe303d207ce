-- A borehole table's form, said of its bytes (document 02, N8): "its lines are numbered from 1,001", "1 to 32 lines",
-- and "The table's own form .. [is] judged as a mesh's, with 1".
-- The column's width w is a parameter: `file_width` in a file. Lines are counted from 0 here.
use Rattle.std.specs.Prelude.{ℕ, ◌*◌, ◌≤◌, ◌<◌, List, ℤ, length, drop}
use Rattle.scope.specs.Layout.{Group}
use Rattle.scope.specs.Mesh.{soils}
use Rattle.scope.specs.Layers.{most_layers, layer_columns}
use Rattle.scope.specs.Table.{layer_lines}
use Rattle.reader.specs.File.{line_bytes}
use Rattle.reader.specs.WellFormed.{GoodLine, IllFormed}

-- where line i of a table starts
abbrev pub row_start : ℕ → ℕ → ℕ
row_start w i = i * line_bytes w layer_columns

-- a table's line for the mesh m
abbrev pub layer_line : List ℤ → Group
layer_line m = layer_lines 0 (soils m)

-- refusal 1 at line j of a table: the lines before it are well formed and pass their own checks, a byte is there, and
-- the line isn't well formed, or is the 33rd
pub record TableFormFails (w : ℕ) (m : List ℤ) (bs : List ℕ) (j : ℕ) : Type 0 where
  pub before : (i : ℕ) → i < j → GoodLine w (layer_line m) (drop (row_start w i) bs)
  pub most : j ≤ most_layers
  pub begun : row_start w j < length bs
  pub here : j < most_layers → IllFormed w (layer_line m) (drop (row_start w j) bs)
