-- The bytes of a file and its numbers (document 01, 'The two files'): "A line is its columns and one byte 10."
-- The column's width w is a parameter: `file_width` in a file.
use Rattle.std.specs.Prelude.{Bool, true, false, cond, List, [], ◌∷◌, ◌++◌, ℕ, zero, suc, ◌+◌, ◌*◌, ℤ, pos, leb, eqb}
use Rattle.std.specs.Prelude.{length, take, drop, replicate}
use Rattle.std.proofs.Math.Option.{Option, none, some, map}
use Rattle.scope.specs.declared.Place.TheVariants.{Line}
use Rattle.scope.specs.Cases.Outcome.{has_passed}
use Rattle.scope.specs.Layout.{Group, Layout, width}
use Rattle.scope.specs.Verdict.{line_check}
use Rattle.scope.specs.Layers.{most_layers, layer_columns}
use Rattle.scope.specs.Table.{table_lines}
use Rattle.reader.specs.Spelling.{column, read_column}

-- "Every number is .. in a column of 12 characters"
abbrev pub file_width : ℕ
file_width = 12

-- the bytes of a line of k columns
unfoldable pub line_bytes : ℕ → ℕ → ℕ
line_bytes w k = k * w + 1

-- ---- reading

-- the numbers of a line of k columns, where these bytes are just that line
unfoldable pub read_columns : ℕ → ℕ → List ℕ → Option (List ℤ)
read_columns w zero [] = none
read_columns w zero (b ∷ []) = cond (eqb b 10) (some []) none
read_columns w zero (b ∷ c ∷ bs) = none
read_columns w (suc k) bs =
    elim (read_column (take w bs)) [
      | none ↦ none
      | some z ↦ map (λ zs. z ∷ zs) (read_columns w k (drop w bs))
    ]

-- a line of k columns at the front of these bytes; none where it isn't well formed, bytes missing included
unfoldable pub read_line : ℕ → ℕ → List ℕ → Option (List ℤ)
read_line w k bs =
    elim (leb (line_bytes w k) (length bs)) [ true ↦ read_columns w k (take (line_bytes w k) bs) | false ↦ none ]

-- the columns of each line of some groups
unfoldable pub widths : List Group → List ℕ
widths [] = []
widths (g ∷ gs) = replicate g.lines (width g) ++ widths gs

-- the numbers of lines with these many columns: a line that isn't well formed ends the list, and bytes left over add
-- one number more
unfoldable pub read_lines : ℕ → List ℕ → List ℕ → List ℤ
read_lines w [] [] = []
read_lines w [] (b ∷ bs) = pos 0 ∷ []
read_lines w (k ∷ ks) bs =
    elim (read_line w k bs) [
      | none ↦ []
      | some zs ↦ zs ++ read_lines w ks (drop (line_bytes w k) bs)
    ]

-- the header's numbers pass the header's checks; where they don't, no later line is looked at
unfoldable pub header_passes : Layout → List ℤ → Bool
header_passes f h = has_passed (line_check f f.header h (Line 1))

-- the numbers of a file
unfoldable pub numbers_of : ℕ → Layout → List ℕ → List ℤ
numbers_of w f bs =
    elim (read_line w (width f.header) bs) [
      | none ↦ []
      | some h ↦
          h
          ++ elim (header_passes f h) [
            | true ↦ read_lines w (widths (f.body h)) (drop (line_bytes w (width f.header)) bs)
            | false ↦ []
          ]
    ]

-- ---- a borehole table, which has no header (document 02, N8)

-- bytes left over are one number
unfoldable pub left_over : List ℕ → List ℤ
left_over [] = []
left_over (b ∷ bs) = pos 0 ∷ []

-- the numbers of the lines of k columns at the front that are well formed, at most n of them, and of what follows them
unfoldable pub read_rows : ℕ → ℕ → ℕ → List ℕ → List ℤ
read_rows w k zero bs = left_over bs
read_rows w k (suc n) bs =
    elim (read_line w k bs) [
      | none ↦ left_over bs
      | some zs ↦ zs ++ read_rows w k n (drop (line_bytes w k) bs)
    ]

-- "1 to 32 lines", as wide as a layer's: the numbers of a table; an empty file has none, "an empty one is no table"
unfoldable pub table_numbers_of : ℕ → List ℕ → List ℤ
table_numbers_of w bs = read_rows w layer_columns most_layers bs

-- ---- writing

unfoldable pub columns : ℕ → List ℤ → List ℕ
columns w [] = []
columns w (z ∷ zs) = column w z ++ columns w zs

-- numbers written in lines with these many columns: the last line is left as far as there are numbers, and numbers
-- left over follow the last line
unfoldable pub write_lines : ℕ → List ℕ → List ℤ → List ℕ
write_lines w [] zs = columns w zs
write_lines w (k ∷ ks) zs =
    columns w (take k zs) ++ elim (leb k (length zs)) [ true ↦ 10 ∷ write_lines w ks (drop k zs) | false ↦ [] ]

-- the file written from a list of numbers
unfoldable pub file_of : ℕ → Layout → List ℤ → List ℕ
file_of w f zs = write_lines w (width f.header ∷ widths (f.body zs)) zs

-- the table written from a list of numbers
unfoldable pub table_of : ℕ → List ℤ → List ℕ
table_of w t = write_lines w (replicate (table_lines t) layer_columns) t
