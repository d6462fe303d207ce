-- What the checks of lines say of a part of a file. That the parts make the check of the whole file is proved in
-- `proofs/GroupLaws.antt`.
use Rattle.std.specs.Prelude.{◌≡◌, List, [], ◌∷◌, ℕ, ◌+◌, ◌*◌, ◌≤◌, ◌<◌, ℤ, leb, length, take, drop}
use Rattle.scope.specs.declared.Place.TheVariants.{Line}
use Rattle.scope.specs.Cases.Outcome.{Outcome}
use Rattle.scope.specs.Checks.{demand, ◌then◌, lowest}
use Rattle.scope.specs.Columns.{Limit, between}
use Rattle.scope.specs.Layout.{Group, Layout, width}
use Rattle.scope.specs.Mesh.{mesh_header}
use Rattle.scope.specs.Verdict.{line_check}
use Rattle.lines.specs.declared.layout.FileNumbers.{FileNumbers}
use Rattle.lines.specs.Table.{group_count, most_lines, most_columns}

-- the limits whose least and whose most numbers are listed
unfoldable pub ranges : List ℤ → List ℤ → List Limit
ranges [] his = []
ranges (lo ∷ los) [] = []
ranges (lo ∷ los) (hi ∷ his) = between lo hi ∷ ranges los his

-- as many of such limits as numbers
pub record AsMany (lo hi s : List ℤ) : Type 0 where
  pub least : length lo ≡ length s
  pub most : length hi ≡ length s

-- ---- groups of lines

-- line k of the lines of a group at the front of a list, the first of them in line `line` of the file
abbrev pub line_step : Layout → Group → List ℤ → ℕ → ℕ → Outcome
line_step f g s line k = line_check f g (take (width g) (drop (k * width g) s)) (Line (line + k))

-- the lines of a group at the front of a list
unfoldable pub group_check : Layout → Group → List ℤ → ℕ → Outcome
group_check f g s line = lowest (line_step f g s line) g.lines

-- the lines of some groups, and no number left over
unfoldable pub groups_check : Layout → List Group → List ℤ → ℕ → Outcome
groups_check f [] s line = demand (leb (length s) 0) f.form_number (Line line)
groups_check f (g ∷ gs) s line = group_check f g s line then groups_check f gs (drop (g.lines * width g) s)
    (line + g.lines)

-- a file of which only the numbers of its refusals are told
unfoldable pub file_numbers : FileNumbers → Layout
file_numbers f = record { form_number = f.form; limit_number = f.limit; header = mesh_header; body = λ ns. [] }

-- the line after the last, where each group has as many lines as it can; a table's lines are numbered from 1,001
abbrev pub most_line : ℕ
most_line = 1001 + group_count * most_lines

-- counts and line numbers are small, so that no sum of them overflows
pub record FewColumns (count columns line : ℕ) : Type 0 where
  pub few_lines : count ≤ most_lines
  pub some_column : 0 < columns
  pub few_columns : columns ≤ most_columns
  pub line_most : line ≤ most_line
