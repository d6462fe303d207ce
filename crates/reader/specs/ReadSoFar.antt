-- How far a file is read, as the functions that read its lines say it.
use Rattle.std.specs.Prelude.{◌≡◌, cond, List, [], ◌∷◌, ◌++◌, ℕ, ◌+◌, ◌≤◌, leb, ℤ, length, take, drop, replicate}
use Rattle.std.specs.Prelude.{Some, None}
use Rattle.std.specs.Prelude.{Option as Answer}
use Rattle.std.proofs.Math.Option.{Option, none, some}
use Rattle.reader.specs.declared.file_lines.Progress.{Progress}
use Rattle.lines.specs.declared.layout.Group.{Group}
use Rattle.scope.specs.Layers.{layer_columns}
use Rattle.reader.specs.Spelling.{read_column}
use Rattle.reader.specs.File.{file_width, line_bytes, read_line, read_lines, left_over, read_rows, table_numbers_of}
use Rattle.reader.specs.Listed.{Listed}

-- nothing is read
unfoldable pub start : Progress
start = record { at = 0; numbers = 0 }

-- ---- one line

-- the room for a line's numbers once it is read: each is its column's, up to the first column that is none, from where
-- on nothing is written
unfoldable pub columns_put : ℕ → List ℕ → List ℤ → List ℤ
columns_put w bs [] = []
columns_put w bs (z ∷ zs) =
    elim (read_column (take w bs)) [ none ↦ z ∷ zs | some n ↦ n ∷ columns_put w (drop w bs) zs ]

-- and nothing where bytes are missing
unfoldable pub line_put : ℕ → List ℕ → List ℤ → List ℤ
line_put w bs zs = cond (leb (line_bytes w (length zs)) (length bs)) (columns_put w bs zs) zs

-- how far a file is read after a line of k columns, which is well formed where it is `some`
unfoldable pub past : ℕ → Progress → Option (List ℤ) → Answer Progress
past k p none = None
past k p (some zs) = Some (record { at = p.at + line_bytes file_width k; numbers = p.numbers + k })

-- the numbers of such a line stand in the list `out`, from number n on
unfoldable pub written : ℕ → ℕ → Option (List ℤ) → List ℤ → List ℤ
written k n none out = out
written k n (some zs) out = take n out ++ zs ++ drop (n + k) out

-- a line of k columns is read: from p and the list `out` to r and `after`
pub record LineTaken (bs : List ℕ) (k : ℕ) (p : Progress) (out : List ℤ) (r : Answer Progress)
    (after : List ℤ) : Type 0 where
  pub progress : r ≡ past k p (read_line file_width k (drop p.at bs))
  pub numbers : after ≡ written k p.numbers (read_line file_width k (drop p.at bs)) out

-- the line that begins at p has room in the list `out`: where it is well formed, its numbers fit
pub record LineRoom (bs : List ℕ) (k : ℕ) (p : Progress) (out : List ℤ) : Type 0 where
  pub within : p.at ≤ length bs
  pub front : p.numbers ≤ length out
  pub fits : (zs : List ℤ) → read_line file_width k (drop p.at bs) ≡ some zs → p.numbers + k ≤ length out

-- ---- lines

-- the columns of each line of a group
unfoldable pub lines_of : Group → List ℕ
lines_of g = replicate g.lines g.columns

-- all numbers of a file, where those in the list `out` are read and lines with these many columns are still to be read
unfoldable pub all_numbers : List ℕ → List ℕ → Progress → List ℤ → List ℤ
all_numbers bs ks p out = take p.numbers out ++ read_lines file_width ks (drop p.at bs)

-- lines with these many columns are read: from p and the list `out` to r and `after`
pub record LinesTaken (bs ks : List ℕ) (p : Progress) (out : List ℤ) (r : Progress) (after : List ℤ) : Type 0 where
  pub same : (rest : List ℕ) → all_numbers bs (ks ++ rest) p out ≡ all_numbers bs rest r after
  pub more : p.numbers ≤ r.numbers
  pub there : r.numbers ≤ length after
  pub within : r.at ≤ length bs
  pub others : drop r.numbers after ≡ drop r.numbers out

-- one of these lines is not well formed: the file has n numbers, whatever lines were to follow
abbrev pub LinesStopped : List ℕ → List ℕ → Progress → List ℤ → ℕ → List ℤ → Type 0
LinesStopped bs ks p out n after = (rest : List ℕ) → Listed (all_numbers bs (ks ++ rest) p out) out n after

-- the list `out` has room for all numbers of such a file
pub record Room (bs ks : List ℕ) (p : Progress) (out : List ℤ) : Type 0 where
  pub within : p.at ≤ length bs
  pub front : p.numbers ≤ length out
  pub fits : length (all_numbers bs ks p out) ≤ length out

-- the same, where other lines may follow these
pub record RoomBefore (bs ks : List ℕ) (p : Progress) (out : List ℤ) : Type 0 where
  pub after : List ℕ
  pub room : Room bs (ks ++ after) p out

-- ---- the lines of a table

-- all numbers of a table, where those in the list `out` are read and at most n lines are still to be read
unfoldable pub all_rows : List ℕ → ℕ → Progress → List ℤ → List ℤ
all_rows bs n p out = take p.numbers out ++ read_rows file_width layer_columns n (drop p.at bs)

-- the well-formed lines of a table are read, which leaves r and `after` of the list `before`; what follows them is not
pub record RowsTaken (bs : List ℕ) (before : List ℤ) (r : Progress) (after : List ℤ) : Type 0 where
  pub same : table_numbers_of file_width bs ≡ take r.numbers after ++ left_over (drop r.at bs)
  pub there : r.numbers ≤ length after
  pub within : r.at ≤ length bs
  pub others : drop r.numbers after ≡ drop r.numbers before
