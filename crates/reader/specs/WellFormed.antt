-- Well-formed lines and files, said of the bytes (document 01, 'The two files'): "Every number is decimal,
-- right-justified in a column of 12 characters, filled with spaces", "A line is its columns and one byte 10."
-- The column's width w is a parameter: `file_width` in a file. Lines are counted from 0 here; a place counts from 1.
use Rattle.std.specs.Prelude.{◌≡◌, ◌⊎◌, ◌≢◌, List, [], ◌∷◌, ◌++◌, ℕ, ◌+◌, ◌≤◌, ◌<◌, ℤ, length, take, drop}
use Rattle.scope.specs.Columns.{Rule}
use Rattle.scope.specs.Layout.{Group, Layout, width, groups, line_count, group_at}
use Rattle.scope.specs.Statements.{AllWithin, AllSay}
use Rattle.reader.specs.Spelling.{spelling}
use Rattle.reader.specs.File.{line_bytes, widths, columns}
use Rattle.scope.specs.Refusals.{rule_number}

-- ---- a line

-- each number's spelling has room in a column of w bytes
abbrev pub Fit : ℕ → List ℤ → Type 0
Fit w [] = Unit {0}
Fit w (z ∷ zs) = (length (spelling z) ≤ w) × Fit w zs

-- these bytes are a line of k columns with the numbers zs
pub record WellFormedLine (w k : ℕ) (zs : List ℤ) (bs : List ℕ) : Type 0 where
  pub count : length zs ≡ k
  pub fit : Fit w zs
  pub bytes : bs ≡ columns w zs ++ (10 ∷ [])

-- a line of the group g stands at the front of these bytes, well formed, and passes its own checks: each number is
-- within its limit, and the line's rules hold
pub record GoodLine (w : ℕ) (g : Group) (bs : List ℕ) : Type 0 where
  pub numbers : List ℤ
  pub well_formed : WellFormedLine w (width g) numbers (take (line_bytes w (width g)) bs)
  pub in_limits : AllWithin g.limits numbers
  pub rules_hold : AllSay g.rules numbers

-- no well-formed line of the group g stands there
abbrev pub IllFormed : ℕ → Group → List ℕ → Type 0
IllFormed w g bs = (zs : List ℤ) → ¬ WellFormedLine w (width g) zs (take (line_bytes w (width g)) bs)

-- ---- a file

-- the bytes of lines with these many columns
unfoldable pub bytes_of : ℕ → List ℕ → ℕ
bytes_of w [] = 0
bytes_of w (k ∷ ks) = line_bytes w k + bytes_of w ks

-- where line i of a file starts, after the bytes of the i lines before it; h are the header's numbers, which say what
-- lines follow
unfoldable pub line_start : ℕ → Layout → List ℤ → ℕ → ℕ
line_start w f h i = bytes_of w (take i (widths (groups f h)))

-- refusal 1 (11 in a claim), "form: length, character, spelling, bytes missing or left over", at line j: the lines
-- before it are well formed and pass their own checks, and line j isn't well formed, or all lines are there and bytes
-- follow the last ("Leftover bytes belong to the line after the last")
pub record FormFails (w : ℕ) (f : Layout) (bs : List ℕ) (j : ℕ) : Type 0 where
  -- where the header is at fault itself, no numbers are asked of it
  pub header : List ℤ
  pub is_header : 0 < j → WellFormedLine w (width f.header) header (take (line_bytes w (width f.header)) bs)
  pub before : (i : ℕ) → i < j → GoodLine w (group_at f header i) (drop (line_start w f header i) bs)
  pub here :
      ((j < line_count (groups f header)) × IllFormed w (group_at f header j) (drop (line_start w f header j) bs))
      ⊎ ((j ≡ line_count (groups f header)) × (line_start w f header j < length bs))

-- ---- what the layouts of a mesh and of a claim have in common

-- each line of some groups has a column
abbrev pub SomeColumns : List Group → Type 0
SomeColumns [] = Unit {0}
SomeColumns (g ∷ gs) = (0 < width g) × SomeColumns gs

-- the header is one line, its numbers alone say what lines follow, each line has a column, and no other check of a
-- line has the number of a form refusal
pub record Regular (f : Layout) : Type 0 where
  pub one_header : f.header.lines ≡ 1
  pub by_header : (h rest : List ℤ) → length h ≡ width f.header → f.body (h ++ rest) ≡ f.body h
  pub some_columns : (h : List ℤ) → SomeColumns (groups f h)
  pub not_limit : f.form_number ≢ f.limit_number
  pub not_rule : (r : Rule) → f.form_number ≢ rule_number r
