-- The lines of a file (document 01, 'The two files'): groups of lines, each line with its columns and their limits.
-- A file is the list of its numbers in order. Lines and numbers are counted from 0 here; a place counts from 1.
use Rattle.std.specs.Prelude.{true, false, List, [], ◌∷◌, ℕ, zero, suc, ◌+◌, ◌*◌, ◌-◌, ℤ, pos, negsuc, ltb, length}
use Rattle.std.specs.Prelude.{take, drop, get_or}
use Rattle.scope.specs.Columns.{Limit, Rule, at}

-- ---- groups of lines

-- lines of one kind: how many, the limit of each column, and the rules of each line
pub record Group : Type 0 where
  pub lines : ℕ
  pub limits : List Limit
  pub rules : List Rule

-- the columns of each line of a group
abbrev pub width : Group → ℕ
width g = length g.limits

-- the lines of some groups
unfoldable pub line_count : List Group → ℕ
line_count [] = 0
line_count (g ∷ gs) = g.lines + line_count gs

-- the numbers of some groups
unfoldable pub number_count : List Group → ℕ
number_count [] = 0
number_count (g ∷ gs) = g.lines * width g + number_count gs

-- the lines before group j
unfoldable pub lines_before : List Group → ℕ → ℕ
lines_before [] j = 0
lines_before (g ∷ gs) zero = 0
lines_before (g ∷ gs) (suc j) = g.lines + lines_before gs j

-- the numbers before group j
unfoldable pub numbers_before : List Group → ℕ → ℕ
numbers_before [] j = 0
numbers_before (g ∷ gs) zero = 0
numbers_before (g ∷ gs) (suc j) = g.lines * width g + numbers_before gs j

-- a line of a file: its group, and the place of its first number
pub record Placed : Type 0 where
  pub group : Group
  pub first : ℕ

-- line k of some groups whose first number has the place `from`
unfoldable pub line_of : ℕ → List Group → ℕ → Placed
line_of from [] k = record { group = record { lines = 0; limits = []; rules = [] }; first = from }
line_of from (g ∷ gs) k =
    elim (ltb k g.lines) [
      | true ↦ record { group = g; first = from + k * width g }
      | false ↦ line_of (from + g.lines * width g) gs (k - g.lines)
    ]

-- ---- a file's lines, front to back

-- a file: the numbers of its refusals for form and for limits, its header, and the groups after the header, which the
-- header's numbers tell
pub record Layout : Type 0 where
  pub form_number : ℕ
  pub limit_number : ℕ
  pub header : Group
  pub body : List ℤ → List Group

-- all groups of a file with these numbers
unfoldable pub groups : Layout → List ℤ → List Group
groups f ns = f.header ∷ f.body ns

-- the numbers of a line, as far as they are there
unfoldable pub line_numbers : List ℤ → Placed → List ℤ
line_numbers ns l = take (width l.group) (drop l.first ns)

-- line k of a file: its group, and its numbers
abbrev pub group_at : Layout → List ℤ → ℕ → Group
group_at f ns k = (line_of 0 (groups f ns) k).group

abbrev pub numbers_at : Layout → List ℤ → ℕ → List ℤ
numbers_at f ns k = line_numbers ns (line_of 0 (groups f ns) k)

-- ---- reading a number

-- a count: a number of the file as a natural number (a negative one is refused before it is used)
unfoldable pub count : ℤ → ℕ
count (pos n) = n
count (negsuc n) = 0

-- column c of line i of group j
unfoldable pub entry : List Group → List ℤ → ℕ → ℕ → ℕ → ℤ
entry gs ns j i c = at ns
    (numbers_before gs j + i * width (get_or gs j (record { lines = 0; limits = []; rules = [] })) + c)
