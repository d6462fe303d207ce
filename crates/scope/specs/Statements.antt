-- What document 01 asks of a mesh and of a claim, in plain statements about whole numbers: no test, no order of
-- checks.
use Rattle.std.specs.Prelude.{◌≡◌, ◌⊎◌, List, [], ◌∷◌, ℕ, suc, ◌+◌, ◌-◌, ◌*◌, ◌≤◌, ◌<◌, ℤ, pos, ◌+ℤ◌, ◌*ℤ◌, ◌≤ℤ◌}
use Rattle.std.specs.Prelude.{◌<ℤ◌, length}
use Rattle.plane.specs.Polygon.{Shared}
use Rattle.scope.specs.Columns.{Limit, between, one_of, free, Rule, right_angle, naming, parts, at_most_where, at, n, l}
use Rattle.scope.specs.Layout.{Layout, width, groups, line_count, number_count, group_at, numbers_at}
use Rattle.scope.specs.Mesh.{pairs_with, mesh_layout, nodes, elements, edges, sides, jumps, x, y, corner}
use Rattle.scope.specs.Mesh.{corner_count, around, from_node, to_node, jump_from, jump_to, facing_from, facing_to}
use Rattle.scope.specs.Rows as R
use Rattle.scope.specs.Rows.{pairs_below, equality_rows, rows_of}
use Rattle.scope.specs.Outline.{outline}
use Rattle.scope.specs.Sums.{column_sum, live_sum}
use Rattle.scope.specs.Tests.{turn, row_at}
use Rattle.scope.specs.Claim.{stress, multiplier}
use Rattle.scope.specs.Meets.{FieldMeets}

-- ---- lines

-- z is one of a few numbers
abbrev pub OneOf : List ℤ → ℤ → Type 0
OneOf [] z = ⊥
OneOf (a ∷ rest) z = (z ≡ a) ⊎ OneOf rest z

-- z is within a column's limit
abbrev pub Within : Limit → ℤ → Type 0
Within (between lo hi) z = (lo ≤ℤ z) × (z ≤ℤ hi)
Within (one_of zs) z = OneOf zs z
Within free z = Unit {0}

abbrev pub AllWithin : List Limit → List ℤ → Type 0
AllWithin [] zs = Unit {0}
AllWithin (a ∷ limits) [] = Unit {0}
AllWithin (a ∷ limits) (z ∷ zs) = Within a z × AllWithin limits zs

-- each listed column names one of its things, from the least number on
abbrev pub AllNamed : List (ℕ × ℕ × ℕ) → List ℤ → Type 0
AllNamed [] line = Unit {0}
AllNamed (c ∷ cs) line = ((pos c.1 ≤ℤ at line c.0) × (at line c.0 ≤ℤ pos c.2)) × AllNamed cs line

-- a claim's header: a part is there; "field with n = 0" and "no field and n or l not 0" are not so
pub record PartsFit (line : List ℤ) : Type 0 where
  pub some_part : (at line 0 ≡ pos 1) ⊎ (at line 1 ≡ pos 1)
  pub with_field : at line 0 ≡ pos 1 → ¬ (n line ≡ pos 0)
  pub without_field : ¬ (at line 0 ≡ pos 1) → (n line ≡ pos 0) × (l line ≡ pos 0)

-- what a rule says of a line
abbrev pub Says : Rule → List ℤ → Type 0
Says right_angle line = at line 0 *ℤ at line 0 +ℤ at line 1 *ℤ at line 1 ≡ at line 2 *ℤ at line 2
Says (naming cs) line = AllNamed cs line
Says parts line = PartsFit line
Says (at_most_where c k d z) line = at line d ≡ pos z → at line c ≤ℤ pos k

abbrev pub AllSay : List Rule → List ℤ → Type 0
AllSay [] line = Unit {0}
AllSay (r ∷ rs) line = Says r line × AllSay rs line

-- line k of a file is there whole, each number within its limit, and its rules hold
abbrev pub Complete : Layout → List ℤ → ℕ → Type 0
Complete f ns k = length (numbers_at f ns k) ≡ width (group_at f ns k)

abbrev pub InLimits : Layout → List ℤ → ℕ → Type 0
InLimits f ns k = AllWithin (group_at f ns k).limits (numbers_at f ns k)

abbrev pub RulesHold : Layout → List ℤ → ℕ → Type 0
RulesHold f ns k = AllSay (group_at f ns k).rules (numbers_at f ns k)

pub record LineSound (f : Layout) (ns : List ℤ) (k : ℕ) : Type 0 where
  pub complete : Complete f ns k
  pub in_limits : InLimits f ns k
  pub rules_hold : RulesHold f ns k

-- all lines are so, and no number is left over
pub record LinesSound (f : Layout) (ns : List ℤ) : Type 0 where
  pub lines : (k : ℕ) → k < line_count (groups f ns) → LineSound f ns k
  pub none_left : length ns ≤ number_count (groups f ns)

-- ---- the mesh

-- "a left turn at all four corners", or at the three of a triangle: the triangle of a corner and its neighbours has an
-- area above 0
abbrev pub LeftTurns : List ℤ → ℕ → Type 0
LeftTurns m e =
    (i : ℕ) → i < corner_count m e
    → pos 0 <ℤ turn m (around m e (i + (corner_count m e - 1))) (around m e i) (around m e (i + 1))

-- a to b is the directed side i of element e
abbrev pub SideAt : List ℤ → ℕ → ℕ → ℕ → ℕ → Type 0
SideAt m a b e i = (around m e i ≡ a) × (around m e (i + 1) ≡ b)

-- no directed side of element e is a lower element's
abbrev pub OwnSides : List ℤ → ℕ → Type 0
OwnSides m e =
    (i : ℕ) → i < corner_count m e → (d : ℕ) → d < e → (j : ℕ) → j < corner_count m d
    → ¬ SideAt m (around m e i) (around m e (i + 1)) d j

-- node v is a corner of some element
pub record InElement (m : List ℤ) (v : ℕ) : Type 0 where
  pub element : ℕ
  pub there : element < elements m
  pub place : ℕ
  pub four : place < 4
  pub same : corner m element place ≡ v

-- a to b is a directed side of some element
pub record IsSide (m : List ℤ) (a b : ℕ) : Type 0 where
  pub element : ℕ
  pub there : element < elements m
  pub place : ℕ
  pub inside : place < corner_count m element
  pub same : SideAt m a b element place

-- "An outer side (an element's directed side whose reverse is no element's)", from a to b
pub record OuterSide (m : List ℤ) (a b : ℕ) : Type 0 where
  pub is_side : IsSide m a b
  pub reverse_is_none : ¬ IsSide m b a

-- edge g is an outer side, and no earlier edge has it
pub record OuterEdge (m : List ℤ) (g : ℕ) : Type 0 where
  pub outer : OuterSide m (from_node m g) (to_node m g)
  pub is_first : (k : ℕ) → k < g → ¬ ((from_node m k ≡ from_node m g) × (to_node m k ≡ to_node m g))

-- "A mesh is refused if two elements share a point inside both, fractions included; touching along sides or at corners
-- is fine" (document 02, N10): element e shares none with an element below it, that is, no point in fractions lies
-- strictly left of every side of both
abbrev pub NoneShared : List ℤ → ℕ → Type 0
NoneShared m e = (d : ℕ) → d < e → ¬ Shared (outline m d) (outline m e)

-- the side from a to b is one of the two that jump k uses
abbrev pub UsedByJump : List ℤ → ℕ → ℕ → ℕ → Type 0
UsedByJump m a b k =
    ((jump_from m k ≡ a) × (jump_to m k ≡ b)) ⊎ ((facing_to m k ≡ a) × (facing_from m k ≡ b))

-- the side from a to b is an outer side "used by no edge or earlier jump" than j
pub record FreeSide (m : List ℤ) (j a b : ℕ) : Type 0 where
  pub outer : OuterSide m a b
  pub no_edge : (k : ℕ) → k < edges m → ¬ ((from_node m k ≡ a) × (to_node m k ≡ b))
  pub no_earlier_jump : (k : ℕ) → k < j → ¬ UsedByJump m a b k

-- "coordinates equal"
abbrev pub SamePoint : List ℤ → ℕ → ℕ → Type 0
SamePoint m a b = (x m a ≡ x m b) × (y m a ≡ y m b)

-- jump j: "from to to, and facing to back to facing from, are both outer sides as directed, coordinates equal at each
-- end, used by no edge or earlier jump" (document 02, N6)
pub record Joint (m : List ℤ) (j : ℕ) : Type 0 where
  pub side : FreeSide m j (jump_from m j) (jump_to m j)
  pub facing : FreeSide m j (facing_to m j) (facing_from m j)
  pub at_from : SamePoint m (jump_from m j) (facing_from m j)
  pub at_to : SamePoint m (jump_to m j) (facing_to m j)

-- "Pairs are at most 100", and 40 with 108 sides: the nodes up to v have no more
abbrev pub PairsFit : List ℤ → ℕ → Type 0
PairsFit m v = length (pairs_below m (suc v)) ≤ pairs_with (sides m)

-- a mesh that passes 1 to 8, 47, 44 and 42
pub record MeshSound (m : List ℤ) : Type 0 where
  pub lines : LinesSound mesh_layout m
  pub left_turns : (e : ℕ) → e < elements m → LeftTurns m e
  pub own_sides : (e : ℕ) → e < elements m → OwnSides m e
  pub in_element : (v : ℕ) → v < nodes m → InElement m v
  pub none_shared : (e : ℕ) → e < elements m → NoneShared m e
  pub outer_edges : (g : ℕ) → g < edges m → OuterEdge m g
  pub joints : (j : ℕ) → j < jumps m → Joint m j
  pub pairs_fit : (v : ℕ) → v < nodes m → PairsFit m v

-- ---- multipliers

-- "nonzero multiplier on an unfixed row" is not so
abbrev pub NoneOnUnfixed : ℤ → R.Row → Type 0
NoneOnUnfixed w r = elim r.kind [ R.asked ↦ Unit {0} | R.unfixed ↦ w ≡ pos 0 | R.strength ↦ Unit {0} ]

-- multipliers w: none on an unfixed row, all columns 0, m above 0
pub record MeetsColumns (es rs : List R.Row) (columns : ℕ) (w : ℕ → ℤ) : Type 0 where
  pub unfixed : (k : ℕ) → k < length es → NoneOnUnfixed (w k) (row_at es k)
  pub sums : (j : ℕ) → j < columns → column_sum w rs j ≡ pos 0
  pub live : pos 0 <ℤ live_sum w rs

-- ---- the parts of a claim

-- field there, multipliers there
abbrev pub HasField : List ℤ → Type 0
HasField c = at c 0 ≡ pos 1

abbrev pub HasMultipliers : List ℤ → Type 0
HasMultipliers c = at c 1 ≡ pos 1

-- a field that is there meets every balance, side, jump and strength row
abbrev pub RowsMet : List ℤ → List ℤ → Type 0
RowsMet m c = FieldMeets (stress m c) (l c) (n c) (rows_of m)

-- multipliers that are there: none on an unfixed row, all 3·nodes columns 0, m above 0
abbrev pub ColumnsMet : List ℤ → List ℤ → Type 0
ColumnsMet m c = MeetsColumns (equality_rows m) (rows_of m) (3 * nodes m) (multiplier m c)
