-- The bracket (document 01, 'Rows', Columns and "Loads compared"), for any list of rows: a field's load l/n and the
-- limit W/m of multipliers.
-- A field is its stresses s by column, with l and n. Multipliers w are numbered as the rows are.
use Rattle.std.specs.Prelude.{◌≡◌, ◌↔◌, List, ℕ, ◌*◌, ◌<◌, ℤ, pos, ◌-ℤ◌, ◌*ℤ◌, ◌≤ℤ◌, ◌<ℤ◌, length}
use Rattle.integer.specs.Members.{◌∈◌}
use Rattle.scope.specs.Mesh.{nodes, elements, edges, jumps, corner, from_node, to_node, jump_from, jump_to}
use Rattle.scope.specs.Mesh.{facing_from, facing_to}
use Rattle.scope.specs.Rows.{Kind, asked, unfixed, strength, Row, rows_of}
use Rattle.scope.specs.Sums.{weighted_sum, left_side, right_side, weighed, column_sum, live_sum, limit_sum, open_rows}
use Rattle.scope.specs.Tests.{row_at}

-- no row has an entry in a column from `columns` on
abbrev pub Columns : ℕ → List Row → Type 0
Columns columns rs = (r : Row) → r ∈ rs → (e : ℤ × ℕ) → e ∈ r.entries → e.1 < columns

-- each corner of an element, each end of an edge and each of a jump's four is a node of the mesh; then no row of it
-- has an entry beyond its 3·nodes columns
pub record NodesNamed (m : List ℤ) : Type 0 where
  pub corners : (e i : ℕ) → e < elements m → i < 4 → corner m e i < nodes m
  pub froms : (g : ℕ) → g < edges m → from_node m g < nodes m
  pub tos : (g : ℕ) → g < edges m → to_node m g < nodes m
  pub jump_froms : (j : ℕ) → j < jumps m → (jump_from m j < nodes m) × (facing_from m j < nodes m)
  pub jump_tos : (j : ℕ) → j < jumps m → (jump_to m j < nodes m) × (facing_to m j < nodes m)

abbrev pub MeshColumns : List ℤ → Type 0
MeshColumns m = NodesNamed m → Columns (3 * nodes m) (rows_of m)

-- multipliers: none stands on an unfixed row, none is below 0 on a strength row, and every column sum is 0
pub record MultipliersMeet (w : ℕ → ℤ) (rs : List Row) (columns : ℕ) : Type 0 where
  pub none_unfixed : (k : ℕ) → k < length rs → (row_at rs k).kind ≡ unfixed → w k ≡ pos 0
  pub none_negative : (k : ℕ) → k < length rs → (row_at rs k).kind ≡ strength → pos 0 ≤ℤ w k
  pub columns_zero : (j : ℕ) → j < columns → column_sum w rs j ≡ pos 0

-- the strength to spare of a row, its right side minus its left side; an equality row has none
abbrev pub spare : Kind → ℤ → ℤ → ℤ
spare asked left right = pos 0
spare unfixed left right = pos 0
spare strength left right = right -ℤ left

unfoldable pub to_spare : (ℕ → ℤ) → ℤ → ℤ → Row → ℤ
to_spare s l n r = spare r.kind (left_side s l r) (right_side n r)

-- an open row: "strength rows with multiplier above 0 and left side below right"
pub record Open (s : ℕ → ℤ) (l n : ℤ) (c : ℤ) (r : Row) : Type 0 where
  pub is_strength : r.kind ≡ strength
  pub has_multiplier : pos 0 <ℤ c
  pub has_spare : left_side s l r <ℤ right_side n r

abbrev pub NoneOpen : (ℕ → ℤ) → ℤ → ℤ → (ℕ → ℤ) → List Row → Type 0
NoneOpen s l n w rs = (k : ℕ) → k < length rs → ¬ Open s l n (w k) (row_at rs k)

-- with m = live_sum w rs and W = limit_sum w rs
pub record Bracket (s : ℕ → ℤ) (l n : ℤ) (w : ℕ → ℤ) (rs : List Row) : Type 0 where
  -- W·n - l·m is the sum over strength rows of multiplier times strength to spare
  pub gap : limit_sum w rs *ℤ n -ℤ l *ℤ live_sum w rs ≡ weighted_sum (to_spare s l n) (weighed w rs)
  -- l·m is at most W·n: where n and m are above 0, l/n is at most W/m
  pub at_most : (l *ℤ live_sum w rs) ≤ℤ (limit_sum w rs *ℤ n)
  -- these are equal exactly when no strength row is open
  pub equal : (l *ℤ live_sum w rs ≡ limit_sum w rs *ℤ n) ↔ NoneOpen s l n w rs
  pub count : (open_rows s l n w rs ≡ 0) ↔ (l *ℤ live_sum w rs ≡ limit_sum w rs *ℤ n)
