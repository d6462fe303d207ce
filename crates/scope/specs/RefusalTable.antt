-- Document 01's table of refusals row by row ('Verdict and report'), with document 02's 47, 44 and 42: a number, a
-- place, and what is so where they are returned, all before it in the order among it. Elements, nodes, edges, jumps,
-- rows and columns are counted from 0 here. The rows of lines are said one by one at the end of `Refusals`.
use Rattle.std.specs.Prelude.{◌≡◌, List, ℕ, suc, ◌*◌, ◌<◌, ℤ, pos, ◌<ℤ◌, length}
use Rattle.scope.specs.declared.Place.{Place}
use Rattle.scope.specs.declared.Place.TheVariants.{Line, Row, Column, Node, Element}
use Rattle.scope.specs.Columns.{n, l}
use Rattle.scope.specs.Mesh.{mesh_layout, nodes, elements, edges, jumps, edge_line, jump_line}
use Rattle.scope.specs.Claim.{claim_layout, stress, multiplier}
use Rattle.scope.specs.Rows.{equality_rows, strength_rows, rows_of}
use Rattle.scope.specs.Sums.{column_sum, live_sum}
use Rattle.scope.specs.Tests.{row_at}
use Rattle.scope.specs.Meets.{RowMet}
use Rattle.scope.specs.Statements.{LinesSound, LeftTurns, OwnSides, InElement, NoneShared, OuterEdge, Joint, PairsFit}
use Rattle.scope.specs.Statements.{MeshSound, NoneOnUnfixed, HasField, HasMultipliers, RowsMet}
use Rattle.scope.specs.Refusals.{LineRefusal}

-- "lowest place first": P fails at place k of count, and at no lower one
pub record LowestFails (count : ℕ) (P : ℕ → Type 0) (k : ℕ) : Type 0 where
  pub there : k < count
  pub lower : (j : ℕ) → j < k → P j
  pub fails : ¬ P k

-- P holds at all places
abbrev pub AtAll : ℕ → (ℕ → Type 0) → Type 0
AtAll count P = (k : ℕ) → k < count → P k

-- the rows of a mesh
pub data MeshRefusalRow (m : List ℤ) : ℕ → Place → Type 0 where
  of_lines : {k : ℕ} {p : Place} → LineRefusal mesh_layout m k p → MeshRefusalRow m k p
  five : (e : ℕ) → LinesSound mesh_layout m → LowestFails (elements m) (LeftTurns m) e → MeshRefusalRow m 5 (Element (suc e))
  six : (e : ℕ) → LinesSound mesh_layout m → AtAll (elements m) (LeftTurns m) → LowestFails (elements m) (OwnSides m) e
      → MeshRefusalRow m 6 (Element (suc e))
  seven : (v : ℕ) → LinesSound mesh_layout m → AtAll (elements m) (LeftTurns m) → AtAll (elements m) (OwnSides m)
      → LowestFails (nodes m) (InElement m) v → MeshRefusalRow m 7 (Node (suc v))
  forty_seven : (e : ℕ) → LinesSound mesh_layout m → AtAll (elements m) (LeftTurns m) → AtAll (elements m) (OwnSides m)
      → AtAll (nodes m) (InElement m) → LowestFails (elements m) (NoneShared m) e → MeshRefusalRow m 47 (Element (suc e))
  eight : (g : ℕ) → LinesSound mesh_layout m → AtAll (elements m) (LeftTurns m) → AtAll (elements m) (OwnSides m)
      → AtAll (nodes m) (InElement m) → AtAll (elements m) (NoneShared m)
      → LowestFails (edges m) (OuterEdge m) g → MeshRefusalRow m 8 (Line (suc (edge_line m g)))
  forty_four : (j : ℕ) → LinesSound mesh_layout m → AtAll (elements m) (LeftTurns m) → AtAll (elements m) (OwnSides m)
      → AtAll (nodes m) (InElement m) → AtAll (elements m) (NoneShared m) → AtAll (edges m) (OuterEdge m)
      → LowestFails (jumps m) (Joint m) j → MeshRefusalRow m 44 (Line (suc (jump_line m j)))
  forty_two : (v : ℕ) → LinesSound mesh_layout m → AtAll (elements m) (LeftTurns m) → AtAll (elements m) (OwnSides m)
      → AtAll (nodes m) (InElement m) → AtAll (elements m) (NoneShared m) → AtAll (edges m) (OuterEdge m)
      → AtAll (jumps m) (Joint m)
      → LowestFails (nodes m) (PairsFit m) v → MeshRefusalRow m 42 (Node (suc v))

-- all before 21: the mesh passes, and the claim's lines
pub record Before21 (m c : List ℤ) : Type 0 where
  pub mesh : MeshSound m
  pub lines : LinesSound (claim_layout m) c

-- all before 31: a field that is there meets every row
pub record Before31 (m c : List ℤ) : Type 0 where
  pub before : Before21 m c
  pub field : HasField c → RowsMet m c

-- the rows of a mesh and a claim
pub data RefusalRow (m c : List ℤ) : ℕ → Place → Type 0 where
  of_mesh : {k : ℕ} {p : Place} → MeshRefusalRow m k p → RefusalRow m c k p
  of_claim_lines : {k : ℕ} {p : Place} → MeshSound m → LineRefusal (claim_layout m) c k p → RefusalRow m c k p
  twenty_one : (k : ℕ) → Before21 m c → HasField c
      → LowestFails (length (equality_rows m)) (λ i. RowMet (stress m c) (l c) (n c) (row_at (equality_rows m) i)) k
      → RefusalRow m c 21 (Row (suc k))
  twenty_two : (k : ℕ) → Before21 m c → HasField c
      → AtAll (length (equality_rows m)) (λ i. RowMet (stress m c) (l c) (n c) (row_at (equality_rows m) i))
      → LowestFails (length (strength_rows m)) (λ i. RowMet (stress m c) (l c) (n c) (row_at (strength_rows m) i)) k
      → RefusalRow m c 22 (Row (suc k))
  thirty_one : (k : ℕ) → Before31 m c → HasMultipliers c
      → LowestFails (length (equality_rows m)) (λ i. NoneOnUnfixed (multiplier m c i) (row_at (equality_rows m) i)) k
      → RefusalRow m c 31 (Row (suc k))
  thirty_two : (j : ℕ) → Before31 m c → HasMultipliers c
      → AtAll (length (equality_rows m)) (λ i. NoneOnUnfixed (multiplier m c i) (row_at (equality_rows m) i))
      → LowestFails (3 * nodes m) (λ i. column_sum (multiplier m c) (rows_of m) i ≡ pos 0) j
      → RefusalRow m c 32 (Column (suc j))
  thirty_three : Before31 m c → HasMultipliers c
      → AtAll (length (equality_rows m)) (λ i. NoneOnUnfixed (multiplier m c i) (row_at (equality_rows m) i))
      → AtAll (3 * nodes m) (λ i. column_sum (multiplier m c) (rows_of m) i ≡ pos 0)
      → ¬ (pos 0 <ℤ live_sum (multiplier m c) (rows_of m)) → RefusalRow m c 33 (Column 0)
