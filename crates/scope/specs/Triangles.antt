-- Triangles (document 02, N1), said without the corners around an element: which repeat is a triangle's, and what a
-- mesh that has none gets: document 01's own 5, 6 and 8.
use Rattle.std.specs.Prelude.{◌≡◌, ◌↔◌, List, ℕ, ◌+◌, ◌<◌, ℤ, pos, ◌<ℤ◌}
use Rattle.scope.specs.Mesh.{elements, edges, corner, corner_count, around, from_node, to_node}
use Rattle.scope.specs.Rows.{node}
use Rattle.scope.specs.Tests.{turn}
use Rattle.scope.specs.Statements.{LeftTurns, OwnSides, OuterEdge}
use Rattle.scope.specs.RefusalTable.{LowestFails, AtAll}

-- "Every other repeat still gets 5": of an element that passes 5, two corners with the same node are the third and the
-- fourth
abbrev pub OnlyRepeat : List ℤ → ℕ → Type 0
OnlyRepeat m e = LeftTurns m e → (i j : ℕ) → i < j → j < 4 → corner m e i ≡ corner m e j → (i ≡ 2) × (j ≡ 3)

-- "three left turns are asked", and "The repeat makes no side": a triangle has the corners 1, 2 and 3, and after the
-- third comes the first
pub record Triangle (m : List ℤ) (e : ℕ) : Type 0 where
  pub three : corner_count m e ≡ 3
  pub first : around m e 0 ≡ corner m e 0
  pub second : around m e 1 ≡ corner m e 1
  pub third : around m e 2 ≡ corner m e 2
  pub again : around m e 3 ≡ corner m e 0

abbrev pub ReadAsTriangle : List ℤ → ℕ → Type 0
ReadAsTriangle m e = corner m e 2 ≡ corner m e 3 → Triangle m e

-- ---- document 01's own words, of elements with four corners

-- 5 is not so: "a left turn at all four corners"
abbrev pub FourLeftTurns : List ℤ → ℕ → Type 0
FourLeftTurns m e = (i : ℕ) → i < 4 → pos 0 <ℤ turn m (node m e (i + 3)) (node m e i) (node m e (i + 1))

-- 6, "a directed side that a lower element has", is not so: none of the four sides of element e is one of the four of a
-- lower element
abbrev pub OwnSidesBefore : List ℤ → ℕ → Type 0
OwnSidesBefore m e =
    (i : ℕ) → i < 4 → (d : ℕ) → d < e → (j : ℕ) → j < 4
    → ¬ ((node m d j ≡ node m e i) × (node m d (j + 1) ≡ node m e (i + 1)))

-- a to b is one of the four directed sides of some element
pub record SideBefore (m : List ℤ) (a b : ℕ) : Type 0 where
  pub element : ℕ
  pub there : element < elements m
  pub place : ℕ
  pub four : place < 4
  pub first : node m element place ≡ a
  pub second : node m element (place + 1) ≡ b

-- 8, "edge is no element's side, or its reverse is one, or an earlier edge has it", is not so
pub record OuterEdgeBefore (m : List ℤ) (g : ℕ) : Type 0 where
  pub is_side : SideBefore m (from_node m g) (to_node m g)
  pub reverse_is_none : ¬ SideBefore m (to_node m g) (from_node m g)
  pub is_first : (k : ℕ) → k < g → ¬ ((from_node m k ≡ from_node m g) × (to_node m k ≡ to_node m g))

-- ---- "A file that passed before gives the same report"

-- an element that passed document 01's 5 has document 01's corners
pub record AsBefore (m : List ℤ) (e : ℕ) : Type 0 where
  pub four : corner_count m e ≡ 4
  pub corners : (i : ℕ) → around m e i ≡ node m e i

abbrev pub PassedBefore : List ℤ → ℕ → Type 0
PassedBefore m e = FourLeftTurns m e → AsBefore m e

-- two wordings of a check give the same answer: both hold at all places, or both fail, first at the same place
pub record SameAnswer (count : ℕ) (P Q : ℕ → Type 0) : Type 0 where
  pub pass : AtAll count P ↔ AtAll count Q
  pub fail : (k : ℕ) → LowestFails count P k ↔ LowestFails count Q k

-- 5, 6 and 8 of a mesh are document 01's. All else that a report of document 01 is made of has not changed with N1: 1 to
-- 4 are of lines alone; 7, the balance rows with D, and the soils of nodes go by an element's four corners (`corner`,
-- `node`) as before, "the same sums, the repeated corner counted twice"; the side rows go by an edge's two nodes. Only
-- 47 and 44, which document 01 has not, go by the corners around an element too.
pub record SameRefusals (m : List ℤ) : Type 0 where
  pub five : SameAnswer (elements m) (LeftTurns m) (FourLeftTurns m)
  pub six : SameAnswer (elements m) (OwnSides m) (OwnSidesBefore m)
  pub eight : SameAnswer (edges m) (OuterEdge m) (OuterEdgeBefore m)

-- no element's "third and fourth nodes are the same"
abbrev pub NoTriangles : List ℤ → Type 0
NoTriangles m = (e : ℕ) → e < elements m → ¬ (corner m e 2 ≡ corner m e 3)

-- every mesh without triangles gets the same from 5, 6 and 8 as before, whether it passes them or not; a mesh that
-- passed document 01's 5 has no triangle
pub record WithoutTriangles (m : List ℤ) : Type 0 where
  pub same : NoTriangles m → SameRefusals m
  pub passed_before : AtAll (elements m) (FourLeftTurns m) → NoTriangles m
