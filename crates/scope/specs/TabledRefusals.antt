-- Document 02's table of refusals of a mesh with a borehole table and a claim (N8), row by row, as `RefusalTable` has
-- that of document 01: a number, a place, and what is so where they are returned, all before it in the order among it.
-- "Every call that takes a mesh takes the table too". No list of phases and nothing of `Table` is read here; the lines
-- of the table are said by hand. Lines are counted from 0 here.
use Rattle.std.specs.Prelude.{◌≡◌, ◌≢◌, true, List, [], ℕ, suc, ◌+◌, ◌*◌, ◌≤◌, ◌<◌, ℤ, pos, neg_ℤ, length}
use Rattle.scope.specs.declared.Place.{Place}
use Rattle.scope.specs.declared.Place.TheVariants.{Line}
use Rattle.scope.specs.Columns.{right_angle, naming, at_most_where, at}
use Rattle.scope.specs.Mesh.{layout_with, soils}
use Rattle.scope.specs.Statements.{LinesSound}
use Rattle.scope.specs.Refusals.{CountFails, LimitFails, RuleFails}
use Rattle.scope.specs.RefusalTable.{MeshRefusalRow, RefusalRow}
use Rattle.scope.specs.NumberRanges.{Between}
use Rattle.scope.specs.LayerRefusals.{NodeHeights, LayerRefusalRow, TableSound, Named}
use Rattle.scope.specs.Filled.{filled}

-- ---- the lines of the mesh

-- there is a table ("an empty one is no table"), and the mesh's lines pass, where an element's soil may be 0
-- (`LinesWithTable`)
pub record MeshLinesPass (t m : List ℤ) : Type 0 where
  pub table : t ≢ []
  pub lines : LinesSound (layout_with true) m

-- ---- the lines of the table: "bottom, top (both -1,000 to 2,000), soil; 1 to 32 lines"

-- a number of line i is there
abbrev pub Begun : List ℤ → ℕ → Type 0
Begun t i = 3 * i < length t

-- the line is none after the 32nd, and all its numbers are there
abbrev pub OwnForm : List ℤ → ℕ → Type 0
OwnForm t i = (i < 32) × (3 * i + 3 ≤ length t)

-- a bottom or a top
abbrev pub Level : ℤ → Type 0
Level z = Between (neg_ℤ (pos 1000)) (pos 2000) z

abbrev pub OwnLimits : List ℤ → ℕ → Type 0
OwnLimits t i = Level (at t (3 * i)) × Level (at t (3 * i + 1))

-- a soil of the mesh, from 1 on
abbrev pub OwnSoil : List ℤ → List ℤ → ℕ → Type 0
OwnSoil t m i = Named (soils m) (at t (3 * i + 2))

pub record OwnLine (t m : List ℤ) (i : ℕ) : Type 0 where
  pub form : OwnForm t i
  pub limits : OwnLimits t i
  pub soil : OwnSoil t m i

-- all lines before line i pass; all that have begun do
abbrev pub OwnTo : List ℤ → List ℤ → ℕ → Type 0
OwnTo t m i = (j : ℕ) → j < i → OwnLine t m j

abbrev pub OwnLines : List ℤ → List ℤ → Type 0
OwnLines t m = (i : ℕ) → Begun t i → OwnLine t m i

-- the first line that does not, and which of the three it fails
pub record OwnFormFails (t m : List ℤ) (i : ℕ) : Type 0 where
  pub mesh : MeshLinesPass t m
  pub before : OwnTo t m i
  pub begun : Begun t i
  pub fails : ¬ OwnForm t i

pub record OwnLimitsFail (t m : List ℤ) (i : ℕ) : Type 0 where
  pub mesh : MeshLinesPass t m
  pub before : OwnTo t m i
  pub form : OwnForm t i
  pub fails : ¬ OwnLimits t i

pub record OwnSoilFails (t m : List ℤ) (i : ℕ) : Type 0 where
  pub mesh : MeshLinesPass t m
  pub before : OwnTo t m i
  pub form : OwnForm t i
  pub limits : OwnLimits t i
  pub fails : ¬ OwnSoil t m i

-- ---- the layers

-- all lines pass, and the lowest node is lo high and the highest hi
pub record LinesPass (t m : List ℤ) (lo hi : ℕ) : Type 0 where
  pub mesh : MeshLinesPass t m
  pub own : OwnLines t m
  pub heights : NodeHeights m lo hi

-- "Refused, right after the table's lines: 46 .. ; then 45", with all before them
pub record LayersRefused (t m : List ℤ) (k : ℕ) (p : Place) : Type 0 where
  pub lowest : ℕ
  pub highest : ℕ
  pub before : LinesPass t m lowest highest
  pub row : LayerRefusalRow t lowest highest k p

-- all before 5 passes: "The table has no gap and no overlap at any quarter unit from the lowest node to the highest"
pub record TableLaid (t m : List ℤ) : Type 0 where
  pub lowest : ℕ
  pub highest : ℕ
  pub before : LinesPass t m lowest highest
  pub sound : TableSound t lowest highest

-- ---- the rows

-- those before 5, where there is a table
pub data EarlyRefusalRow (t m : List ℤ) : ℕ → Place → Type 0 where
  -- "mesh lines front to back, in each line 1, 2, 3, 4"
  mesh_one : (k : ℕ) → t ≢ [] → CountFails (layout_with true) m k → EarlyRefusalRow t m 1 (Line (suc k))
  mesh_two : (k : ℕ) → t ≢ [] → LimitFails (layout_with true) m k → EarlyRefusalRow t m 2 (Line (suc k))
  mesh_three : (k : ℕ) → t ≢ [] → RuleFails (layout_with true) m right_angle k → EarlyRefusalRow t m 3 (Line (suc k))
  mesh_four : (cs : List (ℕ × ℕ × ℕ)) (k : ℕ) → t ≢ [] → RuleFails (layout_with true) m (naming cs) k
      → EarlyRefusalRow t m 4 (Line (suc k))
  -- 2 too: with 108 sides "at most 40 nodes" (N9)
  mesh_two_with : (a n d z k : ℕ) → t ≢ [] → RuleFails (layout_with true) m (at_most_where a n d z) k
      → EarlyRefusalRow t m 2 (Line (suc k))
  -- "The table's own form, limits and soil numbers are judged as a mesh's, with 1, 2 and 4, after the mesh lines and
  -- before 5; its lines are numbered from 1,001, above any of the mesh's, and a 33rd gets 1"
  own_one : (i : ℕ) → OwnFormFails t m i → EarlyRefusalRow t m 1 (Line (1001 + i))
  own_two : (i : ℕ) → OwnLimitsFail t m i → EarlyRefusalRow t m 2 (Line (1001 + i))
  own_four : (i : ℕ) → OwnSoilFails t m i → EarlyRefusalRow t m 4 (Line (1001 + i))
  -- 46 and 45
  of_layers : {k : ℕ} {p : Place} → LayersRefused t m k p → EarlyRefusalRow t m k p

-- the rows of a table and a mesh: "Without a table, soil 0 still gets 4"; and 5 and all after it are those of the mesh
-- that the table fills, whose lines pass (`FilledMesh`)
pub data TabledMeshRefusalRow (t m : List ℤ) : ℕ → Place → Type 0 where
  mesh_alone : {k : ℕ} {p : Place} → t ≡ [] → MeshRefusalRow m k p → TabledMeshRefusalRow t m k p
  mesh_early : {k : ℕ} {p : Place} → EarlyRefusalRow t m k p → TabledMeshRefusalRow t m k p
  mesh_filled : {k : ℕ} {p : Place} → TableLaid t m → MeshRefusalRow (filled t m) k p → TabledMeshRefusalRow t m k p

-- the rows of a table, a mesh and a claim
pub data TabledRefusalRow (t m c : List ℤ) : ℕ → Place → Type 0 where
  of_alone : {k : ℕ} {p : Place} → t ≡ [] → RefusalRow m c k p → TabledRefusalRow t m c k p
  of_early : {k : ℕ} {p : Place} → EarlyRefusalRow t m k p → TabledRefusalRow t m c k p
  of_filled : {k : ℕ} {p : Place} → TableLaid t m → RefusalRow (filled t m) c k p → TabledRefusalRow t m c k p
