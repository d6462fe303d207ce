-- The verdict on a mesh with a borehole table and a claim (document 02, N8), and when each refusal comes: "Every call
-- that takes a mesh takes the table too"; an empty list is no table. A claim is judged against the filled mesh.
use Rattle.std.specs.Prelude.{◌≡◌, true, List, ◌++◌, ℕ, ℤ}
use Rattle.scope.specs.declared.Place.{Place}
use Rattle.scope.specs.Cases.Verdict.{Verdict}
use Rattle.scope.specs.Mesh.{layout_with}
use Rattle.scope.specs.Phases.{RefusedBy}
use Rattle.scope.specs.Statements.{LinesSound}
use Rattle.scope.specs.Refusals.{claim_phases}
use Rattle.scope.specs.Verdict.{answer, claim_verdict}
use Rattle.scope.specs.Layers.{lowest, highest}
use Rattle.scope.specs.LayerRefusals.{TableSound}
use Rattle.scope.specs.Table.{table_layout, has_table, mesh_read, tabled_phases, tabled_check}

unfoldable pub tabled_verdict : List ℤ → List ℤ → List ℤ → Verdict
tabled_verdict t m c = answer (tabled_check t m) (claim_verdict (mesh_read t m) c)

-- a table t, a mesh m and a claim c are refused with the number k and the place p
pub record TabledRefusal (t m c : List ℤ) (k : ℕ) (p : Place) : Type 0 where
  pub by : RefusedBy (tabled_phases t m ++ claim_phases (mesh_read t m) c) k p

-- all before 5 passes: the lines of the mesh, where soil 0 is allowed, the lines of the table, and 46 and 45
pub record TablePasses (t m : List ℤ) : Type 0 where
  pub mesh_lines : LinesSound (layout_with true) m
  pub lines : LinesSound (table_layout m) t
  pub sound : TableSound t (lowest m) (highest m)

-- of a table that is there
abbrev pub TableFits : List ℤ → List ℤ → Type 0
TableFits t m = has_table t ≡ true → TablePasses t m
