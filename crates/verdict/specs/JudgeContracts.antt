-- What contracts say of a mesh that is judged, with a table or without.
use Rattle.std.specs.Prelude.{◌≡◌, true, List, ℤ}
use Rattle.scope.specs.Cases.Outcome.{Passed}
use Rattle.scope.specs.Mesh.{layout_with}
use Rattle.scope.specs.Table.{has_table}
use Rattle.scope.specs.Verdict.{lines_check, mesh_check}
use Rattle.mesh.specs.declared.pairs.Pair.{Pair}
use Rattle.mesh.specs.PairContracts.{PairsAre}

-- a mesh whose lines have passed with soil 0 allowed, and a table
pub record LinesPassed (t m : List ℤ) : Type 0 where
  pub tabled : has_table t ≡ true
  pub lines : lines_check (layout_with true) m ≡ Passed

-- a mesh that passes, with its pairs of a node and a soil
pub record SoundMesh (m : List ℤ) (t : List Pair) : Type 0 where
  pub passes : mesh_check m ≡ Passed
  pub paired : PairsAre m t
