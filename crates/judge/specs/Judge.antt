-- The verdict on the bytes of a mesh file, a table file and a claim file (document 01, 'What the product does';
-- document 02, N8: "Every call that takes a mesh takes the table too"): the verdict on their numbers. An empty file is
-- no table.
use Rattle.std.specs.Prelude.{List, ℕ, ℤ}
use Rattle.scope.specs.Cases.Outcome.{Outcome}
use Rattle.scope.specs.Cases.Verdict.{Verdict}
use Rattle.scope.specs.Mesh.{mesh_layout}
use Rattle.scope.specs.Claim.{claim_layout}
use Rattle.scope.specs.Table.{mesh_read, tabled_check}
use Rattle.scope.specs.TableVerdict.{tabled_verdict}
use Rattle.reader.specs.File.{numbers_of, table_numbers_of}

-- the numbers of a mesh file, in columns of w bytes
unfoldable pub mesh_numbers : ℕ → List ℕ → List ℤ
mesh_numbers w mesh = numbers_of w mesh_layout mesh

-- the mesh as all after its lines reads it: filled from the table, where there is one
unfoldable pub mesh_from : ℕ → List ℕ → List ℕ → List ℤ
mesh_from w mesh table = mesh_read (table_numbers_of w table) (mesh_numbers w mesh)

-- what the mesh and its table are refused for, or that they pass
unfoldable pub mesh_outcome : ℕ → List ℕ → List ℕ → Outcome
mesh_outcome w mesh table = tabled_check (table_numbers_of w table) (mesh_numbers w mesh)

-- the numbers of a claim file on the mesh with the numbers m
unfoldable pub claim_numbers : ℕ → List ℤ → List ℕ → List ℤ
claim_numbers w m claim = numbers_of w (claim_layout m) claim

-- the verdict on three files with columns of w bytes; the claim is read against the filled mesh
unfoldable pub files_verdict : ℕ → List ℕ → List ℕ → List ℕ → Verdict
files_verdict w mesh table claim =
    tabled_verdict (table_numbers_of w table) (mesh_numbers w mesh) (claim_numbers w (mesh_from w mesh table) claim)
