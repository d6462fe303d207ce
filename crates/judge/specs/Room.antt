-- Room worked out beforehand (document 02, N7): "The buyer lends the buffers and wants their sizes from the mesh
-- alone."
use Rattle.std.specs.Prelude.{List, [], ◌∷◌, ℕ, ◌*◌, ℤ, pos, length}
use Rattle.scope.specs.Cases.Outcome.{Outcome}
use Rattle.scope.specs.Cases.Outcome.{Passed, Refused}
use Rattle.scope.specs.Answer.{place_number}
use Rattle.scope.specs.Mesh.{nodes}
use Rattle.scope.specs.Rows.{balance_rows, side_rows, jump_rows, strength_rows}
use Rattle.reader.specs.File.{file_width}
use Rattle.judge.specs.Judge.{mesh_from, mesh_outcome}
use Rattle.judge.specs.declared.room.MeshSizes.{MeshSizes}
use Rattle.judge.specs.ClaimBytes.{claim_bytes}

-- the header of a claim as far as it decides the length: "field there (0 or 1), multipliers there (0 or 1)"
abbrev pub with_field : List ℤ
with_field = pos 1 ∷ pos 0 ∷ []

abbrev pub with_multipliers : List ℤ
with_multipliers = pos 0 ∷ pos 1 ∷ []

abbrev pub with_both : List ℤ
with_both = pos 1 ∷ pos 1 ∷ []

-- "A refused mesh gives its refusal and no sizes"
abbrev pub no_sizes : ℕ → ℕ → MeshSizes
no_sizes k place = record {
  number = k;
  place = place;
  balance_rows = 0;
  side_rows = 0;
  jump_rows = 0;
  strength_rows = 0;
  columns = 0;
  field_bytes = 0;
  multipliers_bytes = 0;
  both_bytes = 0;
}

-- "For an accepted mesh, give the rows of each kind (balance, side, jump, strength; unfixed ones counted), the columns
-- (three a node), and the bytes of a claim with a field, with multipliers and with both"
unfoldable pub sizes_for : Outcome → List ℤ → MeshSizes
sizes_for Passed m = record {
  number = 0;
  place = 0;
  balance_rows = length (balance_rows m);
  side_rows = length (side_rows m);
  jump_rows = length (jump_rows m);
  strength_rows = length (strength_rows m);
  columns = 3 * nodes m;
  field_bytes = claim_bytes m with_field;
  multipliers_bytes = claim_bytes m with_multipliers;
  both_bytes = claim_bytes m with_both;
}
sizes_for (Refused k p) m = no_sizes k (place_number p)

-- the sizes of a mesh file and its table
unfoldable pub mesh_sizes : List ℕ → List ℕ → MeshSizes
mesh_sizes mesh table = sizes_for (mesh_outcome file_width mesh table) (mesh_from file_width mesh table)
