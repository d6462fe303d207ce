-- What a contract says of a claim's field: that it is the claim's.
use Rattle.std.specs.Prelude.{◌≡◌, true, List, ℤ}
use Rattle.criterion.specs.declared.fields.Field.{Field}
use Rattle.scope.specs.Columns.{at, has_field, n, l}
use Rattle.scope.specs.Claim.{stress}

-- r is the field of the claim c on the mesh m, which has one
pub record FieldOf (r : Field) (m c : List ℤ) : Type 0 where
  pub there : has_field c ≡ true
  pub its_mesh : r.mesh.mesh.numbers.now ≡ m
  pub its_stresses : at r.stresses.now ≡ stress m c
  pub its_load : r.l ≡ l c
  pub its_scale : r.n ≡ n c
