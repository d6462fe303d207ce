-- What a contract says of the rows of a mesh with their multipliers: that the multipliers are a claim's.
use Rattle.std.specs.Prelude.{◌≡◌, true, List, ℤ}
use Rattle.multipliers.specs.declared.weighted_rows.WeightedRows.{WeightedRows}
use Rattle.scope.specs.Claim.{multiplier}
use Rattle.scope.specs.Columns.{at, has_multipliers}

-- r are the rows of the mesh m with the multipliers of the claim c, which has them
pub record RowsOf (r : WeightedRows) (m c : List ℤ) : Type 0 where
  pub there : has_multipliers c ≡ true
  pub its_mesh : r.mesh.mesh.numbers.now ≡ m
  pub its_multipliers : at r.multipliers.now ≡ multiplier m c
