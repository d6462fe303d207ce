-- What the functions of a run say of the next claim.
use Rattle.std.specs.Prelude.{List, ℤ}
use Rattle.mesh.specs.declared.pairs.ClaimSizes.{ClaimSizes}
use Rattle.mesh.specs.ClaimContracts.{Counted}

-- the sizes are those of some mesh
pub record SomeMesh (s : ClaimSizes) : Type 0 where
  pub mesh : List ℤ
  pub counted : Counted mesh s
