-- Accepted parts and accepted claims (document 01, 'Verdict and report'): "A part is accepted when its own checks pass
-- (21 and 22 for a field, 31 to 33 for multipliers; mesh and claim have passed all before 21); a claim, when each part
-- that it has is."
use Rattle.std.specs.Prelude.{List, ℤ}
use Rattle.scope.specs.Claim.{claim_layout}
use Rattle.scope.specs.Statements.{LinesSound, MeshSound, HasField, HasMultipliers, RowsMet, ColumnsMet}

-- an accepted field, whatever becomes of the claim's multipliers
pub record FieldAccepted (m c : List ℤ) : Type 0 where
  pub mesh : MeshSound m
  pub lines : LinesSound (claim_layout m) c
  pub there : HasField c
  pub meets : RowsMet m c

-- accepted multipliers, whatever becomes of the claim's field
pub record MultipliersAccepted (m c : List ℤ) : Type 0 where
  pub mesh : MeshSound m
  pub lines : LinesSound (claim_layout m) c
  pub there : HasMultipliers c
  pub meet : ColumnsMet m c

-- an accepted claim
pub record ClaimAccepted (m c : List ℤ) : Type 0 where
  pub mesh : MeshSound m
  pub lines : LinesSound (claim_layout m) c
  pub field_meets : HasField c → RowsMet m c
  pub multipliers_meet : HasMultipliers c → ColumnsMet m c
