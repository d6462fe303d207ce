-- Fields in fractions on a mesh (document 01, "Loads compared"): what holds of them beside accepted fields and
-- accepted multipliers.
use Rattle.std.specs.Prelude.{List, ◌*◌, ℤ, pos, ◌<ℤ◌}
use Rattle.integer.specs.Fraction.{◌≤ᶠ◌}
use Rattle.scope.specs.Columns.{n, l}
use Rattle.scope.specs.Mesh.{nodes}
use Rattle.scope.specs.Rows.{rows_of}
use Rattle.scope.specs.Claim.{stress}
use Rattle.scope.specs.Accepted.{FieldAccepted, MultipliersAccepted}
use Rattle.scope.specs.Fractions.{FractionField, FractionsMeet, field_over, FractionLaws}
use Rattle.scope.specs.Parts.{allowed}

-- a field in fractions meets every row of the mesh m
abbrev pub MeetsMesh : List ℤ → FractionField → Type 0
MeetsMesh m f = FractionsMeet (3 * nodes m) f (rows_of m)

pub record MeshFractions (m : List ℤ) : Type 0 where
  -- each can be written over one denominator, and whether it meets the rows is the same for every one
  pub laws : FractionLaws (3 * nodes m) (rows_of m)
  -- an accepted field over its n is one that meets the rows
  pub accepted_field : (c : List ℤ) (h : pos 0 <ℤ n c) → FieldAccepted m c
      → MeetsMesh m (field_over (n c) h (stress m c) (l c))
  -- none that meets the rows carries more than accepted multipliers allow
  pub at_most : (k : List ℤ) (f : FractionField) → MultipliersAccepted m k → MeetsMesh m f
      → f.load.value ≤ᶠ allowed m k
