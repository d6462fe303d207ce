-- Fields in fractions on a mesh: the laws for any rows, at the mesh's rows and columns; and the bracket over the
-- denominator that a field is written over.
use mathlib.Core.List.{List}
use Prim.Native.Nat.{◌*◌}
use lib.IntN.{ℤ}
use Rattle.integer.specs.Fraction.{◌≤ᶠ◌}
use Rattle.integer.proofs.FractionLaws.{≤ᶠ_trans, ≈ᶠ→≤ᶠ, ≈ᶠ_sym}
use Rattle.scope.specs.Columns.{n, l}
use Rattle.scope.specs.Mesh.{nodes}
use Rattle.scope.specs.Rows.{rows_of}
use Rattle.scope.specs.Claim.{stress, multiplier}
use Rattle.scope.specs.Statements.{MeshSound}
use Rattle.scope.specs.Accepted.{MultipliersAccepted}
use Rattle.scope.specs.Fractions.{FractionField, FractionLaws}
use Rattle.scope.specs.Parts.{allowed, SameRows}
use Rattle.scope.specs.AcceptedFractions.{MeetsMesh, MeshFractions}
use Rattle.scope.proofs.Columns.{mesh_columns}
use Rattle.scope.proofs.Fractions.{fraction_laws}
use Rattle.scope.proofs.Parts.{nodes-named, multipliers_meet_lem, whole_bracket}

pub mesh_fractions : (m : List ℤ) → MeshSound m → MeshFractions m
unfolding allowed
mesh_fractions m sound =
    let laws : FractionLaws (3 * nodes m) (rows_of m) = fraction_laws (3 * nodes m) (rows_of m)
    (mesh_columns m (nodes-named m sound)) in
    record {
      laws = laws;
      accepted_field = λ c h field. laws.whole_numbers (n c) h (stress m c) (l c) field.meets;
      at_most = λ k f mults meets. laws.at_most f (multiplier m k) meets (multipliers_meet_lem m k mults)
          mults.meet.live;
    }

-- against accepted multipliers for the same rows
pub fraction_at_most : (m d k : List ℤ) → SameRows m d → MultipliersAccepted d k → (f : FractionField) → MeetsMesh m f
    → f.load.value ≤ᶠ allowed d k
unfolding allowed
fraction_at_most m d k same w f met =
    ≤ᶠ_trans f.load.proper (record { positive = met.written.above_0 }) (record { positive = w.meet.live })
    (≈ᶠ→≤ᶠ (≈ᶠ_sym met.written.load))
    (record { cross-≤ = (whole_bracket m d k same w met.numerators met.numerator met.denominator met.meets).at_most })
