-- Accepted multipliers in printed terms: a sound mesh has a listed number of sides, and for these the columns are the
-- printed ones.
use mathlib.Core.Path.{ap₂}
use mathlib.Core.List.{List}
use lib.IntN.{ℤ}
use Rattle.integer.specs.Fraction.{◌over◌}
use Rattle.scope.specs.Mesh.{sides}
use Rattle.scope.specs.Polygon.{SidesListed}
use Rattle.scope.specs.Claim.{multiplier}
use Rattle.scope.specs.Statements.{MeshSound}
use Rattle.scope.specs.Parts.{allowed}
use Rattle.scope.specs.PrintedColumns.{ColumnsPrinted}
use Rattle.scope.specs.AcceptedMultipliers.{MultipliersAsPrinted}
use Rattle.scope.proofs.NumberRanges.{mesh_facts}
use Rattle.scope.proofs.PrintedColumns.{columns-printed, multipliers_printed}

listed : (m : List ℤ) → MeshSound m → SidesListed (sides m)
listed m s = (mesh_facts m s.lines).counts.sides_listed

pub sums_printed : (m c : List ℤ) → MeshSound m → ColumnsPrinted m (multiplier m c)
sums_printed m c s = columns-printed m (listed m s) (multiplier m c)

pub multipliers_as_printed : (m c : List ℤ) → MultipliersAsPrinted m c
unfolding allowed
multipliers_as_printed m c = record {
  exactly = (
    λ a. (a.mesh, a.lines, a.there, (multipliers_printed m (listed m a.mesh) (multiplier m c)).0 a.meet),
    λ p. record {
      mesh = p.0;
      lines = p.1;
      there = p.2;
      meet =
          (multipliers_printed m (listed m p.0) (multiplier m c)).1 p.3;
    },
  );
  limit = λ a. let sums = sums_printed m c a.mesh in ap₂ ◌over◌ sums.limit sums.live;
}
