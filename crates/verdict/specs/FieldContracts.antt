-- What the check of an equality row requires of a field's numbers, and what that of all rows at a field hands around.
use Rattle.std.specs.Prelude.{Bool, List, ℕ, ◌+◌, ◌*◌, ◌≤◌, ℤ, length}
use Rattle.integer.specs.Bounds.{Within, AllWithin}
use Rattle.criterion.specs.declared.fields.Field.{Field}
use Rattle.scope.specs.Checks.{all_below}
use Rattle.scope.specs.Claim.{most_scale, most_load, most_stress}
use Rattle.scope.specs.Columns.{at}
use Rattle.scope.specs.Mesh.{nodes}
use Rattle.scope.specs.Rows.{equality_rows}
use Rattle.scope.specs.Sums.{row_holds}
use Rattle.scope.specs.Tests.{row_at}

-- the field x of a mesh with l and n, by the size of its numbers
pub record FieldFits (m x : List ℤ) (l n : ℤ) : Type 0 where
  pub long : 3 * nodes m ≤ length x
  pub stresses : AllWithin most_stress x
  pub load : Within most_load l
  pub scale : Within most_scale n

-- equality row k of its mesh holds at the field, or asks nothing
abbrev pub passes : Field → ℕ → Bool
passes f k = row_holds (at f.stresses.now) f.l f.n (row_at (equality_rows f.mesh.mesh.numbers.now) k)

-- so do n rows from row k on
abbrev pub pass_from : Field → ℕ → ℕ → Bool
pass_from f k n = all_below (λ i. passes f (k + i)) n
