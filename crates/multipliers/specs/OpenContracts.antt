-- What the count of open rows says of one row of a pair of a node and a soil: "multiplier above 0 and left side below
-- right".
use Rattle.std.specs.Prelude.{Bool, ◌&&◌, List, ℕ, ℤ, pos}
use Rattle.std.specs.Int.Signed.{lt_z}
use Rattle.bedded.specs.declared.plane_rows.StressedPlanes.{StressedPlanes}
use Rattle.bedded.specs.PlaneContracts.{slack_at}
use Rattle.criterion.specs.declared.steps.Step.{Step}
use Rattle.criterion.specs.declared.strength_numbers.PairNumbers.{PairNumbers}
use Rattle.criterion.specs.StrengthContracts.{side_slack}
use Rattle.scope.specs.Columns.{at}
use Rattle.scope.specs.Rows.{rows_of}
use Rattle.scope.specs.Sums.{is_open}
use Rattle.scope.specs.Tests.{row_at}

-- the side s with the multiplier w, from the numbers d of the pair
abbrev pub side_open : PairNumbers → Step → ℤ → Bool
side_open d s w = lt_z (pos 0) w && lt_z (pos 0) (side_slack d s)

-- row k of planes at a node's stresses, with the multiplier w
abbrev pub plane_open : StressedPlanes → ℕ → ℤ → Bool
plane_open planes k w = lt_z (pos 0) w && lt_z (pos 0) (slack_at planes.numbers planes.corners.now k)

-- row k of all rows of the mesh m, in the field s with l and n and with the multipliers y
abbrev pub open_test : List ℤ → (ℕ → ℤ) → ℤ → ℤ → List ℤ → ℕ → Bool
open_test m s l n y k = is_open s l n (at y k, row_at (rows_of m) k)
