-- What the strength rows of a pair whose soil is by direction hand around (document 02, N14).
use Rattle.std.specs.Prelude.{◌≡◌, List, ℕ, ◌-ℤ◌, ℤ, length}
use Rattle.bedded.specs.declared.plane_rows.Planes.{Planes}
use Rattle.bedded.specs.declared.plane_rows.StressedPlanes.{StressedPlanes}
use Rattle.bedded.specs.declared.planes.Stresses.{Stresses}
use Rattle.bedded.specs.PlaneContracts.{BedIs, normal_x, normal_y, slack_at}
use Rattle.scope.specs.Mesh.{sides}
use Rattle.scope.specs.Polygon.{polygon_of}
use Rattle.scope.specs.Rows.{pair_at, sx, sy, t}
use Rattle.scope.specs.RowNumbers.{corner_at, direction_row_at}
use Rattle.scope.specs.Sums.{left_side, right_side}

-- the soil of pair a, and the corners of its mesh's polygon
pub record PlanesAre (planes : Planes) (m : List ℤ) (a : ℕ) : Type 0 where
  pub bed : BedIs planes.bed m (pair_at m a).soil (polygon_of (sides m)).radius
  pub size : length planes.corners.now ≡ sides m
  pub x : (j : ℕ) → normal_x planes.corners.now j ≡ (corner_at (polygon_of (sides m)) j).px
  pub y : (j : ℕ) → normal_y planes.corners.now j ≡ (corner_at (polygon_of (sides m)) j).py

-- the stresses of node v, of stresses s by column, and n, which is the scale
pub record StressesAre (d : Stresses) (s : ℕ → ℤ) (v : ℕ) (scale : ℤ) : Type 0 where
  pub sx : d.sx ≡ s (sx v)
  pub sy : d.sy ≡ s (sy v)
  pub t : d.t ≡ s (t v)
  pub n : d.n ≡ scale

-- the same at the stresses s over n: the slacks are those of its rows, in their order
pub record PlaneState (planes : StressedPlanes) (m : List ℤ) (s : ℕ → ℤ) (n : ℤ) (a : ℕ) : Type 0 where
  pub size : length planes.corners.now ≡ sides m
  pub each : (l : ℤ) (k : ℕ)
      → slack_at planes.numbers planes.corners.now k
      ≡ right_side n (direction_row_at m (pair_at m a) k) -ℤ left_side s l (direction_row_at m (pair_at m a) k)
