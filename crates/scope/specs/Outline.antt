-- The elements of a mesh as polygons of the plane (document 02, N10): `plane` says which points are inside.
use Rattle.std.specs.Prelude.{List, map, ℕ, ℤ}
use Rattle.plane.specs.Points.{Corner}
use Rattle.scope.specs.Mesh.{x, y, corner_count, around}
use Rattle.scope.specs.Rows.{count_from}

-- where node v is
abbrev pub node_point : List ℤ → ℕ → Corner
node_point m v = record { x = x m v; y = y m v }

-- the corners of element e in order, three of a triangle
unfoldable pub outline : List ℤ → ℕ → List Corner
outline m e = map (λ i. node_point m (around m e i)) (count_from 0 (corner_count m e))
