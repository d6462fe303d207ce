-- A mesh filled from a borehole table (document 02, N8): "An element with soil 0 takes its soil from the layer where
-- bottom ≤ height < top, height being the sum of its four corner y's over four, a repeated corner counted twice".
-- What follows after the lines (rows, pairs, sums) reads the filled list.
use Rattle.std.specs.Prelude.{cond, ◌&&◌, List, map, ℕ, ◌+◌, ◌*◌, ℤ, pos, eqb, ltb, length}
use Rattle.integer.specs.Tests.{eq_z}
use Rattle.scope.specs.Columns.{at}
use Rattle.scope.specs.Layout.{numbers_before, count}
use Rattle.scope.specs.Mesh.{element_columns, mesh_groups, elements, corner, y}
use Rattle.scope.specs.Rows.{count_from, first_where}
use Rattle.scope.specs.Layers.{soil_at}

-- the height of element e in quarters: a triangle's third corner is its fourth again, and counts twice
unfoldable pub height_of : List ℤ → ℕ → ℕ
height_of m e =
    count (y m (corner m e 0)) + count (y m (corner m e 1)) + count (y m (corner m e 2)) + count (y m (corner m e 3))

-- where the soil of element e stands among the mesh's numbers; and the element whose soil is number k, or how many
-- elements there are where it is none's
unfoldable pub soil_place : List ℤ → ℕ → ℕ
soil_place m e = numbers_before (mesh_groups m) 3 + e * element_columns + 4

unfoldable pub soil_of : List ℤ → ℕ → ℕ
soil_of m k = first_where (λ e. eqb (soil_place m e) k) (elements m)

-- the mesh's numbers, where each element with soil 0 is given a soil
unfoldable pub given_number : (ℕ → ℤ) → List ℤ → ℕ → ℤ
given_number f m k = cond (ltb (soil_of m k) (elements m) && eq_z (at m k) (pos 0)) (f (soil_of m k)) (at m k)

unfoldable pub given : (ℕ → ℤ) → List ℤ → List ℤ
given f m = map (given_number f m) (count_from 0 (length m))

-- by a table: its layer's
unfoldable pub filled : List ℤ → List ℤ → List ℤ
filled t m = given (λ e. soil_at t (height_of m e)) m

-- with soil 1, which every mesh has, for each soil 0: a mesh whose lines have passed with soil 0 allowed, as heights
-- and sizes are read from it
unfoldable pub with_soils : List ℤ → List ℤ
with_soils m = given (λ e. pos 1) m
