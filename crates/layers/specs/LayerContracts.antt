-- What contracts say of a table of layers that is handed around, of two layers that meet, and of a mesh that is filled.
use Rattle.std.specs.Prelude.{Bool, cond, ◌&&◌, List, ℕ, ◌≤◌, ◌<◌, ℤ, pos, ltb, length, set}
use Rattle.std.specs.Int.Signed.{le_z, lt_z}
use Rattle.integer.specs.Bounds.{AllWithin, Is}
use Rattle.integer.specs.Tests.{eq_z}
use Rattle.scope.specs.Columns.{at}
use Rattle.scope.specs.Mesh.{soils}
use Rattle.scope.specs.NumberRanges.{Between}
use Rattle.scope.specs.Layers.{most_layers, most_level, layers, bottom, top, soil, soil_at, lowest, highest}
use Rattle.scope.specs.Filled.{height_of, with_soils}
use Rattle.scope.specs.LayerRefusals.{TableSound}
use Rattle.mesh.specs.declared.sizes.Sizes.{Sizes}
use Rattle.mesh.specs.MeshContracts.{Sized}
use Rattle.layers.specs.declared.table.Layer.{Layer}

-- a table whose lines have passed
pub record TableRead (t : List ℤ) : Type 0 where
  pub few : layers t ≤ most_layers
  pub limits : AllWithin most_level t

-- the code's layer is layer i of the table t, which is there
pub record IsLayer (l : Layer) (t : List ℤ) (i : ℕ) : Type 0 where
  pub there : i < layers t
  pub bottom : Is l.bottom (bottom t i) most_level
  pub top : Is l.top (top t i) most_level
  pub soil : Is l.soil (soil t i) most_level

-- ---- two layers

unfoldable pub higher : ℤ → ℤ → ℤ
higher a b = cond (lt_z a b) b a

-- the whole height from which layers i and j are both there, from lo on
unfoldable pub meeting : List ℤ → ℕ → ℕ → ℕ → ℤ
meeting t lo i j = higher (higher (bottom t i) (bottom t j)) (pos lo)

-- it is not above hi, and neither layer ends at or below it
unfoldable pub meet : List ℤ → ℕ → ℕ → ℕ → ℕ → Bool
meet t lo hi i j =
    le_z (meeting t lo i j) (pos hi) && lt_z (meeting t lo i j) (top t i) && lt_z (meeting t lo i j) (top t j)

-- ---- filling

-- the soil of each element below e by its layer, and else soil 1
abbrev pub soils_to : List ℤ → List ℤ → ℕ → ℕ → ℤ
soils_to t m e d = cond (ltb d e) (soil_at t (height_of m d)) (pos 1)

-- soil 1 for each element below e, and else soil 0
abbrev pub ones_to : ℕ → ℕ → ℤ
ones_to e d = cond (ltb d e) (pos 1) (pos 0)

-- number k becomes 1 where it is there and 0
unfoldable pub named : List ℤ → ℕ → List ℤ
named ns k = cond (ltb k (length ns) && eq_z (at ns k) (pos 0)) (set ns k (pos 1)) ns

-- a mesh whose lines have passed with soil 1 for each soil 0, and a table that has passed for it
pub record Fillable (t m : List ℤ) (s : Sizes) : Type 0 where
  pub sized : Sized (with_soils m) s
  pub named : (i : ℕ) → i < layers t → Between (pos 1) (pos (soils m)) (soil t i)
  pub sound : TableSound t (lowest m) (highest m)
