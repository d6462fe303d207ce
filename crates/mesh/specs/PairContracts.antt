-- What contracts say of a mesh's pairs of a node and a soil (document 02, N2).
use Rattle.std.specs.Prelude.{◌≡◌, List, map, ℤ}
use Rattle.scope.specs.Rows as R
use Rattle.scope.specs.Rows.{strength_pairs}
use Rattle.mesh.specs.declared.pairs.Pair.{Pair}

-- the code's pair, as the definitions speak of it
abbrev pub pair_of : Pair → R.Pair
pair_of p = record { at = p.node; soil = p.soil }

-- what lies behind a mesh's pairs
abbrev pub no_pair : Pair
no_pair = record { node = 0; soil = 0 }

-- a list has the pairs of the mesh m, in their order
abbrev pub PairsAre : List ℤ → List Pair → Type 0
PairsAre m t = map pair_of t ≡ strength_pairs m
