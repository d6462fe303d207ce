-- The layers of a borehole table (document 02, N8, "Soils from a borehole table"): what the table's numbers are, which
-- layer has a height and the soil there, and the refusals 46 and 45 as phases.
-- Layers are counted from 0 here; heights are counted in quarters, from 0.
use Rattle.std.specs.Prelude.{Bool, not, ◌&&◌, List, [], ◌∷◌, ℕ, suc, ◌+◌, ◌-◌, ◌*◌, ◌/◌, ◌≤◌, ◌<◌, ℤ, pos, ◌*ℤ◌}
use Rattle.std.specs.Prelude.{◌≤ℤ◌, ◌<ℤ◌, eqb, leb, length}
use Rattle.std.specs.Int.Signed.{le_z, lt_z}
use Rattle.scope.specs.declared.Place.{Place}
use Rattle.scope.specs.declared.Place.TheVariants.{Line, Height}
use Rattle.scope.specs.Checks.{some_below, all_below}
use Rattle.scope.specs.Phases.{Phase, phase}
use Rattle.scope.specs.Columns.{at}
use Rattle.scope.specs.Layout.{count}
use Rattle.scope.specs.Mesh.{nodes, y}
use Rattle.scope.specs.Rows.{first_where}
use Rattle.scope.specs.Mesh.{most_coordinate}

-- ---- what the numbers are

-- "1 to 32 lines in the same columns"
abbrev pub most_layers : ℕ
most_layers = 32

abbrev pub layer_columns : ℕ
layer_columns = 3

-- the largest bottom or top in size
abbrev pub most_level : ℕ
most_level = 2000

unfoldable pub layers : List ℤ → ℕ
layers t = length t / layer_columns

-- layer i: "bottom, top (both -1,000 to 2,000), soil"
unfoldable pub bottom : List ℤ → ℕ → ℤ
bottom t i = at t (i * layer_columns)

unfoldable pub top : List ℤ → ℕ → ℤ
top t i = at t (i * layer_columns + 1)

unfoldable pub soil : List ℤ → ℕ → ℤ
soil t i = at t (i * layer_columns + 2)

-- "its lines are numbered from 1,001"
abbrev pub layer_line : ℕ → Place
layer_line i = Line (1001 + i)

-- ---- "from the lowest node to the highest"

-- some node stands at the height h; none stands above it
unfoldable pub node_at : List ℤ → ℕ → Bool
node_at m h = some_below (λ v. eqb (count (y m v)) h) (nodes m)

unfoldable pub none_above : List ℤ → ℕ → Bool
none_above m h = all_below (λ v. leb (count (y m v)) h) (nodes m)

-- the y of the lowest node and of the highest, over all nodes: the first height with a node, and the first with none
-- above it
unfoldable pub lowest : List ℤ → ℕ
lowest m = first_where (node_at m) most_coordinate

unfoldable pub highest : List ℤ → ℕ
highest m = first_where (none_above m) most_coordinate

-- how many quarter units there are from lo to hi, both ends counted: 4·lo + k for k from 0
abbrev pub quarters : ℕ → ℕ → ℕ
quarters lo hi = suc (4 * hi) - 4 * lo

-- ---- which layer has a height

-- "bottom ≤ height < top", in quarters
abbrev pub Has : List ℤ → ℕ → ℕ → Type 0
Has t q i = ((pos 4 *ℤ bottom t i) ≤ℤ pos q) × (pos q <ℤ (pos 4 *ℤ top t i))

unfoldable pub has : List ℤ → ℕ → ℕ → Bool
has t q i = le_z (pos 4 *ℤ bottom t i) (pos q) && lt_z (pos q) (pos 4 *ℤ top t i)

-- the soil of the first layer that has it
unfoldable pub soil_at : List ℤ → ℕ → ℤ
soil_at t q = soil t (first_where (has t q) (layers t))

-- ---- 46, "with the first line whose top isn't above its bottom, else the first that shares such a height with an
-- earlier line"

abbrev pub TopAbove : List ℤ → ℕ → Type 0
TopAbove t i = bottom t i <ℤ top t i

unfoldable pub top_above : List ℤ → ℕ → Bool
top_above t i = lt_z (bottom t i) (top t i)

abbrev pub tops_phase : List ℤ → Phase
tops_phase t = phase 46 (layers t) (TopAbove t) (top_above t) layer_line

-- layer i has no height from lo to hi that an earlier one has
abbrev pub Apart : List ℤ → ℕ → ℕ → ℕ → Type 0
Apart t lo hi i = (q : ℕ) → 4 * lo ≤ q → q ≤ 4 * hi → Has t q i → (j : ℕ) → j < i → ¬ Has t q j

unfoldable pub apart : List ℤ → ℕ → ℕ → ℕ → Bool
apart t lo hi i = not (some_below (λ k. has t (4 * lo + k) i && some_below (has t (4 * lo + k)) i) (quarters lo hi))

abbrev pub layers_apart_phase : List ℤ → ℕ → ℕ → Phase
layers_apart_phase t lo hi = phase 46 (layers t) (Apart t lo hi) (apart t lo hi) layer_line

-- ---- 45, "with the lowest such height in no layer, counted in quarters"

abbrev pub InLayer : List ℤ → ℕ → Type 0
InLayer t q = (i : ℕ) × (i < layers t) × Has t q i

unfoldable pub in_layer : List ℤ → ℕ → Bool
in_layer t q = some_below (has t q) (layers t)

abbrev pub gaps_phase : List ℤ → ℕ → ℕ → Phase
gaps_phase t lo hi =
    phase 45 (quarters lo hi) (λ k. InLayer t (4 * lo + k)) (λ k. in_layer t (4 * lo + k)) (λ k. Height (4 * lo + k))

-- "Refused, right after the table's lines: 46 .. ; then 45"
abbrev pub layer_phases : List ℤ → List ℤ → List Phase
layer_phases t m =
    tops_phase t
    ∷ layers_apart_phase t (lowest m) (highest m)
    ∷ gaps_phase t (lowest m) (highest m)
    ∷ []
