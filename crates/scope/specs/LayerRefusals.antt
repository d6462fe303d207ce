-- What 46 and 45 say, and what a filled mesh is, in plain statements (document 02, N8): the two among themselves (with
-- all lines before them in `TabledRefusals`), each height in exactly one layer, lines in another order, the soil of each
-- element.
use Rattle.std.specs.Prelude.{◌≡◌, ◌↔◌, ◌⊎◌, true, List, [], ℕ, ◌+◌, ◌*◌, ◌≤◌, ◌<◌, ℤ, pos, ◌≤ℤ◌, length, get_or}
use Rattle.std.specs.Prelude.{take, drop}
use Rattle.scope.specs.declared.Place.{Place}
use Rattle.scope.specs.declared.Place.TheVariants.{Line, Height}
use Rattle.scope.specs.Columns.{at}
use Rattle.scope.specs.Layout.{Group, groups, count, entry}
use Rattle.scope.specs.Mesh.{element_lines, mesh_layout, layout_with, mesh_groups, nodes, elements, soils, y, corner}
use Rattle.scope.specs.Statements.{AllSay}
use Rattle.scope.specs.RefusalTable.{LowestFails, AtAll}
use Rattle.scope.specs.Layers.{layers, bottom, top, soil, Has, TopAbove, Apart, InLayer}
use Rattle.scope.specs.Filled.{height_of, soil_place}

-- ---- the two refusals

-- no node is below the lowest, none above the highest, and there is one at each
pub record NodeHeights (m : List ℤ) (lo hi : ℕ) : Type 0 where
  pub not_below : (v : ℕ) → v < nodes m → lo ≤ count (y m v)
  pub not_above : (v : ℕ) → v < nodes m → count (y m v) ≤ hi
  pub some_lowest : (v : ℕ) × (v < nodes m) × (count (y m v) ≡ lo)
  pub some_highest : (v : ℕ) × (v < nodes m) × (count (y m v) ≡ hi)

-- q is the lowest height from lo to hi in no layer
pub record LowestGap (t : List ℤ) (lo hi q : ℕ) : Type 0 where
  pub from_lowest : 4 * lo ≤ q
  pub to_highest : q ≤ 4 * hi
  pub in_none : ¬ InLayer t q
  pub below : (r : ℕ) → 4 * lo ≤ r → r < q → InLayer t r

-- the rows of 46 and 45 of a table whose lines have passed, from the lowest node's height to the highest's: "46, with
-- the first line whose top isn't above its bottom, else the first that shares such a height with an earlier line; then
-- 45, with the lowest such height in no layer, counted in quarters"
pub data LayerRefusalRow (t : List ℤ) (lo hi : ℕ) : ℕ → Place → Type 0 where
  forty_six : (i : ℕ) → LowestFails (layers t) (TopAbove t) i → LayerRefusalRow t lo hi 46 (Line (1001 + i))
  forty_six_else : (i : ℕ) → AtAll (layers t) (TopAbove t) → LowestFails (layers t) (Apart t lo hi) i
      → LayerRefusalRow t lo hi 46 (Line (1001 + i))
  forty_five : (q : ℕ) → AtAll (layers t) (TopAbove t) → AtAll (layers t) (Apart t lo hi) → LowestGap t lo hi q
      → LayerRefusalRow t lo hi 45 (Height q)

-- ---- where both pass

-- exactly one layer has a height
pub record OneLayer (t : List ℤ) (q : ℕ) : Type 0 where
  pub layer : ℕ
  pub there : layer < layers t
  pub has : Has t q layer
  pub only : (j : ℕ) → j < layers t → Has t q j → j ≡ layer

-- "The table has no gap and no overlap at any quarter unit from the lowest node to the highest"
pub record TableSound (t : List ℤ) (lo hi : ℕ) : Type 0 where
  pub tops : (i : ℕ) → i < layers t → TopAbove t i
  pub once : (q : ℕ) → 4 * lo ≤ q → q ≤ 4 * hi → OneLayer t q

-- ---- "in any order"

-- lines i of t and j of u are the same
pub record SameLine (t u : List ℤ) (i j : ℕ) : Type 0 where
  pub bottoms : bottom t i ≡ bottom u j
  pub tops : top t i ≡ top u j
  pub soils : soil t i ≡ soil u j

-- u has the lines of t in another order: line i of t is line `to i` of u
pub record Reordered (t u : List ℤ) : Type 0 where
  pub to : ℕ → ℕ
  pub from : ℕ → ℕ
  pub to_there : (i : ℕ) → i < layers t → to i < layers u
  pub from_there : (j : ℕ) → j < layers u → from j < layers t
  pub from_to : (i : ℕ) → i < layers t → from (to i) ≡ i
  pub to_from : (j : ℕ) → j < layers u → to (from j) ≡ j
  pub same : (i : ℕ) → i < layers t → SameLine t u i (to i)

-- ---- the filled mesh

-- the number of element e's soil, as its line has it
abbrev pub soil_number : List ℤ → ℕ → ℤ
soil_number m e = entry (mesh_groups m) m 3 e 4

-- z names one of k things
abbrev pub Named : ℕ → ℤ → Type 0
Named k z = (pos 1 ≤ℤ z) × (z ≤ℤ pos k)

-- f is the mesh m filled from t: nothing else is changed, an element with a soil keeps it, and one with soil 0 has that
-- of the layer with bottom ≤ height < top
pub record FilledFrom (t m f : List ℤ) : Type 0 where
  pub size : length f ≡ length m
  pub kept : (k : ℕ) → ((e : ℕ) → e < elements m → ¬ (soil_place m e ≡ k)) → at f k ≡ at m k
  pub own : (e : ℕ) → e < elements m → ¬ (soil_number m e ≡ pos 0) → soil_number f e ≡ soil_number m e
  pub layered : (e : ℕ) → e < elements m → soil_place m e < length m → soil_number m e ≡ pos 0
      → (o : OneLayer t (height_of m e)) → soil_number f e ≡ soil t o.layer

-- with a table an element's line has its own corners, and its soil is 0 or one of the mesh's
abbrev pub SoilAllowed : ℕ → ℕ → List ℤ → Type 0
SoilAllowed ns ss line =
    AllSay (element_lines 0 ns 0 ss).rules line
    ↔ (((c : ℕ) → c < 4 → Named ns (at line c)) × ((at line 4 ≡ pos 0) ⊎ Named ss (at line 4)))

-- the group of a mesh's elements
abbrev pub element_group : List Group → Group
element_group gs = get_or gs 3 (record { lines = 0; limits = []; rules = [] })

-- so the lines of a mesh with a table are those without one, but that an element's soil may be 0
pub record LinesWithTable (m : List ℤ) : Type 0 where
  pub form : (layout_with true).form_number ≡ mesh_layout.form_number
  pub limit : (layout_with true).limit_number ≡ mesh_layout.limit_number
  pub lower : take 3 (groups (layout_with true) m) ≡ take 3 (groups mesh_layout m)
  pub upper : drop 4 (groups (layout_with true) m) ≡ drop 4 (groups mesh_layout m)
  pub elements_there : (element_group (groups (layout_with true) m)).lines ≡ elements m
  pub columns : (element_group (groups (layout_with true) m)).limits ≡ (element_group (groups mesh_layout m)).limits
  pub rules : (line : List ℤ) → AllSay (element_group (groups (layout_with true) m)).rules line
      ↔ (((c : ℕ) → c < 4 → Named (nodes m) (at line c)) × ((at line 4 ≡ pos 0) ⊎ Named (soils m) (at line 4)))

-- a triangle's third corner counts twice
abbrev pub RepeatTwice : List ℤ → ℕ → Type 0
RepeatTwice m e =
    corner m e 2 ≡ corner m e 3
    → height_of m e ≡ count (y m (corner m e 0)) + count (y m (corner m e 1)) + 2 * count (y m (corner m e 2))
