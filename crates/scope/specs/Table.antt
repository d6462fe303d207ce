-- A borehole table as a file (document 02, N8): its lines, and a mesh with a table judged in order. "an empty one is no
-- table".
-- A table is the list of its numbers. Its lines are counted from 0 here; a place counts them from 1,001.
use Rattle.std.specs.Prelude.{◌≡◌, Bool, true, false, cond, List, [], ◌∷◌, ◌++◌, map, ℕ, ◌+◌, ◌*◌, ◌/◌, ◌≤◌, ◌<◌, min}
use Rattle.std.specs.Prelude.{ℤ, pos, neg_ℤ, length}
use Rattle.scope.specs.declared.Place.TheVariants.{Line}
use Rattle.scope.specs.Cases.Outcome.{Outcome}
use Rattle.scope.specs.Answer.{place_number}
use Rattle.scope.specs.Phases.{Phase, if_part, check_phases}
use Rattle.scope.specs.Columns.{between, free, naming}
use Rattle.scope.specs.Layout.{Group, Layout}
use Rattle.scope.specs.Mesh.{layout_with, soils}
use Rattle.scope.specs.NumberRanges.{Between}
use Rattle.scope.specs.Refusals.{line_phases, shape_phases}
use Rattle.scope.specs.Layers.{most_layers, layer_columns, most_level, layers, bottom, top, soil, layer_phases}
use Rattle.scope.specs.Filled.{filled}

-- ---- its lines

-- "bottom, top (both -1,000 to 2,000), soil": so many lines, of a mesh with so many soils
unfoldable pub layer_lines : ℕ → ℕ → Group
layer_lines n ss = record {
  lines = n;
  limits = between (neg_ℤ (pos 1000)) (pos most_level) ∷ between (neg_ℤ (pos 1000)) (pos most_level) ∷ free ∷ [];
  rules = naming ((2, 1, ss) ∷ []) ∷ [];
}

-- "1 to 32 lines": as many as the numbers begin, and no more than 32
unfoldable pub table_lines : List ℤ → ℕ
table_lines t = min ((length t + 2) / layer_columns) most_layers

-- "The table's own form, limits and soil numbers are judged as a mesh's, with 1, 2 and 4": it has no header, and
-- numbers after the 32nd line are left over
unfoldable pub table_layout : List ℤ → Layout
table_layout m = record {
  form_number = 1;
  limit_number = 2;
  header = layer_lines 0 (soils m);
  body = λ t. layer_lines (table_lines t) (soils m) ∷ [];
}

-- "its lines are numbered from 1,001, above any of the mesh's"
abbrev pub above_mesh : Phase → Phase
above_mesh f = record { count = f.count; steps = f.steps; place = λ k. Line (1000 + place_number (f.place k)) }

abbrev pub table_line_phases : List ℤ → List ℤ → List Phase
table_line_phases t m = map above_mesh (line_phases (table_layout m) t)

-- what sound lines say of layer i, and of a table
pub record LayerFacts (m t : List ℤ) (i : ℕ) : Type 0 where
  pub bottom_range : Between (neg_ℤ (pos 1000)) (pos most_level) (bottom t i)
  pub top_range : Between (neg_ℤ (pos 1000)) (pos most_level) (top t i)
  pub soil_there : Between (pos 1) (pos (soils m)) (soil t i)

pub record TableFacts (m t : List ℤ) : Type 0 where
  pub size : length t ≡ layers t * layer_columns
  pub few : layers t ≤ most_layers
  pub layer : (i : ℕ) → i < layers t → LayerFacts m t i

-- ---- a mesh with a table

unfoldable pub has_table : List ℤ → Bool
has_table [] = false
has_table (z ∷ rest) = true

-- the mesh's numbers as all after the lines reads them
unfoldable pub mesh_read : List ℤ → List ℤ → List ℤ
mesh_read t m = cond (has_table t) (filled t m) m

-- the phases of a table that is there: its lines, then 46 and 45
abbrev pub table_part : List ℤ → List ℤ → List Phase
table_part t m = if_part (has_table t) (table_line_phases t m ++ layer_phases t m)

-- the table is judged "after the mesh lines and before 5", whether or not an element has soil 0
abbrev pub tabled_phases : List ℤ → List ℤ → List Phase
tabled_phases t m =
    line_phases (layout_with (has_table t)) m ++ (table_part t m ++ shape_phases (mesh_read t m))

unfoldable pub tabled_check : List ℤ → List ℤ → Outcome
tabled_check t m = check_phases (tabled_phases t m)
