-- A table whose lines are sound has layers, each within its limits and with a soil of the mesh; a mesh with a table is
-- refused exactly as its phases say, and where all pass the filled mesh has all that sound lines say. Without a table a
-- mesh is judged as before.
use mathlib.Core.Path.{◌≡◌, refl, sym, ◌∙◌, ap, subst}
use mathlib.Core.Bool.{Bool, true, cond}
use mathlib.Core.List.{List, [], ◌++◌}
use Prim.Native.Nat.{ℕ, ◌+◌, ◌-◌, ◌*◌, ◌≤◌, ◌<◌}
use native.Mathlib.Decide.{dec_lt}
use native.Mathlib.Omega.{arith}
use lib.IntN.{ℤ, pos, neg_ℤ}
use lib.ListN.{length}
use Rattle.integer.proofs.Order.{pos_≤ℤ}
use Rattle.scope.specs.Columns.{at}
use Rattle.scope.specs.Layout.{groups, line_count, number_count, numbers_before, line_of, entry}
use Rattle.scope.specs.Mesh.{mesh_header, mesh_layout, layout_with, elements, soils}
use Rattle.scope.specs.Phases.{AllPass, RefusedBy, if_part}
use Rattle.scope.specs.Statements.{LineSound, LinesSound}
use Rattle.scope.specs.NumberRanges.{Between, Counts, MeshFacts}
use Rattle.scope.specs.Refusals.{line_phases, shape_phases}
use Rattle.scope.specs.Verdict.{mesh_check}
use Rattle.scope.specs.Layers.{most_layers, layer_columns, most_level, layers, bottom, top, soil, soil_at, lowest}
use Rattle.scope.specs.Layers.{highest, layer_phases}
use Rattle.scope.specs.Filled.{height_of, soil_place, given, filled, with_soils}
use Rattle.scope.specs.LayerRefusals.{TableSound}
use Rattle.scope.specs.Table.{layer_lines, table_lines, table_layout, table_line_phases, LayerFacts, TableFacts}
use Rattle.scope.specs.Table.{has_table, mesh_read, tabled_phases, tabled_check}
use Rattle.scope.proofs.Phases.{Exact, Decided, phases_exact, decided_join, decided_part}
use Rattle.scope.proofs.Lines.{LineFacts, line_in, at_line_in, line_facts}
use Rattle.scope.proofs.NumberRanges.{header_counts, mesh_facts}
use Rattle.scope.proofs.Refusals.{lines_decided, shape_decided}
use Rattle.scope.proofs.Layers.{layers_decided, soil-at}
use Rattle.scope.proofs.Filled.{element_layer}
use Rattle.scope.proofs.GivenLines.{given_lines}

-- ---- what sound lines say

module _ (m t : List ℤ) (s : LinesSound (table_layout m) t) where
  line : (i : ℕ) → i < table_lines t → LineFacts (groups (table_layout m) t) t 1 i
  unfolding table_layout groups layer_lines
  line i l = line_facts (table_layout m) t s 1 i l (omega arith)

  size : length t ≡ table_lines t * layer_columns
  unfolding table_layout groups layer_lines number_count numbers_before
  size = by (dec_lt 0 (table_lines t))
    where
      by : Dec (0 < table_lines t) → length t ≡ table_lines t * layer_columns
      by (yes h) = omega (arith, s.none_left, (line (table_lines t - 1) (omega arith)).there)
      by (no h) = omega (arith, s.none_left)

  pub counted : layers t ≡ table_lines t
  unfolding layers
  counted = omega (arith, size)

  few : table_lines t ≤ most_layers
  unfolding table_lines
  few = omega arith

  -- column c of layer i
  column : (i c : ℕ) → entry (groups (table_layout m) t) t 1 i c ≡ at t (i * layer_columns + c)
  unfolding entry table_layout groups layer_lines numbers_before
  column i c = ap (at t) (omega arith)

  layer : (i : ℕ) → i < table_lines t → LayerFacts m t i
  unfolding table_layout groups layer_lines bottom top soil
  layer i l =
      let f = line i l in
      let b = f.within 0 (omega arith) in
      let u = f.within 1 (omega arith) in
      let r = f.rules.0.0 in
      let first : entry (groups (table_layout m) t) t 1 i 0 ≡ at t (i * layer_columns) = column i 0
      ∙ ap (at t) (omega arith) in
      let third : at (line_in (groups (table_layout m) t) t 1 i) 2 ≡ at t (i * layer_columns + 2) =
      at_line_in (groups (table_layout m) t) t 1 i 2 (omega arith) ∙ column i 2 in
      record {
        bottom_range = subst (Between (neg_ℤ (pos 1000)) (pos most_level)) first (record { least = b.0; most = b.1 });
        top_range = subst (Between (neg_ℤ (pos 1000)) (pos most_level)) (column i 1)
            (record { least = u.0; most = u.1 });
        soil_there = subst (Between (pos 1) (pos (soils m))) third (record { least = r.0; most = r.1 });
      }

  pub table_facts : TableFacts m t
  table_facts = record {
    size = size ∙ ap (λ (n : ℕ). n * layer_columns) (sym counted);
    few = omega (arith, counted, few);
    layer = λ i l. layer i (omega (arith, counted));
  }

-- ---- exactly when

module _ (t m : List ℤ) where
  pub table_lines_decided : Decided (table_line_phases t m)
  table_lines_decided = lines_decided (table_layout m) t

  pub tabled_decided : Decided (tabled_phases t m)
  tabled_decided =
      decided_join (line_phases (layout_with (has_table t)) m)
      (if_part (has_table t) (table_line_phases t m ++ layer_phases t m) ++ shape_phases (mesh_read t m))
      (lines_decided (layout_with (has_table t)) m)
      (λ lines. decided_join (if_part (has_table t) (table_line_phases t m ++ layer_phases t m))
      (shape_phases (mesh_read t m))
      (decided_part (has_table t) (table_line_phases t m ++ layer_phases t m)
      (decided_join (table_line_phases t m) (layer_phases t m) table_lines_decided (λ table. layers_decided t m)))
      (λ table. shape_decided (mesh_read t m)))

  -- a mesh with a table is refused with a number and a place exactly when all before holds and this place is the lowest
  -- that fails
  pub tabled_exact : Exact (tabled_check t m) (AllPass (tabled_phases t m)) (RefusedBy (tabled_phases t m))
  unfolding tabled_check
  tabled_exact = phases_exact (tabled_phases t m) tabled_decided

  -- ---- where there is a table

  module _ (e : has_table t ≡ true) where
    pub with_table : tabled_phases t m ≡ line_phases (layout_with true) m
        ++ ((table_line_phases t m ++ layer_phases t m) ++ shape_phases (filled t m))
    unfolding mesh_read
    with_table = ap (λ (b : Bool). line_phases (layout_with b) m
        ++ (if_part b (table_line_phases t m ++ layer_phases t m) ++ shape_phases (cond b (filled t m) m))) e

-- ---- a mesh whose lines have passed with soil 0 allowed

pub tabled_header : (m : List ℤ) → LineSound (layout_with true) m 0 → Counts m
unfolding layout_with groups line_of mesh_header
tabled_header m h = header_counts m
    (record { complete = h.complete; in_limits = h.in_limits; rules_hold = h.rules_hold })

module _ (m : List ℤ) (s : LinesSound (layout_with true) m) where
  pub tabled_counts : Counts m
  unfolding layout_with groups mesh_header line_count
  tabled_counts = tabled_header m (s.lines 0 (omega arith))

  -- with soil 1 for each soil 0 its lines are sound
  pub named_facts : MeshFacts (with_soils m)
  unfolding with_soils
  named_facts = mesh_facts (given (λ e. pos 1) m)
      (given_lines m (λ e. pos 1)
      (λ e l z. record { least = pos_≤ℤ (omega arith); most = pos_≤ℤ tabled_counts.soils_least }) s)

  -- and so they are where the mesh is filled from a table that passes
  pub filled_lines : (t : List ℤ) → TableFacts m t → TableSound t (lowest m) (highest m)
      → LinesSound mesh_layout (filled t m)
  unfolding filled with_soils
  filled_lines t f sound = given_lines m (λ e. soil_at t (height_of m e)) named s
    where
      named : (e : ℕ) → e < elements m → at m (soil_place m e) ≡ pos 0
          → Between (pos 1) (pos (soils m)) (soil_at t (height_of m e))
      named e l z = let o = element_layer (λ e. pos 1) m named_facts t sound e l in subst
          (Between (pos 1) (pos (soils m))) (sym (soil-at t (height_of m e) o)) (f.layer o.layer o.there).soil_there

-- ---- where there is none

pub no_table : (m : List ℤ) → tabled_check [] m ≡ mesh_check m
unfolding tabled_check mesh_check has_table mesh_read layout_with
no_table m = refl
