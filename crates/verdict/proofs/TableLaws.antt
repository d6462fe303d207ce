-- A mesh with a table judged stage by stage: lines, the table's lines, layers, and the filled mesh; what each function
-- is handed follows from the stages before it.
use mathlib.Core.Path.{◌≡◌, refl, sym, ◌∙◌, ap, ap₂}
use mathlib.Core.Bool.{true, false}
use mathlib.Core.List.{List, [], ◌∷◌}
use Prim.Native.Nat.{ℕ, ◌≤◌}
use native.Mathlib.Omega.{arith}
use lib.IntN.{ℤ, pos}
use lib.ListN.{length}
use Rattle.scope.specs.declared.Place.{Place}
use Rattle.scope.specs.Cases.Outcome.{Outcome, Passed, Refused as Fails}
use Rattle.scope.specs.Cases.Verdict.{Refused}
use Rattle.scope.specs.Checks.{◌then◌}
use Rattle.scope.specs.Layout.{groups, line_count, line_of, line_numbers}
use Rattle.scope.specs.Mesh.{mesh_header, mesh_layout, layout_with}
use Rattle.scope.specs.NumberRanges.{MeshFacts}
use Rattle.scope.specs.Phases.{check_phases}
use Rattle.scope.specs.Refusals.{shape_phases}
use Rattle.scope.specs.Statements.{LinesSound}
use Rattle.scope.specs.Layers.{lowest, highest, tops_phase, layers_apart_phase, gaps_phase, layer_phases}
use Rattle.scope.specs.Filled.{given, filled, with_soils}
use Rattle.scope.specs.LayerRefusals.{TableSound}
use Rattle.scope.specs.Table.{table_layout, table_line_phases, TableFacts, has_table, mesh_read, tabled_check}
use Rattle.scope.specs.TableVerdict.{tabled_verdict}
use Rattle.scope.specs.Verdict.{line_check, line_at, lines_check, answer, claim_verdict, verdict}
use Rattle.scope.proofs.NumberRanges.{mesh_facts}
use Rattle.scope.proofs.Refusals.{lines_passed, line_passed}
use Rattle.scope.proofs.Phases.{phases_exact}
use Rattle.scope.proofs.Layers.{layers_passed}
use Rattle.scope.proofs.Filled.{heights_kept, nodes_kept, elements_kept, soils_kept, edges_kept}
use Rattle.scope.proofs.Given.{given-length}
use Rattle.scope.proofs.Filled.{sides_kept, jumps_kept}
use Rattle.scope.proofs.Table.{table_facts, named_facts, table_lines_decided}
use Rattle.scope.proofs.TableVerdict.{sound_table, read_lines_lem, by_stages, no_table_verdict, empty_table}
use Rattle.mesh.specs.declared.sizes.Sizes.{Sizes}
use Rattle.mesh.specs.MeshContracts.{Sized, SizesAre, HeaderThere}
use Rattle.lines.proofs.GroupLaws.{header_counts}
use Rattle.layers.specs.LayerContracts.{TableRead, Fillable}
use Rattle.layers.proofs.TableLaws.{table_read}
use Rattle.verdict.specs.JudgeContracts.{LinesPassed}
use Rattle.verdict.proofs.Handed.{answer_then}

-- ---- lines

-- without a table
pub plain_lines : (m : List ℤ) → lines_check (layout_with false) m ≡ lines_check mesh_layout m
unfolding layout_with
plain_lines m = refl

-- the numbers of a mesh whose lines have passed have room in a copy
pub few_numbers_lem : (m : List ℤ) → lines_check (layout_with true) m ≡ Passed → length m ≤ 1526
unfolding with_soils
few_numbers_lem m e =
    let f = named_facts m ((lines_passed (layout_with true) m).says e) in
    let k = f.counts in
    omega (
      arith,
      f.size,
      given-length (λ e. pos 1) m,
      k.soils_most,
      k.nodes_most,
      k.elements_most,
      k.edges_most,
      k.jumps_most,
    )

-- the counts of a mesh stay whatever soils are given
sized_given : (f : ℕ → ℤ) {m : List ℤ} {s : Sizes} → SizesAre m s → MeshFacts (given f m) → Sized (given f m) s
sized_given f {m} k facts = record {
  facts = facts;
  nodes_are = k.nodes_are ∙ sym (nodes_kept f m);
  elements_are = k.elements_are ∙ sym (elements_kept f m);
  soils_are = k.soils_are ∙ sym (soils_kept f m);
  edges_are = k.edges_are ∙ sym (edges_kept f m);
  sides_are = k.sides_are ∙ sym (sides_kept f m);
  jumps_are = k.jumps_are ∙ sym (jumps_kept f m);
}

-- ---- by its stages

-- what comes after the lines of the mesh
abbrev pub after_lines : List ℤ → List ℤ → Outcome
after_lines t m =
    check_phases (table_line_phases t m)
    then (check_phases (layer_phases t m) then check_phases (shape_phases (filled t m)))

pub lines_first : (t m : List ℤ) → has_table t ≡ true
    → lines_check (layout_with true) m then after_lines t m ≡ tabled_check t m
lines_first t m h = sym (by_stages t m h)

pub lines_refuse : (t m : List ℤ) {j : ℕ} {p : Place} → has_table t ≡ true
    → lines_check (layout_with true) m ≡ Fails j p → tabled_check t m ≡ Fails j p
lines_refuse t m h e = by_stages t m h ∙ ap (λ (o : Outcome). o then after_lines t m) e

module _ {t m : List ℤ} (p : LinesPassed t m) where
  pub lines_are : LinesSound (layout_with true) m
  lines_are = (lines_passed (layout_with true) m).says p.lines

  same_header : line_at (layout_with true) m 0 ≡ line_at mesh_layout m 0
  unfolding line_at line_of groups line_numbers line_check layout_with mesh_header
  same_header = refl

  pub header_there : HeaderThere m
  unfolding layout_with groups line_count mesh_header
  header_there = header_counts m
      (sym same_header ∙ (line_passed (layout_with true) m 0).passed (lines_are.lines 0 (omega arith)))

  -- the stages that are left
  pub stages_left : after_lines t m ≡ tabled_check t m
  stages_left = sym (by_stages t m p.tabled ∙ ap (λ (o : Outcome). o then after_lines t m) p.lines)

  pub table_refuses : {j : ℕ} {q : Place} → check_phases (table_line_phases t m) ≡ Fails j q
      → tabled_check t m ≡ Fails j q
  table_refuses e =
      sym stages_left
      ∙ ap (λ (o : Outcome). o then (check_phases (layer_phases t m) then check_phases (shape_phases (filled t m)))) e

  -- with soil 1 for each soil 0
  pub named_facts_lem : MeshFacts (with_soils m)
  named_facts_lem = named_facts m lines_are

  -- the heights of the nodes are the same whatever soils are given
  same_heights : check_phases (layer_phases t (with_soils m)) ≡ check_phases (layer_phases t m)
  unfolding with_soils
  same_heights =
      let h = heights_kept (λ e. pos 1) m (named_facts m lines_are) in
      ap₂ (λ (lo hi : ℕ). check_phases (tops_phase t ∷ layers_apart_phase t lo hi ∷ gaps_phase t lo hi ∷ [])) h.0 h.1

  pub layers_same : {u n : List ℤ} → u ≡ t → n ≡ with_soils m
      → check_phases (layer_phases u n) ≡ check_phases (layer_phases t m)
  layers_same e f = ap₂ (λ (u n : List ℤ). check_phases (layer_phases u n)) e f ∙ same_heights

-- ---- a table whose lines have passed too; s has the counts of the mesh

pub record TableKnown (t m : List ℤ) (s : Sizes) : Type 0 where
  pub passed : LinesPassed t m
  pub sizes : SizesAre m s
  pub table : check_phases (table_line_phases t m) ≡ Passed

module _ {t m : List ℤ} {s : Sizes} (k : TableKnown t m s) where
  own_lines : LinesSound (table_layout m) t
  own_lines = sound_table t m ((phases_exact (table_line_phases t m) (table_lines_decided t m)).passes.says k.table)

  facts : TableFacts m t
  facts = table_facts m t own_lines

  named_sized : Sized (with_soils m) s
  unfolding with_soils
  named_sized = sized_given (λ e. pos 1) k.sizes (named_facts m (lines_are k.passed))

  pub table_known : TableRead t
  table_known = table_read k.sizes.counts facts

  -- where the layers pass
  module _ (e : check_phases (layer_phases t m) ≡ Passed) where
    sound : TableSound t (lowest m) (highest m)
    sound = (layers_passed t m).0 e

    pub fillable : Fillable t m s
    fillable = record { sized = named_sized; named = λ i l. (facts.layer i l).soil_there; sound = sound }

    pub filled_facts : MeshFacts (filled t m)
    filled_facts = mesh_facts (filled t m)
        (read_lines_lem t m (record { mesh_lines = lines_are k.passed; lines = own_lines; sound = sound }))

-- ---- the verdict by its stages

module _ (t m c : List ℤ) where
  pub table_first : answer (tabled_check t m) (claim_verdict (mesh_read t m) c) ≡ tabled_verdict t m c
  unfolding tabled_verdict
  table_first = refl

  pub mesh_lines_first : has_table t ≡ true
      → answer (lines_check (layout_with true) m) (answer (after_lines t m) (claim_verdict (mesh_read t m) c))
      ≡ tabled_verdict t m c
  mesh_lines_first h =
      answer_then (lines_check (layout_with true) m) (after_lines t m) (claim_verdict (mesh_read t m) c)
      ∙ ap (λ (o : Outcome). answer o (claim_verdict (mesh_read t m) c)) (lines_first t m h)
      ∙ table_first

  pub tabled_refuses : {j : ℕ} {p : Place} → tabled_check t m ≡ Fails j p → Refused j p ≡ tabled_verdict t m c
  unfolding tabled_verdict answer
  tabled_refuses e = sym (ap (λ (o : Outcome). answer o (claim_verdict (mesh_read t m) c)) e)

  -- an empty list is no table
  pub alone : length t ≡ 0 → verdict m c ≡ tabled_verdict t m c
  alone e = sym (ap (λ (u : List ℤ). tabled_verdict u m c) (empty_table e) ∙ no_table_verdict m c)
