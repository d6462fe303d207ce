-- Each refusal of a mesh with a table is a row, and each row a refusal: what comes before 5 phase by phase, a table's
-- lines by their own three numbers, and the rest by the rows of the mesh that is read.
use mathlib.Core.Path.{◌≡◌, refl, sym, ◌∙◌, ap, subst, subst₂}
use mathlib.Core.Logic.{◌↔◌, ◌⊎◌, inl, inr, ◌≢◌}
use mathlib.Core.Bool.{Bool, true, cond}
use mathlib.Core.List.{List, [], ◌∷◌, ◌++◌}
use Prim.Native.Nat.{ℕ, suc, ◌+◌, ◌*◌, ◌≤◌, ◌<◌}
use native.Mathlib.Decide.{dec_lt}
use native.Mathlib.Omega.{arith}
use lib.Dec.{T}
use lib.IntN.{ℤ, pos}
use lib.ListN.{length}
use Rattle.scope.specs.declared.Place.{Place}
use Rattle.scope.specs.declared.Place.TheVariants.{Line}
use Rattle.scope.specs.Cases.Outcome.{Passed, Refused as Fails}
use Rattle.scope.specs.Cases.Verdict.{Refused}
use Rattle.scope.specs.Columns.{right_angle, naming, parts, at_most_where}
use Rattle.scope.specs.Layout.{groups, line_count, number_count}
use Rattle.scope.specs.Mesh.{layout_with}
use Rattle.scope.specs.Phases.{RefusedBy, check_phases}
use Rattle.scope.specs.Statements.{LinesSound}
use Rattle.scope.specs.Refusals.{rule_number, line_phases, LineRefusal}
use Rattle.scope.specs.Layers.{lowest, highest, layer_phases}
use Rattle.scope.specs.Filled.{filled, with_soils}
use Rattle.scope.specs.Table.{table_lines, table_layout, table_line_phases, has_table, mesh_read, tabled_phases}
use Rattle.scope.specs.LayerRefusals.{NodeHeights, LayerRefusalRow, TableSound}
use Rattle.scope.specs.TableVerdict.{tabled_verdict, TabledRefusal, TablePasses, TableFits}
use Rattle.scope.specs.TabledRefusals.{MeshLinesPass, Begun, OwnForm, OwnTo, OwnLines, OwnFormFails, LinesPass}
use Rattle.scope.specs.TabledRefusals.{LayersRefused, TableLaid, EarlyRefusalRow, mesh_one, mesh_two, mesh_three, mesh_four}
use Rattle.scope.specs.TabledRefusals.{mesh_two_with, own_one, own_two, own_four, of_layers, TabledMeshRefusalRow, mesh_alone}
use Rattle.scope.specs.TabledRefusals.{mesh_early, mesh_filled, TabledRefusalRow, of_alone, of_early, of_filled}
use Rattle.scope.specs.RefusalTable.{MeshRefusalRow, RefusalRow}
use Rattle.scope.specs.Verdict.{mesh_check}
use Rattle.scope.proofs.Checks.{then_refused}
use Rattle.scope.proofs.Decides.{Decides, is_yes}
use Rattle.scope.proofs.Phases.{EachIn, each_refusal, each_join, each_as, each_there, join_refused, refused_there}
use Rattle.scope.proofs.Refusals.{lines_sound, sound_lines, mesh_exact}
use Rattle.scope.proofs.RefusalNumbers.{no_layers, Cause, each_cause, count_refused, limit_refused, rule_refused}
use Rattle.scope.proofs.RefusalTable.{mesh_row as row_of_mesh, row_mesh, refusal_row, refusal_rows_exact}
use Rattle.scope.proofs.Exactly.{refused_exactly}
use Rattle.scope.proofs.Layers.{same_heights, layer_rows, row_layers}
use Rattle.scope.proofs.Filled.{heights}
use Rattle.scope.proofs.Table.{named_facts, tabled_exact}
use Rattle.scope.proofs.TableVerdict.{table_phases, OfTable, Came, early, late, came, early_number, early_refused}
use Rattle.scope.proofs.TableVerdict.{fits_late, tabled_refused, sound_table, table_sound, in_two}
use Rattle.scope.proofs.TableVerdict.{table_phases_exact}
use Rattle.scope.proofs.TableLines.{OwnFails, own_count, own_fails, own_line, own_number_count, there, counted}
use Rattle.scope.proofs.TableLines.{has_begun, of_layout, own_lines, lines_own, line_refused, left_refused}

-- ---- each refusal is a row

-- there is a table
is_there : (t : List ℤ) → Decides (has_table t) (t ≢ [])
unfolding has_table
is_there [] = record { holds = λ x e. x; passes = λ h. h refl }
is_there (z ∷ t) = record { holds = λ x e. cc; passes = λ h. tt }

filled_there : (t m : List ℤ) → t ≢ [] → mesh_read t m ≡ filled t m
unfolding mesh_read
filled_there t m some = ap (λ (b : Bool). cond b (filled t m) m) (is_yes (is_there t) some)

-- what sound lines say of the lowest node and of the highest
heights_lem : (m : List ℤ) → LinesSound (layout_with true) m → NodeHeights m (lowest m) (highest m)
unfolding with_soils
heights_lem m s = heights (λ e. pos 1) m (named_facts m s)

module _ (t m : List ℤ) where
  -- no line before 5 has a claim's rule, 13
  abbrev Early : ℕ → Place → Type 0
  Early k p = OfTable k → EarlyRefusalRow t m k p

  numbered : {i k : ℕ} {p : Place} → i ≡ k → EarlyRefusalRow t m i p → EarlyRefusalRow t m k p
  numbered {p = p} e r = subst (λ (n : ℕ). EarlyRefusalRow t m n p) e r

  mesh_row : t ≢ [] → (k n : ℕ) → Cause (layout_with true) m k n → Early n (Line (suc k))
  unfolding layout_with rule_number
  mesh_row some k n (inl h) o = numbered h.1 (mesh_one k some h.0)
  mesh_row some k n (inr (inl h)) o = numbered h.1 (mesh_two k some h.0)
  mesh_row some k n (inr (inr (right_angle, h))) o = numbered h.1 (mesh_three k some h.0)
  mesh_row some k n (inr (inr (naming cs, h))) o = numbered h.1 (mesh_four cs k some h.0)
  mesh_row some k n (inr (inr (parts, h))) o = absurd (none o)
    where
      none : OfTable n → ⊥
      none (z, inl l) = absurd (omega (arith, h.1, l))
      none (z, inr (inl e)) = absurd (omega (arith, h.1, e))
      none (z, inr (inr e)) = absurd (omega (arith, h.1, e))
  mesh_row some k n (inr (inr (at_most_where a b d z, h))) o = numbered h.1 (mesh_two_with a b d z k some h.0)

  own_row : MeshLinesPass t m → (i n : ℕ) → Begun t i → OwnTo t m i → OwnFails t m i n
      → EarlyRefusalRow t m n (Line (1001 + i))
  own_row s i n b before (inl h) = numbered h.1
      (own_one i (record { mesh = s; before = before; begun = b; fails = h.0 }))
  own_row s i n b before (inr (f, inl h)) = numbered h.1
      (own_two i (record { mesh = s; before = before; form = f; fails = h.0 }))
  own_row s i n b before (inr (f, inr (w, h))) = numbered h.1
      (own_four i (record { mesh = s; before = before; form = f; limits = w; fails = h.0 }))

  placed_at : {n i j : ℕ} → i ≡ j → EarlyRefusalRow t m n (Line i) → EarlyRefusalRow t m n (Line j)
  placed_at {n} e r = subst (λ (a : ℕ). EarlyRefusalRow t m n (Line a)) e r

  own_rows : MeshLinesPass t m → EachIn (EarlyRefusalRow t m) (table_line_phases t m)
  unfolding table_lines table_layout
  own_rows s = (
    λ k n h l r. let b = counted t m h in
        placed_at {i = 1001 + k} (omega arith)
        (own_row s k n (has_begun t m k b) (λ j i. own_line t m j (omega arith) (l j (omega arith)))
        (own_fails t m k b r)),
    λ e. (λ k n h l r. last n (λ j i. own_line t m j i (e j (there t m i))) r, λ i. tt),
  )
    where
      last : (n : ℕ) → OwnTo t m (table_lines t)
          → ((¬ (length t ≤ number_count (groups (table_layout m) t))) × (1 ≡ n))
          ⊎ ((length t ≤ number_count (groups (table_layout m) t)) × ⊥)
          → EarlyRefusalRow t m n (Line (1000 + suc (line_count (groups (table_layout m) t))))
      last n before (inl h) =
          let more : 3 * table_lines t < length t = omega (arith, own_number_count t m, h.0) in
          numbered h.1
          (placed_at {i = 1001 + table_lines t} (omega (arith, own_count t m))
          (own_one (table_lines t) (record {
            mesh = s;
            before = before;
            begun = more;
            fails = λ f. absurd (omega (arith, more, f.0, f.1));
          })))
      last n before (inr h) = absurd h.1

  layers_row : MeshLinesPass t m → OwnLines t m → {k : ℕ} {p : Place} → LayerRefusalRow t (lowest m) (highest m) k p
      → EarlyRefusalRow t m k p
  layers_row s o r = of_layers (record {
    lowest = lowest m;
    highest = highest m;
    before = record { mesh = s; own = o; heights = heights_lem m s.lines };
    row = r;
  })

  early_rows : t ≢ [] → EachIn Early (line_phases (layout_with true) m ++ (table_line_phases t m ++ layer_phases t m))
  early_rows some =
      each_join Early (line_phases (layout_with true) m) (table_line_phases t m ++ layer_phases t m)
      (each_cause (layout_with true) m Early (mesh_row some))
      (λ a. let s : MeshLinesPass t m = record { table = some; lines = lines_sound (layout_with true) m a } in
      each_join Early (table_line_phases t m) (layer_phases t m)
      (each_as (EarlyRefusalRow t m) Early (table_line_phases t m) (λ k p x o. x) (own_rows s))
      (λ b. each_as (LayerRefusalRow t (lowest m) (highest m)) Early (layer_phases t m)
      (λ k p x o. layers_row s (own_lines t m b) x) (layer_rows t m)))

  early_row : {k : ℕ} {p : Place} → RefusedBy (table_phases t m) k p → EarlyRefusalRow t m k p
  early_row {k} {p} r =
      each_refusal Early (table_phases t m)
      (each_there Early (line_phases (layout_with true) m ++ (table_line_phases t m ++ layer_phases t m)) (is_there t)
      early_rows)
      r (early_number t m k p r)

  laid : t ≢ [] → TablePasses t m → TableLaid t m
  laid some f =
      let s : MeshLinesPass t m = record { table = some; lines = f.mesh_lines } in
      record {
        lowest = lowest m;
        highest = highest m;
        before = record {
          mesh = s;
          own = own_lines t m (table_sound t m f.lines);
          heights = heights_lem m f.mesh_lines;
        };
        sound = f.sound;
      }

-- the mesh that is read: the filled one, or without a table the mesh itself
late_row : (t m c : List ℤ) {k : ℕ} {p : Place} → TableFits t m → RefusalRow (mesh_read t m) c k p → TabledRefusalRow t m c k p
unfolding mesh_read has_table
late_row [] m c f r = of_alone refl r
late_row (z ∷ t) m c f r = of_filled (laid (z ∷ t) m (λ e. cc) (f refl)) r

late_mesh_row : (t m : List ℤ) {k : ℕ} {p : Place} → TableFits t m → MeshRefusalRow (mesh_read t m) k p
    → TabledMeshRefusalRow t m k p
unfolding mesh_read has_table
late_mesh_row [] m f r = mesh_alone refl r
late_mesh_row (z ∷ t) m f r = mesh_filled (laid (z ∷ t) m (λ e. cc) (f refl)) r

tabled_row : (t m c : List ℤ) {k : ℕ} {p : Place} → TabledRefusal t m c k p → TabledRefusalRow t m c k p
tabled_row t m c {k} {p} r = by (came t m c) ((tabled_refused t m c k p).1 r)
  where
    number_lem : {i j : ℕ} {q s : Place} → Refused i q ≡ Refused j s → i ≡ j
    number_lem d = cc

    place_lem : {i j : ℕ} {q s : Place} → Refused i q ≡ Refused j s → q ≡ s
    place_lem d = cc

    by : Came t m c → tabled_verdict t m c ≡ Refused k p → TabledRefusalRow t m c k p
    by (early i q x d) e = of_early (subst₂ (λ (n : ℕ) (s : Place). EarlyRefusalRow t m n s) (number_lem (sym d ∙ e))
        (place_lem (sym d ∙ e)) (early_row t m x))
    by (late f d) e = late_row t m c f (refusal_row (mesh_read t m) c k p
        ((refused_exactly (mesh_read t m) c k p).0 (sym d ∙ e)))

tabled_mesh_row : (t m : List ℤ) {k : ℕ} {p : Place} → RefusedBy (tabled_phases t m) k p → TabledMeshRefusalRow t m k p
tabled_mesh_row t m {k} {p} r = by ((then_refused (check_phases (table_phases t m)) (mesh_check (mesh_read t m)) k p).0
    (sym (in_two t m) ∙ (tabled_exact t m).refuses.refused k p r))
  where
    by : (check_phases (table_phases t m) ≡ Fails k p)
        ⊎ ((check_phases (table_phases t m) ≡ Passed) × (mesh_check (mesh_read t m) ≡ Fails k p))
        → TabledMeshRefusalRow t m k p
    by (inl d) = mesh_early (early_row t m ((table_phases_exact t m).refuses.why k p d))
    by (inr (a, d)) = late_mesh_row t m ((table_phases_exact t m).passes.says a)
        (row_of_mesh (mesh_read t m) k p ((mesh_exact (mesh_read t m)).refuses.why k p d))

-- ---- and back

neither : {k : ℕ} → k ≤ 4 → (k ≡ 45) ⊎ (k ≡ 46) → ⊥
neither l (inl e) = omega arith
neither l (inr e) = omega arith

module _ (t m : List ℤ) where
  early_refusal : {k : ℕ} {p : Place} → t ≢ []
      → RefusedBy (line_phases (layout_with true) m ++ (table_line_phases t m ++ layer_phases t m)) k p
      → RefusedBy (table_phases t m) k p
  early_refusal {k} {p} some r =
      refused_there (line_phases (layout_with true) m ++ (table_line_phases t m ++ layer_phases t m)) (is_there t) some
      k p r

  mesh_refusal : {k : ℕ} {p : Place} → t ≢ [] → LineRefusal (layout_with true) m k p → RefusedBy (table_phases t m) k p
  mesh_refusal {k} {p} some r = early_refusal some
      (join_refused (line_phases (layout_with true) m) (table_line_phases t m ++ layer_phases t m) k p (inl r.by))

  after_mesh : {k : ℕ} {p : Place} → MeshLinesPass t m → RefusedBy (table_line_phases t m ++ layer_phases t m) k p
      → RefusedBy (table_phases t m) k p
  after_mesh {k} {p} s r = early_refusal s.table
      (join_refused (line_phases (layout_with true) m) (table_line_phases t m ++ layer_phases t m) k p
      (inr (sound_lines (layout_with true) m s.lines, r)))

  own_refusal : {k : ℕ} {p : Place} → MeshLinesPass t m → RefusedBy (table_line_phases t m) k p
      → RefusedBy (table_phases t m) k p
  own_refusal {k} {p} s r = after_mesh s (join_refused (table_line_phases t m) (layer_phases t m) k p (inl r))

  own_refused : (i k : ℕ) → MeshLinesPass t m → OwnTo t m i → OwnForm t i → OwnFails t m i k
      → RefusedBy (table_phases t m) k (Line (1001 + i))
  own_refused i k s before f r =
      own_refusal s (line_refused t m i k (of_layout t m i f.0 (omega (arith, f.1))) before r)

  form_refused : (i : ℕ) → OwnFormFails t m i → RefusedBy (table_phases t m) 1 (Line (1001 + i))
  form_refused i h = own_refusal h.mesh (of (dec_lt i (table_lines t)))
    where
      of : Dec (i < table_lines t) → RefusedBy (table_line_phases t m) 1 (Line (1001 + i))
      of (yes l) = line_refused t m i 1 l h.before (inl (h.fails, refl))
      of (no l) = left_refused t m i h.before h.begun l

  -- the heights that a row names are the lowest and the highest
  at_heights : {lo hi : ℕ} (Q : ℕ → ℕ → Type 0) → LinesPass t m lo hi → Q lo hi → Q (lowest m) (highest m)
  at_heights Q b h = let e = same_heights b.heights (heights_lem m b.mesh.lines) in subst₂ Q e.0 e.1 h

  layers_refusal : {k : ℕ} {p : Place} → LayersRefused t m k p → RefusedBy (table_phases t m) k p
  layers_refusal {k} {p} r =
      after_mesh r.before.mesh
      (join_refused (table_line_phases t m) (layer_phases t m) k p
      (inr (
        lines_own t m r.before.own,
        row_layers t m (at_heights (λ (lo hi : ℕ). LayerRefusalRow t lo hi k p) r.before r.row),
      )))

  laid_fits : TableLaid t m → TableFits t m
  laid_fits l e = record {
    mesh_lines = l.before.mesh.lines;
    lines = sound_table t m (lines_own t m l.before.own);
    sound = at_heights (TableSound t) l.before l.sound;
  }

  row_early : {k : ℕ} {p : Place} → EarlyRefusalRow t m k p → RefusedBy (table_phases t m) k p
  unfolding layout_with rule_number
  row_early (mesh_one k some h) = mesh_refusal some (count_refused (layout_with true) m k h)
  row_early (mesh_two k some h) = mesh_refusal some (limit_refused (layout_with true) m k h)
  row_early (mesh_three k some h) = mesh_refusal some (rule_refused (layout_with true) m right_angle k h)
  row_early (mesh_four cs k some h) = mesh_refusal some (rule_refused (layout_with true) m (naming cs) k h)
  row_early (mesh_two_with a b d z k some h) =
      mesh_refusal some (rule_refused (layout_with true) m (at_most_where a b d z) k h)
  row_early (own_one i h) = form_refused i h
  row_early (own_two i h) = own_refused i 2 h.mesh h.before h.form (inr (h.form, inl (h.fails, refl)))
  row_early (own_four i h) = own_refused i 4 h.mesh h.before h.form (inr (h.form, inr (h.limits, (h.fails, refl))))
  row_early (of_layers r) = layers_refusal r

-- without a table nothing is read before 5
alone_fits : (t m : List ℤ) → t ≡ [] → TableFits t m
alone_fits t m e h = absurd ((is_there t).holds (subst T (sym h) tt) e)

alone_read : (t m : List ℤ) → t ≡ [] → mesh_read t m ≡ m
unfolding mesh_read has_table
alone_read t m e = ap (λ (u : List ℤ). mesh_read u m) e

module _ (t m c : List ℤ) where
  late_lem : {k : ℕ} {p : Place} → TableFits t m → RefusalRow (mesh_read t m) c k p → TabledRefusal t m c k p
  late_lem {k} {p} f r = (tabled_refused t m c k p).0
      (fits_late t m c f ∙ (refused_exactly (mesh_read t m) c k p).1 ((refusal_rows_exact (mesh_read t m) c k p).1 r))

  row_tabled : {k : ℕ} {p : Place} → TabledRefusalRow t m c k p → TabledRefusal t m c k p
  row_tabled {k} {p} (of_alone e r) = late_lem (alone_fits t m e)
      (subst (λ (f : List ℤ). RefusalRow f c k p) (sym (alone_read t m e)) r)
  row_tabled {k} {p} (of_early r) = (tabled_refused t m c k p).0 (early_refused t m c (row_early t m r))
  row_tabled {k} {p} (of_filled l r) = late_lem (laid_fits t m l)
      (subst (λ (f : List ℤ). RefusalRow f c k p) (sym (filled_there t m l.before.mesh.table)) r)

  -- refused with a number and a place exactly when there is a row with them
  pub tabled_exactly : (k : ℕ) (p : Place) → TabledRefusal t m c k p ↔ TabledRefusalRow t m c k p
  tabled_exactly k p = (tabled_row t m c, row_tabled)

-- and so without a claim
module _ (t m : List ℤ) where
  by_check : {k : ℕ} {p : Place}
      → (check_phases (table_phases t m) ≡ Fails k p)
      ⊎ ((check_phases (table_phases t m) ≡ Passed) × (mesh_check (mesh_read t m) ≡ Fails k p))
      → RefusedBy (tabled_phases t m) k p
  by_check {k} {p} h = (tabled_exact t m).refuses.why k p
      (in_two t m ∙ (then_refused (check_phases (table_phases t m)) (mesh_check (mesh_read t m)) k p).1 h)

  late_mesh : {k : ℕ} {p : Place} → TableFits t m → MeshRefusalRow (mesh_read t m) k p → RefusedBy (tabled_phases t m) k p
  late_mesh {k} {p} f r =
      let refused = (mesh_exact (mesh_read t m)).refuses.refused k p (record { by = row_mesh (mesh_read t m) r }) in
      by_check (inr ((table_phases_exact t m).passes.passed f, refused))

  row_tabled_mesh : {k : ℕ} {p : Place} → TabledMeshRefusalRow t m k p → RefusedBy (tabled_phases t m) k p
  row_tabled_mesh {k} {p} (mesh_alone e r) = late_mesh (alone_fits t m e)
      (subst (λ (f : List ℤ). MeshRefusalRow f k p) (sym (alone_read t m e)) r)
  row_tabled_mesh {k} {p} (mesh_early r) =
      by_check (inl ((table_phases_exact t m).refuses.refused k p (row_early t m r)))
  row_tabled_mesh {k} {p} (mesh_filled l r) = late_mesh (laid_fits t m l)
      (subst (λ (f : List ℤ). MeshRefusalRow f k p) (sym (filled_there t m l.before.mesh.table)) r)

  pub tabled_mesh_exactly : (k : ℕ) (p : Place) → RefusedBy (tabled_phases t m) k p ↔ TabledMeshRefusalRow t m k p
  tabled_mesh_exactly k p = (tabled_mesh_row t m, row_tabled_mesh)

-- ---- 46 and 45 come exactly where the layers are refused with all lines before them

only_layers : {t m : List ℤ} {k : ℕ} {p : Place} → EarlyRefusalRow t m k p → (k ≡ 45) ⊎ (k ≡ 46) → LayersRefused t m k p
only_layers (mesh_one k some x) h = absurd (neither (omega arith) h)
only_layers (mesh_two k some x) h = absurd (neither (omega arith) h)
only_layers (mesh_three k some x) h = absurd (neither (omega arith) h)
only_layers (mesh_four cs k some x) h = absurd (neither (omega arith) h)
only_layers (mesh_two_with a b d z k some x) h = absurd (neither (omega arith) h)
only_layers (own_one i x) h = absurd (neither (omega arith) h)
only_layers (own_two i x) h = absurd (neither (omega arith) h)
only_layers (own_four i x) h = absurd (neither (omega arith) h)
only_layers (of_layers r) h = r

pub layers_exactly : (t m c : List ℤ) (k : ℕ) (p : Place) → (k ≡ 45) ⊎ (k ≡ 46)
    → TabledRefusalRow t m c k p ↔ LayersRefused t m k p
layers_exactly t m c k p h = (to, λ r. of_early (of_layers r))
  where
    to : TabledRefusalRow t m c k p → LayersRefused t m k p
    to (of_alone e r) = absurd (no_layers ((refusal_rows_exact m c k p).1 r) h)
    to (of_early r) = only_layers r h
    to (of_filled l r) = absurd (no_layers ((refusal_rows_exact (filled t m) c k p).1 r) h)
