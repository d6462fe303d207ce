-- A refusal with 1 or 11 is one of the form of a line, of the mesh, of its table or of the claim, for no other check
-- has these numbers; and so the verdict says what the bytes are.
use mathlib.Core.Path.{◌≡◌, refl, sym, ap, ◌∙◌, subst}
use mathlib.Core.Logic.{◌↔◌, ◌⊎◌, inl, inr}
use mathlib.Core.Bool.{Bool, true, false, cond}
use mathlib.Core.List.{List, ◌++◌}
use Prim.Native.Nat.{ℕ, suc, ◌+◌, ◌≤◌}
use native.Mathlib.Omega.{arith}
use lib.IntN.{ℤ}
use borrow.Table.Steps.{cases}
use Rattle.scope.specs.declared.Place.{Place}
use Rattle.scope.specs.declared.Place.TheVariants.{Line}
use Rattle.scope.specs.Cases.Outcome.{Refused as Fails}
use Rattle.scope.specs.Cases.Verdict.{Refused}
use Rattle.scope.specs.Answer.{place_number}
use Rattle.scope.specs.Layout.{groups, line_count}
use Rattle.scope.specs.Mesh.{mesh_layout, layout_with}
use Rattle.scope.specs.Claim.{claim_layout}
use Rattle.scope.specs.Phases.{Phase, AllPass, RefusedBy, if_part, check_phases}
use Rattle.scope.specs.Layers.{layer_phases}
use Rattle.scope.specs.Filled.{filled}
use Rattle.scope.specs.Table.{table_layout, table_line_phases, has_table, mesh_read, tabled_phases}
use Rattle.scope.specs.TableVerdict.{tabled_verdict, TableFits}
use Rattle.scope.specs.Statements.{LinesSound, MeshSound}
use Rattle.scope.specs.Refusals.{LineRefusal, line_phases, shape_phases, claim_phases}
use Rattle.scope.specs.Verdict.{lines_check, verdict}
use Rattle.scope.proofs.Checks.{passed_is_not_refused}
use Rattle.scope.proofs.Phases.{phases_exact, refused_join, join_refused, EachIn, each_refusal, own_number}
use Rattle.scope.proofs.Decides.{Refuses}
use Rattle.scope.proofs.Refusals.{lines_refusal, lines_passed, lines_sound}
use Rattle.scope.proofs.LineRefusals.{line_of_claim, ByLines, by_lines, other_number}
use Rattle.scope.proofs.Exactly.{refused_exactly}
use Rattle.scope.proofs.Table.{table_lines_decided}
use Rattle.scope.proofs.TableVerdict.{table_phases, read_lines_lem, read_filled, Came, early, late, came, fits_late}
use Rattle.scope.proofs.TableVerdict.{tabled_refused, OfTable, early_number}
use Rattle.verdict.proofs.TableLaws.{plain_lines, table_refuses, tabled_refuses}
use Rattle.reader.specs.File.{table_numbers_of}
use Rattle.reader.specs.WellFormed.{FormFails}
use Rattle.reader.proofs.Regular.{layout_regular, same_numbers, claim_regular, mesh_number, claim_number}
use Rattle.reader.proofs.Form.{form_refused}
use Rattle.reader.proofs.TableForm.{table_form}
use Rattle.judge.specs.Judge.{mesh_numbers, mesh_from, claim_numbers, files_verdict}
use Rattle.judge.specs.Form.{MeshFormFails}
use Rattle.judge.proofs.Numbers.{some_side_lem}
use Rattle.judge.proofs.FilesJudged.{some_file}

-- ---- 1 without a table

plain_one : (m c : List ℤ) (p : Place) → verdict m c ≡ Refused 1 p → lines_check mesh_layout m ≡ Fails 1 p
unfolding layout_with claim_layout
plain_one m c p e = (lines_refusal mesh_layout m).refused 1 p (only (by_lines ((refused_exactly m c 1 p).0 e)))
  where
    only : ByLines m c 1 p → LineRefusal mesh_layout m 1 p
    only (inl h) = h
    only (inr (inl h)) = absurd (other_number 1 (omega arith) (omega arith) mesh_number h.1 refl)
    only (inr (inr (inl h))) = absurd (omega (arith, h.0))
    only (inr (inr (inr h))) = absurd (omega arith)

-- ---- 1 with a table

-- the form of the mesh's lines, or of the table's once they have passed
abbrev FormOf : List ℤ → List ℤ → Place → Type 0
FormOf t m p =
    (lines_check (layout_with (has_table t)) m ≡ Fails 1 p)
    ⊎ ((has_table t ≡ true) × LinesSound (layout_with true) m × (check_phases (table_line_phases t m) ≡ Fails 1 p))

module _ (t m : List ℤ) (p : Place) where
  -- the layers refuse with 45 and 46
  not_layers : RefusedBy (layer_phases t m) 1 p → ⊥
  not_layers r = omega (arith, each_refusal (λ k p. 45 ≤ k) (layer_phases t m) numbers r)
    where
      numbers : EachIn (λ k p. 45 ≤ k) (layer_phases t m)
      numbers = (
        λ k c h l r. omega (arith, own_number {k = 46} refl r),
        λ e. (
          λ k c h l r. omega (arith, own_number {k = 46} refl r),
          λ e. (λ k c h l r. omega (arith, own_number {k = 45} refl r), λ i. tt),
        ),
      )

  -- a table's lines are numbered from 1,001
  from_1001 : check_phases (table_line_phases t m) ≡ Fails 1 p → (i : ℕ) × (p ≡ Line (1001 + i))
  from_1001 e = each_refusal Q (table_line_phases t m) places
      ((phases_exact (table_line_phases t m) (table_lines_decided t m)).refuses.why 1 p e)
    where
      Q : ℕ → Place → Type 0
      Q k p = (i : ℕ) × (p ≡ Line (1001 + i))

      places : EachIn Q (table_line_phases t m)
      places = (
        λ k c h l r. (k, ap Line (omega arith)),
        λ e. (λ k c h l r. (line_count (groups (table_layout m) t), ap Line (omega arith)), λ i. tt),
      )

  module _ (there : has_table t ≡ true) where
    early_one : RefusedBy (table_phases t m) 1 p → FormOf t m p
    early_one r = by (refused_join lines (own ++ layers) 1 p
        (subst (λ (b : Bool). RefusedBy (if_part b (lines ++ (own ++ layers))) 1 p) there r))
      where
        lines : List Phase
        lines = line_phases (layout_with true) m

        own : List Phase
        own = table_line_phases t m

        layers : List Phase
        layers = layer_phases t m

        of_table : RefusedBy own 1 p ⊎ (AllPass own × RefusedBy layers 1 p) → check_phases own ≡ Fails 1 p
        of_table (inl x) = (phases_exact own (table_lines_decided t m)).refuses.refused 1 p x
        of_table (inr x) = absurd (not_layers x.1)

        by : RefusedBy lines 1 p ⊎ (AllPass lines × RefusedBy (own ++ layers) 1 p) → FormOf t m p
        by (inl x) = inl (subst (λ (b : Bool). lines_check (layout_with b) m ≡ Fails 1 p) (sym there)
            ((lines_refusal (layout_with true) m).refused 1 p (record { by = x })))
        by (inr x) = inr (there, lines_sound (layout_with true) m x.0, of_table (refused_join own layers 1 p x.1))

    -- where the table fits, the lines of the filled mesh pass
    late_one : (c : List ℤ) → TableFits t m → verdict (mesh_read t m) c ≡ Refused 1 p → ⊥
    late_one c f e =
        let sound : LinesSound mesh_layout (mesh_read t m) = subst (LinesSound mesh_layout)
        (sym (read_filled t m there)) (read_lines_lem t m (f there)) in
        passed_is_not_refused
        (sym ((lines_passed mesh_layout (mesh_read t m)).passed sound) ∙ plain_one (mesh_read t m) c p e)

  module _ (none : has_table t ≡ false) where
    never_early : RefusedBy (table_phases t m) 1 p → ⊥
    never_early r = subst
        (λ (b : Bool). RefusedBy
        (if_part b (line_phases (layout_with true) m ++ (table_line_phases t m ++ layer_phases t m))) 1 p) none r

    alone_one : (c : List ℤ) → verdict (mesh_read t m) c ≡ Refused 1 p → FormOf t m p
    unfolding mesh_read
    alone_one c e =
        let same : mesh_read t m ≡ m = ap (λ (b : Bool). cond b (filled t m) m) none in
        let lines : lines_check mesh_layout m ≡ Fails 1 p = plain_one m c p
        (subst (λ (r : List ℤ). verdict r c ≡ Refused 1 p) same e) in
        inl (subst (λ (b : Bool). lines_check (layout_with b) m ≡ Fails 1 p) (sym none) (plain_lines m ∙ lines))

  one_form : (c : List ℤ) → tabled_verdict t m c ≡ Refused 1 p → FormOf t m p
  one_form c e = by (came t m c)
    where
      by : Came t m c → FormOf t m p
      by (early k q r d) =
          let number : k ≡ 1 = cc in
          let place : q ≡ p = cc in
          let s : RefusedBy (table_phases t m) 1 p = subst (RefusedBy (table_phases t m) 1) place
          (subst (λ (k : ℕ). RefusedBy (table_phases t m) k q) number r) in
          cases (has_table t) (λ there. early_one there s) (λ none. absurd (never_early none s))
      by (late f d) = cases (has_table t) (λ there. absurd (late_one there c f (sym d ∙ e)))
          (λ none. alone_one none c (sym d ∙ e))

  form_one : (c : List ℤ) → FormOf t m p → tabled_verdict t m c ≡ Refused 1 p
  form_one c (inl e) =
      let lines : List Phase = line_phases (layout_with (has_table t)) m in
      let rest : List Phase = if_part (has_table t) (table_line_phases t m ++ layer_phases t m) ++ shape_phases
      (mesh_read t m) in
      let r : RefusedBy lines 1 p = ((lines_refusal (layout_with (has_table t)) m).why 1 p e).by in
      (tabled_refused t m c 1 p).1
      (record {
        by = join_refused (tabled_phases t m) (claim_phases (mesh_read t m) c) 1 p
            (inl (join_refused lines rest 1 p (inl r)));
      })
  form_one c (inr (there, s, e)) =
      sym (tabled_refuses t m c
      (table_refuses (record { tabled = there; lines = (lines_passed (layout_with true) m).passed s }) e))

-- ---- 11, on the mesh that is read

module _ (w : ℕ) (m : List ℤ) (claim : List ℕ) (j : ℕ) where
  c : List ℤ
  c = claim_numbers w m claim

  read_claim_form : (verdict m (claim_numbers w m claim) ≡ Refused 11 (Line (suc j))) ↔
      (MeshSound m × FormFails w (claim_layout m) claim j)
  unfolding claim_numbers layout_with claim_layout c
  read_claim_form = (
    λ e. let (s, r) = only (by_lines ((refused_exactly m c 11 (Line (suc j))).0 e)) in
        (s, (form s).0 (lines.refused 11 (Line (suc j)) r)),
    λ h. (refused_exactly m c 11 (Line (suc j))).1 (line_of_claim h.0 (lines.why 11 (Line (suc j)) ((form h.0).1 h.1))),
  )
    where
      form : MeshSound m → (lines_check (claim_layout m) c ≡ Fails 11 (Line (suc j))) ↔ FormFails w
          (claim_layout m) claim j
      form s = form_refused w (claim_layout m)
          (claim_regular m (some_side_lem m ((lines_passed mesh_layout m).passed s.lines))) claim j

      lines : Refuses (lines_check (claim_layout m) c) (LineRefusal (claim_layout m) c)
      lines = lines_refusal (claim_layout m) c

      only : ByLines m c 11 (Line (suc j)) → MeshSound m × LineRefusal (claim_layout m) c 11 (Line (suc j))
      only (inl h) = absurd (other_number 11 (omega arith) (omega arith) claim_number h refl)
      only (inr (inl h)) = h
      only (inr (inr (inl h))) = absurd (omega (arith, h.1))
      only (inr (inr (inr h))) = absurd (omega arith)

-- ---- the verdict on three files

-- the lines of a mesh file, with a table or without
lines_form : (tabled : Bool) (w : ℕ) (mesh : List ℕ) (j : ℕ)
    → (lines_check (layout_with tabled) (mesh_numbers w mesh) ≡ Fails 1 (Line (suc j))) ↔ FormFails w
    (layout_with tabled) mesh j
unfolding layout_with mesh_numbers
lines_form tabled w mesh j =
    subst (λ (ns : List ℤ). (lines_check (layout_with tabled) ns ≡ Fails 1 (Line (suc j))) ↔ FormFails w
    (layout_with tabled) mesh j) (same_numbers tabled w mesh)
    (form_refused w (layout_with tabled) (layout_regular tabled) mesh j)

module _ (w : ℕ) (mesh table claim : List ℕ) (j : ℕ) where
  t : List ℤ
  t = table_numbers_of w table

  m : List ℤ
  m = mesh_numbers w mesh

  -- 1 at line j: the form of the mesh file, or, from line 1,001 on, that of the table file once the mesh's lines have
  -- passed
  pub mesh_form : (files_verdict w mesh table claim ≡ Refused 1 (Line (suc j))) ↔ MeshFormFails w mesh table j
  unfolding files_verdict t m
  mesh_form = (λ e. to (one_form t m (Line (suc j)) read e), λ h. form_one t m (Line (suc j)) read (from h))
    where
      read : List ℤ
      read = claim_numbers w (mesh_from w mesh table) claim

      to : FormOf t m (Line (suc j)) → MeshFormFails w mesh table j
      to (inl e) = inl ((lines_form (has_table t) w mesh j).0 e)
      to (inr (there, s, e)) =
          let (i, p) = from_1001 t m (Line (suc j)) e in
          let number : suc j ≡ 1001 + i = ap place_number p in
          inr (i, omega arith, s, (table_form w m table i).0 (e ∙ ap (Fails 1) p))

      from : MeshFormFails w mesh table j → FormOf t m (Line (suc j))
      from (inl h) = inl ((lines_form (has_table t) w mesh j).1 h)
      from (inr (i, l, s, h)) =
          let number : 1001 + i ≡ suc j = omega arith in
          inr (
            some_file w table (omega (arith, h.begun)),
            s,
            (table_form w m table i).1 h
                ∙ ap (λ (k : ℕ). Fails 1 (Line k)) number,
          )

  -- 11 at line j: the form of the claim file, on a mesh that passes with its table
  pub claim_form : (files_verdict w mesh table claim ≡ Refused 11 (Line (suc j))) ↔
      ((TableFits (table_numbers_of w table) (mesh_numbers w mesh) × MeshSound (mesh_from w mesh table))
      × FormFails w (claim_layout (mesh_from w mesh table)) claim j)
  unfolding files_verdict mesh_from t m
  claim_form = (λ e. to (came t m read) e, λ h. fits_late t m read h.0.0 ∙ form.1 (h.0.1, h.1))
    where
      read : List ℤ
      read = claim_numbers w (mesh_read t m) claim

      form : (verdict (mesh_read t m) read ≡ Refused 11 (Line (suc j))) ↔
          (MeshSound (mesh_read t m) × FormFails w (claim_layout (mesh_read t m)) claim j)
      form = read_claim_form w (mesh_read t m) claim j

      other : {k : ℕ} → k ≡ 11 → OfTable k → ⊥
      other e (h, inl l) = omega arith
      other e (h, inr (inl l)) = omega arith
      other e (h, inr (inr l)) = omega arith

      to : Came t m read → tabled_verdict t m read ≡ Refused 11 (Line (suc j))
          → (TableFits t m × MeshSound (mesh_read t m)) × FormFails w (claim_layout (mesh_read t m)) claim j
      to (early k p r d) e = let number : k ≡ 11 = cc in absurd (other number (early_number t m k p r))
      to (late f d) e = let (s, h) = form.0 (sym d ∙ e) in ((f, s), h)
