-- The verdict with a table: what comes before 5 refuses with its own numbers, and where it passes the verdict is that
-- on the filled mesh, whose lines are sound. So every theorem about a mesh and a claim is one about the filled mesh.
use mathlib.Core.Path.{◌≡◌, refl, sym, ◌∙◌, ap, subst}
use mathlib.Core.Logic.{◌↔◌, ◌⊎◌, inl, inr}
use mathlib.Core.Bool.{Bool, true, false, cond}
use mathlib.Core.List.{List, [], ◌∷◌, ◌++◌, append_assoc}
use Prim.Native.Nat.{ℕ, suc, ◌+◌, ◌*◌, ◌-◌, ◌≤◌, ◌<◌}
use native.Mathlib.Omega.{arith}
use lib.Dec.{ltb}
use lib.IntN.{ℤ, pos}
use lib.ListN.{length}
use borrow.Table.Steps.{cases}
use Rattle.scope.specs.declared.Place.{Place}
use Rattle.scope.specs.Cases.Outcome.{Outcome}
use Rattle.scope.specs.Cases.Outcome.{Passed, Refused as Fails}
use Rattle.scope.specs.Cases.Verdict.{Refused}
use Rattle.scope.specs.Answer.{place_number, place_for, number_of}
use Rattle.scope.specs.Checks.{◌then◌}
use Rattle.scope.specs.Columns.{Rule, at}
use Rattle.scope.specs.Layout.{Group, Layout, Placed, width, groups, line_count, line_of, numbers_at, group_at}
use Rattle.scope.specs.Mesh.{mesh_header, soil_lines, node_lines, element_lines, edge_lines, jump_lines, mesh_layout}
use Rattle.scope.specs.Mesh.{layout_with, elements}
use Rattle.scope.specs.Mesh.{most_coordinate}
use Rattle.scope.specs.Phases.{Phase, FirstFails, AllPass, RefusedBy, if_part, check_phases}
use Rattle.scope.specs.Statements.{LinesSound}
use Rattle.scope.specs.Refusals.{rule_number, rule_steps, line_steps, line_phases, shape_phases, claim_phases}
use Rattle.scope.specs.Verdict.{lines_check, mesh_check, claim_check, open_count, lower_load, upper_load, answer}
use Rattle.scope.specs.Verdict.{claim_verdict, verdict}
use Rattle.scope.specs.Accepted.{ClaimAccepted}
use Rattle.scope.specs.Layers.{most_layers, none_above, soil_at, highest, layer_phases}
use Rattle.scope.specs.Filled.{height_of, soil_place, filled}
use Rattle.scope.specs.Table.{layer_lines, table_lines, table_layout, table_line_phases, has_table, mesh_read}
use Rattle.scope.specs.Table.{tabled_phases, tabled_check}
use Rattle.scope.specs.TableVerdict.{tabled_verdict, TabledRefusal, TablePasses, TableFits}
use Rattle.scope.proofs.Checks.{then_assoc, then_passed}
use Rattle.scope.proofs.Phases.{Exact, exact_as, Decided, decided_part, EachIn, phases_exact, check_join, pass_join}
use Rattle.scope.proofs.Phases.{pass_parts, decided_join, each_refusal, each_join, each_part, own_number}
use Rattle.scope.proofs.Refusals.{lines_decided, lines_sound, sound_lines, lines_passed, mesh_checked, claim_decided}
use Rattle.scope.proofs.Exactly.{answer_refused, returns_zero}
use Rattle.scope.proofs.AnswerBounds.{line_places, mesh_lines_lem}
use Rattle.scope.proofs.Layers.{layers_decided, sound_of, of_sound}
use Rattle.scope.proofs.Decides.{first_where_lem}
use Rattle.scope.proofs.Given.{given_all_own}
use Rattle.scope.proofs.GivenLines.{lines_as_many}
use Rattle.scope.proofs.PlaceKinds.{Kind, OfLine, step_of_line, line_kinds, one_kind}
use Rattle.scope.proofs.Table.{tabled_decided, with_table, table_lines_decided, table_facts, tabled_header}
use Rattle.scope.proofs.Table.{filled_lines, no_table}

-- ---- what comes before the mesh that is read

abbrev pub table_phases : List ℤ → List ℤ → List Phase
table_phases t m = if_part (has_table t)
    (line_phases (layout_with true) m ++ (table_line_phases t m ++ layer_phases t m))

module _ (t m : List ℤ) where
  pub sound_table : AllPass (table_line_phases t m) → LinesSound (table_layout m) t
  sound_table a = lines_sound (table_layout m) t (a.0, (a.1.0, tt))

  pub table_sound : LinesSound (table_layout m) t → AllPass (table_line_phases t m)
  table_sound s = let a = sound_lines (table_layout m) t s in (a.0, (a.1.0, tt))

  of_table : AllPass (line_phases (layout_with true) m ++ (table_line_phases t m ++ layer_phases t m)) → TablePasses t m
  of_table a =
      let (lines, rest) = pass_parts (line_phases (layout_with true) m) (table_line_phases t m ++ layer_phases t m) a in
      let (own, layers) = pass_parts (table_line_phases t m) (layer_phases t m) rest in
      record {
        mesh_lines = lines_sound (layout_with true) m lines;
        lines = sound_table own;
        sound =
            sound_of t m layers;
      }

  to_table : TablePasses t m → AllPass (line_phases (layout_with true) m ++ (table_line_phases t m ++ layer_phases t m))
  to_table p =
      pass_join (line_phases (layout_with true) m) (table_line_phases t m ++ layer_phases t m)
      (sound_lines (layout_with true) m p.mesh_lines)
      (pass_join (table_line_phases t m) (layer_phases t m) (table_sound p.lines) (of_sound t m p.sound))

  pub table_fits : AllPass (table_phases t m) → TableFits t m
  table_fits a e = of_table
      (subst (λ (b : Bool). AllPass
      (if_part b (line_phases (layout_with true) m ++ (table_line_phases t m ++ layer_phases t m)))) e a)

  pub fits_table : TableFits t m → AllPass (table_phases t m)
  fits_table f =
      cases (has_table t)
      (λ e. subst (λ (b : Bool). AllPass
      (if_part b (line_phases (layout_with true) m ++ (table_line_phases t m ++ layer_phases t m)))) (sym e)
      (to_table (f e)))
      (λ e. subst (λ (b : Bool). AllPass
      (if_part b (line_phases (layout_with true) m ++ (table_line_phases t m ++ layer_phases t m)))) (sym e) tt)

  -- where it passes, the lines of the filled mesh are sound
  pub read_lines_lem : TablePasses t m → LinesSound mesh_layout (filled t m)
  read_lines_lem p = filled_lines m p.mesh_lines t (table_facts m t p.lines) p.sound

  -- ---- the check in two parts

  table_decided : Decided (table_phases t m)
  table_decided =
      decided_part (has_table t) (line_phases (layout_with true) m ++ (table_line_phases t m ++ layer_phases t m))
      (decided_join (line_phases (layout_with true) m) (table_line_phases t m ++ layer_phases t m)
      (lines_decided (layout_with true) m)
      (λ a. decided_join (table_line_phases t m) (layer_phases t m) (table_lines_decided t m)
      (λ b. layers_decided t m)))

  pub table_phases_exact : Exact (check_phases (table_phases t m)) (TableFits t m) (RefusedBy (table_phases t m))
  table_phases_exact = exact_as (phases_exact (table_phases t m) table_decided) table_fits fits_table
      (λ k p r. r) (λ k p r. r)

  -- a check that passes where the one before it has
  once_more : (a b c : Outcome) → (a ≡ Passed → b ≡ Passed) → a then c ≡ a then (b then c)
  once_more Passed b c h = sym (ap (λ (o : Outcome). o then c) (h refl))
  once_more (Fails k p) b c h = refl

  pub in_two : tabled_check t m ≡ check_phases (table_phases t m) then mesh_check (mesh_read t m)
  unfolding tabled_check mesh_read mesh_check layout_with check_phases
  in_two = cases (has_table t) with_one without
    where
      lines : List Phase
      lines = line_phases (layout_with true) m

      own : List Phase
      own = table_line_phases t m ++ layer_phases t m

      with_one : has_table t ≡ true → check_phases (tabled_phases t m) ≡ check_phases (table_phases t m)
          then mesh_check (cond (has_table t) (filled t m) m)
      with_one e =
          ap check_phases (with_table t m e ∙ sym (append_assoc lines own (shape_phases (filled t m))))
          ∙ check_join (lines ++ own) (shape_phases (filled t m))
          ∙ once_more (check_phases (lines ++ own)) (lines_check mesh_layout (filled t m))
          (check_phases (shape_phases (filled t m)))
          (λ d. (lines_passed mesh_layout (filled t m)).passed
          (read_lines_lem (table_phases_exact.passes.says
          (ap (λ (b : Bool). check_phases (if_part b (lines ++ own))) e ∙ d) e)))
          ∙ ap (λ (o : Outcome). check_phases (lines ++ own) then o) (sym (mesh_checked (filled t m)))
          ∙ sym (ap (λ (b : Bool). check_phases (if_part b (lines ++ own)) then mesh_check (cond b (filled t m) m)) e)

      without : has_table t ≡ false → check_phases (tabled_phases t m) ≡ check_phases (table_phases t m)
          then mesh_check (cond (has_table t) (filled t m) m)
      without e =
          ap (λ (b : Bool). check_phases
          (line_phases (layout_with b) m ++ (if_part b own ++ shape_phases (cond b (filled t m) m)))) e
          ∙ sym (ap (λ (b : Bool). check_phases (if_part b (lines ++ own)) then mesh_check (cond b (filled t m) m)) e)

  -- and stage by stage
  pub by_stages : has_table t ≡ true → tabled_check t m ≡ lines_check (layout_with true) m
      then (check_phases (table_line_phases t m)
      then (check_phases (layer_phases t m) then check_phases (shape_phases (filled t m))))
  unfolding tabled_check lines_check
  by_stages e =
      ap check_phases (with_table t m e)
      ∙ check_join (line_phases (layout_with true) m)
      ((table_line_phases t m ++ layer_phases t m) ++ shape_phases (filled t m))
      ∙ ap (λ (o : Outcome). check_phases (line_phases (layout_with true) m) then o)
      (check_join (table_line_phases t m ++ layer_phases t m) (shape_phases (filled t m))
      ∙ ap (λ (o : Outcome). o then check_phases (shape_phases (filled t m)))
      (check_join (table_line_phases t m) (layer_phases t m))
      ∙ then_assoc (check_phases (table_line_phases t m)) (check_phases (layer_phases t m))
      (check_phases (shape_phases (filled t m))))

  -- what all after the lines reads
  pub read_filled : has_table t ≡ true → mesh_read t m ≡ filled t m
  unfolding mesh_read
  read_filled e = ap (λ (b : Bool). cond b (filled t m) m) e

  -- where all passes, so does the mesh that is read
  pub read_passes : tabled_check t m ≡ Passed → mesh_check (mesh_read t m) ≡ Passed
  read_passes e = ((then_passed (check_phases (table_phases t m)) (mesh_check (mesh_read t m))).0 (sym in_two ∙ e)).1

  -- ---- the verdict

  module _ (c : List ℤ) where
    verdict_in_two : tabled_verdict t m c ≡ answer (check_phases (table_phases t m)) (verdict (mesh_read t m) c)
    unfolding tabled_verdict verdict answer
    verdict_in_two = ap (λ (o : Outcome). answer o (claim_verdict (mesh_read t m) c)) in_two
        ∙ by (check_phases (table_phases t m))
      where
        by : (o : Outcome) → answer (o then mesh_check (mesh_read t m)) (claim_verdict (mesh_read t m) c)
            ≡ answer o (answer (mesh_check (mesh_read t m)) (claim_verdict (mesh_read t m) c))
        by Passed = refl
        by (Fails k p) = refl

    -- refused before 5 by the table, or as the mesh that is read
    pub data Came : Type 0 where
      early : (k : ℕ) (p : Place) → RefusedBy (table_phases t m) k p → tabled_verdict t m c ≡ Refused k p → Came
      late : TableFits t m → tabled_verdict t m c ≡ verdict (mesh_read t m) c → Came

    pub came : Came
    unfolding answer
    came = by (check_phases (table_phases t m)) refl
      where
        by : (o : Outcome) → check_phases (table_phases t m) ≡ o → Came
        by Passed e = late (table_phases_exact.passes.says e)
            (verdict_in_two ∙ ap (λ (o : Outcome). answer o (verdict (mesh_read t m) c)) e)
        by (Fails k p) e = early k p (table_phases_exact.refuses.why k p e)
            (verdict_in_two ∙ ap (λ (o : Outcome). answer o (verdict (mesh_read t m) c)) e)

    -- as the order before 5 has it
    pub early_refused : {k : ℕ} {p : Place} → RefusedBy (table_phases t m) k p → tabled_verdict t m c ≡ Refused k p
    unfolding answer
    early_refused {k} {p} r = verdict_in_two ∙ ap (λ (o : Outcome). answer o (verdict (mesh_read t m) c))
        (table_phases_exact.refuses.refused k p r)

    pub fits_late : TableFits t m → tabled_verdict t m c ≡ verdict (mesh_read t m) c
    unfolding answer
    fits_late f = verdict_in_two ∙ ap (λ (o : Outcome). answer o (verdict (mesh_read t m) c))
        (table_phases_exact.passes.passed f)

    -- a refusal with its place exactly when the order has it
    pub tabled_refused : (k : ℕ) (p : Place) → (tabled_verdict t m c ≡ Refused k p) ↔ TabledRefusal t m c k p
    unfolding tabled_verdict claim_verdict tabled_check claim_check
    tabled_refused k p =
        let f : List ℤ = mesh_read t m in
        let all : Exact (check_phases (tabled_phases t m ++ claim_phases f c))
        (AllPass (tabled_phases t m ++ claim_phases f c)) (RefusedBy (tabled_phases t m ++ claim_phases f c)) =
        phases_exact (tabled_phases t m ++ claim_phases f c)
        (decided_join (tabled_phases t m) (claim_phases f c) (tabled_decided t m) (λ a. claim_decided f c)) in
        let join : check_phases (tabled_phases t m ++ claim_phases f c) ≡ check_phases (tabled_phases t m)
        then check_phases (claim_phases f c) = check_join (tabled_phases t m) (claim_phases f c) in
        let checks = answer_refused (tabled_check t m) (claim_check f c) (open_count f c) (lower_load f c)
        (upper_load f c) in (
          λ e. record { by = all.refuses.why k p (join ∙ checks.0 e) },
          λ r. checks.1 (sym join ∙ all.refuses.refused k p r.by),
        )

-- ---- what a table is refused with

-- 1 to 4, 45 or 46
abbrev pub OfTable : ℕ → Type 0
OfTable k = (0 < k) × ((k ≤ 4) ⊎ ((k ≡ 45) ⊎ (k ≡ 46)))

-- rules with such numbers
abbrev Small : List Rule → Type 0
Small [] = Unit {0}
Small (r ∷ rs) = ((0 < rule_number r) × (rule_number r ≤ 4)) × Small rs

abbrev AllSmall : List Group → Type 0
AllSmall [] = Unit {0}
AllSmall (g ∷ gs) = Small g.rules × AllSmall gs

abbrev chosen : Bool → Placed → Placed → Placed
chosen b x y = elim b [ true ↦ x | false ↦ y ]

small_at : (gs : List Group) → AllSmall gs → (from k : ℕ) → Small (line_of from gs k).group.rules
unfolding line_of
small_at [] all from k = tt
small_at (g ∷ gs) all from k = by (ltb k g.lines) (small_at gs all.1 (from + g.lines * width g) (k - g.lines))
  where
    by : (b : Bool) → Small (line_of (from + g.lines * width g) gs (k - g.lines)).group.rules
        → Small (chosen b (record { group = g; first = from + k * width g })
        (line_of (from + g.lines * width g) gs (k - g.lines))).group.rules
    by true rest = all.0
    by false rest = rest

small_rule : (rs : List Rule) (line : List ℤ) (c : ℕ) → Small rs → FirstFails (rule_steps rs line) c → OfTable c
small_rule [] line c q h = absurd h
small_rule (r ∷ rs) line c q (inl h) = subst OfTable h.1 (q.0.0, inl q.0.1)
small_rule (r ∷ rs) line c q (inr h) = small_rule rs line c q.1 h.1

module _ (f : Layout) (ns : List ℤ) (a : OfTable f.form_number) (b : OfTable f.limit_number)
    (small : AllSmall (groups f ns)) where
  line_number : (k c : ℕ) → FirstFails (line_steps f (group_at f ns k) (numbers_at f ns k)) c → OfTable c
  line_number k c (inl h) = subst OfTable h.1 a
  line_number k c (inr (x, inl h)) = subst OfTable h.1 b
  line_number k c (inr (x, inr (y, h))) = small_rule (group_at f ns k).rules (numbers_at f ns k) c
      (small_at (groups f ns) small 0 k) h

four : (0 < 4) × (4 ≤ 4)
four = (omega arith, omega arith)

tabled_small : (m : List ℤ) → AllSmall (groups (layout_with true) m)
unfolding layout_with groups mesh_header soil_lines node_lines element_lines edge_lines jump_lines rule_number
tabled_small m = (
  ((omega arith, omega arith), tt),
  (((omega arith, omega arith), tt), (tt, ((four, tt), ((four, tt), ((four, tt), tt))))),
)

table_small : (t m : List ℤ) → AllSmall (groups (table_layout m) t)
unfolding table_layout groups layer_lines rule_number
table_small t m = ((four, tt), ((four, tt), tt))

module _ (t m : List ℤ) where
  numbers : EachIn (λ k p. OfTable k) (table_phases t m)
  unfolding layout_with table_layout
  numbers =
      each_part Q (has_table t) (line_phases (layout_with true) m ++ (table_line_phases t m ++ layer_phases t m))
      (each_join Q (line_phases (layout_with true) m) (table_line_phases t m ++ layer_phases t m) (
        λ k c h l r. line_number (layout_with true) m one two (tabled_small m) k c r,
        λ e. (λ k c h l r. subst OfTable (own_number refl r) one, λ i. tt),
      )
      (λ a. each_join Q (table_line_phases t m) (layer_phases t m) (
        λ k c h l r. line_number (table_layout m) t one two (table_small t m) k c r,
        λ e. (λ k c h l r. subst OfTable (own_number refl r) one, λ i. tt),
      )
      (λ b. (
        λ k c h l r. subst OfTable (own_number refl r) (omega arith, inr (inr refl)),
        λ e. (
          λ k c h l r. subst OfTable (own_number refl r) (omega arith, inr (inr refl)),
          λ e. (λ k c h l r. subst OfTable (own_number refl r) (omega arith, inr (inl refl)), λ i. tt),
        ),
      ))))
    where
      Q : ℕ → Place → Type 0
      Q k p = OfTable k

      one : OfTable 1
      one = (omega arith, inl (omega arith))

      two : OfTable 2
      two = (omega arith, inl (omega arith))

  kinds : EachIn Kind (table_phases t m)
  unfolding layout_with table_layout place_for
  kinds =
      each_part Kind (has_table t) (line_phases (layout_with true) m ++ (table_line_phases t m ++ layer_phases t m))
      (each_join Kind (line_phases (layout_with true) m) (table_line_phases t m ++ layer_phases t m)
      (line_kinds (layout_with true) m (λ j. refl) (λ j. refl))
      (λ a. each_join Kind (table_line_phases t m) (layer_phases t m) (
        λ k c h l r. step_of_line (table_layout m) t k c (λ j. refl) (λ j. refl) r (1000 + suc k),
        λ e. (λ k c h l r. subst OfLine (own_number refl r) (λ j. refl) _, λ i. tt),
      )
      (λ b. (
        λ k c h l r. one_kind refl r,
        λ e. (λ k c h l r. one_kind refl r, λ e. (λ k c h l r. one_kind refl r, λ i. tt)),
      ))))

  few_lines_lem : line_count (groups (table_layout m) t) ≤ most_layers
  unfolding table_layout groups line_count layer_lines table_lines
  few_lines_lem = omega arith

  highest_most : highest m ≤ most_coordinate
  unfolding highest
  highest_most = (first_where_lem (none_above m) most_coordinate).fits

  places : EachIn (λ k p. place_number p ≤ 4 * most_coordinate) (table_phases t m)
  places =
      each_part Q (has_table t) (line_phases (layout_with true) m ++ (table_line_phases t m ++ layer_phases t m))
      (each_join Q (line_phases (layout_with true) m) (table_line_phases t m ++ layer_phases t m)
      (line_places {B = 337} (omega arith) (omega arith)
      (λ s. omega (arith, mesh_lines_lem m (tabled_header m s), lines_as_many m)))
      (λ a. each_join Q (table_line_phases t m) (layer_phases t m)
      (λ k c h l r. omega (arith, h, few_lines_lem), λ e. (λ k c h l r. omega (arith, few_lines_lem), λ i. tt))
      (λ b. let few = (table_facts m t (sound_table t m b)).few in (
        λ k c h l r. omega (arith, h, few),
        λ e. (λ k c h l r. omega (arith, h, few), λ e. (λ k c h l r. omega (arith, h, highest_most), λ i. tt)),
      ))))
    where
      Q : ℕ → Place → Type 0
      Q k p = place_number p ≤ 4 * most_coordinate

  -- the number of such a refusal is 1 to 4, 45 or 46, its place is the one for it, and at most 4,000
  module _ (k : ℕ) (p : Place) (r : RefusedBy (table_phases t m) k p) where
    pub early_number : OfTable k
    early_number = each_refusal (λ k p. OfTable k) (table_phases t m) numbers r

    pub early_kind : p ≡ place_for k (place_number p)
    early_kind = each_refusal Kind (table_phases t m) kinds r

    pub early_small : place_number p ≤ 4 * most_coordinate
    early_small = each_refusal (λ k p. place_number p ≤ 4 * most_coordinate) (table_phases t m) places r

-- ---- what is returned

-- 0 exactly when the table fits and the claim on the mesh that is read is accepted
pub tabled_zero : (t m c : List ℤ) → (number_of (tabled_verdict t m c) ≡ 0) ↔
    (TableFits t m × ClaimAccepted (mesh_read t m) c)
tabled_zero t m c = (to (came t m c), λ h. ap number_of (fits_late t m c h.0) ∙ (returns_zero (mesh_read t m) c).1 h.1)
  where
    to : Came t m c → number_of (tabled_verdict t m c) ≡ 0 → TableFits t m × ClaimAccepted (mesh_read t m) c
    to (early k p r e) z = absurd (omega (arith, (early_number t m k p r).0, sym (ap number_of e) ∙ z))
    to (late f e) z = (f, (returns_zero (mesh_read t m) c).0 (sym (ap number_of e) ∙ z))

-- without a table nothing is changed
pub no_table_verdict : (m c : List ℤ) → tabled_verdict [] m c ≡ verdict m c
unfolding tabled_verdict verdict mesh_read has_table
no_table_verdict m c = ap (λ (o : Outcome). answer o (claim_verdict m c)) (no_table m)

-- and no mesh that passed without a table is changed by one that passes for it
module _ (t m : List ℤ) where
  pub read_as_it_was : ((e : ℕ) → e < elements m → ¬ (at m (soil_place m e) ≡ pos 0)) → mesh_read t m ≡ m
  unfolding mesh_read filled
  read_as_it_was own =
      cases (has_table t)
      (λ e. ap (λ (b : Bool). cond b (filled t m) m) e ∙ given_all_own (λ e. soil_at t (height_of m e)) m own)
      (λ e. ap (λ (b : Bool). cond b (filled t m) m) e)

-- a table is there exactly where it has a number
pub has_table_lem : (t : List ℤ) → 0 < length t → has_table t ≡ true
unfolding has_table
has_table_lem [] l = absurd (omega arith)
has_table_lem (z ∷ t) l = refl

pub empty_table : {t : List ℤ} → length t ≡ 0 → t ≡ []
empty_table {t = []} e = refl
empty_table {t = z ∷ t} e = absurd (omega arith)
