-- What the judging of a mesh leaves of its numbers, by how far it comes: as many as before, and where the mesh passes
-- those that all after its lines reads.
use mathlib.Core.Path.{◌≡◌, refl, sym, ◌∙◌, ap}
use mathlib.Core.Bool.{Bool, true, false, cond}
use mathlib.Core.List.{List, [], ◌++◌, append_assoc}
use Prim.Native.Nat.{ℕ, ◌≤◌}
use native.Mathlib.Omega.{arith}
use lib.IntN.{ℤ}
use lib.ListN.{length, take, drop, length-append}
use lib.Seq.{take_at}
use Rattle.scope.specs.declared.Place.{Place}
use Rattle.scope.specs.Cases.Outcome.{Outcome, Passed, Refused as Fails}
use Rattle.scope.specs.Checks.{◌then◌}
use Rattle.scope.specs.Filled.{filled}
use Rattle.scope.specs.Layers.{layer_phases}
use Rattle.scope.specs.Mesh.{layout_with}
use Rattle.scope.specs.Phases.{if_part, check_phases}
use Rattle.scope.specs.Refusals.{line_phases, shape_phases}
use Rattle.scope.specs.Table.{table_line_phases, has_table, mesh_read, tabled_check}
use Rattle.scope.specs.Verdict.{lines_check}
use Rattle.scope.proofs.Checks.{then_passed}
use Rattle.scope.proofs.Given.{given-length}
use Rattle.scope.proofs.Phases.{check_join}
use Rattle.scope.proofs.TableVerdict.{read_filled}
use Rattle.verdict.specs.JudgeContracts.{LinesPassed}
use Rattle.verdict.specs.NumbersLeft.{before_shape, left_after, numbers_left}

-- the front of a list that a copy is made in
module _ (m before : List ℤ) {after : List ℤ} (e : after ≡ m ++ drop (length m) before) where
  pub copied : take (length m) after ≡ m
  copied = ap (take (length m)) e ∙ take_at m (drop (length m) before) (length m) refl

  pub copy_fits : length m ≤ length after
  copy_fits = omega (arith, ap length e, length-append m (drop (length m) before))

-- without a table they stay, whatever is answered
pub left_alone : (m : List ℤ) → m ≡ numbers_left [] m
unfolding numbers_left left_after mesh_read has_table
left_alone m = by (check_phases (before_shape [] m))
  where
    by : (o : Outcome) → m ≡ left_after o [] m
    by Passed = refl
    by (Fails k p) = refl

module _ (t m : List ℤ) where
  read-length : length (mesh_read t m) ≡ length m
  unfolding mesh_read filled
  read-length = by (has_table t)
    where
      by : (b : Bool) → length (cond b (filled t m) m) ≡ length m
      by true = given-length _ m
      by false = refl

  -- they are as many as before
  pub left-length : length (numbers_left t m) ≡ length m
  unfolding numbers_left left_after
  left-length = by (check_phases (before_shape t m))
    where
      by : (o : Outcome) → length (left_after o t m) ≡ length m
      by Passed = read-length
      by (Fails k p) = refl

  stays : {k : ℕ} {p : Place} → Fails k p ≡ check_phases (before_shape t m) → m ≡ numbers_left t m
  unfolding numbers_left left_after
  stays e = ap (λ (o : Outcome). left_after o t m) e

  is_read : Passed ≡ check_phases (before_shape t m) → mesh_read t m ≡ numbers_left t m
  unfolding numbers_left left_after
  is_read e = ap (λ (o : Outcome). left_after o t m) e

  -- where all passes, all before 5 does
  pub left_read : Passed ≡ tabled_check t m → numbers_left t m ≡ mesh_read t m
  unfolding tabled_check
  left_read e =
      let part = if_part (has_table t) (table_line_phases t m ++ layer_phases t m) in
      let shape = shape_phases (mesh_read t m) in
      let joined = sym (check_join (before_shape t m) shape)
      ∙ ap check_phases (append_assoc (line_phases (layout_with (has_table t)) m) part shape) ∙ sym e in
      sym (is_read (sym ((then_passed (check_phases (before_shape t m)) (check_phases shape)).0 joined).0))

  -- ---- stage by stage

  before_stages : has_table t ≡ true → lines_check (layout_with true) m
      then (check_phases (table_line_phases t m) then check_phases (layer_phases t m)) ≡ check_phases (before_shape t m)
  unfolding lines_check
  before_stages h =
      sym (ap (λ (b : Bool). check_phases
      (line_phases (layout_with b) m ++ if_part b (table_line_phases t m ++ layer_phases t m))) h
      ∙ check_join (line_phases (layout_with true) m) (table_line_phases t m ++ layer_phases t m)
      ∙ ap (λ (o : Outcome). check_phases (line_phases (layout_with true) m) then o)
      (check_join (table_line_phases t m) (layer_phases t m)))

  pub lines_leave : {k : ℕ} {p : Place} → has_table t ≡ true → Fails k p ≡ lines_check (layout_with true) m
      → m ≡ numbers_left t m
  lines_leave h e =
      stays (ap (λ (o : Outcome). o then (check_phases (table_line_phases t m) then check_phases (layer_phases t m))) e
      ∙ before_stages h)

module _ {t m : List ℤ} (p : LinesPassed t m) where
  -- the lines of the mesh have passed
  stages : check_phases (table_line_phases t m) then check_phases (layer_phases t m) ≡ check_phases (before_shape t m)
  stages =
      sym (ap (λ (o : Outcome). o then (check_phases (table_line_phases t m) then check_phases (layer_phases t m)))
      p.lines)
      ∙ before_stages t m p.tabled

  pub table_leaves : {k : ℕ} {q : Place} → Fails k q ≡ check_phases (table_line_phases t m) → m ≡ numbers_left t m
  table_leaves e = stays t m (ap (λ (o : Outcome). o then check_phases (layer_phases t m)) e ∙ stages)

  -- and so have those of the table
  module _ (d : Passed ≡ check_phases (table_line_phases t m)) where
    layers_first : check_phases (layer_phases t m) ≡ check_phases (before_shape t m)
    layers_first = ap (λ (o : Outcome). o then check_phases (layer_phases t m)) d ∙ stages

    pub layers_leave : {k : ℕ} {q : Place} → Fails k q ≡ check_phases (layer_phases t m) → m ≡ numbers_left t m
    layers_leave e = stays t m (e ∙ layers_first)

    pub layers_fill : Passed ≡ check_phases (layer_phases t m) → filled t m ≡ numbers_left t m
    layers_fill e = sym (read_filled t m p.tabled) ∙ is_read t m (e ∙ layers_first)
