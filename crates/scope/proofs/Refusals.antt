-- Each refusal with its place comes exactly when document 01's table says: each phase's test decides its statement, and
-- one law (`phases_exact`) says the rest.
use mathlib.Core.Path.{◌≡◌, refl, sym, subst}
use mathlib.Core.Logic.{inl, inr}
use mathlib.Core.List.Memᴰ
use mathlib.Core.List.{List, [], ◌∷◌, ◌++◌}
use Prim.Native.Nat.{ℕ, suc, ◌*◌}
use native.Mathlib.Omega.{arith}
use lib.IntN.{ℤ, pos}
use lib.Dec.{leb}
use lib.ListN.{length}
use Rattle.scope.specs.declared.Place.{Place}
use Rattle.scope.specs.declared.Place.TheVariants.{Line}
use Rattle.scope.specs.Checks.{demand, ◌then◌, lowest}
use Rattle.scope.specs.Phases.{AllHold, FirstFails, AllPass, check_phase, check_phases}
use Rattle.scope.specs.Columns.{Rule, at, has_field, has_multipliers, n, l}
use Rattle.scope.specs.Layout.{Group, Layout, width, groups, line_count, number_count, group_at, numbers_at}
use Rattle.scope.specs.Mesh.{mesh_layout, nodes}
use Rattle.scope.specs.Claim.{claim_layout, stress, multiplier}
use Rattle.scope.specs.Rows as R
use Rattle.scope.specs.Rows.{equality_rows, strength_rows, rows_of}
use Rattle.scope.specs.Sums.{column_sum, live_sum}
use Rattle.scope.specs.Tests.{row_at}
use Rattle.scope.specs.Meets.{RowMet, FieldMeets}
use Rattle.scope.specs.Statements.{AllWithin, AllSay, LineSound, LinesSound, MeshSound, MeetsColumns, HasField}
use Rattle.scope.specs.Statements.{HasMultipliers, RowsMet, ColumnsMet}
use Rattle.scope.specs.Refusals.{rule_number, rule_steps, line_steps, line_phases, shape_phases, mesh_phases}
use Rattle.scope.specs.Refusals.{field_phases, multiplier_phases, field_part, multiplier_part, part_phases}
use Rattle.scope.specs.Refusals.{claim_phases, LineRefusal, MeshRefusal, Refusal}
use Rattle.scope.specs.Verdict.{line_check, line_at, lines_check, mesh_check, claim_check, field_check}
use Rattle.scope.specs.Verdict.{multipliers_check}
use Rattle.scope.proofs.Decides.{Decides, equal, at_most, equalℤ, belowℤ, Passes, put_as, Refuses}
use Rattle.scope.proofs.Statements.{all_within_lem, rule_says, left_turns_lem, own_sides_lem, in_element_lem}
use Rattle.scope.proofs.Statements.{outer_edge_lem, is_joint_lem, pairs_fit_lem, row_meets, none_on_unfixed}
use Rattle.scope.proofs.Overlaps.{lies_apart_lem}
use Rattle.scope.proofs.Lists.{each_++, row_in, by_place}
use Rattle.scope.proofs.Phases.{Exact, exact_as, DecidedSteps, Decided, one_step, steps_exact, phases_exact}
use Rattle.scope.proofs.Phases.{check_join, pass_join, pass_parts, decided_join, decided_part, part_passes}
use Rattle.scope.proofs.Phases.{passes_part}

-- ---- one line

rules_decided : (rs : List Rule) (line : List ℤ) → DecidedSteps (rule_steps rs line)
rules_decided [] line = tt
rules_decided (r ∷ rs) line = (rule_says r line, λ h. rules_decided rs line)

rules_say : (rs : List Rule) (line : List ℤ) → AllHold (rule_steps rs line) → AllSay rs line
rules_say [] line h = tt
rules_say (r ∷ rs) line h = (h.0, rules_say rs line h.1)

say_rules : (rs : List Rule) (line : List ℤ) → AllSay rs line → AllHold (rule_steps rs line)
say_rules [] line h = tt
say_rules (r ∷ rs) line h = (h.0, say_rules rs line h.1)

-- the number of a rule that fails is one of a rule
pub rule_number_lem : (rs : List Rule) (line : List ℤ) (c : ℕ) → FirstFails (rule_steps rs line) c
    → (r : Rule) × (c ≡ rule_number r)
rule_number_lem [] line c h = absurd h
rule_number_lem (r ∷ rs) line c (inl h) = (r, sym h.1)
rule_number_lem (r ∷ rs) line c (inr h) = rule_number_lem rs line c h.1

module _ (f : Layout) (g : Group) (line : List ℤ) where
  line_decided : DecidedSteps (line_steps f g line)
  line_decided = (equal (length line) (width g), λ c. (all_within_lem g.limits line, λ i. rules_decided g.rules line))

  pub line_exact : (p : Place) → Exact (line_check f g line p) (AllHold (line_steps f g line))
      (λ c q. FirstFails (line_steps f g line) c × (p ≡ q))
  unfolding line_check
  line_exact p = steps_exact (line_steps f g line) p line_decided

  -- a line passes exactly when its numbers are all there, each is within its limit and the line's rules hold
  pub line_check_passed : (p : Place) → Passes (line_check f g line p)
      ((length line ≡ width g) × AllWithin g.limits line × AllSay g.rules line)
  line_check_passed p =
      put_as (line_exact p).passes
      (λ h. (h.0, h.1.0, rules_say g.rules line h.1.1))
      (λ h. (h.0, (h.1, say_rules g.rules line h.2)))

-- ---- the lines of a file

module _ (f : Layout) (ns : List ℤ) where
  -- line by line, and then what is left over
  pub lines_checked : lines_check f ns ≡ lowest (line_at f ns) (line_count (groups f ns))
      then demand (leb (length ns) (number_count (groups f ns))) f.form_number (Line (suc (line_count (groups f ns))))
  unfolding lines_check line_at line_check check_phases check_phase lowest
  lines_checked = refl

  pub lines_decided : Decided (line_phases f ns)
  lines_decided = (
    λ k h b. line_decided f (group_at f ns k) (numbers_at f ns k),
    λ e. (λ k h b. one_step (at_most (length ns) (number_count (groups f ns))), λ i. tt),
  )

  pub line_sound : (k : ℕ) → AllHold (line_steps f (group_at f ns k) (numbers_at f ns k)) → LineSound f ns k
  line_sound k r = record
      { complete = r.0; in_limits = r.1.0; rules_hold = rules_say (group_at f ns k).rules (numbers_at f ns k) r.1.1 }

  pub sound_line : (k : ℕ) → LineSound f ns k → AllHold (line_steps f (group_at f ns k) (numbers_at f ns k))
  sound_line k r = (r.complete, (r.in_limits, say_rules (group_at f ns k).rules (numbers_at f ns k) r.rules_hold))

  pub line_passed : (k : ℕ) → Passes (line_at f ns k) (LineSound f ns k)
  unfolding line_at
  line_passed k = put_as (line_exact f (group_at f ns k) (numbers_at f ns k) (Line (suc k))).passes (line_sound k)
      (sound_line k)

  pub lines_sound : AllPass (line_phases f ns) → LinesSound f ns
  lines_sound a = record { lines = λ k h. line_sound k (a.0 k h); none_left = (a.1.0 0 (omega arith)).0 }

  pub sound_lines : LinesSound f ns → AllPass (line_phases f ns)
  sound_lines s = (λ k h. sound_line k (s.lines k h), (λ k h. (s.none_left, tt), tt))

  pub lines_exact : Exact (lines_check f ns) (LinesSound f ns) (LineRefusal f ns)
  unfolding lines_check
  lines_exact = exact_as (phases_exact (line_phases f ns) lines_decided) lines_sound sound_lines
      (λ c p r. record { by = r }) (λ c p r. r.by)

  pub lines_passed : Passes (lines_check f ns) (LinesSound f ns)
  lines_passed = lines_exact.passes

  pub lines_refusal : Refuses (lines_check f ns) (LineRefusal f ns)
  lines_refusal = lines_exact.refuses

-- ---- the mesh: a new phase is an entry in each of these three

module _ (m : List ℤ) where
  -- each test decides its statement, given the phases before it
  pub shape_decided : Decided (shape_phases m)
  shape_decided = (
    λ e h b. one_step (left_turns_lem m e),
    λ turns. (
      λ e h b. one_step (own_sides_lem m e),
      λ sides. (
        λ v h b. one_step (in_element_lem m v),
        λ nodes. (
          λ e h b. one_step (lies_apart_lem m (λ d k. (turns d k).0) e h),
          λ apart. (
            λ g h b. one_step (outer_edge_lem m g),
            λ edges. (
              λ j h b. one_step (is_joint_lem m j),
              λ jumps. (λ v h b. one_step (pairs_fit_lem m v), λ pairs. tt),
            ),
          ),
        ),
      ),
    ),
  )

  pub mesh_decided : Decided (mesh_phases m)
  mesh_decided = decided_join (line_phases mesh_layout m) (shape_phases m) (lines_decided mesh_layout m)
      (λ lines. shape_decided)

  pub mesh_sound : AllPass (mesh_phases m) → MeshSound m
  mesh_sound a =
      let (lines, shape) = pass_parts (line_phases mesh_layout m) (shape_phases m) a in
      let (turns, shape) = shape in
      let (sides, shape) = shape in
      let (nodes, shape) = shape in
      let (apart, shape) = shape in
      let (edges, shape) = shape in
      let (joints, shape) = shape in
      let (pairs, shape) = shape in
      record {
        lines = lines_sound mesh_layout m lines;
        left_turns = λ e h. (turns e h).0;
        own_sides = λ e h. (sides e h).0;
        in_element = λ v h. (nodes v h).0;
        none_shared = λ e h. (apart e h).0;
        outer_edges = λ g h. (edges g h).0;
        joints = λ j h. (joints j h).0;
        pairs_fit = λ v h. (pairs v h).0;
      }

  pub sound_mesh : MeshSound m → AllPass (mesh_phases m)
  sound_mesh s =
      pass_join (line_phases mesh_layout m) (shape_phases m) (sound_lines mesh_layout m s.lines) (
        λ e h. (s.left_turns e h, tt),
        (
          λ e h. (s.own_sides e h, tt),
          (
            λ v h. (s.in_element v h, tt),
            (
              λ e h. (s.none_shared e h, tt),
              (λ g h. (s.outer_edges g h, tt), (λ j h. (s.joints j h, tt), (λ v h. (s.pairs_fit v h, tt), tt))),
            ),
          ),
        ),
      )

  pub mesh_exact : Exact (mesh_check m) (MeshSound m) (MeshRefusal m)
  unfolding mesh_check
  mesh_exact = exact_as (phases_exact (mesh_phases m) mesh_decided) mesh_sound sound_mesh (λ c p r. record { by = r })
      (λ c p r. r.by)

  -- its lines, and then its shape
  pub mesh_checked : mesh_check m ≡ lines_check mesh_layout m then check_phases (shape_phases m)
  unfolding mesh_check lines_check
  mesh_checked = check_join (line_phases mesh_layout m) (shape_phases m)

  -- a mesh passes 1 to 8, 47, 44 and 42 exactly when it is sound
  pub mesh_passed : Passes (mesh_check m) (MeshSound m)
  mesh_passed = mesh_exact.passes

-- ---- the parts of a claim, over any rows

module _ (es ss : List R.Row) (s : ℕ → ℤ) (l n : ℤ) where
  field_decided : Decided (field_phases es ss s l n)
  field_decided = (
    λ k h b. one_step (row_meets s l n (row_at es k)),
    λ equalities. (λ k h b. one_step (row_meets s l n (row_at ss k)), λ strengths. tt),
  )

  pub field_sound : AllPass (field_phases es ss s l n) → FieldMeets s l n (es ++ ss)
  field_sound a =
      each_++ (λ r. RowMet s l n r)
      (by_place (λ r. RowMet s l n r) es (λ k h. (a.0 k h).0))
      (by_place (λ r. RowMet s l n r) ss (λ k h. (a.1.0 k h).0))

  pub sound_field : FieldMeets s l n (es ++ ss) → AllPass (field_phases es ss s l n)
  sound_field met = (
    λ k h. (met (row_at es k) (Memᴰ.append_left ss (row_in es k h)), tt),
    (λ k h. (met (row_at ss k) (Memᴰ.append_right es (row_in ss k h)), tt), tt),
  )

  -- a field passes 21 and 22 exactly when it meets all rows
  pub field_passed : Passes (field_check es ss s l n) (FieldMeets s l n (es ++ ss))
  unfolding field_check
  field_passed = put_as (phases_exact (field_phases es ss s l n) field_decided).passes field_sound sound_field

module _ (es rs : List R.Row) (columns : ℕ) (w : ℕ → ℤ) where
  multipliers_decided : Decided (multiplier_phases es rs columns w)
  multipliers_decided = (
    λ k h b. one_step (none_on_unfixed (w k) (row_at es k)),
    λ unfixed. (
      λ j h b. one_step (equalℤ (column_sum w rs j) (pos 0)),
      λ zero. (λ j h b. one_step (belowℤ (pos 0) (live_sum w rs)), λ live. tt),
    ),
  )

  multipliers_sound : AllPass (multiplier_phases es rs columns w) → MeetsColumns es rs columns w
  multipliers_sound a = record {
    unfixed = λ k h. (a.0 k h).0;
    sums = λ j h. (a.1.0 j h).0;
    live = (a.1.1.0 0 (omega arith)).0;
  }

  sound_multipliers : MeetsColumns es rs columns w → AllPass (multiplier_phases es rs columns w)
  sound_multipliers met = (λ k h. (met.unfixed k h, tt), (λ j h. (met.sums j h, tt), (λ j h. (met.live, tt), tt)))

  -- multipliers pass 31 to 33 exactly when they meet all columns
  pub multipliers_passed : Passes (multipliers_check es rs columns w) (MeetsColumns es rs columns w)
  unfolding multipliers_check
  multipliers_passed = put_as (phases_exact (multiplier_phases es rs columns w) multipliers_decided).passes
      multipliers_sound sound_multipliers

-- ---- the claim

module _ (m c : List ℤ) where
  pub field-there : Decides (has_field c) (HasField c)
  unfolding has_field
  field-there = equalℤ (at c 0) (pos 1)

  pub multipliers_there : Decides (has_multipliers c) (HasMultipliers c)
  unfolding has_multipliers
  multipliers_there = equalℤ (at c 1) (pos 1)

  -- a field that is there, and one that is met
  pub field_part_sound : AllPass (field_part m c) → HasField c → RowsMet m c
  unfolding rows_of
  field_part_sound a h = field_sound (equality_rows m) (strength_rows m) (stress m c) (l c) (n c)
      (part_passes (field_phases (equality_rows m) (strength_rows m) (stress m c) (l c) (n c)) field-there a h)

  pub sound_field_part : (HasField c → RowsMet m c) → AllPass (field_part m c)
  unfolding rows_of
  sound_field_part met =
      passes_part (field_phases (equality_rows m) (strength_rows m) (stress m c) (l c) (n c)) field-there
      (λ h. sound_field (equality_rows m) (strength_rows m) (stress m c) (l c) (n c) (met h))

  multiplier_part_sound : AllPass (multiplier_part m c) → HasMultipliers c → ColumnsMet m c
  multiplier_part_sound a h = multipliers_sound (equality_rows m) (rows_of m) (3 * nodes m) (multiplier m c)
      (part_passes (multiplier_phases (equality_rows m) (rows_of m) (3 * nodes m) (multiplier m c)) multipliers_there a
      h)

  sound_multiplier_part : (HasMultipliers c → ColumnsMet m c) → AllPass (multiplier_part m c)
  sound_multiplier_part met =
      passes_part (multiplier_phases (equality_rows m) (rows_of m) (3 * nodes m) (multiplier m c)) multipliers_there
      (λ h. sound_multipliers (equality_rows m) (rows_of m) (3 * nodes m) (multiplier m c) (met h))

  pub claim_decided : Decided (claim_phases m c)
  claim_decided =
      decided_join (line_phases (claim_layout m) c) (part_phases m c) (lines_decided (claim_layout m) c) (λ lines.
      decided_join (field_part m c) (multiplier_part m c)
      (decided_part (has_field c) (field_phases (equality_rows m) (strength_rows m) (stress m c) (l c) (n c))
      (field_decided (equality_rows m) (strength_rows m) (stress m c) (l c) (n c)))
      (λ field. decided_part (has_multipliers c)
      (multiplier_phases (equality_rows m) (rows_of m) (3 * nodes m) (multiplier m c))
      (multipliers_decided (equality_rows m) (rows_of m) (3 * nodes m) (multiplier m c))))

  -- its lines, and then its parts; a field, and then multipliers
  pub claim_checked : claim_check m c ≡ lines_check (claim_layout m) c then check_phases (part_phases m c)
  unfolding claim_check lines_check
  claim_checked = check_join (line_phases (claim_layout m) c) (part_phases m c)

  pub parts_checked : check_phases (part_phases m c) ≡ check_phases (field_part m c)
      then check_phases (multiplier_part m c)
  parts_checked = check_join (field_part m c) (multiplier_part m c)

  -- the checks of a claim on a mesh that has passed
  pub claim_passed : Passes (claim_check m c)
      (LinesSound (claim_layout m) c × ((HasField c → RowsMet m c) × (HasMultipliers c → ColumnsMet m c)))
  unfolding claim_check
  claim_passed =
      put_as (phases_exact (claim_phases m c) claim_decided).passes
      (λ a.
      let (lines, parts) = pass_parts (line_phases (claim_layout m) c) (part_phases m c) a in
      let (field, multipliers) = pass_parts (field_part m c) (multiplier_part m c) parts in
      (lines_sound (claim_layout m) c lines, (field_part_sound field, multiplier_part_sound multipliers)))
      (λ h.
      pass_join (line_phases (claim_layout m) c) (part_phases m c) (sound_lines (claim_layout m) c h.0)
      (pass_join (field_part m c) (multiplier_part m c) (sound_field_part h.1.0) (sound_multiplier_part h.1.1)))

  -- all checks of a mesh and a claim
  pub all_exact : Exact (mesh_check m then claim_check m c) (AllPass (mesh_phases m ++ claim_phases m c)) (Refusal m c)
  unfolding mesh_check claim_check
  all_exact =
      subst (λ o. Exact o (AllPass (mesh_phases m ++ claim_phases m c)) (Refusal m c))
      (check_join (mesh_phases m) (claim_phases m c))
      (exact_as (phases_exact (mesh_phases m ++ claim_phases m c)
      (decided_join (mesh_phases m) (claim_phases m c) (mesh_decided m) (λ mesh. claim_decided))) (λ a. a) (λ a. a)
      (λ k p r. record { by = r }) (λ k p r. r.by))
