-- When each refusal comes (document 01, 'Verdict and report'): its table of refusals as phases, and its order as lists
-- of them.
-- A refusal with its place comes when all before it in the order holds and this place is the lowest that fails
-- (`RefusedBy`).
use Rattle.std.specs.Prelude.{◌≡◌, ◌↔◌, ◌⊎◌, List, [], ◌∷◌, ◌++◌, ℕ, suc, ◌*◌, ◌≤◌, ◌<◌, ℤ, pos, ◌<ℤ◌, eqb, leb, length}
use Rattle.std.specs.Int.Signed.{lt_z}
use Rattle.integer.specs.Tests.{eq_z}
use Rattle.scope.specs.declared.Place.{Place}
use Rattle.scope.specs.declared.Place.TheVariants.{Line, Row, Column, Node, Element}
use Rattle.integer.specs.Members.{◌∈◌}
use Rattle.scope.specs.Phases.{Step, Phase, step, phase, if_part, RefusedBy}
use Rattle.scope.specs.Columns.{all_within, Rule, right_angle, naming, parts, at_most_where, rule_test, has_field}
use Rattle.scope.specs.Columns.{has_multipliers, n, l}
use Rattle.scope.specs.Layout.{Group, Layout, width, groups, line_count, number_count, group_at, numbers_at}
use Rattle.scope.specs.Mesh.{mesh_layout, nodes, elements, edges, jumps, edge_line, jump_line}
use Rattle.scope.specs.Claim.{claim_layout, stress, multiplier}
use Rattle.scope.specs.Rows as R
use Rattle.scope.specs.Rows.{equality_rows, strength_rows, rows_of}
use Rattle.scope.specs.Sums.{row_holds, zero_if_unfixed, column_sum, live_sum}
use Rattle.scope.specs.Tests.{left_turns, own_sides, in_element, lies_apart, outer_edge, is_joint, pairs_fit, row_at}
use Rattle.scope.specs.Meets.{RowMet}
use Rattle.scope.specs.Statements.{AllWithin, Says, AllSay, Complete, InLimits, LineSound, LeftTurns, OwnSides}
use Rattle.scope.specs.Statements.{InElement, NoneShared, OuterEdge, Joint, PairsFit, NoneOnUnfixed}

-- ---- lines: 1 to 4 of a mesh, 11 to 13 of a claim (which is which is said at the end, number by number)

-- the number of the refusal where a rule fails: 3 "p² + q² is not h²", 4 "names a node or soil that isn't there",
-- 13 "both parts absent; field with n = 0; no field and n or l not 0", 2 "mesh number outside its limits"
unfoldable pub rule_number : Rule → ℕ
rule_number right_angle = 3
rule_number (naming cs) = 4
rule_number parts = 13
rule_number (at_most_where c k d z) = 2

-- the rules of a line, in order
abbrev pub rule_steps : List Rule → List ℤ → List Step
rule_steps [] line = []
rule_steps (r ∷ rs) line = step (rule_number r) (Says r line) (rule_test r line) ∷ rule_steps rs line

-- one line: its numbers are all there, each within its limit, then its rules
abbrev pub line_steps : Layout → Group → List ℤ → List Step
line_steps f g line =
    step f.form_number (length line ≡ width g) (eqb (length line) (width g))
    ∷ step f.limit_number (AllWithin g.limits line) (all_within g.limits line)
    ∷ rule_steps g.rules line

-- the lines of a file, "front to back"
abbrev pub lines_phase : Layout → List ℤ → Phase
lines_phase f ns = record {
  count = line_count (groups f ns);
  steps = λ k. line_steps f (group_at f ns k) (numbers_at f ns k);
  place = λ k. Line (suc k);
}

-- "Leftover bytes belong to the line after the last"
abbrev pub leftover_phase : Layout → List ℤ → Phase
leftover_phase f ns =
    phase f.form_number 1
    (λ k. length ns ≤ number_count (groups f ns))
    (λ k. leb (length ns) (number_count (groups f ns)))
    (λ k. Line (suc (line_count (groups f ns))))

abbrev pub line_phases : Layout → List ℤ → List Phase
line_phases f ns = lines_phase f ns ∷ leftover_phase f ns ∷ []

-- ---- the mesh

-- 5: "not a left turn at all four corners"
abbrev pub turns_phase : List ℤ → Phase
turns_phase m = phase 5 (elements m) (LeftTurns m) (left_turns m) (λ e. Element (suc e))

-- 6: "a directed side that a lower element has"
abbrev pub own_sides_phase : List ℤ → Phase
own_sides_phase m = phase 6 (elements m) (OwnSides m) (own_sides m) (λ e. Element (suc e))

-- 7: "in no element"
abbrev pub nodes_phase : List ℤ → Phase
nodes_phase m = phase 7 (nodes m) (InElement m) (in_element m) (λ v. Node (suc v))

-- 47 (document 02, N10): "with the higher element of the pair whose higher number is least"
abbrev pub apart_phase : List ℤ → Phase
apart_phase m = phase 47 (elements m) (NoneShared m) (lies_apart m) (λ e. Element (suc e))

-- 8: "edge is no element's side, or its reverse is one, or an earlier edge has it"
abbrev pub edges_phase : List ℤ → Phase
edges_phase m = phase 8 (edges m) (OuterEdge m) (outer_edge m) (λ g. Line (suc (edge_line m g)))

-- 44 (document 02, N6): "with the line", unless its two sides are a joint
abbrev pub joints_phase : List ℤ → Phase
joints_phase m = phase 44 (jumps m) (Joint m) (is_joint m) (λ j. Line (suc (jump_line m j)))

-- 42 (document 02, N2): "with the node that brings the 101st pair", the 41st with 108 sides (N9)
abbrev pub pairs_phase : List ℤ → Phase
pairs_phase m = phase 42 (nodes m) (PairsFit m) (pairs_fit m) (λ v. Node (suc v))

-- "then 5, 6, 7, 8, each over the whole mesh, lowest place first"; 47 "after 7 and before 8"; 42 "after 8"; 44 "after 8
-- and before 42"
abbrev pub shape_phases : List ℤ → List Phase
shape_phases m =
    turns_phase m
    ∷ own_sides_phase m
    ∷ nodes_phase m
    ∷ apart_phase m
    ∷ edges_phase m
    ∷ joints_phase m
    ∷ pairs_phase m
    ∷ []

-- "mesh lines front to back, in each line 1, 2, 3, 4; then .."
abbrev pub mesh_phases : List ℤ → List Phase
mesh_phases m = line_phases mesh_layout m ++ shape_phases m

-- ---- the parts of a claim, over any equality rows es and strength rows ss

-- 21: "equality fails", of a field of stresses s with l and n
abbrev pub equalities_phase : List R.Row → (ℕ → ℤ) → ℤ → ℤ → Phase
equalities_phase es s l n =
    phase 21 (length es) (λ k. RowMet s l n (row_at es k)) (λ k. row_holds s l n (row_at es k)) (λ k. Row (suc k))

-- 22: "strength fails"
abbrev pub strengths_phase : List R.Row → (ℕ → ℤ) → ℤ → ℤ → Phase
strengths_phase ss s l n =
    phase 22 (length ss) (λ k. RowMet s l n (row_at ss k)) (λ k. row_holds s l n (row_at ss k)) (λ k. Row (suc k))

-- 31: "nonzero multiplier on an unfixed row", of multipliers w
abbrev pub unfixed_phase : List R.Row → (ℕ → ℤ) → Phase
unfixed_phase es w =
    phase 31 (length es) (λ k. NoneOnUnfixed (w k) (row_at es k)) (λ k. zero_if_unfixed (w k) (row_at es k))
    (λ k. Row (suc k))

-- 32: "column sum not 0", of some columns with these sums
abbrev pub columns_phase : (ℕ → ℤ) → ℕ → Phase
columns_phase sum columns = phase 32 columns (λ j. sum j ≡ pos 0) (λ j. eq_z (sum j) (pos 0)) (λ j. Column (suc j))

-- 33: "m is 0 or less", of this m
abbrev pub live_phase : ℤ → Phase
live_phase live = phase 33 1 (λ j. pos 0 <ℤ live) (λ j. lt_z (pos 0) live) (λ j. Column 0)

abbrev pub field_phases : List R.Row → List R.Row → (ℕ → ℤ) → ℤ → ℤ → List Phase
field_phases es ss s l n = equalities_phase es s l n ∷ strengths_phase ss s l n ∷ []

-- rs are all rows
abbrev pub multiplier_phases : List R.Row → List R.Row → ℕ → (ℕ → ℤ) → List Phase
multiplier_phases es rs columns w =
    unfixed_phase es w
    ∷ columns_phase (column_sum w rs) columns
    ∷ live_phase (live_sum w rs)
    ∷ []

-- a part that is absent has no phases
abbrev pub field_part : List ℤ → List ℤ → List Phase
field_part m c = if_part (has_field c) (field_phases (equality_rows m) (strength_rows m) (stress m c) (l c) (n c))

abbrev pub multiplier_part : List ℤ → List ℤ → List Phase
multiplier_part m c =
    if_part (has_multipliers c) (multiplier_phases (equality_rows m) (rows_of m) (3 * nodes m) (multiplier m c))

-- "then 21, 22, 31, 32, 33"
abbrev pub part_phases : List ℤ → List ℤ → List Phase
part_phases m c = field_part m c ++ multiplier_part m c

-- "11 and 12 line by line, 13 straight after line 1; then .."
abbrev pub claim_phases : List ℤ → List ℤ → List Phase
claim_phases m c = line_phases (claim_layout m) c ++ part_phases m c

-- ---- refusals

-- a file's lines are refused with the number k and the place p
pub record LineRefusal (f : Layout) (ns : List ℤ) (k : ℕ) (p : Place) : Type 0 where
  pub by : RefusedBy (line_phases f ns) k p

-- a mesh
pub record MeshRefusal (m : List ℤ) (k : ℕ) (p : Place) : Type 0 where
  pub by : RefusedBy (mesh_phases m) k p

-- a mesh and a claim
pub record Refusal (m c : List ℤ) (k : ℕ) (p : Place) : Type 0 where
  pub by : RefusedBy (mesh_phases m ++ claim_phases m c) k p

-- ---- the numbers of lines, each said by itself with what is not so of which line, and all numbers as a list

-- lines are counted from 0 here
module _ (f : Layout) (ns : List ℤ) where
  -- all lines before line k are sound
  abbrev pub SoundTo : ℕ → Type 0
  SoundTo k = (j : ℕ) → j < k → LineSound f ns j

  -- line k has too few numbers; or all lines are sound and numbers are left over, which "belong to the line after the
  -- last"
  pub record CountFails (k : ℕ) : Type 0 where
    pub before : SoundTo k
    pub fails : ((k < line_count (groups f ns)) × (¬ Complete f ns k))
        ⊎ ((k ≡ line_count (groups f ns)) × (¬ (length ns ≤ number_count (groups f ns))))

  -- line k has all its numbers, and one is outside its limit
  pub record LimitFails (k : ℕ) : Type 0 where
    pub there : k < line_count (groups f ns)
    pub before : SoundTo k
    pub complete : Complete f ns k
    pub fails : ¬ InLimits f ns k

  -- line k has all its numbers, each within its limit; of its rules, this is the first that fails
  pub record RuleFails (r : Rule) (k : ℕ) : Type 0 where
    pub there : k < line_count (groups f ns)
    pub before : SoundTo k
    pub complete : Complete f ns k
    pub in_limits : InLimits f ns k
    pub earlier : List Rule
    pub later : List Rule
    pub listed : (group_at f ns k).rules ≡ earlier ++ r ∷ later
    pub hold : AllSay earlier (numbers_at f ns k)
    pub fails : ¬ Says r (numbers_at f ns k)

-- 1 "mesh form: .. bytes missing or left over", 2 "mesh number outside its limits", one that looks at another column
-- among them, 3 "p² + q² is not h²", 4 "names a node or soil that isn't there"
pub record MeshLineNumbers (m : List ℤ) : Type 0 where
  pub one : (k : ℕ) → LineRefusal mesh_layout m 1 (Line (suc k)) ↔ CountFails mesh_layout m k
  pub two : (k : ℕ) → LineRefusal mesh_layout m 2 (Line (suc k))
      ↔ (LimitFails mesh_layout m k ⊎ ((c n d z : ℕ) × RuleFails mesh_layout m (at_most_where c n d z) k))
  pub three : (k : ℕ) → LineRefusal mesh_layout m 3 (Line (suc k)) ↔ RuleFails mesh_layout m right_angle k
  pub four : (k : ℕ)
      → LineRefusal mesh_layout m 4 (Line (suc k)) ↔ ((cs : List (ℕ × ℕ × ℕ)) × RuleFails mesh_layout m (naming cs) k)

-- 11 "claim form", 12 "claim number outside its limits", 13 "both parts absent; field with n = 0; no field and n or l
-- not 0", "13, line 1"
pub record ClaimLineNumbers (m c : List ℤ) : Type 0 where
  pub eleven : (k : ℕ) → LineRefusal (claim_layout m) c 11 (Line (suc k)) ↔ CountFails (claim_layout m) c k
  pub twelve : (k : ℕ) → LineRefusal (claim_layout m) c 12 (Line (suc k)) ↔ LimitFails (claim_layout m) c k
  pub thirteen : (k : ℕ) → LineRefusal (claim_layout m) c 13 (Line (suc k)) ↔ RuleFails (claim_layout m) c parts k
  pub line_1_only : (k : ℕ) → LineRefusal (claim_layout m) c 13 (Line (suc k)) → k ≡ 0

-- ---- all numbers of document 01's table and of document 02's requests, and no other

abbrev pub refusal_numbers : List ℕ
refusal_numbers = 1 ∷ 2 ∷ 3 ∷ 4 ∷ 5 ∷ 6 ∷ 7 ∷ 8 ∷ 11 ∷ 12 ∷ 13 ∷ 21 ∷ 22 ∷ 31 ∷ 32 ∷ 33 ∷ 42 ∷ 44 ∷ 47 ∷ []

abbrev pub RefusalListed : List ℤ → List ℤ → Type 0
RefusalListed m c = (k : ℕ) (p : Place) → Refusal m c k p → k ∈ refusal_numbers
