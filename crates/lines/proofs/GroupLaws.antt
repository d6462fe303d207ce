-- Laws of groups of lines: the lines of a group one after another, and a file's check as that of its groups one after
-- another, by induction on the groups.
use mathlib.Core.Path.{◌≡◌, refl, sym, ◌∙◌, ap, ap₂, subst}
use mathlib.Core.Logic.{◌⊎◌, inl, inr}
use mathlib.Core.Bool.{Bool, true, false}
use mathlib.Core.List.{List, [], ◌∷◌}
use Prim.Native.Nat.{ℕ, zero, suc, ◌+◌, ◌*◌, ◌-◌, ◌<◌, ◌≤◌}
use native.Mathlib.Nat.{add_assoc, add-zero, zero-add, zero-mul, suc-mul}
use native.Mathlib.Numerals.{add-one, one-add}
use native.Mathlib.Decide.{dec_lt}
use native.Mathlib.Omega.{arith}
use lib.IntN.{ℤ}
use lib.Dec.{leb}
use lib.ListN.{length, take, drop, length-take, length-drop}
use lib.Seq.{drop-drop}
use borrow.Author.Tests.{le-leb, lt-leb}
use Rattle.scope.specs.declared.Place.{Place}
use Rattle.scope.specs.declared.Place.TheVariants.{Line}
use Rattle.scope.specs.Cases.Outcome.{Outcome}
use Rattle.scope.specs.Cases.Outcome.{Passed, Refused}
use Rattle.mesh.specs.declared.sizes.Sizes.{Sizes}
use Rattle.lines.specs.declared.layout.TheConstants.{MESH_FILE, CLAIM_FILE}
use Rattle.lines.specs.declared.layout.Rule.{Rule}
use Rattle.lines.specs.declared.layout.Rule.TheVariants.{Soil, Element, Tabled, Edge, Jump, Layer}
use Rattle.scope.specs.Checks.{demand, ◌then◌, lowest}
use Rattle.scope.specs.Columns.{has_field, has_multipliers}
use Rattle.scope.specs.Layout.{Group, Layout, Placed, width, groups, line_count, number_count, line_of, line_numbers}
use Rattle.scope.specs.Verdict.{line_check, line_at, lines_check}
use Rattle.scope.specs.Mesh.{mesh_header_columns, mesh_header, mesh_layout, layout_with, soils, soil_lines}
use Rattle.scope.specs.Mesh.{element_lines, edge_lines, jump_lines}
use Rattle.scope.specs.Claim.{claim_header_columns, claim_header, claim_layout, if_there}
use Rattle.scope.specs.Layers.{layer_columns}
use Rattle.scope.specs.Phases.{check_steps, check_phase, check_phases}
use Rattle.scope.specs.Refusals.{line_steps}
use Rattle.scope.specs.Table.{layer_lines, table_lines, table_layout, table_line_phases}
use Rattle.mesh.specs.declared.pairs.ClaimSizes.{ClaimSizes}
use Rattle.mesh.specs.MeshContracts.{SizesAre, HeaderThere}
use Rattle.mesh.specs.ClaimContracts.{Counted}
use Rattle.lines.specs.Table.{ruled_lines, mesh_body, claim_body}
use Rattle.lines.specs.LineContracts.{line_step, group_check, groups_check, file_numbers}
use Rattle.scope.proofs.Checks.{then_assoc, lowest_all, all_lowest, first_refused, below_suc, lowest_add, lowest_cong}
use Rattle.scope.proofs.Lines.{line_here, line_after}
use Rattle.scope.proofs.NumberRanges.{header_counts as sound_header}
use Rattle.scope.proofs.Refusals.{line_passed, lines_checked}
use Rattle.lines.proofs.LineLaws.{passed_whole, mesh_header_line}

-- ---- the lines of a group, one after another

module _ (rule : Rule) (z : Sizes) (f : Layout) (s : List ℤ) (line : ℕ) where
  abbrev ruled_step : ℕ → Outcome
  ruled_step k = line_step f (ruled_lines rule z 0) s line k

  ruled_group : (n : ℕ) → lowest ruled_step n ≡ group_check f (ruled_lines rule z n) s line
  unfolding ruled_lines group_check line_check soil_lines element_lines edge_lines jump_lines layer_lines
  ruled_group n = of rule
    where
      of : (rule : Rule) → lowest (line_step f (ruled_lines rule z 0) s line) n
          ≡ group_check f (ruled_lines rule z n) s line
      of Soil = refl
      of Element = refl
      of Tabled = refl
      of Edge = refl
      of Jump = refl
      of Layer = refl

  -- the lines before line k have passed
  module _ (k : ℕ) (h : lowest ruled_step k ≡ Passed) {o : Outcome} (e : o ≡ ruled_step k) where
    pub ruled_more : o ≡ Passed → lowest ruled_step (k + 1) ≡ Passed
    ruled_more d = all_lowest ruled_step (k + 1) (λ i l. by i (below_suc (subst (λ (n : ℕ). i < n) (add-one k) l)))
      where
        by : (i : ℕ) → (i < k) ⊎ (i ≡ k) → ruled_step i ≡ Passed
        by i (inl l) = lowest_all ruled_step k h i l
        by i (inr q) = ap ruled_step q ∙ sym e ∙ d

    pub ruled_stops : (n : ℕ) → k < n → {c : ℕ} {p : Place} → o ≡ Refused c p
        → o ≡ group_check f (ruled_lines rule z n) s line
    ruled_stops n l {c} {p} d = d ∙ sym (first_refused ruled_step n c p k (l, lowest_all ruled_step k h, sym e ∙ d))
        ∙ ruled_group n

  pub ruled_ends : (k n : ℕ) → lowest ruled_step k ≡ Passed → k ≡ n
      → Passed ≡ group_check f (ruled_lines rule z n) s line
  ruled_ends k n h e = sym (ap (lowest ruled_step) (sym e) ∙ h) ∙ ruled_group n

-- ---- a file by its groups

-- a line in its place is checked, in line `line` of the file
abbrev placed_check : Layout → List ℤ → ℕ → Placed → Outcome
placed_check f ns line l = line_check f l.group (line_numbers ns l) (Line line)

none_left : (from : ℕ) (ns : List ℤ) → leb (length ns) (from + 0) ≡ leb (length (drop from ns)) 0
none_left from ns = by (dec_lt from (length ns))
  where
    by : Dec (from < length ns) → leb (length ns) (from + 0) ≡ leb (length (drop from ns)) 0
    by (yes h) = lt-leb (length ns) (from + 0) (omega arith)
        ∙ sym (lt-leb (length (drop from ns)) 0 (omega (arith, length-drop from ns)))
    by (no h) = le-leb (length ns) (from + 0) (omega arith)
        ∙ sym (le-leb (length (drop from ns)) 0 (omega (arith, length-drop from ns)))

-- a group's lines are the first of the file, and the other groups' lines come after them
first_group : (f : Layout) (g : Group) (gs : List Group) (ns : List ℤ) (from line : ℕ)
    → lowest (λ k. placed_check f ns (line + k) (line_of from (g ∷ gs) k)) g.lines ≡ group_check f g (drop from ns) line
unfolding group_check line_numbers
first_group f g gs ns from line =
    lowest_cong (λ k. placed_check f ns (line + k) (line_of from (g ∷ gs) k))
    (line_step f g (drop from ns) line) g.lines
    (λ k h. ap (placed_check f ns (line + k)) (line_here g gs from k h)
    ∙ ap (λ (l : List ℤ). line_check f g (take (width g) l) (Line (line + k)))
    (sym (drop-drop (k * width g) from ns)))

later_groups : (f : Layout) (g : Group) (gs : List Group) (ns : List ℤ) (from line : ℕ)
    → lowest (λ k. placed_check f ns (line + (g.lines + k)) (line_of from (g ∷ gs) (g.lines + k))) (line_count gs)
    ≡ lowest (λ k. placed_check f ns (line + g.lines + k) (line_of (from + g.lines * width g) gs k)) (line_count gs)
later_groups f g gs ns from line = lowest_cong _ _ (line_count gs)
    (λ k h. ap₂ (placed_check f ns) (sym (add_assoc line g.lines k)) (after k))
  where
    after : (k : ℕ) → line_of from (g ∷ gs) (g.lines + k) ≡ line_of (from + g.lines * width g) gs k
    after k = line_after g gs from (g.lines + k) (omega arith)
        ∙ ap (line_of (from + g.lines * width g) gs) (omega arith)

-- the groups from number `from` on, whose first line is line `line` of the file
by_groups : (f : Layout) (gs : List Group) (ns : List ℤ) (from line : ℕ)
    → lowest (λ k. placed_check f ns (line + k) (line_of from gs k)) (line_count gs)
    then demand (leb (length ns) (from + number_count gs)) f.form_number (Line (line + line_count gs))
    ≡ groups_check f gs (drop from ns) line
unfolding line_count number_count groups_check lowest
by_groups f [] ns from line = ap₂ (λ (b : Bool) (k : ℕ). demand b f.form_number (Line k)) (none_left from ns)
    (add-zero line)
by_groups f (g ∷ gs) ns from line =
    let left : Outcome = demand (leb (length ns) (from + (g.lines * width g + number_count gs))) f.form_number
    (Line (line + (g.lines + line_count gs))) in
    let same : left ≡ demand (leb (length ns) (from + g.lines * width g + number_count gs)) f.form_number
    (Line (line + g.lines + line_count gs)) =
    ap₂ (λ (a k : ℕ). demand (leb (length ns) a) f.form_number (Line k))
    (sym (add_assoc from (g.lines * width g) (number_count gs))) (sym (add_assoc line g.lines (line_count gs))) in
    let step : ℕ → Outcome = λ k. placed_check f ns (line + k) (line_of from (g ∷ gs) k) in
    ap (λ (o : Outcome). o then left) (lowest_add step g.lines (line_count gs))
    ∙ then_assoc (lowest step g.lines) (lowest (λ k. step (g.lines + k)) (line_count gs)) left
    ∙ ap₂ ◌then◌ (first_group f g gs ns from line)
    (ap₂ ◌then◌ (later_groups f g gs ns from line) same
    ∙ by_groups f gs ns (from + g.lines * width g) (line + g.lines)
    ∙ ap (λ (s : List ℤ). groups_check f gs s (line + g.lines)) (sym (drop-drop (g.lines * width g) from ns)))

lines_by_groups : (f : Layout) (ns : List ℤ) → lines_check f ns ≡ groups_check f (groups f ns) ns 1
unfolding line_at
lines_by_groups f ns =
    let gs : List Group = groups f ns in
    lines_checked f ns
    ∙ ap₂ ◌then◌
    (lowest_cong _ _ (line_count gs) (λ k h. ap (λ (j : ℕ). placed_check f ns j (line_of 0 gs k)) (sym (one-add k))))
    (ap₂ (λ (a k : ℕ). demand (leb (length ns) a) f.form_number (Line k)) (sym (zero-add (number_count gs)))
    (sym (one-add (line_count gs))))
    ∙ by_groups f gs ns 0 1

-- ---- group after group

-- the check `all` is that of the groups gs on the list s, whose first line is line `line` of the file
pub record Reached (all : Outcome) (f : Layout) (gs : List Group) (s : List ℤ) (line : ℕ) : Type 0 where
  pub same : all ≡ groups_check f gs s line

pub reached : (f : Layout) (gs : List Group) (s : List ℤ) (line : ℕ) → Reached (groups_check f gs s line) f gs s line
reached f gs s line = record { same = refl }

-- o is what the check of the first group says
module _ {all : Outcome} {f : Layout} {g : Group} {gs : List Group} {s : List ℤ} {line : ℕ}
    (h : Reached all f (g ∷ gs) s line) {o : Outcome} (e : o ≡ group_check f g s line) where
  pub stop_here : {c : ℕ} {p : Place} → o ≡ Refused c p → o ≡ all
  unfolding groups_check
  stop_here d = d ∙ sym (h.same ∙ rw (sym e ∙ d))

  pub pass_on : o ≡ Passed → {t : List ℤ} → t ≡ drop (g.lines * width g) s → Reached all f gs t (line + g.lines)
  unfolding groups_check
  pass_on d q = record { same = h.same ∙ rw (sym e ∙ d, q) }

  -- r is what the check of the groups after it says
  pub go_on : o ≡ Passed → {t : List ℤ} → t ≡ drop (g.lines * width g) s → (hs : List Group) → hs ≡ gs → {r : Outcome}
      → r ≡ groups_check f hs t (line + g.lines) → r ≡ all
  go_on d {t} q hs i e = e ∙ ap (λ (ks : List Group). groups_check f ks t (line + g.lines)) i ∙ sym (pass_on d q).same

  -- the numbers of a group that has passed are there
  pub passed_there : 0 < width g → o ≡ Passed → g.lines * width g ≤ length s
  unfolding group_check
  passed_there w d = by g.lines refl
    where
      each : (k : ℕ) → k < g.lines → line_step f g s line k ≡ Passed
      each = lowest_all (line_step f g s line) g.lines (sym e ∙ d)

      by : (n : ℕ) → g.lines ≡ n → n * width g ≤ length s
      by zero q = omega (arith, zero-mul (width g))
      by (suc n) q =
          let whole = passed_whole f g _ _ (each n (omega arith)) in
          omega (arith, suc-mul n (width g), simp (length-take, length-drop) at whole)

-- ---- a part of a claim

pub few_there : {r k B : ℕ} (b : Bool) → r ≡ if_there b k → k ≤ B → r ≤ B
unfolding if_there
few_there true e h = omega arith
few_there false e h = omega arith

-- ---- a file from its header on

-- the groups that the definitions tell, by the sizes that the code is handed
pub mesh_body_lem : {m : List ℤ} {s : Sizes} (tabled : Bool) → SizesAre m s
    → mesh_body s tabled ≡ (layout_with tabled).body m
unfolding layout_with mesh_body
mesh_body_lem tabled k = rw (k.nodes_are, k.elements_are, k.soils_are, k.edges_are, k.sides_are, k.jumps_are)

pub claim_body_lem : {m : List ℤ} {s : ClaimSizes} → Counted m s → (c : List ℤ)
    → claim_body s.sizes s.pairs (has_field c) (has_multipliers c) ≡ (claim_layout m).body c
unfolding claim_layout claim_body
claim_body_lem k c =
    let z = k.sizes in
    rw (z.nodes_are, z.elements_are, z.edges_are, z.jumps_are, z.sides_are, k.pairs_are)

-- only the numbers of its refusals matter of a file
pub mesh_starts : (tabled : Bool) (m : List ℤ)
    → Reached (lines_check (layout_with tabled) m) (file_numbers MESH_FILE) (mesh_header ∷ (layout_with tabled).body m)
    m 1
unfolding groups groups_check group_check line_check layout_with file_numbers
mesh_starts tabled m = record { same = lines_by_groups (layout_with tabled) m }

pub mesh_header_group : (m : List ℤ) → line_at mesh_layout m 0 ≡ group_check (file_numbers MESH_FILE) mesh_header m 1
unfolding group_check lowest line_at line_of line_check groups line_numbers layout_with mesh_header file_numbers
mesh_header_group m = refl

pub claim_starts : (m c : List ℤ)
    → Reached (lines_check (claim_layout m) c) (file_numbers CLAIM_FILE) (claim_header ∷ (claim_layout m).body c) c 1
unfolding groups groups_check group_check line_check claim_layout file_numbers
claim_starts m c = record { same = lines_by_groups (claim_layout m) c }

pub claim_header_group : (c : List ℤ)
    → line_check (claim_layout []) claim_header (take claim_header_columns c) (Line 1)
    ≡ group_check (file_numbers CLAIM_FILE) claim_header c 1
unfolding group_check lowest line_check claim_header claim_layout file_numbers
claim_header_group c = refl

-- ---- a table

-- line k of a table stands in its one group
layer_line_lem : (t m : List ℤ) (k : ℕ) → k < table_lines t
    → line_of 0 (groups (table_layout m) t) k
    ≡ record { group = layer_lines (table_lines t) (soils m); first = 0 + 0 * layer_columns + (k - 0) * layer_columns }
unfolding table_layout groups layer_lines
layer_line_lem t m k l =
    line_after (layer_lines 0 (soils m)) (layer_lines (table_lines t) (soils m) ∷ []) 0 k (omega arith)
    ∙ line_here (layer_lines (table_lines t) (soils m)) [] (0 + 0 * layer_columns) (k - 0) (omega arith)

-- the lines of a table are those of the group, and then what is left over
pub table_check : (t m : List ℤ) (s : Sizes) → soils m ≡ s.soils
    → check_phases (table_line_phases t m)
    ≡ group_check (file_numbers MESH_FILE) (ruled_lines Layer s (table_lines t)) t 1001
    then demand (leb (length t) (table_lines t * layer_columns)) 1 (Line (1001 + table_lines t))
unfolding check_phases check_phase table_layout groups line_count number_count layer_lines lowest group_check
    ruled_lines line_numbers line_check file_numbers
table_check t m s e =
    let lines : line_count (groups (table_layout m) t) ≡ table_lines t = omega arith in
    let numbers : number_count (groups (table_layout m) t) ≡ table_lines t * layer_columns = omega arith in
    let after : 1000 + suc (line_count (groups (table_layout m) t)) ≡ 1001 + table_lines t = omega arith in
    ap₂ ◌then◌
    (ap (lowest (λ k. above k (line_of 0 (groups (table_layout m) t) k))) lines
    ∙ lowest_cong _ _ (table_lines t) (λ k l. ap (above k) (layer_line_lem t m k l) ∙ step k))
    (ap₂ (λ (a b : ℕ). demand (leb (length t) a) 1 (Line b)) numbers after)
  where
    above : ℕ → Placed → Outcome
    above k l = check_steps (line_steps (table_layout m) l.group (line_numbers t l)) (Line (1000 + suc k))

    step : (k : ℕ)
        → above k
        (record {
          group = layer_lines (table_lines t) (soils m);
          first = 0 + 0 * layer_columns + (k - 0) * layer_columns;
        })
        ≡ line_step (file_numbers MESH_FILE) (ruled_lines Layer s (table_lines t)) t 1001 k
    step k =
        let first : 0 + 0 * layer_columns + (k - 0) * layer_columns ≡ k * layer_columns = omega arith in
        let place : 1000 + suc k ≡ 1001 + k = omega arith in
        ap₂ (λ (a p : ℕ). check_steps
        (line_steps (table_layout m) (layer_lines (table_lines t) (soils m)) (take layer_columns (drop a t)))
        (Line p)) first place
        ∙ ap (λ (ss : ℕ). line_check (file_numbers MESH_FILE) (layer_lines (table_lines t) ss)
        (take layer_columns (drop (k * layer_columns) t)) (Line (1001 + k))) e

-- ---- what a header says where it has passed

pub header_counts : (m : List ℤ) → line_at mesh_layout m 0 ≡ Passed → HeaderThere m
unfolding mesh_header
header_counts m e =
    let p : line_check mesh_layout mesh_header (take mesh_header_columns m) (Line 1) ≡ Passed =
    mesh_header_line m ∙ e in
    let whole = passed_whole mesh_layout mesh_header (take mesh_header_columns m) (Line 1) p in
    record {
      there = omega (arith, length-take mesh_header_columns m, whole);
      counts = sound_header m ((line_passed mesh_layout m 0).says e);
    }

-- a claim whose header has passed has its four numbers
pub claim_header_there : (c : List ℤ)
    → line_check (claim_layout []) claim_header (take claim_header_columns c) (Line 1) ≡ Passed
    → claim_header_columns ≤ length c
unfolding claim_header
claim_header_there c e =
    let whole = passed_whole (claim_layout []) claim_header (take claim_header_columns c) (Line 1) e in
    omega (arith, length-take claim_header_columns c, whole)
