-- "a longer file is too long for any mesh or claim and is refused as its first 65,536 bytes are": by its header's
-- limits no mesh and no claim has so many bytes, and a file's numbers depend on no byte after the first beyond its
-- lines.
use mathlib.Core.Path.{◌≡◌, refl, sym, ap, ap₂, ◌∙◌, subst}
use mathlib.Core.Bool.{Bool, true, false, cond, true≢false}
use mathlib.Core.Logic.{◌⊎◌, inl, inr, ◌≢◌}
use mathlib.Core.List.{List, [], ◌∷◌}
use Prim.Native.Nat.{ℕ, ◌+◌, ◌*◌, ◌≤◌, ◌<◌}
use native.Mathlib.Nat.{mul-add, mul_assoc, mul-one, mul-le-mul_right}
use native.Mathlib.Omega.{arith}
use lib.IntN.{ℤ, pos, negsuc}
use lib.Signed.{◌≤ℤ◌}
use lib.ListN.{length, take, get_or, replicate}
use borrow.Table.Steps.{cases}
use Rattle.scope.specs.declared.Place.TheVariants.{Line}
use Rattle.scope.specs.Cases.Outcome.{Outcome}
use Rattle.scope.specs.Cases.Outcome.{Passed, Refused as Fails}
use Rattle.scope.specs.Columns.{free, at, has_field, has_multipliers}
use Rattle.integer.proofs.Order.{≤ℤ_pos}
use Rattle.scope.specs.Layout.{width, count}
use Rattle.scope.specs.Mesh.{pairs_with, mesh_layout, layout_with, mesh_header, soil_lines, node_lines, element_lines}
use Rattle.scope.specs.Mesh.{edge_lines, jump_lines, nodes, elements, soils, edges, sides, jumps}
use Rattle.scope.specs.Rows.{pair_count}
use Rattle.scope.specs.Claim.{claim_layout, if_there}
use Rattle.scope.specs.Statements.{Within, LinesSound, MeshSound}
use Rattle.scope.specs.NumberRanges.{Counts}
use Rattle.scope.specs.Layers.{most_layers, layer_columns, layers}
use Rattle.scope.specs.Filled.{filled}
use Rattle.scope.specs.Table.{table_lines, has_table, mesh_read, tabled_check}
use Rattle.scope.specs.TableVerdict.{tabled_verdict, TableFits}
use Rattle.scope.specs.Answer.{number_of}
use Rattle.scope.specs.Verdict.{answer, line_check, lines_check}
use Rattle.scope.proofs.Refusals.{lines_passed, mesh_passed, line_check_passed}
use Rattle.scope.proofs.Exactly.{there_most}
use Rattle.scope.proofs.Table.{table_facts, tabled_counts}
use Rattle.scope.proofs.TableVerdict.{read_passes, tabled_zero}
use Rattle.scope.proofs.NumberRanges.{counts}
use Rattle.scope.proofs.Lines.{within-at}
use Rattle.scope.proofs.Pairs.{few_pairs_lem}
use Rattle.scope.proofs.PolygonRule.{listed_polygon}
use Rattle.scope.proofs.SideLimits.{few_most}
use Rattle.reader.specs.File.{line_bytes, widths, numbers_of, table_numbers_of, write_lines, table_of}
use Rattle.reader.specs.WellFormed.{bytes_of}
use Rattle.reader.proofs.Regular.{layout_regular, same_numbers, claim_regular}
use Rattle.reader.proofs.Cut.{numbers_cut, passed_length, group_bytes_lem, no_bytes}
use Rattle.judge.specs.Judge.{mesh_numbers, mesh_from, claim_numbers, files_verdict}
use Rattle.judge.specs.ClaimBytes.{claim_bytes}
use Rattle.judge.proofs.Numbers.{some_side_lem}
use Rattle.judge.proofs.ClaimBytes.{claim_bytes_lem}
use Rattle.pechuvo.specs.Check.{most_file_bytes}
use Rattle.pechuvo.proofs.TableFile.{layout_widths, table_cut, table_back}

-- ---- how long a mesh and a claim can be

-- the bytes of the lines after a mesh's header
mesh_bytes : (h : List ℤ) → bytes_of 12 (widths (mesh_layout.body h))
    ≡ soils h * 121 + (nodes h * 25 + (elements h * 61 + (edges h * 85 + jumps h * 49)))
unfolding layout_with soil_lines node_lines element_lines edge_lines jump_lines line_bytes
mesh_bytes h = simp (group_bytes_lem, no_bytes) (omega arith)

mesh_short : (h : List ℤ) → soils h ≤ 16 → nodes h ≤ 100 → elements h ≤ 100 → edges h ≤ 60 → jumps h ≤ 60
    → line_bytes 12 (width mesh_layout.header) + bytes_of 12 (widths (mesh_layout.body h)) < most_file_bytes
unfolding layout_with mesh_header line_bytes
mesh_short h s n e g j = rw (mesh_bytes h) (omega arith)

count_most : (z : ℤ) {k : ℕ} → z ≤ℤ pos k → count z ≤ k
unfolding count
count_most (pos n) h = ≤ℤ_pos h
count_most (negsuc n) h = omega arith

-- a mesh whose header passes
mesh_header_short : (h : List ℤ) → line_check mesh_layout mesh_layout.header h (Line 1) ≡ Passed
    → line_bytes 12 (width mesh_layout.header) + bytes_of 12 (widths (mesh_layout.body h)) < most_file_bytes
unfolding layout_with mesh_header soils nodes elements edges jumps
mesh_header_short h e =
    let p = (line_check_passed mesh_layout mesh_header h (Line 1)).says e in
    let w : (c : ℕ) → c < 6 → Within (get_or mesh_header.limits c free) (at h c) =
    λ c l. within-at mesh_header.limits h c p.0 l p.1 in
    mesh_short h
    (count_most (at h 2) (w 2 (omega arith)).1)
    (count_most (at h 0) (w 0 (omega arith)).1)
    (count_most (at h 1) (w 1 (omega arith)).1)
    (count_most (at h 3) (w 3 (omega arith)).1)
    (count_most (at h 5) (w 5 (omega arith)).1)

mesh_header_line : line_bytes 12 (width mesh_layout.header) ≤ most_file_bytes
unfolding layout_with mesh_header line_bytes
mesh_header_line = omega arith

claim_short : (m c : List ℤ) → MeshSound m
    → line_bytes 12 (width (claim_layout m).header) + bytes_of 12 (widths ((claim_layout m).body c)) < most_file_bytes
unfolding claim_bytes
claim_short m c sound =
    let k = counts m sound.lines in
    let ns = k.nodes_most in
    let ps = few_most (sides m) (few_pairs_lem m sound) in
    let es = k.elements_most in
    let gs = k.edges_most in
    let js = k.jumps_most in
    let a = there_most (has_field c) (nodes m) in
    let b = there_most (has_multipliers c) (elements m) in
    let d = there_most (has_multipliers c) (edges m) in
    let g = there_most (has_multipliers c) (jumps m) in
    let e = there_most (has_multipliers c) (pair_count m) in
    let x : ℕ = if_there (has_multipliers c) (pair_count m) in
    let rows : x * sides m ≤ pairs_with (sides m) * sides m =
    mul-le-mul_right (sides m) (omega (arith, few_pairs_lem m sound)) in
    let p : x * (sides m * 12 + 1) ≡ x * sides m * 12 + x = mul-add x (sides m * 12) 1
    ∙ ap₂ ◌+◌ (sym (mul_assoc x (sides m) 12)) (mul-one x) in
    omega (arith, claim_bytes_lem m c, (listed_polygon (sides m) k.sides_listed).fits.rows_fit)

-- ---- three files, or their first 65,536 bytes

files_cut : (mesh table claim : List ℕ)
    → files_verdict 12 (take most_file_bytes mesh) (take most_file_bytes table) (take most_file_bytes claim)
    ≡ files_verdict 12 mesh table claim
unfolding files_verdict mesh_numbers mesh_from claim_numbers tabled_verdict answer
files_cut mesh table claim =
    ap₂ (λ (u x : List ℤ). tabled_verdict u x
    (numbers_of 12 (claim_layout (mesh_read u x)) (take most_file_bytes claim)))
    (table_cut most_file_bytes table (omega arith))
    (numbers_cut 12 mesh_layout most_file_bytes mesh mesh_header_line mesh_header_short)
    ∙ by (tabled_check t m) refl
  where
    t : List ℤ
    t = table_numbers_of 12 table

    m : List ℤ
    m = numbers_of 12 mesh_layout mesh

    f : List ℤ
    f = mesh_read t m

    by : (o : Outcome) → tabled_check t m ≡ o
        → tabled_verdict t m (numbers_of 12 (claim_layout f) (take most_file_bytes claim))
        ≡ tabled_verdict t m (numbers_of 12 (claim_layout f) claim)
    by Passed e =
        let sound = (mesh_passed f).says (read_passes t m e) in
        ap (tabled_verdict t m)
        (numbers_cut 12 (claim_layout f) most_file_bytes claim (omega (arith, claim_short f [] sound))
        (λ c p. claim_short f c sound))
    by (Fails k p) e = rw e

-- the check of three files is the check of each file cut to 65,536 bytes
pub check_cut : (mesh table claim : List ℕ)
    → files_verdict 12 mesh table claim ≡ files_verdict 12 (take most_file_bytes mesh) (take most_file_bytes table)
    (take most_file_bytes claim)
check_cut mesh table claim = sym (files_cut mesh table claim)

-- ---- a longer file

-- the lines of a mesh pass, with soil 0 allowed where there is a table
pub mesh_lines_lem : (t m : List ℤ) → TableFits t m → MeshSound (mesh_read t m)
    → LinesSound (layout_with (has_table t)) m
unfolding mesh_read layout_with
mesh_lines_lem t m f s =
    cases (has_table t)
    (λ e. subst (λ (b : Bool). LinesSound (layout_with b) m) (sym e) (f e).mesh_lines)
    (λ e. subst (λ (b : Bool). LinesSound (layout_with b) m) (sym e)
    (subst (λ (b : Bool). LinesSound mesh_layout (cond b (filled t m) m)) e s.lines))

lines_counts : (b : Bool) (m : List ℤ) → LinesSound (layout_with b) m → Counts m
unfolding layout_with
lines_counts true m s = tabled_counts m s
lines_counts false m s = counts m s

-- where all before 11 passes
module _ (mesh table : List ℕ) where
  abbrev t : List ℤ
  t = table_numbers_of 12 table

  abbrev m : List ℤ
  m = numbers_of 12 mesh_layout mesh

  mesh_fits : TableFits t m → MeshSound (mesh_read t m) → length mesh < most_file_bytes
  unfolding layout_with mesh_header
  mesh_fits f s =
      let b = has_table t in
      let sound = mesh_lines_lem t m f s in
      let k = lines_counts b m sound in
      let same : numbers_of 12 (layout_with b) mesh ≡ m = same_numbers b 12 mesh in
      let passes : lines_check (layout_with b) (numbers_of 12 (layout_with b) mesh) ≡ Passed =
      ap (lines_check (layout_with b)) same ∙ (lines_passed (layout_with b) m).passed sound in
      let bytes = passed_length 12 (layout_with b) (layout_regular b) mesh passes in
      let told : bytes_of 12 (widths ((layout_with b).body (numbers_of 12 (layout_with b) mesh)))
      ≡ bytes_of 12 (widths (mesh_layout.body m)) =
      ap (λ (x : List ℤ). bytes_of 12 (widths ((layout_with b).body x))) same
      ∙ ap (bytes_of 12) (layout_widths 12 b m) in
      let most = mesh_short m k.soils_most k.nodes_most k.elements_most k.edges_most k.jumps_most in
      omega (arith, bytes, told, most)

  -- the table's lines are whole
  table_size : TableFits t m → length t ≡ layers t * layer_columns
  unfolding layers has_table
  table_size f = cases (has_table t) (λ e. (table_facts m t (f e).lines).size) (λ e. by t refl e)
    where
      by : (u : List ℤ) → t ≡ u → has_table u ≡ false → length t ≡ layers t * layer_columns
      by [] e d = let none : length t ≡ 0 = ap length e in omega (arith, none)
      by (z ∷ zs) e d = absurd (true≢false d)

  whole_table : TableFits t m → (table ≡ write_lines 12 (replicate (layers t) layer_columns) t)
      × (length table ≡ layers t * line_bytes 12 layer_columns) × (layers t ≤ most_layers)
  whole_table f = table_back table (layers t) (table_size f)

  -- so it is the table of its numbers
  pub table_written : TableFits t m → table ≡ table_of 12 t
  unfolding table_of layers table_lines
  table_written f =
      let (bytes, size, few) = whole_table f in
      let counted : layers t ≡ table_lines t = omega (arith, few, table_size f) in
      bytes ∙ ap (λ (k : ℕ). write_lines 12 (replicate k layer_columns) t) counted

accepted_short : (mesh table claim : List ℕ) → number_of (files_verdict 12 mesh table claim) ≡ 0
    → (length mesh < most_file_bytes) × (length table < most_file_bytes) × (length claim < most_file_bytes)
unfolding files_verdict mesh_numbers mesh_from claim_numbers line_bytes
accepted_short mesh table claim e =
    let t = table_numbers_of 12 table in
    let m = numbers_of 12 mesh_layout mesh in
    let f = mesh_read t m in
    let c = numbers_of 12 (claim_layout f) claim in
    let (fits, a) = (tabled_zero t m c).0 e in
    let p = (lines_passed mesh_layout f).passed a.mesh.lines in
    let q = (lines_passed (claim_layout f) c).passed a.lines in
    let whole = whole_table mesh table fits in (
      mesh_fits mesh table fits a.mesh,
      omega (arith, whole.1, whole.2),
      rw (passed_length 12 (claim_layout f) (claim_regular f (some_side_lem f p)) claim q) (claim_short f c a.mesh),
    )

-- "a longer file is too long for any mesh or claim": it is never accepted
pub longer_refused : (mesh table claim : List ℕ)
    → (most_file_bytes < length mesh) ⊎ ((most_file_bytes < length table) ⊎ (most_file_bytes < length claim))
    → number_of (files_verdict 12 mesh table claim) ≢ 0
longer_refused mesh table claim l e = by l (accepted_short mesh table claim e)
  where
    by : (most_file_bytes < length mesh) ⊎ ((most_file_bytes < length table) ⊎ (most_file_bytes < length claim))
        → (length mesh < most_file_bytes) × (length table < most_file_bytes) × (length claim < most_file_bytes) → ⊥
    by (inl g) h = omega arith
    by (inr (inl g)) h = omega arith
    by (inr (inr g)) h = omega arith
