-- How many numbers a file has at most: line by line, since each number has a column of its own, and no line has more
-- numbers than columns.
use mathlib.Core.Path.{◌≡◌, refl, sym, ◌∙◌, ap}
use mathlib.Core.Bool.{Bool, true, false}
use mathlib.Core.List.{List, [], ◌∷◌, ◌++◌}
use mathlib.Core.Option.{Option, none, some}
use Prim.Native.Nat.{ℕ, zero, suc, ◌+◌, ◌*◌, ◌/◌, ◌≤◌, ◌<◌}
use native.Mathlib.Nat.{zero-mul, suc-mul, add-mul, mul-le-mul_right, le-div_iff_mul-le}
use native.Mathlib.Omega.{arith}
use lib.IntN.{ℤ}
use lib.ListN.{length, take, drop, replicate, length-append, length-drop, length-replicate}
use lib.Seq.{take_all}
use borrow.Table.Steps.{cases}
use Rattle.scope.specs.declared.Place.TheVariants.{Line}
use Rattle.scope.specs.Cases.Outcome.{Passed}
use Rattle.scope.specs.Columns.{has_field, has_multipliers}
use Rattle.scope.specs.Layout.{Group, Layout, width, number_count}
use Rattle.scope.specs.Verdict.{line_check}
use Rattle.scope.specs.Mesh.{pairs_with, mesh_header_columns, mesh_layout, layout_with, mesh_header, soil_lines}
use Rattle.scope.specs.Mesh.{node_lines, element_lines, edge_lines, jump_lines, nodes, elements, soils, edges, sides}
use Rattle.scope.specs.Mesh.{jumps, element_rows, edge_rows, rows_per_jump}
use Rattle.scope.specs.Claim.{claim_header_columns, stress_columns, claim_layout, claim_header, if_there, stress_lines}
use Rattle.scope.specs.Claim.{element_multipliers, edge_multipliers, jump_multipliers, strength_multipliers}
use Rattle.scope.specs.Layers.{most_layers, layer_columns}
use Rattle.scope.proofs.Exactly.{there_most}
use Rattle.scope.specs.NumberRanges.{Counts}
use Rattle.scope.proofs.PolygonRule.{listed_polygon}
use Rattle.scope.specs.Rows.{pair_count}
use Rattle.lines.proofs.LineLaws.{mesh_header_line}
use Rattle.lines.proofs.GroupLaws.{header_counts}
use Rattle.reader.specs.File.{file_width, line_bytes, read_line, read_lines, widths, header_passes, numbers_of}
use Rattle.reader.specs.File.{left_over, read_rows, table_numbers_of}
use Rattle.reader.specs.Most.{most_numbers, mesh_room, claim_room, table_room}
use Rattle.reader.proofs.Line.{line_means}
use Rattle.reader.proofs.Cut.{line_there, header_passes_lem}

-- ---- by the bytes

module _ (w : ℕ) (some_byte : 0 < w) where
  lines_by_bytes : (ks bs : List ℕ) → length (read_lines w ks bs) * w < length bs + w
  unfolding read_lines line_bytes
  lines_by_bytes [] [] = omega arith
  lines_by_bytes [] (b ∷ bs) = omega arith
  lines_by_bytes (k ∷ ks) bs = by (lines_by_bytes ks (drop (line_bytes w k) bs)) (read_line w k bs) refl
    where
      by : length (read_lines w ks (drop (line_bytes w k) bs)) * w < length (drop (line_bytes w k) bs) + w
          → (o : Option (List ℤ)) → read_line w k bs ≡ o → length (read_lines w (k ∷ ks) bs) * w < length bs + w
      by rest none e = rw (e, read_lines) (omega arith)
      by rest (some zs) e =
          let count = ap (λ (n : ℕ). n * w) ((line_means w k bs zs).0 e).count in
          rw (e, read_lines) (simp (length-append, add-mul)
          (omega (arith, rest, count, line_there w k bs zs e, length-drop (line_bytes w k) bs)))

  -- what follows the header, where it is looked at
  looked_at : (b : Bool) (xs : List ℤ) (n : ℕ) → length xs * w < n
      → length {A = ℤ} (elim b as (λ _. List ℤ) [ true ↦ xs | false ↦ [] ]) * w < n
  looked_at true xs n l = l
  looked_at false xs n l = omega (arith, zero-mul w)

  numbers_by_bytes : (f : Layout) (bs : List ℕ) → length (numbers_of w f bs) * w < length bs + w
  unfolding numbers_of line_bytes
  numbers_by_bytes f bs = by (read_line w (width f.header) bs) refl
    where
      next : List ℕ
      next = drop (line_bytes w (width f.header)) bs

      by : (o : Option (List ℤ)) → read_line w (width f.header) bs ≡ o → length (numbers_of w f bs) * w < length bs + w
      by none e = rw (e, numbers_of) (omega arith)
      by (some h) e =
          let count = ap (λ (n : ℕ). n * w) ((line_means w (width f.header) bs h).0 e).count in
          let rest = looked_at (header_passes f h) (read_lines w (widths (f.body h)) next) (length next + w)
          (lines_by_bytes (widths (f.body h)) next) in
          rw (e, numbers_of)
          (simp (length-append, add-mul)
          (omega (
            arith,
            rest,
            count,
            line_there w (width f.header) bs h e,
            length-drop (line_bytes w (width f.header)) bs,
          )))

  few : (n bytes : ℕ) → n * w < bytes + w → n ≤ bytes / w + 1
  few zero bytes l = omega arith
  few (suc n) bytes l = omega (arith, (le-div_iff_mul-le {x = n} {y = bytes} some_byte).1 (omega (arith, suc-mul n w)))

-- a file of L bytes has at most L/12 + 1 numbers
pub numbers_by_length : (f : Layout) (bs : List ℕ) → length (numbers_of file_width f bs) ≤ most_numbers (length bs)
numbers_by_length f bs =
    few file_width (omega arith) (length (numbers_of file_width f bs)) (length bs)
    (numbers_by_bytes file_width (omega arith) f bs)

-- ---- by the lines

-- the columns of some lines
total : List ℕ → ℕ
total [] = 0
total (k ∷ ks) = k + total ks

total_replicate : (n k : ℕ) (ks : List ℕ) → total (replicate n k ++ ks) ≡ n * k + total ks
unfolding total
total_replicate zero k ks = omega (arith, zero-mul k)
total_replicate (suc n) k ks = omega (arith, total_replicate n k ks, suc-mul n k)

widths_total : (gs : List Group) → total (widths gs) ≡ number_count gs
unfolding total widths number_count
widths_total [] = refl
widths_total (g ∷ gs) =
    total_replicate g.lines (width g) (widths gs)
    ∙ ap (λ (n : ℕ). g.lines * width g + n) (widths_total gs)

lines_most : (w : ℕ) (ks bs : List ℕ) → length (read_lines w ks bs) ≤ total ks + 1
unfolding read_lines total
lines_most w [] [] = omega arith
lines_most w [] (b ∷ bs) = omega arith
lines_most w (k ∷ ks) bs = by (lines_most w ks (drop (line_bytes w k) bs)) (read_line w k bs) refl
  where
    by : length (read_lines w ks (drop (line_bytes w k) bs)) ≤ total ks + 1 → (o : Option (List ℤ))
        → read_line w k bs ≡ o → length (read_lines w (k ∷ ks) bs) ≤ k + total ks + 1
    by rest none e = rw (e, read_lines) (omega arith)
    by rest (some zs) e =
        rw (e, read_lines) (simp length-append (omega (arith, rest, ((line_means w k bs zs).0 e).count)))

-- as many as a header that passes tells of, and one for bytes left over
numbers_most : (w : ℕ) (f : Layout) (most : ℕ) → width f.header ≤ most
    → ((h : List ℤ) → length h ≡ width f.header → line_check f f.header h (Line 1) ≡ Passed
    → width f.header + number_count (f.body h) + 1 ≤ most)
    → (bs : List ℕ) → length (numbers_of w f bs) ≤ most
unfolding numbers_of
numbers_most w f most header told bs = by (read_line w (width f.header) bs) refl
  where
    next : List ℕ
    next = drop (line_bytes w (width f.header)) bs

    after : (h : List ℤ) → length h ≡ width f.header
        → length {A = ℤ}
        (elim (header_passes f h) as (λ _. List ℤ) [ true ↦ read_lines w (widths (f.body h)) next | false ↦ [] ])
        + width f.header ≤ most
    after h n =
        cases (header_passes f h)
        (λ p. rw p
        (omega (
          arith,
          told h n (header_passes_lem f h p),
          widths_total (f.body h),
          lines_most w (widths (f.body h)) next,
        )))
        (λ p. rw p (omega arith))

    by : (o : Option (List ℤ)) → read_line w (width f.header) bs ≡ o → length (numbers_of w f bs) ≤ most
    by none e = rw (e, numbers_of) (omega arith)
    by (some h) e =
        let count = ((line_means w (width f.header) bs h).0 e).count in
        rw (e, numbers_of) (simp length-append (omega (arith, count, after h count)))

mesh_count : (m : List ℤ)
    → number_count (mesh_layout.body m)
    ≡ soils m * width (soil_lines 0 0) + nodes m * width (node_lines 0)
    + elements m * width (element_lines 0 0 1 0) + edges m * width (edge_lines 0 0) + jumps m * width (jump_lines 0 0)
unfolding number_count layout_with soil_lines node_lines element_lines edge_lines jump_lines
mesh_count m = omega arith

-- a mesh file
pub mesh_most : (bs : List ℕ) → length (numbers_of file_width mesh_layout bs) ≤ mesh_room
unfolding layout_with mesh_header number_count soil_lines node_lines element_lines edge_lines jump_lines
mesh_most = numbers_most file_width mesh_layout mesh_room (omega arith) told
  where
    told : (h : List ℤ) → length h ≡ mesh_header_columns → line_check mesh_layout mesh_header h (Line 1) ≡ Passed
        → mesh_header_columns + number_count (mesh_layout.body h) + 1 ≤ mesh_room
    told h n e =
        let whole : take mesh_header_columns h ≡ h = take_all mesh_header_columns h (omega arith) in
        let counts =
        (header_counts h (sym (mesh_header_line h)
        ∙ ap (λ (line : List ℤ). line_check mesh_layout mesh_header line (Line 1)) whole
        ∙ e)).counts in
        omega (
          arith,
          mesh_count h,
          counts.soils_most,
          counts.nodes_most,
          counts.elements_most,
          counts.edges_most,
          counts.jumps_most,
        )

claim_count : (m c : List ℤ)
    → number_count ((claim_layout m).body c)
    ≡ if_there (has_field c) (nodes m) * stress_columns + if_there (has_multipliers c) (elements m) * element_rows
    + if_there (has_multipliers c) (edges m) * edge_rows + if_there (has_multipliers c) (jumps m) * rows_per_jump
    + if_there (has_multipliers c) (pair_count m) * sides m
unfolding number_count claim_layout stress_lines element_multipliers edge_multipliers jump_multipliers
    strength_multipliers
claim_count m c = simp length-replicate (omega arith)

-- a claim file on a mesh whose counts and pairs are within their limits
pub claim_most : {m : List ℤ} → Counts m → pair_count m ≤ pairs_with (sides m) → (bs : List ℕ)
    → length (numbers_of file_width (claim_layout m) bs) ≤ claim_room
unfolding claim_layout claim_header
claim_most {m} counts few_pairs =
    numbers_most file_width (claim_layout m) claim_room (omega arith) (λ c n e. told c)
  where
    told : (c : List ℤ) → claim_header_columns + number_count ((claim_layout m).body c) + 1 ≤ claim_room
    told c =
        let a = there_most (has_field c) (nodes m) in
        let b = there_most (has_multipliers c) (elements m) in
        let d = there_most (has_multipliers c) (edges m) in
        let g = there_most (has_multipliers c) (jumps m) in
        let e = there_most (has_multipliers c) (pair_count m) in
        let most : if_there (has_multipliers c) (pair_count m) ≤ pairs_with (sides m) = omega (arith, e, few_pairs) in
        let rows = mul-le-mul_right (sides m) most in
        let fit = (listed_polygon (sides m) counts.sides_listed).fits.numbers_fit in
        omega (
          arith,
          claim_count m c,
          counts.nodes_fit,
          fit,
          counts.elements_most,
          counts.edges_most,
          counts.jumps_most,
        )

-- a table file
left_most : (bs : List ℕ) → length (left_over bs) ≤ 1
unfolding left_over
left_most [] = omega arith
left_most (b ∷ bs) = omega arith

rows_most : (w k n : ℕ) (bs : List ℕ) → length (read_rows w k n bs) ≤ n * k + 1
unfolding read_rows
rows_most w k zero bs = omega (arith, left_most bs, zero-mul k)
rows_most w k (suc n) bs = by (rows_most w k n (drop (line_bytes w k) bs)) (read_line w k bs) refl
  where
    by : length (read_rows w k n (drop (line_bytes w k) bs)) ≤ n * k + 1 → (o : Option (List ℤ)) → read_line w k bs ≡ o
        → length (read_rows w k (suc n) bs) ≤ suc n * k + 1
    by rest none e = rw (e, read_rows) (omega (arith, left_most bs))
    by rest (some zs) e =
        rw (e, read_rows) (simp (length-append, suc-mul) (omega (arith, rest, ((line_means w k bs zs).0 e).count)))

pub table_most : (bs : List ℕ) → length (table_numbers_of file_width bs) ≤ table_room
unfolding table_numbers_of
table_most bs = rows_most file_width layer_columns most_layers bs
