-- The bytes of a mesh with a table and of the table: lines are read alike whether or not soil 0 is allowed; a table's
-- numbers depend on its first 32 lines and whether a byte follows; and where its lines are whole its bytes are those
-- of its numbers.
use mathlib.Core.Path.{◌≡◌, refl, sym, ap, ap₂, ◌∙◌}
use mathlib.Core.Bool.{Bool}
use mathlib.Core.List.{List, [], ◌∷◌, ◌++◌}
use mathlib.Core.Option.{Option, none, some}
use Prim.Native.Nat.{ℕ, zero, suc, ◌+◌, ◌*◌, ◌-◌, ◌≤◌, ◌<◌}
use native.Mathlib.Omega.{arith}
use lib.IntN.{ℤ}
use lib.ListN.{length, take, drop, replicate, length-append, length-drop, take-append-drop}
use Rattle.scope.specs.Mesh.{mesh_layout, layout_with, element_lines}
use Rattle.scope.specs.Layers.{most_layers, layer_columns}
use Rattle.reader.specs.File.{file_width, line_bytes, read_line, widths, left_over, read_rows, table_numbers_of}
use Rattle.reader.specs.File.{columns, write_lines, file_of}
use Rattle.reader.proofs.Line.{line_means}
use Rattle.reader.proofs.Cut.{drop-take, line_cut, line_there}
use Rattle.reader.proofs.WrittenBack.{write_line}

-- ---- a mesh with a table, or with none

module _ (w : ℕ) (b : Bool) where
  pub layout_widths : (m : List ℤ) → widths ((layout_with b).body m) ≡ widths (mesh_layout.body m)
  unfolding layout_with widths element_lines
  layout_widths m = refl

  pub layout_file : (zs : List ℤ) → file_of w (layout_with b) zs ≡ file_of w mesh_layout zs
  unfolding file_of layout_with widths element_lines
  layout_file zs = refl

-- ---- the first bytes of a table

left_cut : (n : ℕ) (bs : List ℕ) → 0 < n → left_over (take n bs) ≡ left_over bs
unfolding left_over
left_cut zero bs h = absurd (omega arith)
left_cut (suc n) [] h = refl
left_cut (suc n) (b ∷ bs) h = refl

rows_cut : (w k r n : ℕ) (bs : List ℕ) → r * line_bytes w k < n → read_rows w k r (take n bs) ≡ read_rows w k r bs
unfolding read_rows
rows_cut w k zero n bs h = left_cut n bs (omega arith)
rows_cut w k (suc r) n bs h =
    let b = line_bytes w k in
    let e : b + (n - b) ≡ n = omega arith in
    let d : drop b (take n bs) ≡ take (n - b) (drop b bs) = rw e at (drop-take b (n - b) bs) in
    let i = rows_cut w k r (n - b) (drop b bs) (omega arith) in
    rw (line_cut w k n bs (omega arith), read_rows)
    (ap₂ (λ (x y : List ℤ). elim (read_line w k bs) as (λ o. List ℤ) [ none ↦ x | some zs ↦ zs ++ y ])
    (left_cut n bs (omega arith)) (ap (read_rows w k r) d ∙ i))

pub table_cut : (n : ℕ) (bs : List ℕ) → most_layers * (layer_columns * file_width + 1) < n
    → table_numbers_of file_width (take n bs) ≡ table_numbers_of file_width bs
unfolding table_numbers_of line_bytes
table_cut n bs h = rows_cut file_width layer_columns most_layers n bs h

-- ---- a table of whole lines

-- as many lines, and they are the bytes
abbrev Back : ℕ → ℕ → List ℕ → List ℤ → ℕ → Type 0
Back w n bs t q = (bs ≡ write_lines w (replicate q layer_columns) t) × (length bs ≡ q * line_bytes w layer_columns)
    × (q ≤ n)

left_back : (w n : ℕ) (bs : List ℕ) (q : ℕ) → length (left_over bs) ≡ q * layer_columns → Back w n bs (left_over bs) q
unfolding left_over write_lines columns
left_back w n [] zero e = (refl, omega arith, omega arith)
left_back w n [] (suc q) e = absurd (omega arith)
left_back w n (b ∷ bs) q e = absurd (omega arith)

rows_back : (w n : ℕ) (bs : List ℕ) (q : ℕ) → length (read_rows w layer_columns n bs) ≡ q * layer_columns
    → Back w n bs (read_rows w layer_columns n bs) q
unfolding read_rows
rows_back w zero bs q e = left_back w zero bs q e
rows_back w (suc n) bs q e = by (rows_back w n (drop (line_bytes w layer_columns) bs))
    (read_line w layer_columns bs) refl
  where
    with_line : ((p : ℕ) → length (read_rows w layer_columns n (drop (line_bytes w layer_columns) bs))
        ≡ p * layer_columns → Back w n (drop (line_bytes w layer_columns) bs)
        (read_rows w layer_columns n (drop (line_bytes w layer_columns) bs)) p) → (zs : List ℤ)
        → read_line w layer_columns bs ≡ some zs → (q : ℕ) → length
        (zs ++ read_rows w layer_columns n (drop (line_bytes w layer_columns) bs)) ≡ q * layer_columns
        → Back w (suc n) bs (zs ++ read_rows w layer_columns n (drop (line_bytes w layer_columns) bs)) q
    with_line rest zs o zero d =
        absurd (omega (
          arith,
          length-append zs (read_rows w layer_columns n (drop (line_bytes w layer_columns) bs)),
          ((line_means w layer_columns bs zs).0 o).count,
        ))
    with_line rest zs o (suc p) d =
        let l = (line_means w layer_columns bs zs).0 o in
        let (x, y, z) = rest p
        (omega (
          arith,
          length-append zs (read_rows w layer_columns n (drop (line_bytes w layer_columns) bs)),
          l.count,
        )) in (
          sym (take-append-drop (line_bytes w layer_columns) bs) ∙ ap₂ ◌++◌ l.bytes x
              ∙ sym (write_line w layer_columns (replicate p layer_columns) zs
              (read_rows w layer_columns n (drop (line_bytes w layer_columns) bs)) l.count),
          omega (arith, y, length-drop (line_bytes w layer_columns) bs, line_there w layer_columns bs zs o),
          omega (arith, z),
        )

    by : ((p : ℕ) → length (read_rows w layer_columns n (drop (line_bytes w layer_columns) bs)) ≡ p * layer_columns
        → Back w n (drop (line_bytes w layer_columns) bs)
        (read_rows w layer_columns n (drop (line_bytes w layer_columns) bs)) p) → (o : Option (List ℤ))
        → read_line w layer_columns bs ≡ o → Back w (suc n) bs (read_rows w layer_columns (suc n) bs) q
    by rest none o =
        let same : read_rows w layer_columns (suc n) bs ≡ left_over bs = rw (o, read_rows) in
        rw same (left_back w (suc n) bs q (ap length (sym same) ∙ e))
    by rest (some zs) o =
        let same : read_rows w layer_columns (suc n) bs ≡ zs ++ read_rows w layer_columns n
        (drop (line_bytes w layer_columns) bs) = rw (o, read_rows) in
        rw same (with_line rest zs o q (ap length (sym same) ∙ e))

pub table_back : (bs : List ℕ) (q : ℕ) → length (table_numbers_of file_width bs) ≡ q * layer_columns
    → Back file_width most_layers bs (table_numbers_of file_width bs) q
unfolding table_numbers_of
table_back bs q e = rows_back file_width most_layers bs q e
