-- The lines of a table as they are read: what is read and what is still to be read are all numbers of the table, line
-- by line.
use mathlib.Core.Path.{◌≡◌, refl, sym, ap, ◌∙◌}
use mathlib.Core.List.{List, [], ◌∷◌, ◌++◌, append_assoc}
use mathlib.Core.Option.{Option, none, some}
use Prim.Native.Nat.{ℕ, suc, ◌+◌, ◌*◌, ◌-◌, ◌≤◌, ◌<◌}
use native.Mathlib.Omega.{arith}
use lib.IntN.{ℤ}
use lib.ListN.{length, take, drop, length-append, length-drop}
use lib.Seq.{length-take-le, drop-drop, take_at, drop_at}
use Rattle.scope.specs.Layers.{most_layers, layer_columns}
use Rattle.reader.specs.declared.file_lines.Progress.{Progress}
use Rattle.reader.specs.File.{file_width, line_bytes, read_line, read_lines, left_over, read_rows, table_numbers_of}
use Rattle.std.specs.Prelude.{Some, None}
use Rattle.std.proofs.lemmas.Option.{same_Some}
use Rattle.reader.specs.ReadSoFar.{start, past, written, LineTaken, LineRoom, all_numbers, Room, all_rows, RowsTaken}
use Rattle.reader.specs.Listed.{Listed}
use Rattle.reader.proofs.Line.{line_means}
use Rattle.reader.proofs.Cut.{line_there}
use Rattle.reader.proofs.LinesRead.{drop_further, listed_at_least}

-- i lines of a table are read
pub record InRows (bs : List ℕ) (before out : List ℤ) (q : Progress) (i : ℕ) : Type 0 where
  pub same : table_numbers_of file_width bs ≡ all_rows bs (most_layers - i) q out
  pub there : q.numbers ≤ length out
  pub within : q.at ≤ length bs
  pub others : drop q.numbers out ≡ drop q.numbers before

pub rows_first : {bs : List ℕ} {before : List ℤ} → InRows bs before before start 0
unfolding start all_rows table_numbers_of
rows_first = record { same = refl; there = omega arith; within = omega arith; others = refl }

module _ {bs : List ℕ} {before out : List ℤ} {q : Progress} {i : ℕ} (h : InRows bs before out q i) where
  pub rows_end : most_layers ≤ i → RowsTaken bs before q out
  unfolding all_rows read_rows
  rows_end l =
      let e : most_layers - i ≡ 0 = omega arith in
      record { same = rw e at h.same; there = h.there; within = h.within; others = h.others }

  module _ (l : i < most_layers) where
    rest : List ℕ
    rest = drop q.at bs

    still : most_layers - i ≡ suc (most_layers - (i + 1))
    still = omega arith

    -- the numbers after the next line
    abbrev rows_after : List ℤ
    rows_after =
        read_rows file_width layer_columns (most_layers - (i + 1)) (drop (line_bytes file_width layer_columns) rest)

    -- all numbers, by the next line
    with_line : (zs : List ℤ) → read_line file_width layer_columns rest ≡ some zs
        → table_numbers_of file_width bs ≡ take q.numbers out ++ (zs ++ rows_after)
    unfolding all_rows read_rows rest
    with_line zs e = h.same ∙ rw (still, e, read_rows)

    without_line : read_line file_width layer_columns rest ≡ none
        → table_numbers_of file_width bs ≡ take q.numbers out ++ left_over rest
    unfolding all_rows read_rows rest
    without_line e = h.same ∙ rw (still, e, read_rows)

    pub rows_room : length out ≡ length before → length (table_numbers_of file_width bs) ≤ length before
        → LineRoom bs layer_columns q out
    unfolding rest
    rows_room s fit = record { within = h.within; front = h.there; fits = fits }
      where
        fits : (zs : List ℤ) → read_line file_width layer_columns rest ≡ some zs
            → q.numbers + layer_columns ≤ length out
        fits zs e =
            let count = ((line_means file_width layer_columns rest zs).0 e).count in
            let all = simp length-append at (ap length (with_line zs e)) in
            omega (arith, fit, s, all, length-take-le q.numbers out h.there, count)

    -- where no line more is well formed, what follows is left over
    pub rows_stop : {after : List ℤ} → LineTaken bs layer_columns q out None after → RowsTaken bs before q after
    unfolding past written rest
    rows_stop {after} t = by (read_line file_width layer_columns rest) refl t.progress t.numbers
      where
        by : (o : Option (List ℤ)) → read_line file_width layer_columns rest ≡ o → None ≡ past layer_columns q o
            → after ≡ written layer_columns q.numbers o out → RowsTaken bs before q after
        by none o p w = rw w (record { same = without_line o; there = h.there; within = h.within; others = h.others })
        by (some zs) o p w = cc

    pub rows_next : {r : Progress} {after : List ℤ} → LineTaken bs layer_columns q out (Some r) after
        → InRows bs before after r (i + 1)
    unfolding past written all_rows rest line_bytes
    rows_next {r} {after} t = by (read_line file_width layer_columns rest) refl t.progress t.numbers
      where
        by : (o : Option (List ℤ)) → read_line file_width layer_columns rest ≡ o → Some r ≡ past layer_columns q o
            → after ≡ written layer_columns q.numbers o out → InRows bs before after r (i + 1)
        by none o p w = cc
        by (some zs) o p w =
            let m = ((line_means file_width layer_columns rest zs).0 o).count in
            let n = q.numbers + layer_columns in
            let front : length (take q.numbers out ++ zs) ≡ n =
            length-append (take q.numbers out) zs ∙ omega (arith, length-take-le q.numbers out h.there) in
            let a = take_at (take q.numbers out ++ zs) (drop n out) n front in
            let d = drop_at (take q.numbers out ++ zs) (drop n out) n front in
            rw (same_Some _ _ p) (record {
              same =
                  with_line zs o
                  ∙ rw (w, a, drop-drop (layer_columns * file_width + 1) q.at bs)
                  (sym (append_assoc (take q.numbers out) zs _));
              there = rw w (omega (arith, front, length-append (take q.numbers out ++ zs) (drop n out)));
              within = omega (arith, line_there file_width layer_columns rest zs o, length-drop q.at bs);
              others = rw (w, d) (drop_further q.numbers n out before (omega arith) h.others);
            })

-- ---- what follows the lines

read_nothing : (bs : List ℕ) → read_lines file_width [] bs ≡ left_over bs
unfolding read_lines left_over
read_nothing [] = refl
read_nothing (b ∷ bs) = refl

module _ {bs : List ℕ} {before out : List ℤ} {q : Progress} (h : RowsTaken bs before q out) where
  table_numbers : table_numbers_of file_width bs ≡ all_numbers bs [] q out
  unfolding all_numbers
  table_numbers = rw (read_nothing (drop q.at bs)) h.same

  -- what follows them has room
  pub table_room : length out ≡ length before → length (table_numbers_of file_width bs) ≤ length before
      → Room bs [] q out
  table_room s fit = record { within = h.within; front = h.there; fits = omega (arith, ap length table_numbers) }

  pub table_listed : {n : ℕ} {after : List ℤ} → Listed (all_numbers bs [] q out) out n after
      → Listed (table_numbers_of file_width bs) before n after
  unfolding all_numbers
  table_listed {n} {after} l =
      let m = listed_at_least q.numbers out (read_lines file_width [] (drop q.at bs)) l h.there in
      record {
        count = l.count ∙ ap length (sym table_numbers);
        list = l.list ∙ rw (table_numbers, drop_further q.numbers n out before m h.others);
      }
