-- The numbers of a whole file, from what is said of its header and of its lines.
use mathlib.Core.Path.{◌≡◌, refl, sym, ap, ◌∙◌}
use mathlib.Core.Bool.{true, false}
use mathlib.Core.List.{List, [], ◌∷◌, ◌++◌, append-nil}
use mathlib.Core.Option.{Option, none, some}
use Prim.Native.Nat.{ℕ, suc, ◌+◌, ◌≤◌, ◌<◌}
use native.Mathlib.Nat.{zero-add}
use native.Mathlib.Numerals.{add-one}
use native.Mathlib.Omega.{arith}
use lib.IntN.{ℤ, pos}
use lib.ListN.{length, take, drop, set, take-append-drop, length-append, drop_of_length-le}
use lib.Seq.{length-take-le, set_split, drop-cons, take_at, drop_at, append_snoc}
use Rattle.scope.specs.declared.Place.TheVariants.{Line}
use Rattle.scope.specs.Cases.Outcome.{Outcome, has_passed}
use Rattle.scope.specs.Layout.{Layout, width}
use Rattle.scope.specs.Verdict.{line_check}
use Rattle.reader.specs.declared.file_lines.Progress.{Progress}
use Rattle.reader.specs.File.{file_width, line_bytes, read_line, widths, read_lines, header_passes}
use Rattle.reader.specs.File.{numbers_of}
use Rattle.reader.specs.WellFormed.{Regular}
use Rattle.reader.specs.ReadSoFar.{start, past, written, LineTaken, LineRoom, all_numbers, Room}
use Rattle.reader.specs.Listed.{Listed}
use Rattle.reader.proofs.Line.{line_means}
use Rattle.reader.proofs.Cut.{line_there}
use Rattle.reader.proofs.LinesRead.{drop_further, listed_front}
use Rattle.std.specs.Prelude.{Some, None}
use Rattle.std.proofs.lemmas.Option.{same_Some}

-- ---- after the last line

module _ {bs : List ℕ} {p : Progress} {out : List ℤ} (r : Room bs [] p out) where
  -- where bytes are left over there is room for one number more
  pub left_room : p.at < length bs → p.numbers < length out
  unfolding all_numbers read_lines
  left_room h =
      let all : length (all_numbers bs [] p out) ≡ p.numbers + 1 =
      rw (drop-cons bs p.at 0 h) (simp length-append (omega (arith, length-take-le p.numbers out r.front))) in
      omega (arith, all, r.fits)

  pub whole_done : length bs ≤ p.at → Listed (all_numbers bs [] p out) out p.numbers out
  unfolding all_numbers read_lines
  whole_done h = rw (drop_of_length-le bs h) (listed_front p.numbers out r.front)

  pub whole_left : p.at < length bs → Listed (all_numbers bs [] p out) out (p.numbers + 1) (set out p.numbers (pos 0))
  unfolding all_numbers read_lines
  whole_left h =
      rw (drop-cons bs p.at 0 h)
      (record {
        count =
            sym (length-append (take p.numbers out) (pos 0 ∷ [])
            ∙ ap (λ n. n + 1) (length-take-le p.numbers out r.front));
        list =
            rw (add-one p.numbers)
            (set_split out p.numbers (pos 0) (left_room h)
            ∙ sym (append_snoc (take p.numbers out) (pos 0) (drop (suc p.numbers) out)));
      })

-- what the goals of `finish` follow from
pub ruleset finishes = (left_room, whole_done, whole_left)

-- ---- the header

abbrev header_columns : Layout → ℕ
header_columns f = width f.header

-- what the header's checks say of the numbers at the front of a list
abbrev pub header_says : Layout → List ℤ → Outcome
header_says f ns = line_check f f.header (take (header_columns f) ns) (Line 1)

-- a header stands at the front of the list, and how far the file is read
pub record HeaderRead (f : Layout) (bs : List ℕ) (out : List ℤ) (p : Progress) (after : List ℤ) : Type 0 where
  pub read : read_line file_width (header_columns f) bs ≡ some (take (header_columns f) after)
  pub progress : p ≡ record { at = line_bytes file_width (header_columns f); numbers = header_columns f }
  pub bytes : line_bytes file_width (header_columns f) ≤ length bs
  pub room : header_columns f ≤ length after
  pub others : drop (header_columns f) after ≡ drop (header_columns f) out

module _ (f : Layout) (bs : List ℕ) (out : List ℤ) {after : List ℤ} where
  pub no_header : LineTaken bs (header_columns f) start out None after → Listed (numbers_of file_width f bs) out 0 after
  unfolding past written numbers_of start
  no_header t = by (read_line file_width (header_columns f) bs) refl t.progress t.numbers
    where
      by : (o : Option (List ℤ)) → read_line file_width (header_columns f) bs ≡ o
          → None ≡ past (header_columns f) start o
          → after ≡ written (header_columns f) 0 o out → Listed (numbers_of file_width f bs) out 0 after
      by none o e w = rw (o, numbers_of) (record { count = refl; list = w })
      by (some zs) o e w = cc

module _ (f : Layout) (bs : List ℕ) (out : List ℤ) {p : Progress} {after : List ℤ} where
  pub header_read : LineTaken bs (header_columns f) start out (Some p) after → HeaderRead f bs out p after
  unfolding past written start
  header_read t = by (read_line file_width (header_columns f) bs) refl t.progress t.numbers
    where
      by : (o : Option (List ℤ)) → read_line file_width (header_columns f) bs ≡ o
          → Some p ≡ past (header_columns f) start o → after ≡ written (header_columns f) 0 o out
          → HeaderRead f bs out p after
      by none o e w = cc
      by (some zs) o e w =
          let n = ((line_means file_width (header_columns f) bs zs).0 o).count in
          let w' : after ≡ zs ++ drop (header_columns f) out = w ∙ rw (zero-add (header_columns f)) in
          record {
            read = o ∙ ap some (sym (rw w' (take_at zs (drop (header_columns f) out) (header_columns f) n)));
            progress =
                same_Some _ _ e ∙ rw (zero-add (line_bytes file_width (header_columns f)), zero-add (header_columns f));
            bytes = line_there file_width (header_columns f) bs zs o;
            room = rw w' (omega (arith, length-append zs (drop (header_columns f) out)));
            others = rw w' (drop_at zs (drop (header_columns f) out) (header_columns f) n);
          }

  pub header_refused : HeaderRead f bs out p after → has_passed (header_says f after) ≡ false
      → Listed (numbers_of file_width f bs) out p.numbers after
  unfolding numbers_of header_passes
  header_refused h e =
      rw (h.progress, h.read, numbers_of)
      (rw (e, append-nil (take (header_columns f) after))
      (record {
        count = sym (length-take-le (header_columns f) after h.room);
        list = rw (← h.others) (sym (take-append-drop (header_columns f) after));
      }))

  -- the header alone tells of the lines after it
  same_body : Regular f → HeaderRead f bs out p after → f.body after ≡ f.body (take (header_columns f) after)
  same_body k h =
      ap (λ ns. f.body ns) (sym (take-append-drop (header_columns f) after))
      ∙ k.by_header (take (header_columns f) after) (drop (header_columns f) after)
      (length-take-le (header_columns f) after h.room)

  -- all numbers are those of the header and of the lines that it tells of
  numbers-told : Regular f → HeaderRead f bs out p after → has_passed (header_says f after) ≡ true
      → all_numbers bs (widths (f.body after)) p after ≡ numbers_of file_width f bs
  unfolding all_numbers numbers_of header_passes
  numbers-told k h e = rw (same_body k h, h.progress, h.read, numbers_of) (rw e)

  -- there is room for the lines after the header where there is for all numbers
  pub header_room : Regular f → HeaderRead f bs out p after → has_passed (header_says f after) ≡ true
      → length (numbers_of file_width f bs) ≤ length after → Room bs (widths (f.body after)) p after
  header_room k h e l = record {
    within = omega (arith, ap (λ q. q.at) h.progress, h.bytes);
    front = omega (arith, ap (λ q. q.numbers) h.progress, h.room);
    fits = omega (arith, ap length (numbers-told k h e), l);
  }

  pub header_passed : {r : ℕ} {end : List ℤ} → Regular f → HeaderRead f bs out p after
      → has_passed (header_says f after) ≡ true
      → Listed (all_numbers bs (widths (f.body after)) p after) after r end
      → Listed (numbers_of file_width f bs) out r end
  unfolding all_numbers
  header_passed {r} {end} k h e l =
      let all = numbers-told k h e in
      let rest = read_lines file_width (widths (f.body after)) (drop p.at bs) in
      let m : header_columns f ≤ r =
      omega (
        arith,
        l.count,
        length-append (take p.numbers after) rest,
        ap (λ q. length (take q.numbers after)) h.progress,
        length-take-le (header_columns f) after h.room,
      ) in
      record {
        count = l.count ∙ ap length all;
        list = l.list ∙ rw (all, drop_further (header_columns f) r after out m h.others);
      }

-- and there is room for the header itself
pub first_room : (f : Layout) (bs : List ℕ) (out : List ℤ) → length (numbers_of file_width f bs) ≤ length out
    → LineRoom bs (header_columns f) start out
unfolding numbers_of start
first_room f bs out l = record { within = omega arith; front = omega arith; fits = fits }
  where
    front : (zs : List ℤ) → read_line file_width (header_columns f) bs ≡ some zs
        → length zs ≤ length (numbers_of file_width f bs)
    front zs e = rw (e, numbers_of) (simp length-append (omega arith))

    fits : (zs : List ℤ) → read_line file_width (header_columns f) bs ≡ some zs → 0 + header_columns f ≤ length out
    fits zs e = omega (arith, ((line_means file_width (header_columns f) bs zs).0 e).count, front zs e, l)
