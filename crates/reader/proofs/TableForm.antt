-- A table's numbers are judged line by line as its lines are read; so it is refused for its form where a line that has
-- a byte isn't well formed or is the 33rd, and a table written from numbers is judged as they are.
use mathlib.Core.Path.{◌≡◌, refl, sym, ap, ap₂, ◌∙◌}
use mathlib.Core.Logic.{◌↔◌, ◌⊎◌, inl, inr}
use mathlib.Core.Bool.{Bool, true, false, cond, not}
use mathlib.Core.List.{List, [], ◌∷◌, ◌++◌, append-nil}
use mathlib.Core.Option.{Option, none, some}
use Prim.Native.Nat.{ℕ, zero, suc, ◌+◌, ◌*◌, ◌/◌, ◌≤◌, ◌<◌, min}
use native.Mathlib.Nat.{add-zero, zero-mul, suc-mul}
use native.Mathlib.Decide.{dec_lt}
use native.Mathlib.Omega.{arith}
use lib.IntN.{ℤ, pos}
use lib.Dec.{eqb, eqb-suc-zero}
use lib.ListN.{length, take, drop, replicate, length-append, length-drop, take-append-drop}
use lib.Seq.{drop-drop, length-take-le, take_all}
use borrow.Author.Tests.{lt-leb}
use Rattle.scope.specs.declared.Place.{Place}
use Rattle.scope.specs.declared.Place.TheVariants.{Line}
use Rattle.scope.specs.Cases.Outcome.{Outcome}
use Rattle.scope.specs.Cases.Outcome.{Passed, Refused}
use Rattle.scope.specs.Answer.{place_number}
use Rattle.scope.specs.Checks.{◌then◌, lowest}
use Rattle.scope.specs.Phases.{Step, Phase, check_steps, check_phase, check_phases}
use Rattle.scope.specs.Layout.{Group, Layout, groups}
use Rattle.scope.specs.Mesh.{soils}
use Rattle.scope.specs.Layers.{most_layers, layer_columns}
use Rattle.scope.specs.Refusals.{lines_phase, leftover_phase}
use Rattle.scope.specs.Table.{layer_lines, table_lines, table_layout, above_mesh, table_line_phases, has_table}
use Rattle.scope.specs.Verdict.{line_check, lines_check}
use Rattle.scope.proofs.Checks.{passed_is_not_refused, then_refused, lowest_cong}
use Rattle.scope.proofs.InOrder.{lines_of, check_from, lines_in_order, check_line, check_short}
use Rattle.reader.specs.File.{line_bytes, read_line, columns, left_over, read_rows, table_numbers_of, write_lines}
use Rattle.reader.specs.File.{table_of}
use Rattle.reader.specs.WellFormed.{Fit, GoodLine, IllFormed}
use Rattle.reader.specs.TableFile.{layer_line, TableFormFails}
use Rattle.reader.proofs.Line.{line_means}
use Rattle.reader.proofs.Regular.{mesh_number}
use Rattle.reader.proofs.Form.{unread, good, good_read, good_passed, ill_formed_unread, not_form}
use Rattle.reader.proofs.Written.{fit_drop, first_whole, after_first, first_short, columns_some}

-- ---- at most n lines, as many as the numbers begin

unfoldable begun : ℕ → List ℤ → ℕ
begun n t = min ((length t + 2) / layer_columns) n

place_of_lem : {a b : ℕ} {p q : Place} → Refused a p ≡ Refused b q → q ≡ p
place_of_lem e = cc

module _ (m : List ℤ) where
  abbrev f : Layout
  f = table_layout m

  abbrev g : Group
  g = layer_line m

  judged : ℕ → List ℤ → ℕ → Outcome
  judged n t j = check_from f (replicate (begun n t) g) t j

  judged_none : (n j : ℕ) → judged n [] j ≡ Passed
  unfolding judged begun check_from
  judged_none n j = let e : min (2 / layer_columns) n ≡ 0 = omega arith in rw e

  judged-left : (t : List ℤ) (j : ℕ) → 0 < length t → judged 0 t j ≡ Refused 1 (Line (suc j))
  unfolding judged begun check_from table_layout
  judged-left t j h =
      let e : min ((length t + 2) / layer_columns) 0 ≡ 0 = omega arith in
      rw e (rw (lt-leb (length t) 0 h))

  judged_short : (n : ℕ) (t : List ℤ) (j : ℕ) → 0 < length t → length t < layer_columns
      → judged (suc n) t j ≡ Refused 1 (Line (suc j))
  unfolding judged begun table_layout layer_lines
  judged_short n t j h l =
      let e : min ((length t + 2) / layer_columns) (suc n) ≡ 1 = omega arith in
      rw e (check_short (table_layout m) (layer_line m) [] t j (omega arith))

  judged_line : (n : ℕ) (zs t : List ℤ) (j : ℕ) → length zs ≡ layer_columns
      → judged (suc n) (zs ++ t) j ≡ line_check f g zs (Line (suc j)) then judged n t (suc j)
  unfolding judged begun layer_lines
  judged_line n zs t j h =
      let e : min ((length (zs ++ t) + 2) / layer_columns) (suc n) ≡ suc (min ((length t + 2) / layer_columns) n) =
      omega (arith, length-append zs t) in
      rw e (check_line f g (replicate (min ((length t + 2) / layer_columns) n) g) zs t j h)

  begun_more : (n : ℕ) (t : List ℤ) → layer_columns ≤ length t → begun (suc n) t ≡ suc (begun n (drop layer_columns t))
  unfolding begun
  begun_more n t l = omega (arith, length-drop layer_columns t)

  -- the lines of the layout
  same_lines : (n a j : ℕ) (t : List ℤ) → check_from f (replicate a (layer_lines n (soils m))) t j
      ≡ check_from f (replicate a g) t j
  unfolding check_from layer_lines line_check
  same_lines n zero j t = refl
  same_lines n (suc a) j t = ap (λ (o : Outcome). line_check f g (take layer_columns t) (Line (suc j)) then o)
      (same_lines n a (suc j) (drop layer_columns t))

  table_in_order : (t : List ℤ) → lines_check f t ≡ judged most_layers t 0
  unfolding judged begun lines_of groups table_layout table_lines check_from layer_lines
  table_in_order t =
      lines_in_order f t
      ∙ ap (λ (ls : List Group). check_from f ls t 0)
      (append-nil (replicate (table_lines t) (layer_lines (table_lines t) (soils m))))
      ∙ same_lines (table_lines t) (table_lines t) 0 t

  -- ---- a table that is read

  left_some : (bs : List ℕ) → 0 < length bs → left_over bs ≡ pos 0 ∷ []
  unfolding left_over
  left_some [] h = absurd (omega arith)
  left_some (b ∷ bs) h = refl

  no_line : (w k : ℕ) → read_line w k [] ≡ none
  unfolding read_line line_bytes
  no_line w k = rw (lt-leb (line_bytes w k) 0 (omega arith), read_line)

  module _ (w : ℕ) where
    abbrev L : ℕ
    L = line_bytes w layer_columns

    abbrev rows : ℕ → List ℕ → List ℤ
    rows n bs = read_rows w layer_columns n bs

    rows_none : (n : ℕ) → rows n [] ≡ []
    unfolding read_rows left_over
    rows_none zero = refl
    rows_none (suc n) = rw (no_line w layer_columns, read_rows)

    rows_ill : (n : ℕ) (bs : List ℕ) → 0 < length bs → read_line w layer_columns bs ≡ none
        → rows (suc n) bs ≡ pos 0 ∷ []
    unfolding read_rows
    rows_ill n bs h e = rw (e, read_rows) (left_some bs h)

    rows_end : (bs : List ℕ) → 0 < length bs → rows 0 bs ≡ pos 0 ∷ []
    unfolding read_rows
    rows_end bs h = left_some bs h

    rows_some : (n : ℕ) (bs : List ℕ) (zs : List ℤ) → read_line w layer_columns bs ≡ some zs
        → rows (suc n) bs ≡ zs ++ rows n (drop L bs)
    unfolding read_rows
    rows_some n bs zs e = rw (e, read_rows)

    -- `TableFormFails`, by the lines from the front
    abbrev FailsAt : ℕ → List ℕ → ℕ → Type 0
    FailsAt zero bs zero = 0 < length bs
    FailsAt zero bs (suc i) = ⊥
    FailsAt (suc n) bs zero = (0 < length bs) × IllFormed w g bs
    FailsAt (suc n) bs (suc i) = GoodLine w g bs × FailsAt n (drop L bs) i

    abbrev Found : ℕ → List ℕ → ℕ → Place → Type 0
    Found n bs j p = (i : ℕ) × (p ≡ Line (suc (j + i))) × FailsAt n bs i

    -- no line is read where one is begun, or is the 33rd
    fails_end : (bs : List ℕ) (j : ℕ) (p : Place) → judged 0 (rows 0 bs) j ≡ Refused 1 p → Found 0 bs j p
    fails_end [] j p e = passed_is_not_refused
        (sym (judged_none 0 j) ∙ ap (λ (t : List ℤ). judged 0 t j) (sym (rows_none 0)) ∙ e)
    fails_end (b ∷ bs) j p e =
        let s : Refused 1 (Line (suc j)) ≡ Refused 1 p = sym (judged-left (pos 0 ∷ []) j (omega arith))
        ∙ ap (λ (t : List ℤ). judged 0 t j) (sym (rows_end (b ∷ bs) (omega arith))) ∙ e in
        (0, place_of_lem s ∙ ap (λ (k : ℕ). Line (suc k)) (sym (add-zero j)), omega arith)

    fails_ill : (n : ℕ) (bs : List ℕ) (j : ℕ) (p : Place) → judged (suc n) (rows (suc n) bs) j ≡ Refused 1 p
        → read_line w layer_columns bs ≡ none → Found (suc n) bs j p
    unfolding layer_lines
    fails_ill n [] j p e o =
        passed_is_not_refused
        (sym (judged_none (suc n) j) ∙ ap (λ (t : List ℤ). judged (suc n) t j) (sym (rows_none (suc n))) ∙ e)
    fails_ill n (b ∷ bs) j p e o =
        let s : Refused 1 (Line (suc j)) ≡ Refused 1 p =
        sym (judged_short n (pos 0 ∷ []) j (omega arith) (omega arith))
        ∙ ap (λ (t : List ℤ). judged (suc n) t j) (sym (rows_ill n (b ∷ bs) (omega arith) o)) ∙ e in
        (0, place_of_lem s ∙ ap (λ (k : ℕ). Line (suc k)) (sym (add-zero j)), (omega arith, unread w g (b ∷ bs) o))

    fails : (n : ℕ) (bs : List ℕ) (j : ℕ) (p : Place) → judged n (rows n bs) j ≡ Refused 1 p → Found n bs j p
    unfolding table_layout layer_lines
    fails zero bs j p e = fails_end bs j p e
    fails (suc n) bs j p e = by (fails n (drop L bs) (suc j) p) (read_line w layer_columns bs) refl
      where
        later : Outcome
        later = judged n (rows n (drop L bs)) (suc j)

        split : (later ≡ Refused 1 p → Found n (drop L bs) (suc j) p) → (zs : List ℤ)
            → read_line w layer_columns bs ≡ some zs → (line_check f g zs (Line (suc j)) ≡ Refused 1 p)
            ⊎ ((line_check f g zs (Line (suc j)) ≡ Passed) × (later ≡ Refused 1 p)) → Found (suc n) bs j p
        split rest zs o (inl d) = absurd
            (not_form f (omega arith) mesh_number g zs (Line (suc j)) p
            ((line_means w layer_columns bs zs).0 o).count d)
        split rest zs o (inr d) =
            let (i, s, h) = rest d.1 in
            let k : suc j + i ≡ j + suc i = omega arith in
            (suc i, s ∙ ap (λ (k : ℕ). Line (suc k)) k, (good w f g bs (Line (suc j)) zs o d.0, h))

        by : (later ≡ Refused 1 p → Found n (drop L bs) (suc j) p) → (o : Option (List ℤ))
            → read_line w layer_columns bs ≡ o → Found (suc n) bs j p
        by rest none o = fails_ill n bs j p e o
        by rest (some zs) o =
            let count = ((line_means w layer_columns bs zs).0 o).count in
            split rest zs o
            ((then_refused (line_check f g zs (Line (suc j))) later 1 p).0
            (sym (judged_line n zs (rows n (drop L bs)) j count)
            ∙ ap (λ (t : List ℤ). judged (suc n) t j) (sym (rows_some n bs zs o)) ∙ e))

    failed : (n : ℕ) (bs : List ℕ) (j i : ℕ) → FailsAt n bs i → judged n (rows n bs) j ≡ Refused 1 (Line (suc (j + i)))
    unfolding layer_lines
    failed zero bs j zero h =
        ap (λ (t : List ℤ). judged 0 t j) (rows_end bs h) ∙ judged-left (pos 0 ∷ []) j (omega arith)
        ∙ ap (λ (k : ℕ). Refused 1 (Line (suc k))) (omega arith)
    failed zero bs j (suc i) h = absurd h
    failed (suc n) bs j zero h =
        ap (λ (t : List ℤ). judged (suc n) t j) (rows_ill n bs h.0 (ill_formed_unread w g bs h.1))
        ∙ judged_short n (pos 0 ∷ []) j (omega arith) (omega arith)
        ∙ ap (λ (k : ℕ). Refused 1 (Line (suc k))) (omega arith)
    failed (suc n) bs j (suc i) h =
        let zs = h.0.numbers in
        ap (λ (t : List ℤ). judged (suc n) t j) (rows_some n bs zs (good_read w g bs h.0))
        ∙ judged_line n zs (rows n (drop L bs)) j h.0.well_formed.count
        ∙ ap (λ (o : Outcome). o then judged n (rows n (drop L bs)) (suc j)) (good_passed w f g bs (Line (suc j)) h.0)
        ∙ failed n (drop L bs) (suc j) i h.1
        ∙ ap (λ (k : ℕ). Refused 1 (Line (suc k))) (omega arith)

    -- ---- lines by their numbers

    further : (i : ℕ) (bs : List ℕ) → drop (i * L) (drop L bs) ≡ drop (suc i * L) bs
    further i bs = let k : L + i * L ≡ suc i * L = omega (arith, suc-mul i L) in drop-drop (i * L) L bs
        ∙ ap (λ (k : ℕ). drop k bs) k

    abbrev ByNumber : ℕ → List ℕ → ℕ → Type 0
    ByNumber n bs i =
        (i ≤ n) × ((k : ℕ) → k < i → GoodLine w g (drop (k * L) bs)) × (i * L < length bs)
        × (i < n → IllFormed w g (drop (i * L) bs))

    at-start : (bs : List ℕ) → drop (0 * L) bs ≡ bs
    at-start bs = rw (zero-mul L)

    by_number : (n : ℕ) (bs : List ℕ) (i : ℕ) → FailsAt n bs i → ByNumber n bs i
    by_number zero bs zero h =
        (omega arith, λ k l. absurd (omega arith), omega (arith, h, zero-mul L), λ l. absurd (omega arith))
    by_number zero bs (suc i) h = absurd h
    by_number (suc n) bs zero h =
        (omega arith, λ k l. absurd (omega arith), omega (arith, h.0, zero-mul L), λ l. rw (at-start bs) h.1)
    by_number (suc n) bs (suc i) h =
        let (a, b, c, d) = by_number n (drop L bs) i h.1 in (
          omega (arith, a),
          before b,
          omega (arith, c, length-drop L bs, suc-mul i L),
          λ l. rw (further i bs) at (d (omega (arith, l))),
        )
      where
        before : ((k : ℕ) → k < i → GoodLine w g (drop (k * L) (drop L bs))) → (k : ℕ) → k < suc i
            → GoodLine w g (drop (k * L) bs)
        before b zero l = rw (at-start bs) h.0
        before b (suc k) l = rw (further k bs) at (b k (omega arith))

    from_front : (n : ℕ) (bs : List ℕ) (i : ℕ) → ByNumber n bs i → FailsAt n bs i
    from_front zero bs zero h = omega (arith, h.2, zero-mul L)
    from_front zero bs (suc i) h = absurd (omega (arith, h.0))
    from_front (suc n) bs zero h = (omega (arith, h.2, zero-mul L), rw (at-start bs) at (h.3 (omega arith)))
    from_front (suc n) bs (suc i) h =
        let (a, b, c, d) = h in (
          rw (at-start bs) at (b 0 (omega arith)),
          from_front n (drop L bs) i (
            omega (arith, a),
            λ k l. rw (further k bs) (b (suc k) (omega (arith, l))),
            omega (arith, c, length-drop L bs, suc-mul i L),
            λ l. rw (further i bs) (d (omega (arith, l))),
          ),
        )

    -- ---- a table that is written

    abbrev Alike : ℕ → List ℤ → List ℤ → ℕ → Type 0
    Alike n a b j = (a ≡ b) ⊎ ((c : ℕ) × (p : Place) × (judged n a j ≡ Refused c p) × (judged n b j ≡ Refused c p))

    line_before : (n : ℕ) (zs a b : List ℤ) (j : ℕ) → length zs ≡ layer_columns → Alike n a b (suc j)
        → Alike (suc n) (zs ++ a) (zs ++ b) j
    line_before n zs a b j e (inl h) = inl (ap (λ (x : List ℤ). zs ++ x) h)
    line_before n zs a b j e (inr (c, p, x, y)) = inr (by (line_check f g zs (Line (suc j))) refl)
      where
        by : (v : Outcome) → line_check f g zs (Line (suc j)) ≡ v
            → (d : ℕ) × (q : Place) × (judged (suc n) (zs ++ a) j ≡ Refused d q)
            × (judged (suc n) (zs ++ b) j ≡ Refused d q)
        by Passed v = (c, p, judged_line n zs a j e ∙ rw v x, judged_line n zs b j e ∙ rw v y)
        by (Refused d q) v = (d, q, judged_line n zs a j e ∙ rw v, judged_line n zs b j e ∙ rw v)

    abbrev wrote : ℕ → List ℤ → List ℕ
    wrote n t = write_lines w (replicate (begun n t) layer_columns) t

    back_end : (t : List ℤ) → Fit w t → (j : ℕ) → Alike 0 (rows 0 (wrote 0 t)) t j
    unfolding begun write_lines columns
    back_end [] h j = inl (rows_none 0)
    back_end (z ∷ zs) h j =
        let e : min ((suc (length zs) + 2) / layer_columns) 0 ≡ 0 = omega arith in
        inr (
          1,
          Line (suc j),
          rw e (ap (λ (t : List ℤ). judged 0 t j) (rows_end (columns w (z ∷ zs)) (columns_some w z zs h))
              ∙ judged-left (pos 0 ∷ []) j (omega arith)),
          judged-left (z ∷ zs) j (omega arith),
        )

    front_bytes : (t : List ℤ) → length (columns w (take layer_columns t)) ≤ length
        (write_lines w (layer_columns ∷ []) t)
    unfolding write_lines
    front_bytes t = simp length-append (omega arith)

    no_columns : columns w [] ≡ []
    unfolding columns
    no_columns = refl

    back_short : (n : ℕ) (t : List ℤ) → Fit w t → (j : ℕ) → length t < layer_columns
        → Alike (suc n) (rows (suc n) (wrote (suc n) t)) t j
    unfolding begun write_lines
    back_short n [] h j l =
        let e : min (2 / layer_columns) (suc n) ≡ 0 = omega arith in
        inl (rw (e, no_columns) (rows_none (suc n)))
    back_short n (z ∷ zs) h j l =
        let t : List ℤ = z ∷ zs in
        let e : min ((suc (length zs) + 2) / layer_columns) (suc n) ≡ 1 = omega arith in
        let all = ap (λ (ns : List ℤ). length (columns w ns)) (take_all layer_columns t (omega arith)) in
        let some_byte : 0 < length (write_lines w (layer_columns ∷ []) t) =
        omega (arith, columns_some w z zs h, all, front_bytes t) in
        inr (
          1,
          Line (suc j),
          rw e (ap (λ (t : List ℤ). judged (suc n) t j)
              (rows_ill n (write_lines w (layer_columns ∷ []) t) some_byte (first_short w layer_columns [] t h l))
              ∙ judged_short n (pos 0 ∷ []) j (omega arith) (omega arith)),
          judged_short n t j (omega arith) l,
        )

    back : (n : ℕ) (t : List ℤ) → Fit w t → (j : ℕ) → Alike n (rows n (wrote n t)) t j
    back zero t h j = back_end t h j
    back (suc n) t h j = by (back n (drop layer_columns t) (fit_drop w layer_columns t h) (suc j))
        (dec_lt (length t) layer_columns)
      where
        ks : List ℕ
        ks = replicate (begun n (drop layer_columns t)) layer_columns

        whole : layer_columns ≤ length t → rows (suc n) (wrote (suc n) t)
            ≡ take layer_columns t ++ rows n (wrote n (drop layer_columns t))
        whole l =
            ap (λ (k : ℕ). rows (suc n) (write_lines w (replicate k layer_columns) t)) (begun_more n t l)
            ∙ rows_some n (write_lines w (layer_columns ∷ ks) t) (take layer_columns t)
            (first_whole w layer_columns ks t h l)
            ∙ ap (λ (bs : List ℕ). take layer_columns t ++ rows n bs) (after_first w layer_columns ks t h l)

        by : Alike n (rows n (wrote n (drop layer_columns t))) (drop layer_columns t) (suc j)
            → Dec (length t < layer_columns) → Alike (suc n) (rows (suc n) (wrote (suc n) t)) t j
        by rest (yes l) = back_short n t h j l
        by rest (no l) =
            let m : layer_columns ≤ length t = omega arith in
            rw (whole m)
            (rw (take-append-drop layer_columns t) at
            (line_before n (take layer_columns t) (rows n (wrote n (drop layer_columns t)))
            (drop layer_columns t) j (length-take-le layer_columns t m) rest))

-- ---- places from 1,001 on

unfoldable pub raised : Outcome → Outcome
raised Passed = Passed
raised (Refused k p) = Refused k (Line (1000 + place_number p))

raised_steps : (ss : List Step) (p : Place) → check_steps ss (Line (1000 + place_number p)) ≡ raised (check_steps ss p)
unfolding raised
raised_steps [] p = refl
raised_steps (s ∷ ss) p = by s.test (raised_steps ss p)
  where
    by : (b : Bool) → check_steps ss (Line (1000 + place_number p)) ≡ raised (check_steps ss p)
        → cond b (check_steps ss (Line (1000 + place_number p))) (Refused s.number (Line (1000 + place_number p)))
        ≡ raised (cond b (check_steps ss p) (Refused s.number p))
    by true e = e
    by false e = refl

raised_then : (a b : Outcome) → raised (a then b) ≡ raised a then raised b
unfolding raised
raised_then Passed b = refl
raised_then (Refused k p) b = refl

raised_lowest : (h : ℕ → Outcome) (n : ℕ) → lowest (λ k. raised (h k)) n ≡ raised (lowest h n)
unfolding raised lowest
raised_lowest h zero = refl
raised_lowest h (suc n) = ap (λ (o : Outcome). o then raised (h n)) (raised_lowest h n)
    ∙ sym (raised_then (lowest h n) (h n))

raised_phase : (h : Phase) → check_phase (above_mesh h) ≡ raised (check_phase h)
unfolding check_phase
raised_phase h =
    lowest_cong _ _ h.count (λ k l. raised_steps (h.steps k) (h.place k))
    ∙ raised_lowest (λ k. check_steps (h.steps k) (h.place k)) h.count

-- a table's lines are judged as its layout's, with places from 1,001 on
pub table_raised : (t m : List ℤ) → check_phases (table_line_phases t m) ≡ raised (lines_check (table_layout m) t)
unfolding check_phases lines_check
table_raised t m =
    ap₂ ◌then◌ (raised_phase (lines_phase (table_layout m) t)) (raised_phase (leftover_phase (table_layout m) t))
    ∙ sym (raised_then (check_phase (lines_phase (table_layout m) t)) (check_phase (leftover_phase (table_layout m) t)))

-- ---- the theorems on a table's form

module _ (w : ℕ) (m : List ℤ) where
  form_fails : (bs : List ℕ) (j : ℕ) → check_phases (table_line_phases (table_numbers_of w bs) m)
      ≡ Refused 1 (Line (1001 + j)) → TableFormFails w m bs j
  unfolding table_numbers_of raised
  form_fails bs j e = by (lines_check (table_layout m) (table_numbers_of w bs)) refl
      (sym (table_raised (table_numbers_of w bs) m) ∙ e)
    where
      by : (o : Outcome) → lines_check (table_layout m) (table_numbers_of w bs) ≡ o
          → raised o ≡ Refused 1 (Line (1001 + j)) → TableFormFails w m bs j
      by Passed o r = passed_is_not_refused r
      by (Refused k p) o r =
          let one : k ≡ 1 = cc in
          let there : 1000 + place_number p ≡ 1001 + j = cc in
          let (i, q, x) = fails m w most_layers bs 0 p
          (sym (table_in_order m (table_numbers_of w bs)) ∙ o ∙ ap (λ (k : ℕ). Refused k p) one) in
          let here : place_number p ≡ suc (0 + i) = ap place_number q in
          let same : i ≡ j = omega arith in
          let (a, b, c, d) = by_number m w most_layers bs j (rw same at x) in
          record { before = b; most = a; begun = c; here = d }

  form_failed : (bs : List ℕ) (j : ℕ) → TableFormFails w m bs j
      → check_phases (table_line_phases (table_numbers_of w bs) m) ≡ Refused 1 (Line (1001 + j))
  unfolding table_numbers_of raised
  form_failed bs j x =
      let here : 1000 + suc (0 + j) ≡ 1001 + j = omega arith in
      table_raised (table_numbers_of w bs) m
      ∙ ap raised (table_in_order m (table_numbers_of w bs) ∙ failed m w most_layers bs 0 j
      (from_front m w most_layers bs j (x.most, x.before, x.begun, x.here)))
      ∙ ap (λ (k : ℕ). Refused 1 (Line k)) here

  -- a table gets 1 at line 1,001 + j exactly when lines 0 to j - 1 are well formed and pass their own checks, a byte of
  -- line j is there, and it isn't well formed or is the 33rd
  pub table_form : (bs : List ℕ) (j : ℕ)
      → (check_phases (table_line_phases (table_numbers_of w bs) m) ≡ Refused 1 (Line (1001 + j))) ↔ TableFormFails w m
      bs j
  table_form bs j = (form_fails bs j, form_failed bs j)

  written_alike : (t : List ℤ) → Fit w t → Alike m w most_layers (table_numbers_of w (table_of w t)) t 0
  unfolding table_numbers_of table_of table_lines begun
  written_alike t x = back m w most_layers t x 0

  -- a table written from numbers is judged as they are, and is read back where it passes
  pub table_written_checked : (t : List ℤ) → Fit w t → lines_check (table_layout m) (table_numbers_of w (table_of w t))
      ≡ lines_check (table_layout m) t
  table_written_checked t x = table_in_order m (table_numbers_of w (table_of w t)) ∙ by (written_alike t x)
      ∙ sym (table_in_order m t)
    where
      by : Alike m w most_layers (table_numbers_of w (table_of w t)) t 0
          → judged m most_layers (table_numbers_of w (table_of w t)) 0 ≡ judged m most_layers t 0
      by (inl e) = ap (λ (ns : List ℤ). judged m most_layers ns 0) e
      by (inr (c, p, d, e)) = d ∙ sym e

  pub table_written_passed : (t : List ℤ) → Fit w t → lines_check (table_layout m) t ≡ Passed
      → table_numbers_of w (table_of w t) ≡ t
  table_written_passed t x e = by (written_alike t x)
    where
      by : Alike m w most_layers (table_numbers_of w (table_of w t)) t 0 → table_numbers_of w (table_of w t) ≡ t
      by (inl s) = s
      by (inr (c, p, d, s)) = passed_is_not_refused (sym e ∙ table_in_order m t ∙ s)

  some_numbers : (t : List ℤ) {c : ℕ} {p : Place} → judged m most_layers t 0 ≡ Refused c p → has_table t ≡ true
  unfolding has_table
  some_numbers [] e = passed_is_not_refused (sym (judged_none m most_layers 0) ∙ e)
  some_numbers (z ∷ zs) e = refl

  -- it is a table exactly when there is a number
  pub table_written-there : (t : List ℤ) → Fit w t → has_table (table_numbers_of w (table_of w t)) ≡ has_table t
  table_written-there t x = by (written_alike t x)
    where
      by : Alike m w most_layers (table_numbers_of w (table_of w t)) t 0
          → has_table (table_numbers_of w (table_of w t)) ≡ has_table t
      by (inl e) = ap has_table e
      by (inr (c, p, d, e)) = some_numbers (table_numbers_of w (table_of w t)) d ∙ sym (some_numbers t e)

-- a file is a table exactly when it has a byte
pub table_there : (w : ℕ) (bs : List ℕ) → has_table (table_numbers_of w bs) ≡ not (eqb (length bs) 0)
unfolding table_numbers_of has_table read_rows
table_there w [] = ap has_table (rows_none [] w most_layers)
table_there w (b ∷ bs) = by (read_line w layer_columns (b ∷ bs)) refl ∙ sym (rw (eqb-suc-zero (length bs)))
  where
    some_there : (zs rest : List ℤ) → length zs ≡ layer_columns → has_table (zs ++ rest) ≡ true
    some_there [] rest e = absurd (omega arith)
    some_there (z ∷ zs) rest e = refl

    by : (o : Option (List ℤ)) → read_line w layer_columns (b ∷ bs) ≡ o → has_table (table_numbers_of w (b ∷ bs)) ≡ true
    by none o = ap has_table (rows_ill [] w 31 (b ∷ bs) (omega arith) o)
    by (some zs) o =
        ap has_table (rows_some [] w 31 (b ∷ bs) zs o) ∙ some_there zs _
        ((line_means w layer_columns (b ∷ bs) zs).0 o).count
