-- A file's numbers depend on the bytes of its lines and whether one byte more follows; and where all checks of its
-- lines pass, none follows.
use mathlib.Core.Path.{◌≡◌, refl, sym, ap, ap₂, ◌∙◌}
use mathlib.Core.Bool.{Bool, true, false}
use mathlib.Core.List.{List, [], ◌∷◌, ◌++◌, map}
use mathlib.Core.Option.{Option, none, some}
use Prim.Native.Nat.{ℕ, zero, suc, ◌+◌, ◌*◌, ◌-◌, ◌≤◌, ◌<◌}
use native.Mathlib.Nat.{zero-add, suc-add}
use native.Mathlib.Omega.{arith}
use lib.IntN.{ℤ}
use lib.ListN.{length, take, drop, replicate, length-append, length-take, length-drop}
use lib.Seq.{take-nil, take-take}
use borrow.Table.Steps.{cases}
use Rattle.scope.specs.declared.Place.TheVariants.{Line}
use Rattle.scope.specs.Cases.Outcome.{Passed}
use Rattle.scope.specs.Layout.{Group, Layout, width, groups}
use Rattle.scope.proofs.Checks.{passed_is_not_refused, then_passed}
use Rattle.scope.proofs.InOrder.{check_from, same_test}
use Rattle.scope.specs.Verdict.{line_check, lines_check}
use Rattle.mesh.proofs.PairLaws.{outcome_passed}
use Rattle.reader.specs.File.{line_bytes, columns, read_columns, read_line, widths, read_lines, header_passes}
use Rattle.reader.specs.File.{numbers_of}
use Rattle.reader.specs.WellFormed.{SomeColumns, Regular, bytes_of}
use Rattle.reader.proofs.Line.{columns-length, line_means}
use Rattle.reader.proofs.File.{read_all, file_lines, read_none, read_some, widths_of, columns_of, lines_header}
use Rattle.reader.proofs.File.{file_in_order}

pub drop-take : (a n : ℕ) (bs : List ℕ) → drop a (take (a + n) bs) ≡ take n (drop a bs)
drop-take zero n bs = rw (zero-add n)
drop-take (suc a) n [] = rw (take-nil (suc a + n), take-nil n)
drop-take (suc a) n (b ∷ bs) = rw (suc-add a n) (drop-take a n bs)

pub line_cut : (w k n : ℕ) (bs : List ℕ) → line_bytes w k ≤ n → read_line w k (take n bs) ≡ read_line w k bs
unfolding read_line
line_cut w k n bs h =
    let b = line_bytes w k in
    let m = length-take n bs in
    ap₂ (λ (t : Bool) (x : List ℕ). elim t as (λ o. Option (List ℤ)) [ true ↦ read_columns w k x | false ↦ none ])
    (same_test b (length (take n bs)) b (length bs) (λ l. omega arith) (λ l. omega arith))
    (take-take b n bs h)

lines_cut : (w : ℕ) (ks : List ℕ) (n : ℕ) (bs : List ℕ) → bytes_of w ks < n
    → read_lines w ks (take n bs) ≡ read_lines w ks bs
unfolding read_lines bytes_of
lines_cut w [] zero bs h = absurd (omega arith)
lines_cut w [] (suc n) [] h = refl
lines_cut w [] (suc n) (b ∷ bs) h = refl
lines_cut w (k ∷ ks) n bs h =
    let b = line_bytes w k in
    let e : b + (n - b) ≡ n = omega arith in
    let d : drop b (take n bs) ≡ take (n - b) (drop b bs) = rw e at (drop-take b (n - b) bs) in
    let i = lines_cut w ks (n - b) (drop b bs) (omega arith) in
    rw (line_cut w k n bs (omega arith), read_lines)
    (ap (λ (r : List ℤ). elim (read_line w k bs) as (λ o. List ℤ) [ none ↦ [] | some zs ↦ zs ++ r ])
    (ap (read_lines w ks) d ∙ i))

pub header_passes_lem : (f : Layout) (h : List ℤ) → header_passes f h ≡ true → line_check f f.header h (Line 1) ≡ Passed
unfolding header_passes
header_passes_lem f h e = outcome_passed (line_check f f.header h (Line 1)) e

-- a header, where it is read, and what follows it
with_header : (o : Option (List ℤ)) (r s : List ℤ → List ℤ)
    → ((h : List ℤ) → r h ≡ s h) → ◌≡◌ {A = List ℤ}
    (elim o [ none ↦ [] | some h ↦ h ++ r h ])
    (elim o [ none ↦ [] | some h ↦ h ++ s h ])
with_header none r s e = refl
with_header (some h) r s e = ap (λ x. h ++ x) (e h)

module _ (w : ℕ) (f : Layout) (n : ℕ) (bs : List ℕ) where
  b : ℕ
  b = line_bytes w (width f.header)

  body : List ℤ → List ℕ → List ℤ
  body h rest = elim (header_passes f h) [ true ↦ read_lines w (widths (f.body h)) rest | false ↦ [] ]

  body_cut : (h : List ℤ) → (line_check f f.header h (Line 1) ≡ Passed → b + bytes_of w (widths (f.body h)) < n)
      → body h (drop b (take n bs)) ≡ body h (drop b bs)
  unfolding body
  body_cut h t =
      cases (header_passes f h)
      (λ p.
      let s = t (header_passes_lem f h p) in
      let e : b + (n - b) ≡ n = omega arith in
      rw (p, body)
      ((rw e at (ap (read_lines w (widths (f.body h))) (drop-take b (n - b) bs)))
      ∙ lines_cut w (widths (f.body h)) (n - b) (drop b bs) (omega arith)))
      (λ p. rw (p, body))

  -- a file's numbers are those of its first n bytes, where the lines that its header tells of are shorter
  pub numbers_cut : line_bytes w (width f.header) ≤ n
      → ((h : List ℤ) → line_check f f.header h (Line 1) ≡ Passed
      → line_bytes w (width f.header) + bytes_of w (widths (f.body h)) < n)
      → numbers_of w f (take n bs) ≡ numbers_of w f bs
  unfolding numbers_of b body
  numbers_cut l t =
      rw (line_cut w (width f.header) n bs l, numbers_of)
      (with_header (read_line w (width f.header) bs) (λ h. body h (drop b (take n bs)))
      (λ h. body h (drop b bs)) (λ h. body_cut h (t h)))

-- ---- all bytes of a file whose lines pass

-- bytes of a line that is read
pub line_there : (w k : ℕ) (bs : List ℕ) (zs : List ℤ) → read_line w k bs ≡ some zs → line_bytes w k ≤ length bs
unfolding line_bytes
line_there w k bs zs o =
    let l = (line_means w k bs zs).0 o in
    omega (
      arith,
      length-take (line_bytes w k) bs,
      ap length l.bytes,
      length-append (columns w zs) (10 ∷ []),
      columns-length w zs l.fit,
      ap (λ x. x * w) l.count,
    )

passed_bytes : (w : ℕ) (f : Layout) (ls : List Group) → SomeColumns ls → (bs : List ℕ) (j : ℕ)
    → check_from f ls (read_all w ls bs) j ≡ Passed → length bs ≡ bytes_of w (map width ls)
unfolding read_lines check_from bytes_of
passed_bytes w f [] c [] j e = refl
passed_bytes w f [] c (b ∷ bs) j e = passed_is_not_refused (sym e)
passed_bytes w f (g ∷ ls) c bs j e = by (passed_bytes w f ls c.1 next (suc j)) (read_line w (width g) bs) refl
  where
    next : List ℕ
    next = drop (line_bytes w (width g)) bs

    by : (check_from f ls (read_all w ls next) (suc j) ≡ Passed → length next ≡ bytes_of w (map width ls))
        → (o : Option (List ℤ)) → read_line w (width g) bs ≡ o
        → length bs ≡ line_bytes w (width g) + bytes_of w (map width ls)
    by rest none o = passed_is_not_refused (sym e ∙ read_none w f g ls bs j c.0 o)
    by rest (some zs) o =
        let p = (then_passed (line_check f g zs (Line (suc j))) (check_from f ls (read_all w ls next) (suc j))).0
        (sym (read_some w f g ls bs j zs o) ∙ e) in
        let n = rest p.1 in
        omega (arith, length-drop (line_bytes w (width g)) bs, line_there w (width g) bs zs o)

-- the numbers of a file tell of the same lines as its header
numbers-told : (w : ℕ) (f : Layout) → Regular f → (bs : List ℕ) (h : List ℤ) → read_line w (width f.header) bs ≡ some h
    → f.body (numbers_of w f bs) ≡ f.body h
unfolding numbers_of
numbers-told w f r bs h o = rw (o, numbers_of) (r.by_header h _ ((line_means w (width f.header) bs h).0 o).count)

-- and so do those of its first n bytes, where the header is among them
pub told_alike : (w : ℕ) (f : Layout) → Regular f → (n : ℕ) (bs : List ℕ) → line_bytes w (width f.header) ≤ n
    → f.body (numbers_of w f (take n bs)) ≡ f.body (numbers_of w f bs)
unfolding numbers_of
told_alike w f r n bs l = by (read_line w (width f.header) bs) refl
  where
    same : read_line w (width f.header) (take n bs) ≡ read_line w (width f.header) bs
    same = line_cut w (width f.header) n bs l

    by : (o : Option (List ℤ)) → read_line w (width f.header) bs ≡ o
        → f.body (numbers_of w f (take n bs)) ≡ f.body (numbers_of w f bs)
    by none o = rw (same ∙ o, o, numbers_of)
    by (some h) o = numbers-told w f r (take n bs) h (same ∙ o) ∙ sym (numbers-told w f r bs h o)

-- where the header is not there or does not pass, nothing after it counts
pub header_alone : (w : ℕ) (f : Layout) (n : ℕ) (bs : List ℕ) → line_bytes w (width f.header) ≤ n
    → ((h : List ℤ) → read_line w (width f.header) bs ≡ some h → header_passes f h ≡ false)
    → numbers_of w f (take n bs) ≡ numbers_of w f bs
unfolding numbers_of
header_alone w f n bs l t = by (read_line w (width f.header) bs) refl
  where
    same : read_line w (width f.header) (take n bs) ≡ read_line w (width f.header) bs
    same = line_cut w (width f.header) n bs l

    by : (o : Option (List ℤ)) → read_line w (width f.header) bs ≡ o → numbers_of w f (take n bs) ≡ numbers_of w f bs
    by none o = rw (same ∙ o, o, numbers_of)
    by (some h) o = rw (same ∙ o, o, numbers_of) (rw (t h o))

-- where all checks of a file's lines pass, its bytes are those of its lines
pub passed_length : (w : ℕ) (f : Layout) → Regular f → (bs : List ℕ) → lines_check f (numbers_of w f bs) ≡ Passed
    → length bs ≡ line_bytes w (width f.header) + bytes_of w (widths (f.body (numbers_of w f bs)))
unfolding bytes_of
passed_length w f r bs e =
    let ns = numbers_of w f bs in
    passed_bytes w f (file_lines f ns) (columns_of (groups f ns) (r.some_columns ns)) bs 0
    (sym (file_in_order w f r bs ns (numbers-told w f r bs)) ∙ e)
    ∙ rw (lines_header f ns r, widths_of (f.body ns))

-- ---- how many bytes

lines_bytes : (w a k : ℕ) (ks : List ℕ) → bytes_of w (replicate a k ++ ks) ≡ a * line_bytes w k + bytes_of w ks
unfolding bytes_of
lines_bytes w zero k ks = omega arith
lines_bytes w (suc a) k ks = omega (arith, lines_bytes w a k ks)

pub group_bytes_lem : (w : ℕ) (g : Group) (gs : List Group)
    → bytes_of w (widths (g ∷ gs)) ≡ g.lines * line_bytes w (width g) + bytes_of w (widths gs)
unfolding widths
group_bytes_lem w g gs = lines_bytes w g.lines (width g) (widths gs)

pub no_bytes : (w : ℕ) → bytes_of w (widths []) ≡ 0
unfolding bytes_of widths
no_bytes w = refl
