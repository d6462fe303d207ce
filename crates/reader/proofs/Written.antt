-- A file written from a list of numbers gets the refusal that the list gets, and is read as the list where it gets
-- none: each whole line is read back, and a line that isn't whole is refused either way.
use mathlib.Core.Path.{◌≡◌, refl, sym, ap, ◌∙◌}
use mathlib.Core.Logic.{◌⊎◌, inl, inr}
use mathlib.Core.List.{List, [], ◌∷◌, ◌++◌, map, append-nil, append_assoc}
use mathlib.Core.Option.{none, some, none-ne-some}
use Prim.Native.Nat.{ℕ, zero, suc, ◌+◌, ◌*◌, ◌≤◌, ◌<◌}
use native.Mathlib.Nat.{mul-le-mul_right}
use native.Mathlib.Omega.{arith}
use lib.Dec.{leb}
use lib.IntN.{ℤ, pos, negsuc}
use lib.ListN.{length, take, drop, length-append, take-append-drop}
use lib.Seq.{take_at, drop_at, take_all, length-take-le}
use borrow.Author.Tests.{leb-true, leb-false, lt-leb, le-leb}
use borrow.Table.Steps.{cases}
use Rattle.integer.proofs.DecimalLaws.{digits_some}
use Rattle.scope.specs.declared.Place.{Place}
use Rattle.scope.specs.declared.Place.TheVariants.{Line}
use Rattle.scope.specs.Cases.Outcome.{Outcome}
use Rattle.scope.specs.Cases.Outcome.{Passed, Refused}
use Rattle.scope.specs.Layout.{Group, Layout, width, groups}
use Rattle.scope.proofs.Checks.{passed_is_not_refused, then_passed}
use Rattle.scope.proofs.InOrder.{lines_of, check_from, lines_in_order, check_line, check_short}
use Rattle.scope.specs.Verdict.{line_check, lines_check}
use Rattle.reader.specs.Spelling.{spelling}
use Rattle.reader.specs.File.{line_bytes, widths, columns, read_line, read_lines, write_lines, numbers_of, file_of}
use Rattle.reader.specs.WellFormed.{Fit, SomeColumns, Regular}
use Rattle.reader.proofs.Line.{column-length, columns-length, line_means}
use Rattle.reader.proofs.File.{read_all, file_lines, widths_of, columns_of, lines_header, header_passed, file_in_order}

-- ---- one line

fit_take : (w k : ℕ) (zs : List ℤ) → Fit w zs → Fit w (take k zs)
fit_take w zero zs h = tt
fit_take w (suc k) [] h = tt
fit_take w (suc k) (z ∷ zs) h = (h.0, fit_take w k zs h.1)

pub fit_drop : (w k : ℕ) (zs : List ℤ) → Fit w zs → Fit w (drop k zs)
fit_drop w zero zs h = h
fit_drop w (suc k) [] h = tt
fit_drop w (suc k) (z ∷ zs) h = fit_drop w k zs h.1

-- columns as wide as needed, and wider ones, hold a list of numbers
pub wide_enough : (zs : List ℤ) → (w : ℕ) × ((v : ℕ) → w ≤ v → Fit v zs)
wide_enough [] = (0, λ v h. tt)
wide_enough (z ∷ zs) = let (w, f) = wide_enough zs in (length (spelling z) + w, λ v h. (omega arith, f v (omega arith)))

module _ (w : ℕ) (zs : List ℤ) (h : Fit w zs) (rest : List ℕ) where
  line : List ℕ
  line = columns w zs ++ (10 ∷ [])

  line_length : length line ≡ line_bytes w (length zs)
  unfolding line line_bytes
  line_length = length-append (columns w zs) (10 ∷ []) ∙ ap (λ x. x + 1) (columns-length w zs h)

  in_two : columns w zs ++ (10 ∷ rest) ≡ line ++ rest
  unfolding line
  in_two = sym (append_assoc (columns w zs) (10 ∷ []) rest)

  -- a whole line is read back, and the rest is left
  whole_line : read_line w (length zs) (columns w zs ++ (10 ∷ rest)) ≡ some zs
  unfolding line
  whole_line =
      (line_means w (length zs) (columns w zs ++ (10 ∷ rest)) zs).1
      (record { count = refl; fit = h; bytes = rw in_two (take_at line rest (line_bytes w (length zs)) line_length) })

  after_line : drop (line_bytes w (length zs)) (columns w zs ++ (10 ∷ rest)) ≡ rest
  after_line = rw in_two (drop_at line rest (line_bytes w (length zs)) line_length)

-- a line that isn't whole is not read
short_line : (w k : ℕ) (zs : List ℤ) → Fit w zs → length zs < k → read_line w k (columns w zs) ≡ none
unfolding read_line line_bytes
short_line w k zs h l =
    let m : length zs * w ≤ k * w = mul-le-mul_right w (omega arith) in
    let s : length (columns w zs) < line_bytes w k = omega (arith, columns-length w zs h) in
    rw (lt-leb (line_bytes w k) (length (columns w zs)) s, read_line)

-- a first line of k columns, written and read
pub first_whole : (w k : ℕ) (ks : List ℕ) (zs : List ℤ) → Fit w zs → k ≤ length zs
    → read_line w k (write_lines w (k ∷ ks) zs) ≡ some (take k zs)
unfolding write_lines
first_whole w k ks zs h l =
    rw (le-leb k (length zs) l, write_lines)
    (rw (length-take-le k zs l) at (whole_line w (take k zs) (fit_take w k zs h) (write_lines w ks (drop k zs))))

pub after_first : (w k : ℕ) (ks : List ℕ) (zs : List ℤ) → Fit w zs → k ≤ length zs
    → drop (line_bytes w k) (write_lines w (k ∷ ks) zs) ≡ write_lines w ks (drop k zs)
unfolding write_lines
after_first w k ks zs h l =
    rw (le-leb k (length zs) l, write_lines)
    (rw (length-take-le k zs l) at (after_line w (take k zs) (fit_take w k zs h) (write_lines w ks (drop k zs))))

pub first_short : (w k : ℕ) (ks : List ℕ) (zs : List ℤ) → Fit w zs → length zs < k
    → read_line w k (write_lines w (k ∷ ks) zs) ≡ none
unfolding write_lines
first_short w k ks zs h l =
    rw (lt-leb k (length zs) l, write_lines)
    (rw (take_all k zs (omega arith), append-nil (columns w zs)) (short_line w k zs h l))

-- ---- all lines

abbrev write_all : ℕ → List Group → List ℤ → List ℕ
write_all w ls zs = write_lines w (map width ls) zs

-- the two lists are one, or get one refusal
abbrev Alike : Layout → List Group → ℕ → List ℤ → List ℤ → Type 0
Alike f ls j ms ns = (ms ≡ ns)
    ⊎ ((c : ℕ) × (p : Place) × (check_from f ls ms j ≡ Refused c p) × (check_from f ls ns j ≡ Refused c p))

spelling_some : (z : ℤ) → 0 < length (spelling z)
unfolding spelling
spelling_some (pos k) = digits_some k
spelling_some (negsuc k) = omega arith

pub columns_some : (w : ℕ) (z : ℤ) (zs : List ℤ) → Fit w (z ∷ zs) → 0 < length (columns w (z ∷ zs))
unfolding columns
columns_some w z zs h =
    rw (length-append, column-length w z h.0) (omega (arith, spelling_some z))

read_left_over : (w : ℕ) (bs : List ℕ) → 0 < length bs → read_lines w [] bs ≡ pos 0 ∷ []
unfolding read_lines
read_left_over w [] h = absurd (omega arith)
read_left_over w (b ∷ bs) h = refl

-- a line before two lists that are alike
line_before : (f : Layout) (g : Group) (ls : List Group) (zs ms ns : List ℤ) (j : ℕ) → length zs ≡ width g
    → Alike f ls (suc j) ms ns → Alike f (g ∷ ls) j (zs ++ ms) (zs ++ ns)
line_before f g ls zs ms ns j e (inl h) = inl (ap (λ x. zs ++ x) h)
line_before f g ls zs ms ns j e (inr (c, p, x, y)) = inr (by (line_check f g zs (Line (suc j))) refl)
  where
    by : (v : Outcome) → line_check f g zs (Line (suc j)) ≡ v
        → (d : ℕ) × (q : Place) × (check_from f (g ∷ ls) (zs ++ ms) j ≡ Refused d q)
        × (check_from f (g ∷ ls) (zs ++ ns) j ≡ Refused d q)
    by Passed v = (c, p, check_line f g ls zs ms j e ∙ rw v x, check_line f g ls zs ns j e ∙ rw v y)
    by (Refused d q) v = (d, q, check_line f g ls zs ms j e ∙ rw v, check_line f g ls zs ns j e ∙ rw v)

-- the numbers of written lines
back_whole : (w k : ℕ) (ks : List ℕ) (zs : List ℤ) → Fit w zs → k ≤ length zs
    → read_lines w (k ∷ ks) (write_lines w (k ∷ ks) zs) ≡ take k zs ++ read_lines w ks (write_lines w ks (drop k zs))
unfolding read_lines
back_whole w k ks zs h l = rw (first_whole w k ks zs h l, read_lines)
    (ap (λ x. take k zs ++ read_lines w ks x) (after_first w k ks zs h l))

back_short : (w k : ℕ) (ks : List ℕ) (zs : List ℤ) → Fit w zs → length zs < k
    → read_lines w (k ∷ ks) (write_lines w (k ∷ ks) zs) ≡ []
unfolding read_lines
back_short w k ks zs h l = rw (first_short w k ks zs h l, read_lines)

written : (w : ℕ) (f : Layout) (ls : List Group) → SomeColumns ls → (zs : List ℤ) → Fit w zs → (j : ℕ)
    → Alike f ls j (read_all w ls (write_all w ls zs)) zs
unfolding write_lines read_lines check_from columns
written w f [] c [] h j = inl refl
written w f [] c (z ∷ zs) h j =
    inr (
      f.form_number,
      Line (suc j),
      rw (read_left_over w (columns w (z ∷ zs)) (columns_some w z zs h)),
      rw (lt-leb (suc (length zs)) 0 (omega arith)),
    )
written w f (g ∷ ls) c zs h j =
    let k = width g in
    cases (leb k (length zs))
    (λ t.
    let l = leb-true k (length zs) t in
    rw (back_whole w k (map width ls) zs h l)
    (rw (take-append-drop k zs) at
    (line_before f g ls (take k zs) (read_all w ls (write_all w ls (drop k zs))) (drop k zs) j
    (length-take-le k zs l) (written w f ls c.1 (drop k zs) (fit_drop w k zs h) (suc j)))))
    (λ t.
    let l = leb-false k (length zs) t in
    rw (back_short w k (map width ls) zs h l)
    (inr (f.form_number, Line (suc j), check_short f g ls [] j c.0, check_short f g ls zs j l)))

-- ---- a file

file_lines_lem : (w : ℕ) (f : Layout) → Regular f → (zs : List ℤ) → file_of w f zs ≡ write_all w (file_lines f zs) zs
unfolding file_of
file_lines_lem w f r zs = rw (lines_header f zs r, widths_of (f.body zs))

module _ (w : ℕ) (f : Layout) (r : Regular f) (zs : List ℤ) (x : Fit w zs) where
  k : ℕ
  k = width f.header

  header_whole : k ≤ length zs → read_line w k (file_of w f zs) ≡ some (take k zs)
  unfolding file_of k
  header_whole l = first_whole w k (widths (f.body zs)) zs x l

  -- what lines follow is told by the header
  told : k ≤ length zs → f.body zs ≡ f.body (take k zs)
  unfolding k
  told l = ap f.body (sym (take-append-drop k zs)) ∙ r.by_header (take k zs) (drop k zs) (length-take-le k zs l)

  same_lines : (h : List ℤ) → read_line w (width f.header) (file_of w f zs) ≡ some h → f.body zs ≡ f.body h
  unfolding file_of k
  same_lines h o =
      cases (leb k (length zs))
      (λ t. told (leb-true k (length zs) t) ∙ ap f.body (cc (header_whole (leb-true k (length zs) t))))
      (λ t. absurd (none-ne-some h (sym (first_short w k (widths (f.body zs)) zs x (leb-false k (length zs) t)) ∙ o)))

  alike : Alike f (file_lines f zs) 0 (read_all w (file_lines f zs) (file_of w f zs)) zs
  alike = rw (file_lines_lem w f r zs)
      (written w f (file_lines f zs) (columns_of (groups f zs) (r.some_columns zs)) zs x 0)

  -- a file written from a list of numbers is checked as the list is
  pub written_checked : lines_check f (numbers_of w f (file_of w f zs)) ≡ lines_check f zs
  written_checked = file_in_order w f r (file_of w f zs) zs same_lines ∙ by alike ∙ sym (lines_in_order f zs)
    where
      by : Alike f (file_lines f zs) 0 (read_all w (file_lines f zs) (file_of w f zs)) zs
          → check_from f (file_lines f zs) (read_all w (file_lines f zs) (file_of w f zs)) 0
          ≡ check_from f (file_lines f zs) zs 0
      by (inl e) = ap (λ ns. check_from f (file_lines f zs) ns 0) e
      by (inr (c, p, d, e)) = d ∙ sym e

  header_whole_passed : lines_check f zs ≡ Passed → k ≤ length zs
  unfolding k
  header_whole_passed e =
      cases (leb k (length zs))
      (λ t. leb-true k (length zs) t)
      (λ t.
      let s = check_short f f.header (lines_of (f.body zs)) zs 0 (leb-false k (length zs) t) in
      passed_is_not_refused (sym e ∙ lines_in_order f zs ∙ ap (λ ls. check_from f ls zs 0) (lines_header f zs r) ∙ s))

  header_check_passed : lines_check f zs ≡ Passed → line_check f f.header (take k zs) (Line 1) ≡ Passed
  unfolding k
  header_check_passed e =
      let l = header_whole_passed e in
      let ls = lines_of (f.body zs) in
      let s = check_line f f.header ls (take k zs) (drop k zs) 0 (length-take-le k zs l) in
      ((then_passed (line_check f f.header (take k zs) (Line 1)) (check_from f ls (drop k zs) 1)).0
      (sym s ∙ rw (take-append-drop k zs, ← lines_header f zs r) (sym (lines_in_order f zs) ∙ e))).0

  -- and its numbers are the list where no check fails
  pub written_passed : lines_check f zs ≡ Passed → numbers_of w f (file_of w f zs) ≡ zs
  unfolding k
  written_passed e =
      let l = header_whole_passed e in
      header_passed w f (file_of w f zs) (take k zs) (header_whole l) (header_check_passed e)
      ∙ rw (← told l, widths_of (f.body zs)) (rw (lines_header f zs r) at (by alike))
    where
      by : Alike f (file_lines f zs) 0 (read_all w (file_lines f zs) (file_of w f zs)) zs
          → read_all w (file_lines f zs) (file_of w f zs) ≡ zs
      by (inl s) = s
      by (inr (c, p, d, s)) = passed_is_not_refused (sym e ∙ lines_in_order f zs ∙ s)
