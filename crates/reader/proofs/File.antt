-- The numbers of a file are checked line by line as its lines are read: a line that isn't read is refused for its form,
-- and the header says what lines follow it.
use mathlib.Core.Path.{◌≡◌, refl, sym, ap, ◌∙◌}
use mathlib.Core.Bool.{true, false}
use mathlib.Core.List.{List, [], ◌∷◌, ◌++◌, map}
use mathlib.Core.Option.{Option, none, some}
use Prim.Native.Nat.{ℕ, zero, suc, ◌<◌}
use lib.IntN.{ℤ}
use lib.ListN.{length, drop, replicate}
use Rattle.scope.specs.declared.Place.TheVariants.{Line}
use Rattle.scope.specs.Cases.Outcome.{Outcome, Passed, Refused, has_passed}
use Rattle.scope.specs.Checks.{◌then◌}
use Rattle.scope.specs.Layout.{Group, Layout, width, groups}
use Rattle.scope.proofs.InOrder.{lines_of, check_from, lines_in_order, check_line, check_short}
use Rattle.scope.specs.Verdict.{line_check, lines_check}
use Rattle.reader.specs.File.{line_bytes, read_line, read_lines, widths, header_passes, numbers_of}
use Rattle.reader.specs.WellFormed.{SomeColumns, Regular}
use Rattle.reader.proofs.Line.{line_means}

-- ---- the lines of a layout

map-replicate : (a : ℕ) (g : Group) (ls : List Group)
    → map width (replicate a g ++ ls) ≡ replicate a (width g) ++ map width ls
map-replicate zero g ls = refl
map-replicate (suc a) g ls = ap (λ x. width g ∷ x) (map-replicate a g ls)

pub widths_of : (gs : List Group) → widths gs ≡ map width (lines_of gs)
unfolding widths lines_of
widths_of [] = refl
widths_of (g ∷ gs) = rw (map-replicate g.lines g (lines_of gs), widths_of gs)

columns-replicate : (a : ℕ) (g : Group) (ls : List Group) → 0 < width g → SomeColumns ls
    → SomeColumns (replicate a g ++ ls)
columns-replicate zero g ls h k = k
columns-replicate (suc a) g ls h k = (h, columns-replicate a g ls h k)

pub columns_of : (gs : List Group) → SomeColumns gs → SomeColumns (lines_of gs)
unfolding lines_of
columns_of [] h = tt
columns_of (g ∷ gs) h = columns-replicate g.lines g (lines_of gs) h.0 (columns_of gs h.1)

pub lines_header : (f : Layout) (h : List ℤ) → Regular f → lines_of (groups f h) ≡ f.header ∷ lines_of (f.body h)
unfolding lines_of groups
lines_header f h r = rw r.one_header

-- ---- one line

abbrev pub read_all : ℕ → List Group → List ℕ → List ℤ
read_all w ls bs = read_lines w (map width ls) bs

pub read_none : (w : ℕ) (f : Layout) (g : Group) (ls : List Group) (bs : List ℕ) (j : ℕ) → 0 < width g
    → read_line w (width g) bs ≡ none
    → check_from f (g ∷ ls) (read_all w (g ∷ ls) bs) j ≡ Refused f.form_number (Line (suc j))
unfolding read_lines
read_none w f g ls bs j h e = rw (e, read_lines) (check_short f g ls [] j h)

pub read_some : (w : ℕ) (f : Layout) (g : Group) (ls : List Group) (bs : List ℕ) (j : ℕ) (zs : List ℤ)
    → read_line w (width g) bs ≡ some zs
    → check_from f (g ∷ ls) (read_all w (g ∷ ls) bs) j
    ≡ line_check f g zs (Line (suc j))
    then check_from f ls (read_all w ls (drop (line_bytes w (width g)) bs)) (suc j)
unfolding read_lines
read_some w f g ls bs j zs e =
    rw (e, read_lines)
    (check_line f g ls zs (read_all w ls (drop (line_bytes w (width g)) bs)) j
    ((line_means w (width g) bs zs).0 e).count)

-- ---- the header, and the lines that it tells of

abbrev pub file_lines : Layout → List ℤ → List Group
file_lines f h = lines_of (groups f h)

pub same_groups : (f : Layout) → Regular f → (h rest : List ℤ) → length h ≡ width f.header
    → groups f (h ++ rest) ≡ groups f h
unfolding groups
same_groups f r h rest e = rw (r.by_header h rest e)

-- where the header fails, no later line counts
past_header : (w : ℕ) (f : Layout) (h : List ℤ) (bs : List ℕ) (v : Outcome) → line_check f f.header h (Line 1) ≡ v
    → v then check_from f (lines_of (f.body h))
    (elim (header_passes f h) [ true ↦ read_lines w (widths (f.body h)) bs | false ↦ [] ]) 1
    ≡ v then check_from f (lines_of (f.body h)) (read_all w (lines_of (f.body h)) bs) 1
unfolding header_passes has_passed
past_header w f h bs Passed e = rw (e, widths_of (f.body h))
past_header w f h bs (Refused n p) e = refl

pub header_column : (f : Layout) → Regular f → 0 < width f.header
unfolding groups
header_column f r = (r.some_columns []).0

-- where the header passes, all lines are read alike
pub header_passed : (w : ℕ) (f : Layout) (bs : List ℕ) (h : List ℤ) → read_line w (width f.header) bs ≡ some h
    → line_check f f.header h (Line 1) ≡ Passed
    → numbers_of w f bs ≡ read_lines w (width f.header ∷ widths (f.body h)) bs
unfolding numbers_of read_lines header_passes has_passed
header_passed w f bs h o e = rw (o, numbers_of, read_lines) (rw (e, header_passes))

-- the check of a file's numbers goes line by line, by the lines of any list of numbers that tells of the same lines as
-- the header
pub file_in_order : (w : ℕ) (f : Layout) → Regular f → (bs : List ℕ) (ns : List ℤ)
    → ((h : List ℤ) → read_line w (width f.header) bs ≡ some h → f.body ns ≡ f.body h)
    → lines_check f (numbers_of w f bs) ≡ check_from f (file_lines f ns) (read_all w (file_lines f ns) bs) 0
unfolding numbers_of
file_in_order w f r bs ns same = by (read_line w (width f.header) bs) refl
  where
    rest : List ℕ
    rest = drop (line_bytes w (width f.header)) bs

    by : (o : Option (List ℤ)) → read_line w (width f.header) bs ≡ o
        → lines_check f (numbers_of w f bs) ≡ check_from f (file_lines f ns) (read_all w (file_lines f ns) bs) 0
    by none o =
        rw (o, numbers_of)
        (lines_in_order f []
        ∙ rw (lines_header f [] r, lines_header f ns r)
        (check_short f f.header (lines_of (f.body [])) [] 0 (header_column f r)
        ∙ sym (read_none w f f.header (lines_of (f.body ns)) bs 0 (header_column f r) o)))
    by (some h) o =
        let ls = lines_of (f.body h) in
        let e = ((line_means w (width f.header) bs h).0 o).count in
        let X : List ℤ = elim (header_passes f h) [ true ↦ read_lines w (widths (f.body h)) rest | false ↦ [] ] in
        rw (o, numbers_of)
        (lines_in_order f (h ++ X)
        ∙ rw (same_groups f r h X e, lines_header f h r, lines_header f ns r, same h o)
        (check_line f f.header ls h X 0 e
        ∙ past_header w f h rest (line_check f f.header h (Line 1)) refl
        ∙ sym (read_some w f f.header ls bs 0 h o)))
