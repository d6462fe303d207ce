-- A file that passes is the file of its numbers: line by line, each line that is read is its columns and byte 10.
use mathlib.Core.Path.{◌≡◌, refl, sym, ◌∙◌, ap, ap₂}
use mathlib.Core.List.{List, [], ◌∷◌, ◌++◌, map, append_assoc}
use mathlib.Core.Option.{Option, none, some}
use Prim.Native.Nat.{ℕ, suc}
use native.Mathlib.Omega.{arith}
use lib.IntN.{ℤ}
use lib.ListN.{length, drop, take-append-drop, length-append}
use lib.Seq.{take_at, drop_at}
use borrow.Author.Tests.{le-leb}
use Rattle.scope.specs.declared.Place.TheVariants.{Line}
use Rattle.scope.specs.Cases.Outcome.{Passed}
use Rattle.scope.specs.Layout.{Group, Layout, width, groups}
use Rattle.scope.proofs.Checks.{passed_is_not_refused, then_passed}
use Rattle.scope.proofs.InOrder.{lines_of, check_from}
use Rattle.scope.specs.Verdict.{line_check}
use Rattle.reader.specs.File.{line_bytes, read_line, read_lines, widths, numbers_of, columns, write_lines, file_of}
use Rattle.reader.specs.WellFormed.{SomeColumns, Regular}
use Rattle.reader.specs.WrittenBack.{WrittenBack}
use Rattle.reader.proofs.Line.{line_means}
use Rattle.reader.proofs.File.{widths_of, columns_of, lines_header, read_all, read_none, read_some, file_lines}
use Rattle.reader.proofs.File.{header_column, header_passed, file_in_order}

-- one line written, and others after it
pub write_line : (w k : ℕ) (ks : List ℕ) (zs rest : List ℤ) → length zs ≡ k
    → write_lines w (k ∷ ks) (zs ++ rest) ≡ (columns w zs ++ (10 ∷ [])) ++ write_lines w ks rest
unfolding write_lines
write_line w k ks zs rest e =
    rw (le-leb k (length (zs ++ rest)) (omega (arith, length-append zs rest)), write_lines)
    (rw (take_at zs rest k e, drop_at zs rest k e, append_assoc))

-- lines that are read and pass are those of their numbers
lines_back : (w : ℕ) (f : Layout) (ls : List Group) (bs : List ℕ) (j : ℕ) → SomeColumns ls
    → check_from f ls (read_all w ls bs) j ≡ Passed → bs ≡ write_lines w (map width ls) (read_all w ls bs)
unfolding check_from read_lines write_lines columns
lines_back w f [] [] j c e = refl
lines_back w f [] (b ∷ bs) j c e = passed_is_not_refused (sym e)
lines_back w f (g ∷ ls) bs j c e = by (lines_back w f ls (drop (line_bytes w (width g)) bs) (suc j) c.1)
    (read_line w (width g) bs) refl
  where
    rest : List ℕ
    rest = drop (line_bytes w (width g)) bs

    by : (check_from f ls (read_all w ls rest) (suc j) ≡ Passed
        → rest ≡ write_lines w (map width ls) (read_all w ls rest)) → (o : Option (List ℤ))
        → read_line w (width g) bs ≡ o → bs ≡ write_lines w (width g ∷ map width ls) (read_all w (g ∷ ls) bs)
    by others none o = passed_is_not_refused (sym e ∙ read_none w f g ls bs j c.0 o)
    by others (some zs) o =
        let line = (line_means w (width g) bs zs).0 o in
        let later : check_from f ls (read_all w ls rest) (suc j) ≡ Passed =
        ((then_passed (line_check f g zs (Line (suc j))) (check_from f ls (read_all w ls rest) (suc j))).0
        (sym (read_some w f g ls bs j zs o) ∙ e)).1 in
        let all : read_all w (g ∷ ls) bs ≡ zs ++ read_all w ls rest = rw (o, read_lines) in
        sym (take-append-drop (line_bytes w (width g)) bs)
        ∙ ap₂ ◌++◌ line.bytes (others later)
        ∙ sym (write_line w (width g) (map width ls) zs (read_all w ls rest) line.count)
        ∙ ap (write_lines w (width g ∷ map width ls)) (sym all)

pub written_back : (w : ℕ) (f : Layout) → Regular f → (bs : List ℕ) → WrittenBack w f bs
unfolding file_of groups read_lines
written_back w f r bs passed = by (read_line w (width f.header) bs) refl
  where
    by : (o : Option (List ℤ)) → read_line w (width f.header) bs ≡ o → bs ≡ file_of w f (numbers_of w f bs)
    by none o =
        passed_is_not_refused {n = f.form_number} {p = Line 1}
        (sym passed
        ∙ file_in_order w f r bs []
        (λ h e. let z : ◌≡◌ {A = Option (List ℤ)} none (some h) = sym o ∙ e in let y : ◌≡◌ {A = ℕ} 0 1 =
        cc in absurd (omega arith))
        ∙ rw (lines_header f [] r) (read_none w f f.header (lines_of (f.body [])) bs 0 (header_column f r) o))
    by (some h) o =
        let told : (k : List ℤ) → read_line w (width f.header) bs ≡ some k → f.body h ≡ f.body k =
        λ k e. let s : h ≡ k = cc in ap f.body s in
        let lines : file_lines f h ≡ f.header ∷ lines_of (f.body h) = lines_header f h r in
        let checks : check_from f (file_lines f h) (read_all w (file_lines f h) bs) 0 ≡ Passed =
        sym (file_in_order w f r bs h told) ∙ passed in
        let first : line_check f f.header h (Line 1) ≡ Passed =
        ((then_passed (line_check f f.header h (Line 1))
        (check_from f (lines_of (f.body h))
        (read_all w (lines_of (f.body h)) (drop (line_bytes w (width f.header)) bs)) 1)).0
        (sym (read_some w f f.header (lines_of (f.body h)) bs 0 h o) ∙ (rw lines at checks))).0 in
        let widths_are : width f.header ∷ widths (f.body h) ≡ map width (file_lines f h) =
        ap (λ ks. width f.header ∷ ks) (widths_of (f.body h)) ∙ ap (map width) (sym lines) in
        let numbers : numbers_of w f bs ≡ read_all w (file_lines f h) bs = header_passed w f bs h o first
        ∙ ap (λ ks. read_lines w ks bs) widths_are in
        let begins : read_all w (f.header ∷ lines_of (f.body h)) bs
        ≡ h ++ read_all w (lines_of (f.body h)) (drop (line_bytes w (width f.header)) bs) = rw (o, read_lines) in
        let body : f.body (numbers_of w f bs) ≡ f.body h =
        ap f.body (numbers ∙ ap (λ ls. read_all w ls bs) lines ∙ begins)
        ∙ r.by_header h (read_all w (lines_of (f.body h)) (drop (line_bytes w (width f.header)) bs))
        ((line_means w (width f.header) bs h).0 o).count in
        lines_back w f (file_lines f h) bs 0 (columns_of (groups f h) (r.some_columns h)) checks
        ∙ ap₂ (write_lines w) (sym widths_are ∙ ap (λ gs. width f.header ∷ widths gs) (sym body)) (sym numbers)
