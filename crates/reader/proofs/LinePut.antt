-- What stands in the room for a line's numbers, column by column: those that are read, and what is put behind them.
use mathlib.Core.Path.{◌≡◌, refl, sym, ap, ap₂, ◌∙◌}
use mathlib.Core.List.{List, [], ◌∷◌, ◌++◌, append-nil}
use mathlib.Core.Option.{none, some}
use Prim.Native.Nat.{ℕ, suc, ◌+◌, ◌*◌, ◌≤◌, ◌<◌}
use native.Mathlib.Numerals.{add-one}
use native.Mathlib.Omega.{arith}
use lib.IntN.{ℤ, pos}
use lib.ListN.{length, take, drop, get_or, set, take-append-drop, drop_of_length-le}
use lib.Seq.{drop-drop, take_all, drop-cons, take-suc-set, drop-set-lt, append_snoc}
use borrow.Author.Tests.{le-leb, lt-leb}
use Rattle.std.specs.Prelude.{Some, None}
use Rattle.reader.specs.Spelling.{read_column}
use Rattle.reader.specs.File.{file_width, line_bytes}
use Rattle.reader.specs.ColumnState.{reading_of}
use Rattle.reader.specs.ReadSoFar.{columns_put, line_put}
use Rattle.reader.proofs.InLine.{reading_none, reading_some}

module _ (bs : List ℕ) (zs : List ℤ) where
  pub short_put : length bs < length zs * file_width + 1 → zs ≡ line_put file_width bs zs
  unfolding line_put line_bytes
  short_put h = sym (rw (lt-leb (length zs * file_width + 1) (length bs) h, line_put))

  pub there_put : length zs * file_width + 1 ≤ length bs → columns_put file_width bs zs ≡ line_put file_width bs zs
  unfolding line_put line_bytes
  there_put h = sym (rw (le-leb (length zs * file_width + 1) (length bs) h, line_put))

-- the column at the front of these bytes is none, or is read
put_none : (bs : List ℕ) (zs : List ℤ) → read_column (take file_width bs) ≡ none → columns_put file_width bs zs ≡ zs
unfolding columns_put
put_none bs [] e = refl
put_none bs (z ∷ zs) e = rw (e, columns_put)

put_some : (bs : List ℕ) (z : ℤ) (zs : List ℤ) {n : ℤ} → read_column (take file_width bs) ≡ some n
    → columns_put file_width bs (z ∷ zs) ≡ n ∷ columns_put file_width (drop file_width bs) zs
unfolding columns_put
put_some bs z zs e = rw (e, columns_put)

no_column : (bs : List ℕ) → columns_put file_width bs [] ≡ []
unfolding columns_put
no_column bs = refl

-- the first j columns are read
pub record PutSo (bs : List ℕ) (before line : List ℤ) (j : ℕ) : Type 0 where
  pub same : columns_put file_width bs before
      ≡ take j line ++ columns_put file_width (drop (j * file_width) bs) (drop j line)

pub put_first : {bs : List ℕ} {before : List ℤ} → PutSo bs before before 0
put_first = record { same = refl }

module _ {bs : List ℕ} {before line : List ℤ} {j : ℕ} (h : PutSo bs before line j) where
  -- the bytes of the next column and of those after it
  abbrev left : List ℕ
  left = drop (j * file_width) bs

  pub put_stops : None ≡ reading_of (read_column (take file_width left)) → line ≡ columns_put file_width bs before
  put_stops e =
      sym (h.same
      ∙ ap (λ (zs : List ℤ). take j line ++ zs) (put_none left (drop j line) (reading_none _ e))
      ∙ take-append-drop j line)

  pub put_ends : length line ≤ j → line ≡ columns_put file_width bs before
  put_ends l =
      let none_left = ap (columns_put file_width left) (drop_of_length-le line l) ∙ no_column left in
      sym (h.same ∙ ap₂ ◌++◌ (take_all j line l) none_left ∙ append-nil line)

  pub put_next : {z : ℤ} → j < length line → Some z ≡ reading_of (read_column (take file_width left))
      → PutSo bs before (set line j z) (j + 1)
  put_next {z} l e =
      let rest = drop (suc j) line in
      let read = ap (columns_put file_width left) (drop-cons line j (pos 0) l)
      ∙ put_some left (get_or line j (pos 0)) rest (reading_some _ z e) in
      let front : take (j + 1) (set line j z) ≡ take j line ++ (z ∷ []) = rw (add-one j) (take-suc-set line j z l) in
      let same_rest : drop (j + 1) (set line j z) ≡ rest =
      rw (add-one j) (drop-set-lt (suc j) line j z (omega arith)) in
      let n : j * file_width + file_width ≡ (j + 1) * file_width = omega arith in
      let bytes = drop-drop file_width (j * file_width) bs ∙ ap (λ (k : ℕ). drop k bs) n in
      record {
        same = h.same ∙ ap (λ (zs : List ℤ). take j line ++ zs) read
            ∙ sym (append_snoc (take j line) z (columns_put file_width (drop file_width left) rest))
            ∙ ap₂ ◌++◌ (sym front) (ap₂ (columns_put file_width) bytes (sym same_rest));
      }
