-- A line is read column by column: what is left of it is a line with fewer columns, whose numbers follow those that are
-- read.
use mathlib.Core.Path.{◌≡◌, refl, sym, ap, ap₂, ◌∙◌}
use mathlib.Core.Bool.{Bool, true, false, cond}
use mathlib.Core.List.{List, [], ◌∷◌, ◌++◌, append-nil}
use mathlib.Core.Option.{Option, none, some, map}
use Prim.Native.Nat.{ℕ, zero, suc, ◌+◌, ◌*◌, ◌-◌, ◌/◌, ◌≤◌, ◌<◌}
use native.Mathlib.Nat.{add-zero, sub-zero}
use native.Mathlib.Numerals.{add-one}
use native.Mathlib.Omega.{arith}
use lib.Dec.{eqb}
use lib.IntN.{ℤ}
use lib.ListN.{length, take, drop, get_or, set, length-drop}
use lib.Seq.{drop-drop, take-take, take_all, drop-cons, take-suc-set, get_or-drop, append_snoc}
use borrow.Author.Tests.{le-leb, lt-leb}
use Rattle.std.specs.Prelude.{Some, None, is_some}
use Rattle.std.specs.Bool.{then_some}
use Rattle.std.specs.Simd.{first_chunks}
use Rattle.reader.specs.Spelling.{read_column}
use Rattle.reader.specs.File.{file_width, line_bytes, read_columns, read_line}
use Rattle.reader.specs.ColumnState.{reading_of}
use Rattle.reader.proofs.Cut.{drop-take}

-- ---- a line of k columns at the front of these bytes, where they are there

pub columns_of : List ℕ → ℕ → Option (List ℤ)
columns_of bs k = read_columns file_width k (take (line_bytes file_width k) bs)

module _ (bs : List ℕ) (k : ℕ) where
  pub line_short : length bs < k * file_width + 1 → read_line file_width k bs ≡ none
  unfolding read_line line_bytes
  line_short h = rw (lt-leb (k * file_width + 1) (length bs) h, read_line)

  pub line_there : k * file_width + 1 ≤ length bs → read_line file_width k bs ≡ columns_of bs k
  unfolding read_line line_bytes columns_of
  line_there h = rw (le-leb (k * file_width + 1) (length bs) h, read_line)

-- a column, and then the columns after it
then_columns : Option ℤ → Option (List ℤ) → Option (List ℤ)
then_columns o r = elim o [ none ↦ none | some z ↦ map (λ zs. z ∷ zs) r ]

module _ (bs : List ℕ) where
  next-column : (k : ℕ) → columns_of bs (suc k)
      ≡ then_columns (read_column (take file_width bs)) (columns_of (drop file_width bs) k)
  unfolding columns_of read_columns line_bytes then_columns
  next-column k =
      let n : suc k * file_width + 1 ≡ file_width + (k * file_width + 1) = omega arith in
      let first : take file_width (take (suc k * file_width + 1) bs) ≡ take file_width bs =
      take-take file_width (suc k * file_width + 1) bs (omega arith) in
      let rest : drop file_width (take (suc k * file_width + 1) bs) ≡ take (k * file_width + 1) (drop file_width bs) =
      rw (n, drop-take file_width (k * file_width + 1) bs) in
      ap₂ (λ x y. then_columns (read_column x) (read_columns file_width k y)) first rest

  last_byte : 0 < length bs → columns_of bs 0 ≡ cond (eqb (get_or bs 0 0) 10) (some []) none
  unfolding columns_of read_columns line_bytes
  last_byte h = rw (drop-cons bs 0 0 h)

-- as the code answers it
pub is_then_some : (t : Bool) → is_some (then_some t (tt {0})) ≡ t
is_then_some true = refl
is_then_some false = refl

-- ---- the columns of a line, cut into texts

chunk_at : (k i : ℕ) (bs : List ℕ) (d : List ℕ) → i < k
    → get_or (first_chunks file_width k bs) i d ≡ take file_width (drop (i * file_width) bs)
chunk_at zero i bs d l = absurd (omega arith)
chunk_at (suc k) zero bs d l = refl
chunk_at (suc k) (suc i) bs d l =
    let n : file_width + i * file_width ≡ suc i * file_width = omega arith in
    chunk_at k i (drop file_width bs) d (omega arith)
    ∙ ap (take file_width) (drop-drop (i * file_width) file_width bs ∙ ap (λ m. drop m bs) n)

pub text_at : (bs : List ℕ) {texts : List (List ℕ)} (i : ℕ) (d : List ℕ)
    → texts ≡ first_chunks file_width (length bs / file_width) bs → i * file_width + file_width ≤ length bs
    → get_or texts i d ≡ take file_width (drop (i * file_width) bs)
text_at bs i d e l = rw e (chunk_at (length bs / file_width) i bs d (omega arith))

-- ---- j columns of a line are read

pub record InLine (bs : List ℕ) (columns : ℕ) (line : List ℤ) (j : ℕ) : Type 0 where
  pub same : columns_of bs columns
      ≡ map (λ zs. take j line ++ zs) (columns_of (drop (j * file_width) bs) (columns - j))

map_same : (o : Option (List ℤ)) → o ≡ map (λ zs. zs) o
map_same none = refl
map_same (some zs) = refl

map_next : (xs : List ℤ) (z : ℤ) (o : Option (List ℤ))
    → map (λ zs. xs ++ zs) (map (λ zs. z ∷ zs) o) ≡ map (λ zs. xs ++ (z ∷ []) ++ zs) o
map_next xs z none = refl
map_next xs z (some zs) = ap some (sym (append_snoc xs z zs))

map_last : (xs : List ℤ) (t : Bool) → map (λ zs. xs ++ zs) (cond t (some []) none) ≡ cond t (some xs) none
map_last xs true = ap some (append-nil xs)
map_last xs false = refl

pub reading_none : (o : Option ℤ) → None ≡ reading_of o → o ≡ none
unfolding reading_of
reading_none none e = refl
reading_none (some z) e = cc

pub reading_some : (o : Option ℤ) (z : ℤ) → Some z ≡ reading_of o → o ≡ some z
unfolding reading_of
reading_some none z e = cc
reading_some (some y) z e = cc

module _ {bs : List ℕ} {columns : ℕ} where
  pub line_first : {line : List ℤ} → InLine bs columns line 0
  line_first = record { same = rw (sub-zero columns) (map_same (columns_of bs columns)) }

  module _ {line : List ℤ} {j : ℕ} (h : InLine bs columns line j) where
    -- the text of the next column
    abbrev text : List ℕ
    text = take file_width (drop (j * file_width) bs)

    -- what is left of the line after it
    abbrev others : Option (List ℤ)
    others = columns_of (drop ((j + 1) * file_width) bs) (columns - (j + 1))

    next : j < columns → columns_of (drop (j * file_width) bs) (columns - j) ≡ then_columns (read_column text) others
    next l =
        let e : columns - j ≡ suc (columns - (j + 1)) = omega arith in
        let n : (j + 1) * file_width ≡ j * file_width + file_width = omega arith in
        rw (e, n, ← drop-drop file_width (j * file_width) bs)
        (next-column (drop (j * file_width) bs) (columns - (j + 1)))

    pub line_next : {z : ℤ} → j < columns → j < length line → Some z ≡ reading_of (read_column text)
        → InLine bs columns (set line j z) (j + 1)
    unfolding then_columns
    line_next {z} l n e =
        let r = reading_some (read_column text) z e in
        let front : take (j + 1) (set line j z) ≡ take j line ++ (z ∷ []) =
        rw (add-one j) (take-suc-set line j z n) in
        record { same = h.same ∙ rw (next l, r, front) (map_next (take j line) z others) }

    pub line_stops : j < columns → None ≡ reading_of (read_column text) → columns_of bs columns ≡ none
    unfolding then_columns
    line_stops l e =
        let r = reading_none (read_column text) e in
        h.same ∙ rw (next l, r)

    pub line_ends : j ≡ columns → length line ≤ j → columns * file_width < length bs
        → columns_of bs columns ≡ cond (eqb (get_or bs (columns * file_width) 0) 10) (some line) none
    line_ends l m n =
        let z : columns - j ≡ 0 = omega arith in
        let end = columns * file_width in
        let left : 0 < length (drop end bs) = omega (arith, length-drop end bs) in
        let last = rw (get_or-drop end bs 0, add-zero end) at (last_byte (drop end bs) left) in
        h.same ∙ rw (z, l, last, take_all columns line (omega arith)) (map_last line (eqb (get_or bs end 0) 10))
