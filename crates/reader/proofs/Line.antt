-- A line is read exactly when it is well formed: column by column, by the law of one column.
use mathlib.Core.Path.{◌≡◌, refl, sym, ap, ap₂, ◌∙◌}
use mathlib.Core.Logic.{◌↔◌}
use mathlib.Core.List.{List, [], ◌∷◌, ◌++◌, append_assoc}
use mathlib.Core.Option.{Option, none, some, map, none-ne-some}
use Prim.Native.Nat.{ℕ, zero, suc, ◌*◌, ◌≤◌}
use native.Mathlib.Omega.{arith}
use lib.Dec.{eqb, leb}
use lib.IntN.{ℤ}
use lib.ListN.{length, take, drop, length-append, length-take, length-drop, take-append-drop}
use lib.Seq.{take_at, drop_at}
use borrow.Author.Tests.{eqb-true, leb-false}
use borrow.Table.Steps.{cases}
use Rattle.integer.proofs.DecimalLaws.{right_justified-length}
use Rattle.reader.specs.Spelling.{spelling, column, read_column}
use Rattle.reader.specs.File.{line_bytes, columns, read_columns, read_line}
use Rattle.reader.specs.WellFormed.{Fit, WellFormedLine}
use Rattle.reader.proofs.Spelling.{read_column_lem, column_means}

pub column-length : (w : ℕ) (z : ℤ) → length (spelling z) ≤ w → length (column w z) ≡ w
unfolding column
column-length w z h = right_justified-length w (spelling z) h

pub columns-length : (w : ℕ) (zs : List ℤ) → Fit w zs → length (columns w zs) ≡ length zs * w
unfolding columns
columns-length w [] h = omega arith
columns-length w (z ∷ zs) h =
    length-append (column w z) (columns w zs) ∙ omega (arith, column-length w z h.0, columns-length w zs h.1)

-- a column and then the columns after it
both_read : (o : Option ℤ) (r : Option (List ℤ)) (zs : List ℤ)
    → (elim o as (λ _. Option (List ℤ)) [ none ↦ none | some z ↦ map (λ rest. z ∷ rest) r ]) ≡ some zs
    → (z : ℤ) × (rest : List ℤ) × (o ≡ some z) × (r ≡ some rest) × (zs ≡ z ∷ rest)
both_read none r zs e = absurd (none-ne-some zs e)
both_read (some z) none zs e = absurd (none-ne-some zs e)
both_read (some z) (some rest) zs e = (z, rest, refl, refl, cc)

columns_read : (w k : ℕ) (bs : List ℕ) (zs : List ℤ) → read_columns w k bs ≡ some zs → WellFormedLine w k zs bs
unfolding read_columns columns
columns_read w zero [] zs e = absurd (none-ne-some zs e)
columns_read w zero (b ∷ []) zs e =
    cases (eqb b 10)
    (λ t.
    let n : zs ≡ [] = cc (rw (t, read_columns) at e) in
    rw n (record { count = refl; fit = tt; bytes = ap (λ x. x ∷ []) (eqb-true b 10 t) }))
    (λ t. absurd (none-ne-some zs (rw (t, read_columns) at e)))
columns_read w zero (b ∷ c ∷ bs) zs e = absurd (none-ne-some zs e)
columns_read w (suc k) bs zs e =
    let (z, rest, o, r, n) = both_read (read_column (take w bs)) (read_columns w k (drop w bs)) zs e in
    let c = (column_means (take w bs) z).0 o in
    let i = columns_read w k (drop w bs) rest r in
    let d = ap length i.bytes ∙ length-append (columns w rest) (10 ∷ []) in
    let full : length (take w bs) ≡ w = omega (arith, length-take w bs, length-drop w bs) in
    let front : take w bs ≡ column w z = c.0 ∙ ap (λ x. column x z) full in
    rw n (record {
      count = ap suc i.count;
      fit = (omega arith, i.fit);
      bytes = sym (take-append-drop w bs) ∙ ap₂ ◌++◌ front i.bytes
          ∙ sym (append_assoc (column w z) (columns w rest) (10 ∷ []));
    })

read_columns_lem : (w k : ℕ) (bs : List ℕ) (zs : List ℤ) → WellFormedLine w k zs bs → read_columns w k bs ≡ some zs
unfolding read_columns columns
read_columns_lem w zero bs [] h = rw h.bytes
read_columns_lem w zero bs (z ∷ zs) h = absurd (omega (arith, h.count))
read_columns_lem w (suc k) bs [] h = absurd (omega (arith, h.count))
read_columns_lem w (suc k) bs (z ∷ zs) h =
    let l = column-length w z h.fit.0 in
    let e : bs ≡ column w z ++ (columns w zs ++ (10 ∷ [])) = h.bytes
    ∙ append_assoc (column w z) (columns w zs) (10 ∷ []) in
    let front : take w bs ≡ column w z = rw e (take_at (column w z) (columns w zs ++ (10 ∷ [])) w l) in
    let back : drop w bs ≡ columns w zs ++ (10 ∷ []) = rw e (drop_at (column w z) (columns w zs ++ (10 ∷ [])) w l) in
    rw (ap read_column front ∙ read_column_lem w z, read_columns)
    (rw (read_columns_lem w k (drop w bs) zs
    (record { count = omega (arith, h.count); fit = h.fit.1; bytes = back })))

-- a line of k columns stands at the front of bs exactly when the front is well formed
pub line_means : (w k : ℕ) (bs : List ℕ) (zs : List ℤ) → read_line w k bs
    ≡ some zs ↔ WellFormedLine w k zs (take (line_bytes w k) bs)
unfolding read_line line_bytes
line_means w k bs zs =
    cases (leb (line_bytes w k) (length bs))
    (λ t. rw (t, read_line)
    (columns_read w k (take (line_bytes w k) bs) zs, read_columns_lem w k (take (line_bytes w k) bs) zs))
    (λ t. rw (t, read_line) (
      λ e. absurd (none-ne-some zs e),
      λ h. absurd (omega (
        arith,
        leb-false (line_bytes w k) (length bs) t,
        length-take (line_bytes w k) bs,
        ap length h.bytes,
        length-append (columns w zs) (10 ∷ []),
        columns-length w zs h.fit,
        ap (λ x. x * w) h.count,
      )),
    ))
