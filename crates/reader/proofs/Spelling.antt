-- A column means a number exactly when it is that number's spelling right-justified in spaces: spaces go off one by
-- one, then the minus, and the digits by the laws of decimal digits.
use mathlib.Core.Path.{◌≡◌, refl, ap, ◌∙◌}
use mathlib.Core.Logic.{◌↔◌}
use mathlib.Core.Bool.{Bool, true, false, cond}
use mathlib.Core.List.{List, [], ◌∷◌, ◌++◌}
use mathlib.Core.Option.{Option, none, some, map, none-ne-some}
use Prim.Native.Nat.{ℕ, zero, suc, ◌-◌, ◌≤◌}
use native.Mathlib.Omega.{arith}
use lib.Dec.{T, eqb}
use lib.IntN.{ℤ, pos, negsuc}
use lib.ListN.{length, replicate}
use borrow.Author.Tests.{eqb-true, ne_eqb}
use borrow.Table.Steps.{cases}
use Rattle.integer.specs.Decimal.{digits, right_justified, value_after, proper_digits}
use Rattle.integer.proofs.DecimalLaws.{digits_value, value_digits, digits_proper, proper_all, first_digit}
use Rattle.reader.specs.Spelling.{spelling, column, unsigned, negated, signed, read_column}

-- ---- what is written is read

unsigned_proper : (bs : List ℕ) → T (proper_digits bs) → unsigned bs ≡ some (value_after 0 bs)
unfolding unsigned
unsigned_proper bs = elim (proper_digits bs) as
    (λ b. T b → cond b (some (value_after 0 bs)) none ≡ some (value_after 0 bs))
    [ true ↦ λ t. refl | false ↦ λ t. absurd t ]

unsigned-digits : (k : ℕ) → unsigned (digits k) ≡ some k
unsigned-digits k = unsigned_proper (digits k) (digits_proper k) ∙ ap some (value_digits k)

-- a digit is no space and no minus
read_proper : (bs : List ℕ) → T (proper_digits bs) → read_column bs ≡ some (pos (value_after 0 bs))
unfolding read_column signed proper_digits
read_proper [] t = absurd t
read_proper (b ∷ bs) t =
    let h = first_digit b bs (proper_all (b ∷ bs) t) in
    rw (ne_eqb b 32 (omega arith), read_column)
    (rw (ne_eqb b 45 (omega arith), signed) (rw (unsigned_proper (b ∷ bs) t)))

read_spelling : (z : ℤ) → read_column (spelling z) ≡ some z
unfolding read_column signed spelling negated
read_spelling (pos k) = read_proper (digits k) (digits_proper k) ∙ ap (λ x. some (pos x)) (value_digits k)
read_spelling (negsuc k) = rw (unsigned-digits (suc k))

read_spaces : (n : ℕ) (bs : List ℕ) → read_column (replicate n 32 ++ bs) ≡ read_column bs
unfolding read_column
read_spaces zero bs = refl
read_spaces (suc n) bs = read_spaces n bs

pub read_column_lem : (w : ℕ) (z : ℤ) → read_column (column w z) ≡ some z
unfolding column right_justified
read_column_lem w z = read_spaces (w - length (spelling z)) (spelling z) ∙ read_spelling z

-- ---- what is read was written

unsigned_read : (bs : List ℕ) (k : ℕ) → unsigned bs ≡ some k → bs ≡ digits k
unfolding unsigned
unsigned_read bs k e = go (proper_digits bs) (digits_value bs) e
  where
    go : (b : Bool) → (T b → digits (value_after 0 bs) ≡ bs) → cond b (some (value_after 0 bs)) none ≡ some k
        → bs ≡ digits k
    go true h e = cc (h tt)
    go false h e = cc

negated_read : (bs : List ℕ) (o : Option ℕ) (z : ℤ) → unsigned bs ≡ o → negated o ≡ some z → 45 ∷ bs ≡ spelling z
unfolding spelling negated
negated_read bs none z u e = cc
negated_read bs (some zero) z u e = cc
negated_read bs (some (suc k)) z u e = cc (unsigned_read bs (suc k) u)

mapped_read : (bs : List ℕ) (o : Option ℕ) (z : ℤ) → unsigned bs ≡ o → map pos o ≡ some z → bs ≡ spelling z
unfolding spelling
mapped_read bs none z u e = cc
mapped_read bs (some k) z u e = cc (unsigned_read bs k u)

signed_read : (bs : List ℕ) (z : ℤ) → signed bs ≡ some z → bs ≡ spelling z
unfolding signed
signed_read [] z e = cc
signed_read (b ∷ bs) z e =
    cases (eqb b 45)
    (λ t. cc (negated_read bs (unsigned bs) z refl (rw (t, signed) at e), eqb-true b 45 t))
    (λ t. mapped_read (b ∷ bs) (unsigned (b ∷ bs)) z refl (rw (t, signed) at e))

column_read : (bs : List ℕ) (z : ℤ) → read_column bs ≡ some z
    → (bs ≡ column (length bs) z) × (length (spelling z) ≤ length bs)
unfolding read_column column right_justified
column_read [] z e = absurd (none-ne-some z e)
column_read (b ∷ bs) z e =
    cases (eqb b 32)
    (λ t.
    let i = column_read bs z (rw (t, read_column) at e) in
    let h : suc (length bs) - length (spelling z) ≡ suc (length bs - length (spelling z)) = omega arith in
    (rw h (cc (eqb-true b 32 t, i.0)), omega arith))
    (λ t.
    let i = signed_read (b ∷ bs) z (rw (t, read_column) at e) in
    let h : suc (length bs) - length (spelling z) ≡ 0 = omega (arith, ap length i) in
    (rw h i, omega (arith, ap length i)))

-- a column means z exactly when it is z's spelling right-justified in spaces
pub column_means : (bs : List ℕ) (z : ℤ) → read_column bs ≡ some z ↔
    ((bs ≡ column (length bs) z) × (length (spelling z) ≤ length bs))
column_means bs z = (column_read bs z, λ h. ap read_column h.0 ∙ read_column_lem (length bs) z)
