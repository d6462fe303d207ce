-- A column is blank up to the place where its text starts: each write puts its bytes before that place and moves it.
use mathlib.Core.Path.{◌≡◌, refl, sym, ap, ap₂, ◌∙◌}
use mathlib.Core.List.{List, [], ◌∷◌, ◌++◌, append-nil, append_assoc}
use Prim.Native.Nat.{ℕ, zero, suc, ◌+◌, ◌-◌, ◌%◌, ◌^◌, ◌≤◌, ◌<◌}
use native.Mathlib.Omega.{arith}
use lib.ListN.{length, take, drop, set, replicate, length-replicate, replicate-append-replicate, take-append-drop}
use lib.Seq.{take_at, drop_at}
use Rattle.std.specs.Fmt.{decimal}
use Rattle.std.proofs.lemmas.Fmt.{decimal_by_steps}
use Rattle.integer.specs.Decimal.{digits, right_justified}
use Rattle.integer.proofs.DecimalLaws.{digits_one, digits_more, digits-length}

-- std writes the digits of the definition
pub decimal_digits : (k : ℕ) → k < 2 ^ 64 → decimal k ≡ digits k
decimal_digits = decimal_by_steps (λ n ds. ds ≡ digits n)
    (λ n h. sym (digits_one n h))
    (λ n ds h e. ap (λ x. x ++ ((48 + n % 10) ∷ [])) e ∙ sym (digits_more n h))

pub decimal_short : (j k : ℕ) → 0 < j → k < 10 ^ j → k < 2 ^ 64 → length (decimal k) ≤ j
decimal_short j k some h f = rw (decimal_digits k f) (digits-length j k some h)

-- ---- spaces before a text

abbrev pub spaces : ℕ → List ℕ
spaces n = replicate n 32

take_spaces : (from more : ℕ) (rest : List ℕ) → take from (spaces (from + more) ++ rest) ≡ spaces from
take_spaces from more rest =
    rw (← replicate-append-replicate {A = ℕ} from more 32, append_assoc)
    (take_at (spaces from) (spaces more ++ rest) from (length-replicate from 32))

pub put_before : (end from : ℕ) (text rest : List ℕ) {before after : List ℕ} → before ≡ spaces end ++ rest
    → from + length text ≡ end → drop from after ≡ text ++ drop end before → take from after ≡ take from before
    → after ≡ spaces from ++ (text ++ rest)
put_before end from text rest {before} {after} b e d t =
    sym (take-append-drop from after)
    ∙ ap₂ ◌++◌
    (t ∙ ap (take from) b ∙ ap (λ n. take from (spaces n ++ rest)) (sym e) ∙ take_spaces from (length text) rest)
    (d ∙ ap (λ x. text ++ x) (ap (drop end) b ∙ drop_at (spaces end) rest end (length-replicate end 32)))

pub byte_before : (end b : ℕ) (rest : List ℕ) {before : List ℕ} → before ≡ spaces end ++ rest → 0 < end
    → set before (end - 1) b ≡ spaces (end - 1) ++ (b ∷ rest)
byte_before zero b rest e h = absurd (omega arith)
byte_before (suc n) b rest e h = let p : suc n - 1 ≡ n = omega arith in rw (e, p) (go n)
  where
    go : (n : ℕ) → set (spaces (suc n) ++ rest) n b ≡ spaces n ++ (b ∷ rest)
    go zero = refl
    go (suc n) = ap (λ l. 32 ∷ l) (go n)

pub justified : (w from : ℕ) (text : List ℕ) → from + length text ≡ w → spaces from ++ text ≡ right_justified w text
unfolding right_justified
justified w from text e = let n : from ≡ w - length text = omega arith in ap (λ i. spaces i ++ text) n

-- ---- a whole column

pub digits_column : (k from : ℕ) {now : List ℕ} → k < 2 ^ 64 → from + length (decimal k) ≡ 28
    → drop from now ≡ decimal k ++ [] → take from now ≡ take from (spaces 28) → now ≡ right_justified 28 (digits k)
digits_column k from f e d t =
    put_before 28 from (decimal k) [] refl e d t
    ∙ rw (append-nil (decimal k)) (justified 28 from (decimal k) e)
    ∙ ap (right_justified 28) (decimal_digits k f)
