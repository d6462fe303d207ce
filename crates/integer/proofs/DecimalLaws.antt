-- Laws of decimal digits: what is written is read back, and what is read was written. Both go digit by digit: one more
-- digit d after a value a makes 10·a + d.
-- Example (`example_one_number`, checked after `value_digits`): two numbers with the same digits, h : digits j ≡ digits
-- k, are equal:
--     sym (value_digits j) ∙ ap (value_after 0) h ∙ value_digits k
use mathlib.Core.Path.{◌≡◌, refl, sym, ap, ◌∙◌}
use mathlib.Core.Bool.{true, ◌&&◌}
use mathlib.Core.List.{List, [], ◌∷◌, ◌++◌, append-nil, append_assoc}
use Prim.Native.Nat.{ℕ, zero, suc, ◌+◌, ◌*◌, ◌-◌, ◌/◌, ◌%◌, ◌^◌, ◌≤◌, ◌<◌}
use native.Mathlib.Nat.{pow-suc, one-le-pow}
use native.Mathlib.Omega.{arith}
use lib.Arith.{digits_div, digits_mod, mod-mul}
use lib.Dec.{T, leb, ltb, leb→le, le→leb}
use lib.ListN.{length, length-append, length-replicate}
use borrow.Author.Tests.{ltb-true, ltb-false, lt-ltb, le-ltb}
use borrow.Table.Steps.{cases}
use mir.Facts.{and_yes, yes_and}
use Rattle.integer.specs.Decimal.{digits_within, digits, last_digits, right_justified, is_digit, all_digits}
use Rattle.integer.specs.Decimal.{value_after, proper_digits}

-- ---- the digits of a number

-- a depth above the number is deep enough
enough : (d e k : ℕ) → k < d → k < e → digits_within d k ≡ digits_within e k
unfolding digits_within
enough zero e k h i = absurd (omega arith)
enough (suc d) zero k h i = absurd (omega arith)
enough (suc d) (suc e) k h i =
    cases (ltb k 10)
    (λ t. rw (t, digits_within))
    (λ t. let l = ltb-false k 10 t in
    rw (t, digits_within) (ap (λ x. x ++ ((48 + k % 10) ∷ [])) (enough d e (k / 10) (omega arith) (omega arith))))

pub digits_one : (k : ℕ) → k < 10 → digits k ≡ (48 + k) ∷ []
unfolding digits digits_within
digits_one k h = rw (lt-ltb k 10 h, digits, digits_within)

pub digits_more : (k : ℕ) → 10 ≤ k → digits k ≡ digits (k / 10) ++ ((48 + k % 10) ∷ [])
unfolding digits digits_within
digits_more k h =
    rw (le-ltb k 10 h, digits, digits_within)
    (ap (λ x. x ++ ((48 + k % 10) ∷ [])) (enough k (suc (k / 10)) (k / 10) (omega arith) (omega arith)))

-- one more digit
pub digits_after : (a d : ℕ) → 0 < a → d < 10 → digits (a * 10 + d) ≡ digits a ++ ((48 + d) ∷ [])
digits_after a d p h = digits_more (a * 10 + d) (omega arith) ∙ rw (digits_div a h, digits_mod a h)

-- induction by the last digit
pub by_digits {ℓ} : (P : ℕ → Type ℓ) → ((k : ℕ) → k < 10 → P k) → ((k : ℕ) → 10 ≤ k → P (k / 10) → P k) → (k : ℕ) → P k
by_digits P one more k = go (suc k) k (omega arith)
  where
    go : (n k : ℕ) → k < n → P k
    go zero k h = absurd (omega arith)
    go (suc n) k h =
        cases (ltb k 10)
        (λ t. one k (ltb-true k 10 t))
        (λ t. let l = ltb-false k 10 t in more k l (go n (k / 10) (omega arith)))

pub digits-length : (j k : ℕ) → 0 < j → k < 10 ^ j → length (digits k) ≤ j
digits-length zero k p h = absurd (omega arith)
digits-length (suc zero) k p h = rw (digits_one k (omega arith)) (omega arith)
digits-length (suc (suc j)) k p h =
    cases (ltb k 10)
    (λ t. rw (digits_one k (ltb-true k 10 t)) (omega arith))
    (λ t. let l = ltb-false k 10 t in
    rw (digits_more k l, length-append) (omega (arith, digits-length (suc j) (k / 10) (omega arith) (omega arith))))

-- ---- reading digits

pub digit_bounds : (b : ℕ) → T (is_digit b) → (48 ≤ b) × (b ≤ 57)
unfolding is_digit
digit_bounds b t = let p = and_yes (leb 48 b) (leb b 57) t in (leb→le 48 b p.0, leb→le b 57 p.1)

pub is_digit_lem : (b : ℕ) → 48 ≤ b → b ≤ 57 → T (is_digit b)
unfolding is_digit
is_digit_lem b h i = yes_and (leb 48 b) (leb b 57) (le→leb 48 b h) (le→leb b 57 i)

-- what is written of a digit d is a digit
pub digit_written : (d : ℕ) → d < 10 → T (is_digit (48 + d))
digit_written d h = is_digit_lem (48 + d) (omega arith) (omega arith)

pub all_digits-++ : (bs cs : List ℕ) → T (all_digits bs) → T (all_digits cs) → T (all_digits (bs ++ cs))
unfolding all_digits
all_digits-++ [] cs s t = t
all_digits-++ (b ∷ bs) cs s t =
    let p = and_yes (is_digit b) (all_digits bs) s in
    yes_and (is_digit b) (all_digits (bs ++ cs)) p.0 (all_digits-++ bs cs p.1 t)

pub one_digit : (b : ℕ) → T (is_digit b) → T (all_digits (b ∷ []))
unfolding all_digits
one_digit b t = yes_and (is_digit b) true t tt

pub value_after-++ : (a : ℕ) (bs cs : List ℕ) → value_after a (bs ++ cs) ≡ value_after (value_after a bs) cs
unfolding value_after
value_after-++ a [] cs = refl
value_after-++ a (b ∷ bs) cs = value_after-++ (a * 10 + (b - 48)) bs cs

-- digits read after a value above 0 are written after its digits
pub digits-value_after : (a : ℕ) (bs : List ℕ) → 0 < a → T (all_digits bs) → digits (value_after a bs) ≡ digits a ++ bs
unfolding value_after all_digits
digits-value_after a [] p t = sym (append-nil (digits a))
digits-value_after a (b ∷ bs) p t =
    let q = and_yes (is_digit b) (all_digits bs) t in
    let r = digit_bounds b q.0 in
    let e : 48 + (b - 48) ≡ b = omega arith in
    digits-value_after (a * 10 + (b - 48)) bs (omega arith) q.1
    ∙ rw (digits_after a (b - 48) p (omega arith), e, append_assoc)

-- each proper digit text is the digits of its value
pub digits_value : (bs : List ℕ) → T (proper_digits bs) → digits (value_after 0 bs) ≡ bs
unfolding value_after proper_digits
digits_value [] t = absurd t
digits_value (b ∷ []) t =
    let r = digit_bounds b t in
    digits_one (0 * 10 + (b - 48)) (omega arith) ∙ ap (λ x. x ∷ []) (omega arith)
digits_value (b ∷ c ∷ bs) t =
    let q = and_yes (leb 49 b && leb b 57) (all_digits (c ∷ bs)) t in
    let r = and_yes (leb 49 b) (leb b 57) q.0 in
    let lo = leb→le 49 b r.0 in
    let hi = leb→le b 57 r.1 in
    let e : 48 + (0 * 10 + (b - 48)) ≡ b = omega arith in
    digits-value_after (0 * 10 + (b - 48)) (c ∷ bs) (omega arith) q.1
    ∙ rw (digits_one (0 * 10 + (b - 48)) (omega arith), e)

-- the value of the digits of a number is that number
pub value_digits : (k : ℕ) → value_after 0 (digits k) ≡ k
unfolding value_after
value_digits =
    by_digits (λ k. value_after 0 (digits k) ≡ k)
    (λ k h. rw (digits_one k h) (omega arith))
    (λ k h i. rw (digits_more k h, value_after-++, i) (omega arith))

-- example: digits are those of one number
example_one_number : (j k : ℕ) → digits j ≡ digits k → j ≡ k
example_one_number j k h = sym (value_digits j) ∙ ap (value_after 0) h ∙ value_digits k

-- one more digit after a proper text that is not 0
proper_after : (bs : List ℕ) (b : ℕ) → T (proper_digits bs) → 0 < value_after 0 bs → T (is_digit b)
    → T (proper_digits (bs ++ (b ∷ [])))
unfolding proper_digits value_after
proper_after [] b t p s = absurd t
proper_after (c ∷ []) b t p s =
    let r = digit_bounds c t in
    yes_and (leb 49 c && leb c 57) (all_digits (b ∷ []))
    (yes_and (leb 49 c) (leb c 57) (le→leb 49 c (omega arith)) (le→leb c 57 r.1)) (one_digit b s)
proper_after (c ∷ e ∷ bs) b t p s =
    let q = and_yes (leb 49 c && leb c 57) (all_digits (e ∷ bs)) t in
    yes_and (leb 49 c && leb c 57) (all_digits (e ∷ (bs ++ (b ∷ [])))) q.0
    (all_digits-++ (e ∷ bs) (b ∷ []) q.1 (one_digit b s))

pub digits_proper : (k : ℕ) → T (proper_digits (digits k))
unfolding proper_digits
digits_proper =
    by_digits (λ k. T (proper_digits (digits k)))
    (λ k h. rw (digits_one k h) (digit_written k h))
    (λ k h i. rw (digits_more k h)
    (proper_after (digits (k / 10)) (48 + k % 10) i (rw (value_digits (k / 10)) (omega arith))
    (digit_written (k % 10) (omega arith))))

-- a proper digit text is digits and nothing else
pub proper_all : (bs : List ℕ) → T (proper_digits bs) → T (all_digits bs)
unfolding proper_digits all_digits
proper_all [] t = tt
proper_all (b ∷ []) t = one_digit b t
proper_all (b ∷ c ∷ bs) t =
    let q = and_yes (leb 49 b && leb b 57) (all_digits (c ∷ bs)) t in
    let r = and_yes (leb 49 b) (leb b 57) q.0 in
    let lo = leb→le 49 b r.0 in
    yes_and (is_digit b) (all_digits (c ∷ bs)) (is_digit_lem b (omega arith) (leb→le b 57 r.1)) q.1

pub digits_some : (k : ℕ) → 0 < length (digits k)
unfolding proper_digits
digits_some k = some (digits k) (digits_proper k)
  where
    some : (bs : List ℕ) → T (proper_digits bs) → 0 < length bs
    some [] t = absurd t
    some (b ∷ bs) t = omega arith

-- the first byte of digits
pub first_digit : (b : ℕ) (bs : List ℕ) → T (all_digits (b ∷ bs)) → (48 ≤ b) × (b ≤ 57)
unfolding all_digits
first_digit b bs t = digit_bounds b (and_yes (is_digit b) (all_digits bs) t).0

-- ---- the last digits

pub last_digits-length : (d k : ℕ) → length (last_digits d k) ≡ d
unfolding last_digits
last_digits-length zero k = refl
last_digits-length (suc d) k = length-append (last_digits d (k / 10)) ((48 + k % 10) ∷ [])
    ∙ omega (arith, last_digits-length d (k / 10))

pub last_digits-digits : (d k : ℕ) → T (all_digits (last_digits d k))
unfolding last_digits all_digits
last_digits-digits zero k = tt
last_digits-digits (suc d) k = all_digits-++ (last_digits d (k / 10)) ((48 + k % 10) ∷ [])
    (last_digits-digits d (k / 10)) (one_digit (48 + k % 10) (digit_written (k % 10) (omega arith)))

pub last_digits_value : (a d k : ℕ) → value_after a (last_digits d k) ≡ a * 10 ^ d + k % 10 ^ d
unfolding last_digits value_after
last_digits_value a zero k = omega arith
last_digits_value a (suc d) k =
    value_after-++ a (last_digits d (k / 10)) ((48 + k % 10) ∷ [])
    ∙ rw (
      last_digits_value a d (k / 10),
      pow-suc,
      mod-mul k {m = 10 ^ d} {c = 10} (one-le-pow d 10 (omega arith))
          (omega arith),
    ) (omega arith)

-- ---- a text in a column

pub right_justified-length : (w : ℕ) (text : List ℕ) → length text ≤ w → length (right_justified w text) ≡ w
unfolding right_justified
right_justified-length w text h = rw (length-append, length-replicate) (omega arith)
