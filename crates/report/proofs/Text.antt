-- A text of the report says the number that it was written from: the digits before the point and after it are read
-- back by the laws of decimal digits.
use mathlib.Core.Path.{◌≡◌, refl, sym, ap, ap₂, ◌∙◌}
use mathlib.Core.Logic.{◌≢◌}
use mathlib.Core.Bool.{Bool, true, false, cond, ◌&&◌}
use mathlib.Core.List.{List, [], ◌∷◌, ◌++◌, append-nil}
use mathlib.Core.Option.{Option, none, some}
use Prim.Native.Nat.{ℕ, zero, suc, ◌+◌, ◌*◌, ◌-◌, ◌/◌, ◌^◌, ◌≤◌, ◌<◌}
use native.Mathlib.Nat.{div-add-mod', div-le_of_le-mul}
use native.Mathlib.Omega.{arith}
use lib.Dec.{T}
use lib.IntN.{ℤ, pos, negsuc, nat_abs}
use lib.Signed.{◌<ℤ◌, lt_z_yes}
use lib.ListN.{length, replicate, length-append}
use borrow.Author.Tests.{ne_eqb}
use mir.Facts.{and_yes, yes_and}
use Rattle.integer.specs.Decimal.{digits, last_digits, right_justified}
use Rattle.integer.specs.Decimal.{proper_digits, is_digit, all_digits, value_after}
use Rattle.integer.proofs.DecimalLaws.{digits-length, value_digits, digits_proper, digits_some, proper_all}
use Rattle.integer.proofs.DecimalLaws.{first_digit, last_digits-length, last_digits-digits, last_digits_value}
use Rattle.report.specs.Text.{pointed, fixed, none_text, word, number, MinusSaid, before_point, after_point, decimal}
use Rattle.report.specs.Text.{said_number, below_zero, said_minus, and_said, signed_decimal, is_none, said}

-- ---- before and after the point

before_digits : (bs cs : List ℕ) → T (all_digits bs) → before_point (bs ++ cs) ≡ bs ++ before_point cs
unfolding before_point all_digits
before_digits [] cs t = refl
before_digits (b ∷ bs) cs t =
    let h = first_digit b bs t in
    let rest = (and_yes (is_digit b) (all_digits bs) t).1 in
    rw (ne_eqb b 46 (omega arith), before_point) (ap (λ x. b ∷ x) (before_digits bs cs rest))

after_digits : (bs cs : List ℕ) → T (all_digits bs) → after_point (bs ++ cs) ≡ after_point cs
unfolding after_point all_digits
after_digits [] cs t = refl
after_digits (b ∷ bs) cs t =
    let h = first_digit b bs t in
    let rest = (and_yes (is_digit b) (all_digits bs) t).1 in
    rw (ne_eqb b 46 (omega arith), after_point) (after_digits bs cs rest)

passes : {A : Type 0} (b : Bool) (x : A) → T b → cond b (some x) none ≡ some x
passes true x t = refl
passes false x t = absurd t

without_point : (bs ws : List ℕ) → after_point bs ≡ none → before_point bs ≡ ws → T (proper_digits ws)
    → decimal bs ≡ some (value_after 0 ws, 0)
unfolding decimal
without_point bs ws a b t = rw (a, decimal) (rw b (passes (proper_digits ws) (value_after 0 ws, 0) t))

with_point : (bs ws cs : List ℕ) → after_point bs ≡ some cs → before_point bs ≡ ws → T (proper_digits ws)
    → T (all_digits cs) → 0 < length cs → decimal bs ≡ some (value_after (value_after 0 ws) cs, length cs)
unfolding decimal
with_point bs ws [] a b t u l = absurd (omega arith)
with_point bs ws (c ∷ cs) a b t u l =
    let both = yes_and (proper_digits ws) (all_digits (c ∷ cs)) t u in
    let v : ℕ = value_after (value_after 0 ws) (c ∷ cs) in
    rw (a, decimal) (rw b (passes (proper_digits ws && all_digits (c ∷ cs)) (v, length (c ∷ cs)) both))

pointed-said : (d k : ℕ) → decimal (pointed d k) ≡ some (k, d)
unfolding pointed before_point after_point
pointed-said zero k =
    let t = digits_proper k in
    let a = proper_all (digits k) t in
    let n = append-nil (digits k) in
    let after = rw n at (after_digits (digits k) [] a) in
    let before = rw n at (before_digits (digits k) [] a) in
    without_point (digits k) (digits k) after before t
    ∙ ap (λ x. some (x, 0)) (value_digits k)
pointed-said (suc d) k =
    let q = k / 10 ^ suc d in
    let cs = last_digits (suc d) k in
    let t = digits_proper q in
    let a = proper_all (digits q) t in
    let l = last_digits-length (suc d) k in
    let v : value_after (value_after 0 (digits q)) cs ≡ k =
    ap (λ x. value_after x cs) (value_digits q) ∙ last_digits_value q (suc d) k ∙ div-add-mod' k (10 ^ suc d) in
    let after = after_digits (digits q) (46 ∷ cs) a in
    let before = before_digits (digits q) (46 ∷ cs) a ∙ append-nil (digits q) in
    with_point (digits q ++ (46 ∷ cs)) (digits q) cs after before t (last_digits-digits (suc d) k) (omega arith)
    ∙ ap₂ (λ x n. some (x, n)) v l

-- ---- a column

said_spaces : (n : ℕ) (bs : List ℕ) → said (replicate n 32 ++ bs) ≡ said bs
unfolding said
said_spaces zero bs = refl
said_spaces (suc n) bs = said_spaces n bs

pub said-column : (w : ℕ) (text : List ℕ) → said (right_justified w text) ≡ said text
unfolding right_justified
said-column w text = said_spaces (w - length text) text

pub said_none : said none_text ≡ some word
unfolding said none_text is_none
said_none = refl

not_none : (b : ℕ) (bs : List ℕ) → b ≢ 110 → is_none (b ∷ bs) ≡ false
unfolding is_none
not_none b [] h = refl
not_none b (c ∷ []) h = refl
not_none b (c ∷ d ∷ []) h = refl
not_none b (c ∷ d ∷ e ∷ []) h = rw (ne_eqb b 110 h)
not_none b (c ∷ d ∷ e ∷ f ∷ bs) h = refl

-- a text that begins with a digit is no word and has no minus
from_digit : (bs cs : List ℕ) → T (all_digits bs) → 0 < length bs
    → said (bs ++ cs) ≡ and_said said_number (decimal (bs ++ cs))
unfolding said signed_decimal
from_digit [] cs t l = absurd (omega arith)
from_digit (b ∷ bs) cs t l =
    let h = first_digit b bs t in
    rw (ne_eqb b 32 (omega arith), said)
    (rw (not_none b (bs ++ cs) (omega arith)) (rw (ne_eqb b 45 (omega arith), signed_decimal)))

-- a text after a minus
from_minus : (bs : List ℕ) → said (45 ∷ bs) ≡ and_said said_minus (decimal bs)
unfolding said signed_decimal
from_minus bs = rw (not_none 45 bs (omega arith))

said-pointed : (d k : ℕ) → said (pointed d k) ≡ some (number (pos k) d)
unfolding pointed said_number and_said
said-pointed zero k =
    let all = proper_all (digits k) (digits_proper k) in
    (rw (append-nil (digits k)) at (from_digit (digits k) [] all (digits_some k)))
    ∙ ap (and_said said_number) (pointed-said 0 k)
said-pointed (suc d) k =
    let q = k / 10 ^ suc d in
    from_digit (digits q) (46 ∷ last_digits (suc d) k) (proper_all (digits q) (digits_proper q)) (digits_some q)
    ∙ ap (and_said said_number) (pointed-said (suc d) k)

-- v/10^d with d decimals says v/10^d
pub said-fixed : (d : ℕ) (v : ℤ) → said (fixed d v) ≡ some (number v d)
unfolding fixed said_minus below_zero and_said
said-fixed d (pos k) = said-pointed d k
said-fixed d (negsuc k) = from_minus (pointed d (suc k)) ∙ ap (and_said said_minus) (pointed-said d (suc k))

-- digits say their number
pub said-digits : (k : ℕ) → said (digits k) ≡ some (number (pos k) 0)
unfolding pointed
said-digits k = said-pointed 0 k

-- what has a minus says a number below 0: "a zero has no minus"
minus_below : (v : ℤ) (d : ℕ) (r : Option (ℕ × ℕ)) → and_said said_minus r ≡ some (number v d) → v <ℤ pos 0
unfolding and_said said_minus below_zero
minus_below v d none e = let z : ◌≡◌ {A = ℕ} 0 1 = cc in absurd (omega arith)
minus_below v d (some (zero, b)) e = let z : ◌≡◌ {A = ℕ} 0 1 = cc in absurd (omega arith)
minus_below v d (some (suc k, b)) e = let f : negsuc k ≡ v = cc in rw (← f) (lt_z_yes tt)

pub minus-said : MinusSaid
minus-said k bs v d e = minus_below v d (decimal bs) (sym (said_spaces k (45 ∷ bs) ∙ from_minus bs) ∙ e)

-- ---- the length of a text

pub digits-length-64 : (k : ℕ) → k < 2 ^ 64 → length (digits k) ≤ 20
digits-length-64 k h = digits-length 20 k (omega arith) (omega arith)

-- at most 2^63 before the point is at most 19 digits
pointed-length : (d k : ℕ) → k ≤ 10 ^ d * 2 ^ 63 → length (pointed d k) ≤ 20 + d
unfolding pointed
pointed-length zero k h = let l = digits-length 19 k (omega arith) (omega arith) in omega arith
pointed-length (suc d) k h =
    let q = k / 10 ^ suc d in
    let b : q ≤ 2 ^ 63 = div-le_of_le-mul (10 ^ suc d) h in
    let l = digits-length 19 q (omega arith) (omega arith) in
    rw (length-append, last_digits-length (suc d) k) (omega arith)

pub fixed-length : (d : ℕ) (v : ℤ) → nat_abs v ≤ 10 ^ d * 2 ^ 63 → length (fixed d v) ≤ 21 + d
unfolding fixed
fixed-length d (pos k) h = let l = pointed-length d k h in omega arith
fixed-length d (negsuc k) h = let l = pointed-length d (suc k) h in omega arith
