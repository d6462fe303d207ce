-- Long division: what was divided is always the quotient so far times the divisor, and the rest. At the end quotient
-- and rest are the only numbers that do this.
use mathlib.Core.Path.{◌≡◌, sym, ap, subst, ◌∙◌}
use mathlib.Core.Bool.{Bool, true, false}
use mathlib.Core.Logic.{◌⊎◌, inl, inr}
use Prim.Native.Nat.{ℕ, zero, suc, ◌+◌, ◌*◌, ◌-◌, ◌/◌, ◌%◌, ◌^◌, ◌≤◌, ◌<◌}
use native.Mathlib.Nat.{pow-suc, one-le-pow, pow-le-pow_right, mul-le-mul_left, div-add-mod', mod-lt}
use native.Mathlib.Nat.{mul-lt-mul_of_pos_right, lt_of_mul-lt-mul_right, div-lt_iff_lt-mul, div-le_self}
use native.Mathlib.Numerals.{add-one}
use native.Mathlib.Omega.{arith}
use lib.Dec.{T}
use lib.Arith.{digits_div, digits_mod}
use lib.IntN.{ℤ, pos, negsuc, neg_ℤ, nat_abs, ◌*ℤ◌}
use Rattle.integer.specs.Round.{floor_div, ceil_div}
use Rattle.integer.proofs.RingLaws.{nat_abs_neg_ℤ, nat_abs_*ℤ}
use Rattle.report.specs.Spelled.{round_to}

pub power_small : (d : ℕ) → d ≤ 7 → 10 ^ d ≤ 10000000
power_small d h = pow-le-pow_right {n = 10} (omega arith) h

-- ---- rounding makes no number larger

pub floor_small : (z : ℤ) (den : ℕ) → nat_abs (floor_div z den) ≤ nat_abs z
floor_small (pos n) den = div-le_self n den
floor_small (negsuc n) den = let l = div-le_self n den in omega arith

pub ceil_small : (z : ℤ) (den : ℕ) → nat_abs (ceil_div z den) ≤ nat_abs z
ceil_small z den =
    rw (nat_abs_neg_ℤ (floor_div (neg_ℤ z) den)) (rw (nat_abs_neg_ℤ z) at (floor_small (neg_ℤ z) den))

pub units_small : (num : ℤ) (d : ℕ) → nat_abs num ≤ 2 ^ 63 → nat_abs (num *ℤ pos (10 ^ d)) ≤ 10 ^ d * 2 ^ 63
units_small num d h =
    let m : 10 ^ d * nat_abs num ≤ 10 ^ d * 2 ^ 63 = mul-le-mul_left (10 ^ d) h in
    omega (arith, nat_abs_*ℤ num (pos (10 ^ d)))

-- ---- the next digit

-- the rest was added i times
pub record Adds (rest den i digit sum : ℕ) : Type 0 where
  pub few : digit ≤ i
  pub below : sum < den
  pub value : digit * den + sum ≡ i * rest

pub adds_none : (rest den : ℕ) → rest < den → Adds rest den 0 0 0
adds_none rest den h = record { few = omega arith; below = omega arith; value = omega arith }

module _ {rest den i digit sum : ℕ} (p : Adds rest den i digit sum) where
  pub adds_plain : sum + rest < den → Adds rest den (i + 1) digit (sum + rest)
  adds_plain l =
      let v : digit * den + (sum + rest) ≡ (i + 1) * rest = omega (arith, p.value) in
      record { few = omega (arith, p.few); below = l; value = v }

  pub adds_carry : rest < den → den ≤ sum + rest → Adds rest den (i + 1) (digit + 1) (sum + rest - den)
  adds_carry k l =
      let v : (digit + 1) * den + (sum + rest - den) ≡ (i + 1) * rest = omega (arith, p.value) in
      record { few = omega (arith, p.few); below = omega (arith, p.below); value = v }

-- ---- digit after digit

-- i digits of rest / den are there
pub record Divides (rest den i units left : ℕ) : Type 0 where
  pub below : left < den
  pub short : units < 10 ^ i
  pub value : units * den + left ≡ rest * 10 ^ i

pub divides_none : (rest den : ℕ) → rest < den → Divides rest den 0 0 rest
divides_none rest den h = record { below = h; short = omega arith; value = omega arith }

one_more : (i : ℕ) → 10 ^ (i + 1) ≡ 10 ^ i * 10
one_more i = rw (add-one, pow-suc)

pub digit_small : (left den : ℕ) → left < den → 10 * left / den < 10
digit_small left den h =
    let v = div-add-mod' (10 * left) den in
    lt_of_mul-lt-mul_right den (omega (arith, v))

pub divides_more : {rest den i units left digit next : ℕ} → Divides rest den i units left → digit ≡ 10 * left / den
    → next ≡ 10 * left % den → Divides rest den (i + 1) (10 * units + digit) next
divides_more {rest} {den} {i} {units} {left} p e f =
    let x = 10 * left / den in
    let y = 10 * left % den in
    let t : x * den + y ≡ 10 * left = div-add-mod' (10 * left) den in
    let s : x < 10 = digit_small left den p.below in
    let l : y < den = mod-lt (10 * left) (omega (arith, p.below)) in
    let v : (10 * units + x) * den + y ≡ rest * (10 ^ i * 10) = omega (arith, p.value) in
    let short : 10 * units + x < 10 ^ i * 10 = omega (arith, p.short) in
    rw (e, f)
    (record {
      below = l;
      short = rw (one_more i) short;
      value = v ∙ ap (λ n. rest * n) (sym (one_more i));
    })

-- quotient and rest are the only numbers with this sum
pub quotient_is : {n den : ℕ} (units left : ℕ) → units * den + left ≡ n → left < den → units ≡ n / den
quotient_is {n} {den} units left e l = sym (ap (λ x. x / den) (sym e) ∙ digits_div units l)

pub rest_is : {n den : ℕ} (units left : ℕ) → units * den + left ≡ n → left < den → left ≡ n % den
rest_is {n} {den} units left e l = sym (ap (λ x. x % den) (sym e) ∙ digits_mod units l)

-- ---- up to a whole number

ceil_exact : (n : ℕ) {den : ℕ} (u : ℕ) → u * den ≡ n → 0 < den → ceil_div (pos n) den ≡ pos u
ceil_exact zero {den} zero e h =
    let t : 0 * den + 0 ≡ 0 = omega arith in
    ap (λ x. neg_ℤ (pos x)) (sym (quotient_is 0 0 t h))
ceil_exact zero (suc v) e h = absurd (omega (arith, e))
ceil_exact (suc k) zero e h = absurd (omega (arith, e))
ceil_exact (suc k) {den} (suc v) e h =
    let t : v * den + (den - 1) ≡ k = omega (arith, e) in
    ap (λ x. pos (suc x)) (sym (quotient_is v (den - 1) t (omega arith)))

ceil_more : (n : ℕ) {den : ℕ} (u r : ℕ) → u * den + r ≡ n → 0 < r → r < den → ceil_div (pos n) den ≡ pos (u + 1)
ceil_more zero u r e s l = absurd (omega (arith, e))
ceil_more (suc k) {den} u r e s l =
    let t : u * den + (r - 1) ≡ k = omega (arith, e) in
    ap (λ x. pos (suc x)) (sym (quotient_is u (r - 1) t (omega arith))) ∙ ap pos (sym (add-one u))

module _ (m den d : ℕ) (some : 0 < den) {part left : ℕ} (e : part ≡ m % den * 10 ^ d / den)
    (f : left ≡ m % den * 10 ^ d % den) where
  abbrev units : ℕ
  units = m / den * 10 ^ d + part

  left_below : left < den
  left_below = rw f (mod-lt (m % den * 10 ^ d) some)

  pub part_short : part < 10 ^ d
  part_short =
      let p = one-le-pow d 10 (omega arith) in
      let l : m % den * 10 ^ d < 10 ^ d * den = omega (arith, mul-lt-mul_of_pos_right (mod-lt m some) p) in
      rw e ((div-lt_iff_lt-mul some).1 l)

  whole_sum : units * den + left ≡ m * 10 ^ d
  whole_sum =
      let p : part * den + left ≡ m % den * 10 ^ d = rw (e, f) (div-add-mod' (m % den * 10 ^ d) den) in
      let w : m / den * den + m % den ≡ m = div-add-mod' m den in
      let t : (m / den * den + m % den) * 10 ^ d ≡ m * 10 ^ d = ap (λ x. x * 10 ^ d) w in
      omega (arith, p, t)

  -- down, or up where nothing is left
  pub rounded_kept : (up : Bool) → (up ≡ false) ⊎ ((up ≡ true) × (left ≡ 0))
      → pos units ≡ round_to up (pos (m * 10 ^ d)) den
  rounded_kept false h = ap pos (quotient_is units left whole_sum left_below)
  rounded_kept true (inl h) = absurd (subst T h tt)
  rounded_kept true (inr h) =
      let t : units * den ≡ m * 10 ^ d = omega (arith, whole_sum, h.1) in
      sym (ceil_exact (m * 10 ^ d) units t some)

  pub rounded_more : (up : Bool) {n : ℕ} → up ≡ true → (left ≡ 0 → ⊥) → n ≡ units + 1
      → pos n ≡ round_to up (pos (m * 10 ^ d)) den
  rounded_more false u z k = absurd (subst T (sym u) tt)
  rounded_more true u z k =
      ap pos k ∙ sym (ceil_more (m * 10 ^ d) units left whole_sum (omega (arith, z)) left_below)
