-- Each operation on finite numbers rounds its exact result (`RoundOf`). What is rounded is exact where the format holds
-- it, and else the nearest number, unless it overflows.
use mathlib.Core.Path.{◌≡◌, refl, sym, ap, ap₂, ◌∙◌, subst}
use mathlib.Core.Logic.{◌≢◌}
use mathlib.Core.Bool.{Bool, true, false, not, ◌&&◌, cond}
use mathlib.Core.List.{[], ◌∷◌}
use Prim.Native.Nat.{ℕ, zero, suc, ◌+◌, ◌-◌, ◌*◌, ◌/◌, ◌^◌, ◌≤◌, ◌<◌}
use native.Mathlib.Nat.{le_trans, le_of_eq, lt_of_le_of_lt, lt_of_lt_of_le, mul_assoc, mul_comm, mul_right_comm}
use native.Mathlib.Nat.{mul-pos, zero-mul, one-mul, mul-le-mul_right, le_of_mul-le-mul_right, eq_of_mul-eq-mul_right}
use native.Mathlib.Nat.{div-le_of_le-mul}
use native.Mathlib.Omega.{arith}
use lib.Dec.{T, ltb, eqb, ltb→lt, nltb→le, eqb→eq, not_T}
use lib.IntN.{ℤ, pos, negsuc, neg_ℤ, nat_abs, ◌+ℤ◌, ◌-ℤ◌, ◌*ℤ◌, neg_ℤ-neg_ℤ}
use lib.Pow.{pow-add, pow_mono, pow-lt, shl_lt}
use lib.Ieee.{Float, nan, inf, fin, binary64, low, emax, up, down, size, round, units, odd, neg, sum, add, sub, mul}
use lib.Ieee.{div, unlike}
use lib.Ieee.Bits.{cond_no}
use lib.Ieee.Digits.{back, size-le}
use lib.Ieee.Fits.{down_pos, up_pos, round_is}
use lib.Ieee.Exact.{HasValue, round_exact, units_val}
use lib.Ieee.Order.{drop, kept}
use lib.Ieee.Scale.{finite, grid, overflow}
use Rattle.integer.specs.Fraction.{Frac, ◌over◌, ◌≈ᶠ◌, Positive}
use Rattle.integer.proofs.Ring.{ring, ring_from, terms}
use Rattle.integer.proofs.RingLaws.{nat_abs_*ℤ}
use Rattle.integer.proofs.FractionLaws.{≈ᶠ_trans}
use Rattle.strength.specs.Next.{◌⊖◌, ◌⊗◌, ◌⊘◌}
use Rattle.strength.specs.Rounded.{◌-ᶠ◌, ◌*ᶠ◌, ◌/ᶠ◌, sign, signed, value_of, Exactly, Rounded}
use Rattle.strength.proofs.Even.{kept_le}
use Rattle.strength.proofs.Rounding.{nat_abs_signed, signed_*ℤ, rounded}
use Rattle.strength.proofs.Fractions.{over_pos, by_parts, value_positive, -ᶠ_positive, *ᶠ_positive}
use Rattle.strength.proofs.Fractions.{/ᶠ_positive, -ᶠ_cong, *ᶠ_cong, /ᶠ_cong}

-- x is the fraction q, handed to `round`
pub record RoundOf (x : Float) (q : Frac) : Type 0 where
  pub s : Bool
  pub num : ℕ
  pub den : ℕ
  pub den_pos : 0 < den
  pub is : x ≡ round binary64 s num den
  pub same : signed s num over pos den ≈ᶠ q

pub round_of_equal : {x : Float} {p q : Frac} → Positive p → Positive q → p ≈ᶠ q → RoundOf x p → RoundOf x q
round_of_equal P Q e r =
    record {
      s = r.s;
      num = r.num;
      den = r.den;
      den_pos = r.den_pos;
      is = r.is;
      same = ≈ᶠ_trans (over_pos (signed r.s r.num) r.den_pos) P Q r.same e;
    }

-- ---- sums

less : (a b : ℕ) → b ≤ a → pos (a - b) ≡ pos a -ℤ pos b
less a b h =
    let e : a ≡ b + (a - b) = omega arith in
    ring_from (negsuc 0) (ap pos e) (ring (pos a ∷ pos b ∷ pos (a - b) ∷ []) (search terms depth 100) refl)

-- a sum is a rounding of its exact value
record SumIs (s : Bool) (a : ℕ) (t : Bool) (b c : ℕ) : Type 0 where
  pub u : Bool
  pub n : ℕ
  pub is : sum binary64 s a t b c ≡ round binary64 u n c
  pub same : signed u n ≡ signed s a +ℤ signed t b

sum_is : (s : Bool) (a : ℕ) (t : Bool) (b c : ℕ) → SumIs s a t b c
unfolding sum
sum_is false a false b c = record { u = false; n = a + b; is = refl; same = refl }
sum_is true a true b c =
    record { u = true; n = a + b; is = refl; same = ring (pos a ∷ pos b ∷ []) (search terms depth 100) refl }
sum_is false a true b c = go (ltb a b) refl (ltb→lt a b) (nltb→le a b)
  where
    go : (x : Bool) → ltb a b ≡ x → (T x → a < b) → (T (not x) → b ≤ a) → SumIs false a true b c
    go true e h k =
        record {
          u = true;
          n = b - a;
          is = ap (λ x. cond x (round binary64 true (b - a) c) (round binary64 false (a - b) c)) e;
          same = let l : a ≤ b = omega (arith, h tt) in
              ap neg_ℤ (less b a l) ∙ ring (pos a ∷ pos b ∷ []) (search terms depth 100) refl;
        }
    go false e h k =
        record {
          u = false;
          n = a - b;
          is = ap (λ x. cond x (round binary64 true (b - a) c) (round binary64 false (a - b) c)) e;
          same = less a b (k tt);
        }
sum_is true a false b c = go (ltb a b) (ltb b a) refl refl (ltb→lt a b) (nltb→le a b) (nltb→le b a)
  where
    choice : Bool → Bool → Float
    choice x y = cond x (round binary64 false (b - a) c) (round binary64 (true && y) (a - b) c)

    go : (x y : Bool) → ltb a b ≡ x → ltb b a ≡ y → (T x → a < b) → (T (not x) → b ≤ a) → (T (not y) → a ≤ b)
        → SumIs true a false b c
    go true y e f h k m =
        record {
          u = false;
          n = b - a;
          is = ap (λ x. choice x (ltb b a)) e;
          same = let l : a ≤ b = omega (arith, h tt) in
              less b a l ∙ ring (pos a ∷ pos b ∷ []) (search terms depth 100) refl;
        }
    go false true e f h k m =
        record {
          u = true;
          n = a - b;
          is = ap₂ choice e f;
          same = ap neg_ℤ (less a b (k tt)) ∙ ring (pos a ∷ pos b ∷ []) (search terms depth 100) refl;
        }
    go false false e f h k m =
        record {
          u = false;
          n = a - b;
          is = ap₂ choice e f;
          same = ap pos (both (k tt) (m tt)) ∙ less b a (m tt)
              ∙ ring (pos a ∷ pos b ∷ []) (search terms depth 100) refl;
        }
      where
        both : b ≤ a → a ≤ b → a - b ≡ b - a
        both x y = omega arith

-- ---- the operations

signed_not : (t : Bool) (n : ℕ) → signed (not t) n ≡ neg_ℤ (signed t n)
signed_not false n = refl
signed_not true n = sym (neg_ℤ-neg_ℤ (pos n))

signed_unlike : (s t : Bool) (a b : ℕ) → signed (unlike s t) (a * b) ≡ signed s a *ℤ signed t b
signed_unlike false false a b = refl
signed_unlike false true a b = ring (pos a ∷ pos b ∷ []) (search terms depth 100) refl
signed_unlike true false a b = ring (pos a ∷ pos b ∷ []) (search terms depth 100) refl
signed_unlike true true a b = ring (pos a ∷ pos b ∷ []) (search terms depth 100) refl

-- sign z · |z| = z, at a signed size
sign_size : (t : Bool) (k : ℕ) → sign (signed t k) *ℤ pos k ≡ signed t k
sign_size false k = ring (pos k ∷ []) (search terms depth 100) refl
sign_size true zero = refl
sign_size true (suc k) = ap (λ z. neg_ℤ (pos z)) (one-mul (suc k))

pub ⊖_rounds : (x y : Float) → T (finite x) → T (finite y) → RoundOf (x ⊖ y) (value_of x -ᶠ value_of y)
unfolding sub add neg
⊖_rounds nan y f g = absurd f
⊖_rounds (inf s) y f g = absurd f
⊖_rounds (fin s m e) nan f g = absurd g
⊖_rounds (fin s m e) (inf t) f g = absurd g
⊖_rounds (fin s m e) (fin t n d) f g =
    let r = sum_is s (m * up e * down d) (not t) (n * up d * down e) (down e * down d) in
    let k = r.same ∙ ap₂ ◌+ℤ◌ (signed_*ℤ s (m * up e) (down d))
    (signed_not t (n * up d * down e) ∙ ap neg_ℤ (signed_*ℤ t (n * up d) (down e))) in
    record {
      s = r.u;
      num = r.n;
      den = down e * down d;
      den_pos = mul-pos (down_pos e) (down_pos d);
      is = r.is;
      same = record { cross-≡ = ap (λ z. z *ℤ pos (down e * down d)) k };
    }

pub ⊗_rounds : (x y : Float) → T (finite x) → T (finite y) → RoundOf (x ⊗ y) (value_of x *ᶠ value_of y)
unfolding mul
⊗_rounds nan y f g = absurd f
⊗_rounds (inf s) y f g = absurd f
⊗_rounds (fin s m e) nan f g = absurd g
⊗_rounds (fin s m e) (inf t) f g = absurd g
⊗_rounds (fin s m e) (fin t n d) f g =
    record {
      s = unlike s t;
      num = m * up e * (n * up d);
      den = down e * down d;
      den_pos = mul-pos (down_pos e) (down_pos d);
      is = refl;
      same = record { cross-≡ = ap (λ z. z *ℤ pos (down e * down d)) (signed_unlike s t (m * up e) (n * up d)) };
    }

pub ⊘_rounds : (x y : Float) → T (finite x) → T (finite y) → (value_of y).num ≢ pos 0
    → RoundOf (x ⊘ y) (value_of x /ᶠ value_of y)
unfolding div
⊘_rounds nan y f g nz = absurd f
⊘_rounds (inf s) y f g nz = absurd f
⊘_rounds (fin s m e) nan f g nz = absurd g
⊘_rounds (fin s m e) (inf t) f g nz = absurd g
⊘_rounds (fin s m e) (fin t zero d) f g nz = absurd (nz (ap (signed t) (zero-mul (up d)) ∙ none t))
  where
    none : (t : Bool) → signed t 0 ≡ pos 0
    none false = refl
    none true = refl
⊘_rounds (fin s m e) (fin t (suc n) d) f g nz =
    let X = signed s (m * up e) in
    let k = suc n * up d in
    let Y = signed t k in
    let W = m * up e * down d in
    let top : signed (unlike s t) W *ℤ pos k ≡ X *ℤ pos (down d) *ℤ Y =
    sym (signed_*ℤ (unlike s t) W k) ∙ signed_unlike s t W k ∙ ap (λ z. z *ℤ Y) (signed_*ℤ s (m * up e) (down d)) in
    record {
      s = unlike s t;
      num = W;
      den = k * down e;
      den_pos = mul-pos (mul-pos (omega arith) (up_pos d)) (down_pos e);
      is = cond_no (eqb (suc n) 0) _ _ (not_T (eqb (suc n) 0) (λ z. above (eqb→eq (suc n) 0 z)));
      same =
          record {
            cross-≡ =
                ap (λ z. signed (unlike s t) W *ℤ (pos (down e) *ℤ pos z)) (nat_abs_signed t k)
                ∙ ring_from (pos (down e)) top
                (ring_from (neg_ℤ (X *ℤ pos (down d) *ℤ pos (down e))) (sign_size t k)
                (ring (X ∷ Y ∷ signed (unlike s t) W ∷ sign Y ∷ pos k ∷ pos (down e) ∷ pos (down d) ∷ [])
                (search terms depth 100) refl));
          };
    }
  where
    above : suc n ≡ 0 → ⊥
    above h = omega arith

-- ---- a fraction that binary64 holds is not rounded

pub record Short (q : Frac) : Type 0 where
  pub z : ℤ
  pub t : ℕ
  pub digits : nat_abs z < 2 ^ 53
  pub places : t ≤ low binary64
  pub is : q ≈ᶠ z over pos (2 ^ t)

sizes : (s : Bool) (num den : ℕ) (N : ℤ) (d : ℕ) → signed s num *ℤ pos d ≡ N *ℤ pos den → num * d ≡ nat_abs N * den
sizes s num den N d e =
    ap (λ z. z * d) (sym (nat_abs_signed s num)) ∙ sym (nat_abs_*ℤ (signed s num) (pos d)) ∙ ap nat_abs e
    ∙ nat_abs_*ℤ N (pos den)

value_exactly : (x : Float) (s : Bool) (num den : ℕ) (q : Frac) → 0 < den → Positive q
    → signed s num over pos den ≈ᶠ q → HasValue x s num den → Exactly x q
value_exactly nan s num den q D Q same v = absurd v
value_exactly (inf t) s num den q D Q same v = absurd v
value_exactly (fin t m e) s num den q D Q same v =
    let h : signed t (m * up e) *ℤ pos den ≡ signed s num *ℤ pos (down e) =
    ap (λ z. signed z (m * up e) *ℤ pos den) v.0 ∙ sym (signed_*ℤ s (m * up e) den) ∙ ap (signed s) v.1
    ∙ signed_*ℤ s num (down e) in
    record {
      is_finite = tt;
      is_value = ≈ᶠ_trans (over_pos (signed t (m * up e)) (down_pos e)) (over_pos (signed s num) D) Q
          (record { cross-≡ = h }) same;
    }

fewer : (n t : ℕ) → n < 2 ^ 53 → t ≤ low binary64 → n * 2 ^ (low binary64 - t) < overflow binary64
fewer n t h k = lt_of_lt_of_le (shl_lt 53 (low binary64 - t) h)
    (pow_mono {i = 53 + (low binary64 - t)} {j = low binary64 + suc (emax binary64)} (omega arith))

exactly_over : {x : Float} (N : ℤ) {d : ℕ} → 0 < d → RoundOf x (N over pos d) → Short (N over pos d)
    → Exactly x (N over pos d)
exactly_over N {d} B r short =
    let t = short.t in
    let n = nat_abs short.z in
    let num = r.num in
    let den = r.den in
    let first : num * d ≡ nat_abs N * den = sizes r.s num den N d (r.same.cross-≡) in
    let second : nat_abs N * 2 ^ t ≡ n * d =
    sym (nat_abs_*ℤ N (pos (2 ^ t))) ∙ ap nat_abs (short.is.cross-≡) ∙ nat_abs_*ℤ short.z (pos d) in
    let both : num * 2 ^ t ≡ n * den =
    eq_of_mul-eq-mul_right d B (num * 2 ^ t) (n * den)
    (mul_right_comm num (2 ^ t) d ∙ ap (λ z. z * 2 ^ t) first ∙ mul_right_comm (nat_abs N) den (2 ^ t)
    ∙ ap (λ z. z * den) second ∙ mul_right_comm n d den) in
    let all : num * 2 ^ low binary64 ≡ n * 2 ^ (low binary64 - t) * den =
    ap (λ z. num * 2 ^ z) (sym (back (low binary64) t short.places))
    ∙ ap (λ z. num * z) (pow-add 2 (low binary64 - t) t ∙ mul_comm (2 ^ (low binary64 - t)) (2 ^ t))
    ∙ sym (mul_assoc num (2 ^ t) (2 ^ (low binary64 - t)))
    ∙ ap (λ z. z * 2 ^ (low binary64 - t)) both
    ∙ mul_right_comm n den (2 ^ (low binary64 - t)) in
    subst (λ z. Exactly z (N over pos d)) (sym r.is)
    (value_exactly (round binary64 r.s num den) r.s num den (N over pos d) r.den_pos (over_pos N B) r.same
    (round_exact binary64 r.s num den n (low binary64 - t) r.den_pos short.digits
    (fewer n t short.digits short.places) all))

-- ---- what did not overflow is rounded once

under : (s : Bool) (q k : ℕ) → T (finite (units binary64 s q k)) → q * 2 ^ k < overflow binary64
unfolding units
under s q k = go (ltb (q * 2 ^ k) (overflow binary64)) (ltb→lt (q * 2 ^ k) (overflow binary64))
  where
    go : (b : Bool) → (T b → q * 2 ^ k < overflow binary64)
        → T (finite (cond b (odd 54 s q k (low binary64)) (inf s))) → q * 2 ^ k < overflow binary64
    go true h t = h tt
    go false h t = absurd t

rounded_over : {x : Float} (N : ℤ) {d : ℕ} → 0 < d → RoundOf x (N over pos d) → T (finite x) → Rounded x (N over pos d)
rounded_over N {d} B r f =
    let n = r.num * 2 ^ low binary64 in
    subst (λ z. Rounded z (N over pos d)) (sym r.is)
    (rounded r.s r.num r.den N d r.den_pos B (r.same.cross-≡)
    (under r.s (kept 53 n r.den) (drop 53 n r.den)
    (subst (λ z. T (finite z)) (r.is ∙ round_is binary64 r.s r.num r.den) f)))

-- up to 2 ^ 64 in size nothing overflows
has_finite : (x : Float) (s : Bool) (a c : ℕ) → HasValue x s a c → T (finite x)
has_finite nan s a c v = absurd v
has_finite (inf t) s a c v = absurd v
has_finite (fin t m e) s a c v = tt

small_grid : (num den : ℕ) → 0 < den → num ≤ 2 ^ 64 * den → grid binary64 num den < overflow binary64
small_grid num den D h =
    let l = low binary64 in
    let n = num * 2 ^ l in
    let top : n ≤ 2 ^ (64 + l) * den =
    le_trans (mul-le-mul_right (2 ^ l) h)
    (le_of_eq (mul_right_comm (2 ^ 64) den (2 ^ l) ∙ ap (λ z. z * den) (sym (pow-add 2 64 l)))) in
    let s : size (n / den) ≤ 65 + l =
    size-le (n / den) (65 + l) (lt_of_le_of_lt (quotient top) (pow-lt {i = 64 + l} {j = 65 + l} (omega arith))) in
    let k : drop 53 n den ≤ 12 + l = dropped (size (n / den)) l s in
    lt_of_le_of_lt (mul-le-mul_right (2 ^ drop 53 n den) (kept_le 53 n den))
    (lt_of_le_of_lt (le_of_eq (sym (pow-add 2 53 (drop 53 n den))))
    (pow-lt {i = 53 + drop 53 n den} {j = l + suc (emax binary64)} (omega arith)))
  where
    quotient : {x : ℕ} → num * 2 ^ low binary64 ≤ x * den → num * 2 ^ low binary64 / den ≤ x
    quotient {x} g = div-le_of_le-mul den (le_trans g (le_of_eq (mul_comm x den)))

    dropped : (z l : ℕ) → z ≤ 65 + l → z - 53 ≤ 12 + l
    dropped z l g = omega arith

finite_over : {x : Float} (N : ℤ) {d : ℕ} → 0 < d → RoundOf x (N over pos d) → nat_abs N ≤ 2 ^ 64 * nat_abs (pos d)
    → T (finite x)
finite_over N {d} B r h =
    let num = r.num in
    let den = r.den in
    let n = num * 2 ^ low binary64 in
    let c = kept 53 n den in
    let k = drop 53 n den in
    let le : num ≤ 2 ^ 64 * den =
    le_of_mul-le-mul_right
    (le_trans (le_of_eq (sizes r.s num den N d (r.same.cross-≡)))
    (le_trans (mul-le-mul_right den h) (le_of_eq (mul_right_comm (2 ^ 64) d den)))) B in
    subst (λ z. T (finite z)) (sym (r.is ∙ round_is binary64 r.s num den))
    (has_finite (units binary64 r.s c k) r.s (c * 2 ^ k) (2 ^ low binary64)
    (units_val binary64 r.s c k (small_grid num den r.den_pos le)))

-- ---- the same of any fraction with a denominator above 0, and of operands whose values are known

module _ {x : Float} {q : Frac} (Q : Positive q) (r : RoundOf x q) where
  pub exactly_of : Short q → Exactly x q
  exactly_of = by_parts (λ q. RoundOf x q → Short q → Exactly x q) (λ N d B. exactly_over N B) q Q r

  pub rounded_of : T (finite x) → Rounded x q
  rounded_of = by_parts (λ q. RoundOf x q → T (finite x) → Rounded x q) (λ N d B. rounded_over N B) q Q r

  pub finite_of : nat_abs q.num ≤ 2 ^ 64 * nat_abs q.den → T (finite x)
  finite_of = by_parts (λ q. RoundOf x q → nat_abs q.num ≤ 2 ^ 64 * nat_abs q.den → T (finite x))
      (λ N d B. finite_over N B) q Q r

module _ {x y : Float} {p q : Frac} (P : Positive p) (Q : Positive q) (v : Exactly x p) (w : Exactly y q) where
  pub ⊖_exactly : Short (p -ᶠ q) → Exactly (x ⊖ y) (p -ᶠ q)
  ⊖_exactly =
      exactly_of (-ᶠ_positive P Q)
      (round_of_equal (-ᶠ_positive (value_positive x) (value_positive y)) (-ᶠ_positive P Q)
      (-ᶠ_cong v.is_value w.is_value)
      (⊖_rounds x y v.is_finite w.is_finite))

  pub ⊗_exactly : Short (p *ᶠ q) → Exactly (x ⊗ y) (p *ᶠ q)
  ⊗_exactly =
      exactly_of (*ᶠ_positive P Q)
      (round_of_equal (*ᶠ_positive (value_positive x) (value_positive y)) (*ᶠ_positive P Q)
      (*ᶠ_cong v.is_value w.is_value)
      (⊗_rounds x y v.is_finite w.is_finite))

  pub ⊘_round_of : (value_of y).num ≢ pos 0 → q.num ≢ pos 0 → RoundOf (x ⊘ y) (p /ᶠ q)
  ⊘_round_of m n =
      round_of_equal (/ᶠ_positive (value_of y) (value_positive x) m) (/ᶠ_positive q P n)
      (/ᶠ_cong v.is_value w.is_value)
      (⊘_rounds x y v.is_finite w.is_finite m)
