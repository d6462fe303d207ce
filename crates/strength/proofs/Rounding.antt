-- `round` rounds once, to nearest and at a tie to even: what `Rounded` asks, for any fraction and either sign, below
-- overflow.
use mathlib.Core.Path.{◌≡◌, refl, sym, ap, ap₂, ◌∙◌, subst}
use mathlib.Core.Logic.{◌⊎◌, inl, inr}
use mathlib.Core.Bool.{Bool, true, false, ◌&&◌}
use mathlib.Core.List.{[], ◌∷◌}
use Prim.Native.Nat.{ℕ, zero, suc, ◌+◌, ◌-◌, ◌*◌, ◌%◌, ◌^◌, ◌≤◌, ◌<◌}
use native.Mathlib.Nat.{le_trans, le_of_eq, mul_assoc, mul-one, zero-mul, mul-pos, mul-le-mul_right}
use native.Mathlib.Nat.{le_of_mul-le-mul_right, eq_of_mul-eq-mul_right}
use native.Mathlib.Decide.{dec_lt, dec_le}
use native.Mathlib.Omega.{arith}
use lib.Dec.{T, leb, ltb, eqb, leb→le, ltb→lt, lt→ltb}
use lib.Signed.{◌≤ℤ◌, lt_z_yes}
use lib.IntN.{ℤ, pos, negsuc, neg_ℤ, nat_abs, ◌-ℤ◌, ◌*ℤ◌}
use lib.Pow.{pow-add, pow_pos, pow-lt}
use lib.Ieee.{Float, nan, inf, fin, binary64, low, up, down, fits, round, to_bits}
use lib.Ieee.Digits.{back}
use lib.Ieee.Fits.{and_l, and_r, down_pos, round-fits, round_is}
use lib.Ieee.Exact.{HasValue, units_val}
use lib.Ieee.Order.{drop, kept}
use lib.Ieee.Scale.{grid, overflow}
use Rattle.integer.proofs.Ring.{ring, ring_from, ringℕ, terms}
use Rattle.integer.proofs.RingLaws.{nat_abs_neg_ℤ, nat_abs_*ℤ, pos_injective}
use Rattle.integer.proofs.Order.{pos_≤ℤ, *ℤ_cancel}
use Rattle.integer.specs.Fraction.{Frac, ◌over◌, ◌≤ᶠ◌, ◌≈ᶠ◌}
use Rattle.strength.specs.Rounded.{signed, value_of, distance, Number, Rounded}
use Rattle.strength.proofs.Nearest.{apart, Nearest, nearest_of}
use Rattle.strength.proofs.Even.{kept_le, even_bits}

abbrev L : ℕ
L = 2 ^ low binary64

-- ---- a number of the format is m * 2 ^ j units, m of at most 53 digits
record Units (m : ℕ) (e : ℤ) : Type 0 where
  pub j : ℕ
  pub digits : m < 2 ^ 53
  pub is : m * up e * L ≡ m * 2 ^ j * down e

below_pow : (a b : ℕ) → 2 ^ a ≤ 2 ^ b → a ≤ b
below_pow a b h = elim (dec_lt b a) [ yes l ↦ absurd (clash (pow-lt l) h) | no l ↦ omega arith ]
  where
    clash : 2 ^ b < 2 ^ a → 2 ^ a ≤ 2 ^ b → ⊥
    clash x y = omega arith

units_at : (m : ℕ) (e : ℤ) → m < 2 ^ 53 → down e ≤ L → Units m e
units_at m (pos k) small h =
    record {
      j = k + low binary64;
      digits = small;
      is =
          mul_assoc m (2 ^ k) L ∙ ap (λ z. m * z) (sym (pow-add 2 k (low binary64)))
          ∙ sym (mul-one (m * 2 ^ (k + low binary64)));
    }
units_at m (negsuc k) small h =
    let g : suc k ≤ low binary64 = below_pow (suc k) (low binary64) h in
    record {
      j = low binary64 - suc k;
      digits = small;
      is = ap (λ z. z * L) (mul-one m) ∙ ap (λ z. m * 2 ^ z) (sym (back (low binary64) (suc k) g))
          ∙ ap (λ z. m * z) (pow-add 2 (low binary64 - suc k) (suc k))
          ∙ sym (mul_assoc m (2 ^ (low binary64 - suc k)) (2 ^ suc k));
    }

units_of : (t : Bool) (m : ℕ) (e : ℤ) → T (fits binary64 (fin t m e)) → Units m e
unfolding fits
units_of t zero e h = record { j = 0; digits = pow_pos 53; is = simp zero-mul }
units_of t (suc m) e h =
    let a = eqb (suc m % 2) 1 in
    let b = ltb (suc m) (2 ^ 53) in
    let c = leb (down e) L in
    let abc = and_l ((a && b) && c) (ltb (suc m * up e) (2 ^ 1024 * down e)) h in
    units_at (suc m) e (ltb→lt (suc m) (2 ^ 53) (and_r a b (and_l (a && b) c abc)))
    (leb→le (down e) L (and_r (a && b) c abc))

-- ---- signs
pub nat_abs_signed : (s : Bool) (n : ℕ) → nat_abs (signed s n) ≡ n
nat_abs_signed false n = refl
nat_abs_signed true n = nat_abs_neg_ℤ (pos n)

pub signed_*ℤ : (s : Bool) (a b : ℕ) → signed s (a * b) ≡ signed s a *ℤ pos b
signed_*ℤ false a b = refl
signed_*ℤ true a b = ring (pos a ∷ pos b ∷ []) (search terms depth 100) refl

-- the difference of two numbers of one sign, and of two signs, in size
nat_abs_diff : (a b : ℕ) → nat_abs (pos a -ℤ pos b) ≡ apart a b
nat_abs_diff a b = elim (dec_le b a) [ yes h ↦ up_to h | no h ↦ down_to (omega arith) ]
  where
    up_to : b ≤ a → nat_abs (pos a -ℤ pos b) ≡ apart a b
    up_to h = let e : a ≡ b + (a - b) = omega arith in
        let g : pos a -ℤ pos b ≡ pos (a - b) =
        ring_from (pos 1) (ap pos e) (ring (pos a ∷ pos b ∷ pos (a - b) ∷ []) (search terms depth 100) refl) in
        ap nat_abs g ∙ omega arith

    down_to : a < b → nat_abs (pos a -ℤ pos b) ≡ apart a b
    down_to h = let e : b ≡ a + (b - a) = omega arith in
        let g : pos a -ℤ pos b ≡ neg_ℤ (pos (b - a)) =
        ring_from (negsuc 0) (ap pos e) (ring (pos a ∷ pos b ∷ pos (b - a) ∷ []) (search terms depth 100) refl) in
        ap nat_abs g ∙ nat_abs_neg_ℤ (pos (b - a)) ∙ omega arith

-- how far apart two signed numbers are
abbrev pub gap : Bool → ℕ → Bool → ℕ → ℕ
gap false a false b = apart a b
gap true a true b = apart a b
gap false a true b = a + b
gap true a false b = a + b

pub gap_is : (s : Bool) (a : ℕ) (t : Bool) (b : ℕ) → nat_abs (signed s a -ℤ signed t b) ≡ gap s a t b
gap_is false a false b = nat_abs_diff a b
gap_is true a true b =
    let e : neg_ℤ (pos a) -ℤ neg_ℤ (pos b) ≡ neg_ℤ (pos a -ℤ pos b) =
    ring (pos a ∷ pos b ∷ []) (search terms depth 100) refl in
    ap nat_abs e ∙ nat_abs_neg_ℤ (pos a -ℤ pos b) ∙ nat_abs_diff a b
gap_is false a true b =
    let e : pos a -ℤ neg_ℤ (pos b) ≡ pos (a + b) = ring (pos a ∷ pos b ∷ []) (search terms depth 100) refl in
    ap nat_abs e
gap_is true a false b =
    let e : neg_ℤ (pos a) -ℤ pos b ≡ neg_ℤ (pos (a + b)) = ring (pos a ∷ pos b ∷ []) (search terms depth 100) refl in
    ap nat_abs e ∙ nat_abs_neg_ℤ (pos (a + b))

-- ---- a rounded number against another, in units
-- y units with the sign t are no nearer to ±n / den than x units with the sign s; and where they are as near, they are
-- x units, or e holds
record Nearer (s : Bool) (n den x : ℕ) (e : Type 0) (t : Bool) (y : ℕ) : Type 0 where
  pub nearest : gap s (x * den) s n ≤ gap t (y * den) s n
  pub tie : gap t (y * den) s n ≡ gap s (x * den) s n → (signed t y ≡ signed s x) ⊎ e

zero_of : (y den n a : ℕ) → 0 < den → y * den + n ≡ a → a ≤ n → y ≡ 0
zero_of y den n a D e h = eq_of_mul-eq-mul_right den D y 0 (small ∙ sym (zero-mul den))
  where
    small : y * den ≡ 0
    small = omega arith

from_zero : (den n : ℕ) → apart (0 * den) n ≡ n
from_zero den n = let z = zero-mul den in omega arith

squeezed : (y den n a : ℕ) → y * den + n ≡ a → a ≤ n → n ≡ a
squeezed y den n a e h = omega arith

module _ (n den m j : ℕ) (D : 0 < den) (small : m < 2 ^ 53) where
  abbrev x : ℕ
  x = kept 53 n den * 2 ^ drop 53 n den

  abbrev E : Type 0
  E = kept 53 n den % 2 ≡ 0

  origin : Nearest 53 n den (0 * 2 ^ 0)
  origin = nearest_of 53 n den (omega arith) D 0 0 (pow_pos 53)

  there : Nearest 53 n den (m * 2 ^ j)
  there = nearest_of 53 n den (omega arith) D m j small

  at_origin : apart (x * den) n ≤ n
  at_origin = let h : apart (x * den) n ≤ apart (0 * den) n = origin.nearest in let z = zero-mul den in omega arith

  other_sign : (s t : Bool) → ((a : ℕ) → a ≡ 0 → signed t a ≡ signed s 0) → m * 2 ^ j * den + n ≡ apart (x * den) n
      → (signed t (m * 2 ^ j) ≡ signed s x) ⊎ E
  other_sign s t zeros h =
      let y : m * 2 ^ j ≡ 0 = zero_of (m * 2 ^ j) den n (apart (x * den) n) D h at_origin in
      let same : apart (0 * den) n ≡ apart (x * den) n =
      from_zero den n ∙ squeezed (m * 2 ^ j) den n (apart (x * den) n) h at_origin in
      elim (origin.tie same) [ inl e ↦ inl (zeros (m * 2 ^ j) y ∙ ap (signed s) e) | inr e ↦ inr e ]

  nearer : (s t : Bool) → Nearer s n den x E t (m * 2 ^ j)
  nearer false false = record {
    nearest = there.nearest;
    tie =
        λ h. elim (there.tie h) [ inl e ↦ inl (ap (signed false) e) | inr e ↦ inr e ];
  }
  nearer true true = record {
    nearest = there.nearest;
    tie =
        λ h. elim (there.tie h) [ inl e ↦ inl (ap (signed true) e) | inr e ↦ inr e ];
  }
  nearer false true = let h = at_origin in
      record { nearest = omega arith; tie = other_sign false true (λ a e. ap (signed true) e) }
  nearer true false = let h = at_origin in
      record { nearest = omega arith; tie = other_sign true false (λ a e. ap (signed false) e) }

-- ---- back to fractions
-- with X / dx equal to ±x units, and the fraction N / d equal to ±num / den, the distance of the two is dx · d times
-- the gap, over 2 ^ 1074 · den
scaled : (X dx z N d A den l : ℤ) → X *ℤ l ≡ z *ℤ dx → A *ℤ d ≡ N *ℤ den
    → (X *ℤ d -ℤ N *ℤ dx) *ℤ (l *ℤ den) ≡ (dx *ℤ d) *ℤ (z *ℤ den -ℤ A *ℤ l)
scaled X dx z N d A den l e f =
    ring_from (d *ℤ den) e
    (ring_from (dx *ℤ l) f (ring (X ∷ dx ∷ z ∷ N ∷ d ∷ A ∷ den ∷ l ∷ []) (search terms depth 100) refl))

-- two fractions over one denominator's worth: what holds of g and h holds of a / (dx · d) and b / (dy · d)
module _ (a b dx dy d M g h : ℕ) (p : a * M ≡ dx * d * g) (q : b * M ≡ dy * d * h) where
  left : a * (dy * d) * M ≡ g * (dx * d * (dy * d))
  left = mid ∙ ap (λ z. z * (dy * d)) p ∙ last
    where
      mid : a * (dy * d) * M ≡ a * M * (dy * d)
      mid = ringℕ (a ∷ dy ∷ d ∷ M ∷ []) (search terms depth 100) refl

      last : dx * d * g * (dy * d) ≡ g * (dx * d * (dy * d))
      last = ringℕ (dx ∷ dy ∷ d ∷ g ∷ []) (search terms depth 100) refl

  right : b * (dx * d) * M ≡ h * (dx * d * (dy * d))
  right = mid ∙ ap (λ z. z * (dx * d)) q ∙ last
    where
      mid : b * (dx * d) * M ≡ b * M * (dx * d)
      mid = ringℕ (b ∷ dx ∷ d ∷ M ∷ []) (search terms depth 100) refl

      last : dy * d * h * (dx * d) ≡ h * (dx * d * (dy * d))
      last = ringℕ (dx ∷ dy ∷ d ∷ h ∷ []) (search terms depth 100) refl

  cross_le : 0 < M → g ≤ h → a * (dy * d) ≤ b * (dx * d)
  cross_le P k = le_of_mul-le-mul_right
      (le_trans (le_of_eq left) (le_trans (mul-le-mul_right (dx * d * (dy * d)) k) (le_of_eq (sym right)))) P

  cross_eq : 0 < dx * d * (dy * d) → b * (dx * d) ≡ a * (dy * d) → h ≡ g
  cross_eq P k = eq_of_mul-eq-mul_right (dx * d * (dy * d)) P h g (sym right ∙ ap (λ z. z * M) k ∙ left)

module _ (s : Bool) (num den : ℕ) (N : ℤ) (d : ℕ) (D : 0 < den) (B : 0 < d)
    (same : signed s num *ℤ pos d ≡ N *ℤ pos den) where
  -- how far X / dx is from N / d, in size over dx · d
  off : ℤ → ℕ → ℕ
  off X dx = nat_abs (X *ℤ pos d -ℤ N *ℤ pos dx)

  off_is : (t : Bool) (a dx y l : ℕ) → a * l ≡ y * dx
      → off (signed t a) dx * (l * den) ≡ dx * d * gap t (y * den) s (num * l)
  unfolding off
  off_is t a dx y l e =
      let f : signed t a *ℤ pos l ≡ signed t y *ℤ pos dx = sym (signed_*ℤ t a l) ∙ ap (signed t) e ∙ signed_*ℤ t y dx in
      let g = scaled (signed t a) (pos dx) (signed t y) N (pos d) (signed s num) (pos den) (pos l) f same in
      sym (nat_abs_*ℤ (signed t a *ℤ pos d -ℤ N *ℤ pos dx) (pos (l * den)))
      ∙ ap nat_abs g
      ∙ nat_abs_*ℤ (pos (dx * d)) (signed t y *ℤ pos den -ℤ signed s num *ℤ pos l)
      ∙ ap (λ z. dx * d * nat_abs z) (ap₂ ◌-ℤ◌ (sym (signed_*ℤ t y den)) (sym (signed_*ℤ s num l)))
      ∙ ap (λ z. dx * d * z) (gap_is t (y * den) s (num * l))

  same_values : (t : Bool) (a dx y : ℕ) (u : Bool) (b dy z l : ℕ) → 0 < l → a * l ≡ y * dx → b * l ≡ z * dy
      → signed u z ≡ signed t y → signed u b *ℤ pos dx ≡ signed t a *ℤ pos dy
  same_values t a dx y u b dy z l P e f h =
      let e' : signed t a *ℤ pos l ≡ signed t y *ℤ pos dx =
      sym (signed_*ℤ t a l) ∙ ap (signed t) e ∙ signed_*ℤ t y dx in
      let f' : signed u b *ℤ pos l ≡ signed u z *ℤ pos dy =
      sym (signed_*ℤ u b l) ∙ ap (signed u) f ∙ signed_*ℤ u z dy in
      *ℤ_cancel {c = pos l} (lt_z_yes (lt→ltb 0 l P))
      (ring_from (pos dx) f'
      (ring_from (neg_ℤ (pos dy)) e'
      (ring_from (pos dx *ℤ pos dy) h
      (ring (signed t a ∷ signed u b ∷ signed t y ∷ signed u z ∷ pos dx ∷ pos dy ∷ pos l ∷ [])
      (search terms depth 100) refl))))

  abbrev q : Frac
  q = N over pos d

  abbrev n : ℕ
  n = num * L

  abbrev c : ℕ
  c = kept 53 n den

  abbrev units_x : ℕ
  units_x = c * 2 ^ drop 53 n den

  -- against one other number
  module _ (m : ℕ) (e : ℤ) (v : m * up e * L ≡ units_x * down e) (t : Bool) (m' : ℕ) (e' : ℤ) (w : Units m' e') where
    r : Nearer s n den units_x (c % 2 ≡ 0) t (m' * 2 ^ w.j)
    r = nearer n den m' w.j D w.digits s t

    near : off (signed s (m * up e)) (down e) * (down e' * d) ≤ off (signed t (m' * up e')) (down e') * (down e * d)
    near =
        cross_le (off (signed s (m * up e)) (down e)) (off (signed t (m' * up e')) (down e')) (down e) (down e') d
        (L * den) (gap s (units_x * den) s n) (gap t (m' * 2 ^ w.j * den) s n)
        (off_is s (m * up e) (down e) units_x L v) (off_is t (m' * up e') (down e') (m' * 2 ^ w.j) L w.is)
        (mul-pos (pow_pos (low binary64)) D) r.nearest

    tied : off (signed t (m' * up e')) (down e') * (down e * d) ≡ off (signed s (m * up e)) (down e) * (down e' * d)
        → (signed t (m' * up e') *ℤ pos (down e) ≡ signed s (m * up e) *ℤ pos (down e')) ⊎ (c % 2 ≡ 0)
    tied h =
        let g = cross_eq (off (signed s (m * up e)) (down e)) (off (signed t (m' * up e')) (down e')) (down e)
        (down e') d (L * den) (gap s (units_x * den) s n) (gap t (m' * 2 ^ w.j * den) s n)
        (off_is s (m * up e) (down e) units_x L v) (off_is t (m' * up e') (down e') (m' * 2 ^ w.j) L w.is)
        (mul-pos (mul-pos (down_pos e) B) (mul-pos (down_pos e') B)) h in
        elim (r.tie g) [
          | inl a ↦
              inl (same_values s (m * up e) (down e) units_x t (m' * up e') (down e') (m' * 2 ^ w.j) L
              (pow_pos (low binary64)) v w.is a)
          | inr a ↦ inr a
        ]

  rounded_value : (x : Float) → T (fits binary64 x) → HasValue x s units_x L → Rounded x q
  unfolding off
  rounded_value nan h v = absurd v
  rounded_value (inf t) h v = absurd v
  rounded_value (fin t m e) h v =
      record { number = record { held = h; is_finite = tt }; nearest = nearest'; tie = tie' }
    where
      sign_is : t ≡ s
      sign_is = v.0

      nearest' : (y : Float) → Number y → distance (value_of (fin t m e)) q ≤ᶠ distance (value_of y) q
      nearest' nan k = absurd k.is_finite
      nearest' (inf u) k = absurd k.is_finite
      nearest' (fin u m' e') k =
          record {
            cross-≤ = subst (λ z. (pos (off (signed z (m * up e)) (down e)) *ℤ (pos (down e') *ℤ pos d)) ≤ℤ
                (pos (off (signed u (m' * up e')) (down e')) *ℤ (pos (down e) *ℤ pos d))) (sym sign_is)
                (pos_≤ℤ (near m e v.1 u m' e' (units_of u m' e' k.held)));
          }

      tie' : (y : Float) → Number y → distance (value_of y) q ≈ᶠ distance (value_of (fin t m e)) q
          → (value_of y ≈ᶠ value_of (fin t m e)) ⊎ (to_bits binary64 (fin t m e) % 2 ≡ 0)
      tie' nan k h = absurd k.is_finite
      tie' (inf u) k h = absurd k.is_finite
      tie' (fin u m' e') k h =
          let w = units_of u m' e' k.held in
          let g : off (signed u (m' * up e')) (down e') * (down e * d) ≡ off (signed s (m * up e))
          (down e) * (down e' * d) =
          pos_injective (h.cross-≡ ∙ ap (λ z. pos (off (signed z (m * up e)) (down e)) *ℤ (pos (down e') *ℤ pos d))
          sign_is) in
          elim (tied m e v.1 u m' e' w g) [
            | inl a ↦ inl (record { cross-≡ = a ∙ ap (λ z. signed z (m * up e) *ℤ pos (down e')) (sym sign_is) })
            | inr a ↦ inr (even_bits (fin t m e) s c (drop 53 n den) (kept_le 53 n den) a v)
          ]

  pub rounded : grid binary64 num den < overflow binary64 → Rounded (round binary64 s num den) q
  rounded h =
      rounded_value (round binary64 s num den) (round-fits binary64 s num den)
      (subst (λ z. HasValue z s units_x L) (sym (round_is binary64 s num den))
      (units_val binary64 s c (drop 53 n den) h))
