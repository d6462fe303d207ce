-- `round` gives the nearest value of the format, and at a tie one whose kept digits are even; on natural numbers, in
-- units of the format's smallest value.
use mathlib.Core.Path.{◌≡◌, sym, ap, ◌∙◌, subst}
use mathlib.Core.Logic.{◌⊎◌, inl, inr}
use Prim.Native.Nat.{ℕ, zero, suc, ◌+◌, ◌-◌, ◌*◌, ◌/◌, ◌%◌, ◌^◌, ◌≤◌, ◌<◌, compare, Ordering}
use native.Mathlib.Nat.{le_of_lt, le_trans, le_of_eq, lt_of_lt_of_le, lt_of_le_of_lt, eq-or-lt_of_le, mul_comm}
use native.Mathlib.Nat.{mul_assoc, mul-le-mul_right, mul-lt-mul_of_pos_right, mul-pos, div-add-mod', mod-lt, suc-mul}
use native.Mathlib.Nat.{le-div_iff_mul-le}
use native.Mathlib.Decide.{dec_lt}
use native.Mathlib.Omega.{arith}
use mathlib.Core.Bool.{not}
use lib.Dec.{T, is_le, compare_is_eq, eqb, leb→le, nleb→lt, eqb→eq, eqb_refl}
use lib.Arith.{lt_of_le-ne}
use lib.Pow.{pow-add, pow_pos, pow_mono, shl_lt}
use lib.Ieee.{size, nearest}
use lib.Ieee.Digits.{size_reaches, back}
use lib.Ieee.Nearest.{closest}
use lib.Ieee.Order.{drop, kept}

abbrev pub apart : ℕ → ℕ → ℕ
apart a b = (a - b) + (b - a)

-- ---- what `compare` says
abbrev Cmp : Ordering → ℕ → ℕ → Type 0
Cmp Ordering.lt a b = a < b
Cmp Ordering.eq a b = a ≡ b
Cmp Ordering.gt a b = b < a

cmp : (a b : ℕ) → Cmp (compare a b) a b
cmp a b = go (compare a b) (leb→le a b) (nleb→lt a b) (eqb→eq a b)
    (λ (e : a ≡ b). subst (λ (x : ℕ). T (eqb a x)) e (eqb_refl a))
  where
    go : (o : Ordering) → (T (is_le o) → a ≤ b) → (T (not (is_le o)) → b < a) → (T (compare_is_eq o) → a ≡ b)
        → (a ≡ b → T (compare_is_eq o)) → Cmp o a b
    go Ordering.lt h k e n = lt_of_le-ne (h tt) n
    go Ordering.eq h k e n = e tt
    go Ordering.gt h k e n = k tt

-- ---- n / u to the nearest whole number, against any whole number w
record Best (n u c w : ℕ) : Type 0 where
  pub nearest : apart (c * u) n ≤ apart (w * u) n
  pub tie : apart (w * u) n ≡ apart (c * u) n → (w ≡ c) ⊎ (c % 2 ≡ 0)

-- w is q, is q + 1, or is further off, in multiples of u
data Where (q w u : ℕ) : Type 0 where
  under : w * u + u ≤ q * u → Where q w u
  same : w ≡ q → Where q w u
  next : w ≡ suc q → Where q w u
  beyond : q * u + u + u ≤ w * u → Where q w u

place : (q w u : ℕ) → Where q w u
place q w u = elim (dec_lt w q)
    [ yes h ↦ under (le_trans (le_of_eq (sym (suc-mul w u))) (mul-le-mul_right u h)) | no h ↦ from (omega arith) ]
  where
    above : suc q < w → q * u + u + u ≤ w * u
    above h = le_trans (le_of_eq (ap (λ z. z + u) (sym (suc-mul q u)) ∙ sym (suc-mul (suc q) u))) (mul-le-mul_right u h)

    rest : suc q ≤ w → Where q w u
    rest h = elim (eq-or-lt_of_le h) [ inl e ↦ next (sym e) | inr l ↦ beyond (above l) ]

    from : q ≤ w → Where q w u
    from h = elim (eq-or-lt_of_le h) [ inl e ↦ same (sym e) | inr l ↦ rest l ]

-- the parts of a fraction n / u: q, with r left over
module _ (n u q r : ℕ) (n_is : q * u + r ≡ n) (r_less : r < u) where
  to_q : (w : ℕ) → w ≡ q → w * u ≡ q * u
  to_q w e = ap (λ z. z * u) e

  to_next : (w : ℕ) → w ≡ suc q → w * u ≡ q * u + u
  to_next w e = ap (λ z. z * u) e ∙ suc-mul q u

  -- less than half is left: q is nearest
  low_best : r * 2 < u → (w : ℕ) → Where q w u → Best n u q w
  low_best h w (under k) = record { nearest = omega arith; tie = λ t. absurd (omega arith) }
  low_best h w (same k) = let e = to_q w k in record { nearest = omega arith; tie = λ _. inl k }
  low_best h w (next k) = let e = to_next w k in record { nearest = omega arith; tie = λ t. absurd (omega arith) }
  low_best h w (beyond k) = record { nearest = omega arith; tie = λ t. absurd (omega arith) }

  -- more than half: q + 1 is
  high_best : u < r * 2 → (w : ℕ) → Where q w u → Best n u (suc q) w
  high_best h w (under k) = let s = suc-mul q u in record { nearest = omega arith; tie = λ t. absurd (omega arith) }
  high_best h w (same k) = let e = to_q w k in let s = suc-mul q u in
      record { nearest = omega arith; tie = λ t. absurd (omega arith) }
  high_best h w (next k) = let e = to_next w k in let s = suc-mul q u in
      record { nearest = omega arith; tie = λ _. inl k }
  high_best h w (beyond k) = let s = suc-mul q u in record { nearest = omega arith; tie = λ t. absurd (omega arith) }

  -- a half: both are, and the even one is taken
  half : (w : ℕ) → Where q w u → r * 2 ≡ u → r ≤ apart (w * u) n
  half w (under k) h = omega arith
  half w (same k) h = let e = to_q w k in omega arith
  half w (next k) h = let e = to_next w k in omega arith
  half w (beyond k) h = omega arith

  even_sum : (q + q % 2) % 2 ≡ 0
  even_sum = omega arith

  tie_at : r * 2 ≡ u → (b : ℕ) → b < 2 → apart ((q + b) * u) n ≡ r
  tie_at h zero l = let e = to_q (q + 0) (omega arith) in omega arith
  tie_at h (suc zero) l = let e = to_next (q + 1) (omega arith) in omega arith
  tie_at h (suc (suc b)) l = absurd (omega arith)

  tie_best : r * 2 ≡ u → (w : ℕ) → Where q w u → Best n u (q + q % 2) w
  tie_best h w k = record {
    nearest = le_trans (le_of_eq (tie_at h (q % 2) (omega arith))) (half w k h);
    tie = λ _. inr even_sum;
  }

  best_by : (o : Ordering) → Cmp o (r * 2) u → (w : ℕ) → Best n u (nearest q o) w
  best_by Ordering.lt h w = low_best h w (place q w u)
  best_by Ordering.eq h w = tie_best h w (place q w u)
  best_by Ordering.gt h w = high_best h w (place q w u)

best : (n u : ℕ) → 0 < u → (w : ℕ) → Best n u (closest n u) w
best n u U w = best_by n u (n / u) (n % u) (div-add-mod' n u) (mod-lt n U) (compare (n % u * 2) u) (cmp (n % u * 2) u) w

-- ---- against any number of the format: m * 2 ^ j units, m of at most p digits
pub record Nearest (p n den y : ℕ) : Type 0 where
  pub nearest : apart (kept p n den * 2 ^ drop p n den * den) n ≤ apart (y * den) n
  pub tie : apart (y * den) n ≡ apart (kept p n den * 2 ^ drop p n den * den) n
      → (y ≡ kept p n den * 2 ^ drop p n den) ⊎ (kept p n den % 2 ≡ 0)

strictly : (x b y n : ℕ) → apart x n ≤ apart b n → y < b → b ≤ n → apart x n < apart y n
strictly x b y n h k l = omega arith

not_equal : (a b : ℕ) → a < b → b ≡ a → ⊥
not_equal a b h e = omega arith

strict_nearest : (p n den y : ℕ) → apart (kept p n den * 2 ^ drop p n den * den) n < apart (y * den) n
    → Nearest p n den y
strict_nearest p n den y h = record { nearest = le_of_lt h; tie = λ t. absurd (not_equal _ _ h t) }

module _ (p n den : ℕ) (P : 0 < p) (D : 0 < den) where
  abbrev k : ℕ
  k = drop p n den

  abbrev c : ℕ
  c = kept p n den

  abbrev u : ℕ
  u = den * 2 ^ k

  grouped : (w : ℕ) → w * 2 ^ k * den ≡ w * u
  grouped w = mul_assoc w (2 ^ k) den ∙ ap (λ z. w * z) (mul_comm (2 ^ k) den)

  -- a multiple of the unit
  at_unit : (w y : ℕ) → y ≡ w * 2 ^ k → Nearest p n den y
  at_unit w y e =
      let b = best n u (mul-pos D (pow_pos k)) w in
      let f : y * den ≡ w * u = ap (λ z. z * den) e ∙ grouped w in
      record {
        nearest = rw (grouped c, f) b.nearest;
        tie = λ h. elim (b.tie (rw (grouped c, f) at h)) [ inl a ↦ inl (e ∙ ap (λ z. z * 2 ^ k) a) | inr a ↦ inr a ];
      }

  -- a smaller one lies below 2 ^ (p - 1) units, which is below the fraction
  finer : (m j : ℕ) → m < 2 ^ p → j < k → Nearest p n den (m * 2 ^ j)
  finer m j small l =
      let b = best n u (mul-pos D (pow_pos k)) (2 ^ (p - 1)) in
      let under : m * 2 ^ j < 2 ^ (p - 1) * 2 ^ k =
      lt_of_lt_of_le (shl_lt p j small) (le_trans (pow_mono (room l)) (le_of_eq (pow-add 2 (p - 1) k))) in
      let reached : 2 ^ (p - 1) * 2 ^ k ≤ n / den =
      le_trans (le_of_eq (sym (pow-add 2 (p - 1) k))) (size_reaches (n / den) (p - 1 + k) (used l)) in
      let y_under : m * 2 ^ j * den < 2 ^ (p - 1) * u =
      lt_of_lt_of_le (mul-lt-mul_of_pos_right under D) (le_of_eq (grouped (2 ^ (p - 1)))) in
      let b_under : 2 ^ (p - 1) * u ≤ n =
      le_trans (le_of_eq (sym (grouped (2 ^ (p - 1))))) ((le-div_iff_mul-le D).0 reached) in
      let near : apart (c * u) n ≤ apart (2 ^ (p - 1) * u) n = b.nearest in
      let further : apart (c * 2 ^ k * den) n < apart (m * 2 ^ j * den) n =
      lt_of_le_of_lt (le_of_eq (ap (λ z. apart z n) (grouped c)))
      (strictly (c * u) (2 ^ (p - 1) * u) (m * 2 ^ j * den) n near y_under b_under) in
      strict_nearest p n den (m * 2 ^ j) further
    where
      room : j < k → p + j ≤ p - 1 + k
      room h = omega arith

      used : j < k → p - 1 + k < size (n / den)
      used h = omega arith

  pub nearest_of : (m j : ℕ) → m < 2 ^ p → Nearest p n den (m * 2 ^ j)
  nearest_of m j small =
      elim (dec_lt j k) [
        | yes l ↦ finer m j small l
        | no l ↦ at_unit (m * 2 ^ (j - k)) (m * 2 ^ j)
            (split (omega arith))
      ]
    where
      split : k ≤ j → m * 2 ^ j ≡ m * 2 ^ (j - k) * 2 ^ k
      split h = ap (λ z. m * 2 ^ z) (sym (back j k h)) ∙ ap (λ z. m * z) (pow-add 2 (j - k) k)
          ∙ sym (mul_assoc m (2 ^ (j - k)) (2 ^ k))
