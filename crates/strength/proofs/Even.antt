-- The last bit of a rounded number's encoding is 0 where the digits that `round` kept are even.
use mathlib.Core.Path.{◌≡◌, sym, ap, ◌∙◌, subst}
use mathlib.Core.Bool.{Bool, true, false, cond}
use Prim.Native.Nat.{ℕ, suc, ◌+◌, ◌-◌, ◌*◌, ◌/◌, ◌%◌, ◌^◌, ◌≤◌, ◌<◌, compare}
use native.Mathlib.Nat.{le_trans, le_of_eq, le_antisymm, mul_assoc, mul_right_comm, mul-le-mul_right, mul-div_cancel}
use native.Mathlib.Nat.{div-div-eq-div-mul}
use native.Mathlib.Decide.{dec_lt}
use native.Mathlib.Omega.{arith}
use lib.Pow.{pow-add, pow-lt, shl-shr}
use lib.Ieee.{Float, nan, inf, fin, binary64, low, up, down, size, to_bits, hid, top}
use lib.Ieee.Digits.{size-le, size_reaches, back}
use lib.Ieee.Fits.{nearest-le, kept-lt, down_pos}
use lib.Ieee.Exact.{HasValue}
use lib.Ieee.Order.{drop, kept}

pub kept_le : (p n den : ℕ) → kept p n den ≤ 2 ^ p
kept_le p n den =
    let k = drop p n den in
    let u = den * 2 ^ k in
    le_trans (nearest-le (n / u) (compare (n % u * 2) u))
    (subst (λ (x : ℕ). x < 2 ^ p) (div-div-eq-div-mul n den (2 ^ k)) (kept-lt p (n / den)))

even_times : (c z : ℕ) → c % 2 ≡ 0 → (c * z) % 2 ≡ 0
even_times c z e =
    let h : c ≡ c / 2 * 2 = omega arith in
    let g : c * z ≡ c / 2 * z * 2 = ap (λ x. x * z) h ∙ mul_right_comm (c / 2) 2 z in
    omega arith

-- c * 2 ^ k cut to its p + 2 leading digits, where c has at most p + 2, or is 2 ^ (p + 2)
module _ (p c k : ℕ) (small : c ≤ 2 ^ (p + 2)) (even : c % 2 ≡ 0) where
  abbrev cut : ℕ
  cut = size (c * 2 ^ k) - (p + 2)

  whole : cut ≤ k → c * 2 ^ k / 2 ^ cut ≡ c * 2 ^ (k - cut)
  whole h =
      ap (λ z. c * 2 ^ z / 2 ^ cut) (sym (back k cut h))
      ∙ ap (λ z. c * z / 2 ^ cut) (pow-add 2 (k - cut) cut)
      ∙ ap (λ z. z / 2 ^ cut) (sym (mul_assoc c (2 ^ (k - cut)) (2 ^ cut)))
      ∙ shl-shr (c * 2 ^ (k - cut)) cut

  highest : k < cut → c * 2 ^ k ≡ 2 ^ (p + 2 + k)
  highest h =
      le_antisymm (le_trans (mul-le-mul_right (2 ^ k) small) (le_of_eq (sym (pow-add 2 (p + 2) k))))
      (size_reaches (c * 2 ^ k) (p + 2 + k) (omega arith))

  one_more : k < cut → cut ≡ suc k
  one_more h =
      let s : size (c * 2 ^ k) ≤ suc (p + 2 + k) =
      size-le (c * 2 ^ k) (suc (p + 2 + k))
      (subst (λ z. z < 2 ^ suc (p + 2 + k)) (sym (highest h)) (pow-lt (omega arith))) in
      omega arith

  halves : (z : ℕ) → (2 ^ suc z) % 2 ≡ 0
  halves z = let e : 2 ^ suc z ≡ 2 ^ z * 2 = ap (λ x. 2 ^ x) (omega arith) ∙ pow-add 2 z 1 in omega arith

  upper : k < cut → c * 2 ^ k / 2 ^ cut ≡ 2 ^ suc p
  upper h =
      ap (λ z. z / 2 ^ cut) (highest h)
      ∙ ap (λ z. 2 ^ (p + 2 + k) / 2 ^ z) (one_more h)
      ∙ ap (λ z. 2 ^ z / 2 ^ suc k) (omega arith)
      ∙ ap (λ z. z / 2 ^ suc k) (pow-add 2 (suc p) (suc k))
      ∙ shl-shr (2 ^ suc p) (suc k)

  even_cut : (c * 2 ^ k / 2 ^ cut) % 2 ≡ 0
  even_cut = elim (dec_lt k cut) [
    | yes h ↦ ap (λ z. z % 2) (upper h) ∙ halves p
    | no h ↦ ap (λ z. z % 2) (whole (omega arith))
        ∙ even_times c (2 ^ (k - cut)) even
  ]

sum_even : (s : Bool) (k v : ℕ) → v % 2 ≡ 0 → (cond s (top binary64) 0 + k * hid binary64 + v) % 2 ≡ 0
sum_even true k v h = omega arith
sum_even false k v h = omega arith

pub even_bits : (x : Float) (s : Bool) (c k : ℕ) → c ≤ 2 ^ 53 → c % 2 ≡ 0
    → HasValue x s (c * 2 ^ k) (2 ^ low binary64) → to_bits binary64 x % 2 ≡ 0
unfolding to_bits
even_bits nan s c k small even v = absurd v
even_bits (inf t) s c k small even v = absurd v
even_bits (fin t m e) s c k small even v =
    let n : m * up e * 2 ^ low binary64 / down e ≡ c * 2 ^ k =
    ap (λ z. z / down e) v.1 ∙ mul-div_cancel (c * 2 ^ k) (down_pos e) in
    sum_even t (size (m * up e * 2 ^ low binary64 / down e) - 53) _
    (ap (λ z. (z / 2 ^ (size z - 53)) % 2) n ∙ even_cut 51 c k small even)
