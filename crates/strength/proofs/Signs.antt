-- A rounded fraction is above 0 exactly where the fraction is, if that is not tiny: else 0, or 2 ^ -64, would be
-- nearer.
use mathlib.Core.Path.{◌≡◌, refl, sym, ap, ap₂, ◌∙◌, subst}
use mathlib.Core.Bool.{Bool, true, false}
use mathlib.Core.List.{[], ◌∷◌}
use Prim.Native.Nat.{ℕ, zero, suc, ◌+◌, ◌-◌, ◌*◌, ◌^◌, ◌≤◌, ◌<◌}
use native.Mathlib.Nat.{zero-lt-suc, mul-pos}
use native.Mathlib.Omega.{arith}
use lib.Dec.{ltb, lt→ltb}
use lib.IntN.{ℤ, pos, negsuc, neg_ℤ, nat_abs, ◌-ℤ◌, ◌*ℤ◌}
use lib.Ieee.{Float, nan, inf, fin, up, down, fits}
use lib.Ieee.Bits.{is_true}
use lib.Ieee.Fits.{up_pos, down_pos}
use lib.Ieee.Positive.{positive}
use lib.Signed.{clash_ℤ, lt_z_yes}
use Rattle.integer.specs.Fraction.{Frac, ◌over◌, ◌≤ᶠ◌, ◌<ᶠ◌, Positive}
use Rattle.integer.proofs.Ring.{ringℕ, terms}
use Rattle.integer.proofs.Order.{≤ℤ_pos}
use Rattle.integer.proofs.Linear.{linear, facts}
use Rattle.strength.specs.Rounded.{zeroᶠ, signed, Number, Rounded}
use Rattle.strength.proofs.Rounding.{signed_*ℤ, gap, gap_is}
use Rattle.strength.proofs.Fractions.{by_parts}

zero_number : Number (fin false 0 (pos 0))
unfolding fits
zero_number = record { held = tt; is_finite = tt }

-- 2 ^ -64
tiny_number : Number (fin false 1 (negsuc 63))
unfolding fits
tiny_number = record { held = tt; is_finite = tt }

away : (s : Bool) (a d : ℕ) (t : Bool) (n e : ℕ)
    → nat_abs (signed s a *ℤ pos d -ℤ signed t n *ℤ pos e) ≡ gap s (a * d) t (n * e)
away s a d t n e = ap nat_abs (ap₂ ◌-ℤ◌ (sym (signed_*ℤ s a d)) (sym (signed_*ℤ t n e))) ∙ gap_is s (a * d) t (n * e)

no_room : (x n d e : ℕ) → 0 < x → 0 < d → (x * d + n * e) * (1 * d) ≤ (0 * 1 * d + n * 1) * (e * d) → ⊥
no_room x n d e X D h =
    let l : (x * d + n * e) * (1 * d) ≡ x * d * d + n * e * d =
    ringℕ (x ∷ n ∷ d ∷ e ∷ []) (search terms depth 100) refl in
    let r : (0 * 1 * d + n * 1) * (e * d) ≡ n * e * d = ringℕ (n ∷ d ∷ e ∷ []) (search terms depth 100) refl in
    let p : 0 < x * d * d = mul-pos (mul-pos X D) D in
    omega arith

not_above : (x : Float) (n d : ℕ) → 0 < d → Rounded x (neg_ℤ (pos n) over pos d) → positive x ≡ false
not_above nan n d D r = refl
not_above (inf s) n d D r = refl
not_above (fin true m e) n d D r = refl
not_above (fin false zero e) n d D r = refl
not_above (fin false (suc m) e) n d D r =
    let h = ≤ℤ_pos ((r.nearest (fin false 0 (pos 0)) zero_number).cross-≤) in
    let g = subst (λ z. z * (1 * d) ≤ nat_abs (pos (0 * 1) *ℤ pos d -ℤ neg_ℤ (pos n) *ℤ pos 1) * (down e * d))
    (away false (suc m * up e) d true n (down e)) h in
    let k = subst (λ z. (suc m * up e * d + n * down e) * (1 * d) ≤ z * (down e * d)) (away false (0 * 1) d true n 1)
    g in
    absurd (no_room (suc m * up e) n d (down e) (mul-pos (zero-lt-suc m) (up_pos e)) D k)

too_far : (a n d e w : ℕ) → 0 < d → 0 < e → d ≤ n * w → (a + n * e) * (w * d) ≤ (n * w - d) * (e * d) → ⊥
too_far a n d e w D E le h =
    let m = n * w - d in
    let s : n * w ≡ m + d = omega arith in
    let l : (a + n * e) * (w * d) ≡ a * (w * d) + n * w * (e * d) =
    ringℕ (a ∷ n ∷ e ∷ w ∷ d ∷ []) (search terms depth 100) refl in
    let r : n * w * (e * d) ≡ m * (e * d) + d * (e * d) =
    ap (λ z. z * (e * d)) s ∙ ringℕ (m ∷ d ∷ e ∷ []) (search terms depth 100) refl in
    let p : 0 < d * (e * d) = mul-pos D (mul-pos E D) in
    clash (a * (w * d)) (n * w * (e * d)) (m * (e * d)) (d * (e * d)) ((a + n * e) * (w * d)) l r p h
  where
    clash : (x y z u v : ℕ) → v ≡ x + y → y ≡ z + u → 0 < u → v ≤ z → ⊥
    clash x y z u v p q r h = omega arith

-- below 0, or 0 itself, is further off than 2 ^ -64
module _ (n d : ℕ) (D : 0 < d) (le : d ≤ n * 2 ^ 64) where
  tiny_away : nat_abs (pos (1 * 1) *ℤ pos d -ℤ pos n *ℤ pos (2 ^ 64)) ≡ n * 2 ^ 64 - d
  tiny_away = away false (1 * 1) d false n (2 ^ 64) ∙ closer d (n * 2 ^ 64) le
    where
      closer : (x y : ℕ) → x ≤ y → (1 * x - y) + (y - 1 * x) ≡ y - x
      closer x y h = omega arith

  further : (s : Bool) (m : ℕ) (e : ℤ) (a : ℕ)
      → nat_abs (signed s (m * up e) *ℤ pos d -ℤ pos n *ℤ pos (down e)) ≡ a + n * down e
      → Rounded (fin s m e) (pos n over pos d) → ⊥
  further s m e a v r =
      let h = ≤ℤ_pos ((r.nearest (fin false 1 (negsuc 63)) tiny_number).cross-≤) in
      let g = subst (λ z. z * (2 ^ 64 * d) ≤ nat_abs (pos (1 * 1) *ℤ pos d -ℤ pos n *ℤ pos (2 ^ 64)) * (down e * d)) v
      h in
      let k = subst (λ z. (a + n * down e) * (2 ^ 64 * d) ≤ z * (down e * d)) tiny_away g in
      too_far a n d (down e) (2 ^ 64) D (down_pos e) le k

  is_above : (x : Float) → Rounded x (pos n over pos d) → positive x ≡ true
  is_above nan r = absurd r.number.is_finite
  is_above (inf s) r = absurd r.number.is_finite
  is_above (fin true m e) r = absurd (further true m e (m * up e * d) (away true (m * up e) d false n (down e)) r)
  is_above (fin false zero e) r =
      absurd (further false zero e 0 (away false (zero * up e) d false n (down e) ∙ nothing (up e) (n * down e)) r)
    where
      nothing : (u y : ℕ) → (0 * u * d - y) + (y - 0 * u * d) ≡ 0 + y
      nothing u y = let z : 0 * u * d ≡ 0 = ringℕ (u ∷ d ∷ []) (search terms depth 100) refl in omega arith
  is_above (fin false (suc m) e) r = is_true (ltb 0 (suc m)) (lt→ltb 0 (suc m) (zero-lt-suc m))

-- ---- of any fraction with a denominator above 0

not_above_0 : (z d : ℤ) → z over d ≤ᶠ zeroᶠ → z ≡ neg_ℤ (pos (nat_abs z))
not_above_0 (pos zero) d h = refl
not_above_0 (pos (suc n)) d h =
    clash_ℤ (lt_z_yes {a = pos 0} {b = pos (suc n)} (lt→ltb 0 (suc n) (zero-lt-suc n)))
    (linear (h.cross-≤) (search facts depth 40) (omega arith))
not_above_0 (negsuc n) d h = refl

above_0 : (z d : ℤ) → zeroᶠ <ᶠ z over d → z ≡ pos (nat_abs z)
above_0 (pos n) d h = refl
above_0 (negsuc n) d h = absurd (linear (h.cross-<) (search facts depth 40) (omega arith))

module _ {x : Float} {q : Frac} (Q : Positive q) (r : Rounded x q) where
  pub rounded_not_above : q ≤ᶠ zeroᶠ → positive x ≡ false
  rounded_not_above =
      by_parts (λ q. Rounded x q → q ≤ᶠ zeroᶠ → positive x ≡ false)
      (λ N d D r h. not_above x (nat_abs N) d D (subst (λ z. Rounded x (z over pos d)) (not_above_0 N (pos d) h) r))
      q Q r

  pub rounded_above : zeroᶠ <ᶠ q → nat_abs q.den ≤ nat_abs q.num * 2 ^ 64 → positive x ≡ true
  rounded_above =
      by_parts (λ q. Rounded x q → zeroᶠ <ᶠ q → nat_abs q.den ≤ nat_abs q.num * 2 ^ 64 → positive x ≡ true)
      (λ N d D r h l. is_above (nat_abs N) d D l x (subst (λ z. Rounded x (z over pos d)) (above_0 N (pos d) h) r))
      q Q r
