-- The laws of ℤ as a commutative ring that `lib.IntN` does not have: products regroup, distribute over sums and carry
-- signs; ℤ has no divisors of zero.
-- Any other identity of sums, differences, products and signs is one line of the solver in `Ring.antt`.
-- Example (`example_signs`, checked after `*ℤ_neg_ℤ`): two signs cancel in a product, (-a)·(-b) = a·b, once each stands
-- in front of it:
--     simp (*ℤ-negℤ, negℤ-*ℤ, neg_ℤ-neg_ℤ)
use mathlib.Core.Path.{◌≡◌, refl, sym, ◌∙◌, ap, ap₂}
use Prim.Native.Nat.{ℕ, zero, suc, ◌+◌, ◌*◌, ◌-◌, ◌≤◌, ◌<◌}
use native.Mathlib.Omega.{arith}
use mathlib.Core.Bool.{Bool, true, false, cond}
use mathlib.Core.Logic.{◌⊎◌, inl, inr}
use lib.Dec.{T, ltb, ltb→lt, leb-suc-zero}
use lib.IntN.{ℤ, pos, negsuc, ◌+ℤ◌, ◌-ℤ◌, ◌*ℤ◌, neg_ℤ, suc_ℤ, pred_ℤ, nat_abs, sub_ℕ, +ℤ_assoc, +ℤ_comm, +ℤ_idl}
use lib.IntN.{+ℤ_idr, +ℤ_invl, neg_ℤ-+ℤ, neg_ℤ-neg_ℤ, neg_ℤ-suc_ℤ, neg_ℤ-pred_ℤ, *ℤ_comm, zero-*ℤ, suc_ℤ-*ℤ}
use lib.IntN.{pred_ℤ-*ℤ, suc_ℤ-+ℤ, pred_ℤ-+ℤ}

-- induction up and down from 0
pub ℤ_steps {ℓ} : (P : ℤ → Type ℓ) → P (pos 0) → ((k : ℤ) → P k → P (suc_ℤ k)) → ((k : ℤ) → P k → P (pred_ℤ k))
    → (k : ℤ) → P k
ℤ_steps P z s p (pos zero) = z
ℤ_steps P z s p (pos (suc n)) = s (pos n) (ℤ_steps P z s p (pos n))
ℤ_steps P z s p (negsuc zero) = p (pos zero) z
ℤ_steps P z s p (negsuc (suc n)) = p (negsuc n) (ℤ_steps P z s p (negsuc n))

-- ---- sums

pub +ℤ-left_comm : (a b c : ℤ) → a +ℤ (b +ℤ c) ≡ b +ℤ (a +ℤ c)
+ℤ-left_comm a b c = sym (+ℤ_assoc a b c) ∙ ap (λ x. x +ℤ c) (+ℤ_comm a b) ∙ +ℤ_assoc b a c

pub +ℤ_swap : (a b c d : ℤ) → (a +ℤ b) +ℤ (c +ℤ d) ≡ (a +ℤ c) +ℤ (b +ℤ d)
+ℤ_swap a b c d = +ℤ_assoc a b (c +ℤ d) ∙ ap (λ x. a +ℤ x) (+ℤ-left_comm b c d) ∙ sym (+ℤ_assoc a c (b +ℤ d))

-- two numbers whose difference is 0 are equal
pub eq_of_diff : (a b : ℤ) → a -ℤ b ≡ pos 0 → a ≡ b
eq_of_diff a b e = sym (+ℤ_idr a) ∙ ap (λ x. a +ℤ x) (sym (+ℤ_invl b)) ∙ sym (+ℤ_assoc a (neg_ℤ b) b)
    ∙ ap (λ x. x +ℤ b) e ∙ +ℤ_idl b

-- the difference of two natural numbers, as `◌+ℤ◌` computes it
pub subℕ_is : (m n : ℕ) → sub_ℕ m n ≡ pos m -ℤ pos n
subℕ_is m zero = rw (leb-suc-zero m) (ap pos (omega arith))
subℕ_is m (suc n) = refl

-- ---- products

pub one_*ℤ : (a : ℤ) → pos 1 *ℤ a ≡ a
one_*ℤ a = suc_ℤ-*ℤ (pos 0) a ∙ ap (λ x. x +ℤ a) (zero-*ℤ a) ∙ +ℤ_idl a

pub +ℤ-*ℤ : (a b c : ℤ) → (a +ℤ b) *ℤ c ≡ a *ℤ c +ℤ b *ℤ c
+ℤ-*ℤ a b c =
    ℤ_steps (λ a. (a +ℤ b) *ℤ c ≡ a *ℤ c +ℤ b *ℤ c)
    (simp (+ℤ_idl, zero-*ℤ))
    (λ k h. simp (suc_ℤ-+ℤ, suc_ℤ-*ℤ) (rw h (simp (+ℤ_assoc, +ℤ_comm, +ℤ-left_comm))))
    (λ k h. simp (pred_ℤ-+ℤ, pred_ℤ-*ℤ) (rw h (simp (+ℤ_assoc, +ℤ_comm, +ℤ-left_comm))))
    a

pub *ℤ-+ℤ : (a b c : ℤ) → a *ℤ (b +ℤ c) ≡ a *ℤ b +ℤ a *ℤ c
*ℤ-+ℤ a b c = *ℤ_comm a (b +ℤ c) ∙ +ℤ-*ℤ b c a ∙ ap₂ ◌+ℤ◌ (*ℤ_comm b a) (*ℤ_comm c a)

-- a sign of a factor is a sign of the product
pub neg_ℤ_*ℤ : (a b : ℤ) → neg_ℤ a *ℤ b ≡ neg_ℤ (a *ℤ b)
neg_ℤ_*ℤ a b =
    ℤ_steps (λ a. neg_ℤ a *ℤ b ≡ neg_ℤ (a *ℤ b))
    (simp zero-*ℤ)
    (λ k h. simp (neg_ℤ-suc_ℤ, pred_ℤ-*ℤ, suc_ℤ-*ℤ, h, neg_ℤ-+ℤ))
    (λ k h. simp (neg_ℤ-pred_ℤ, pred_ℤ-*ℤ, suc_ℤ-*ℤ, h, neg_ℤ-+ℤ, neg_ℤ-neg_ℤ))
    a

pub *ℤ_neg_ℤ : (a b : ℤ) → a *ℤ neg_ℤ b ≡ neg_ℤ (a *ℤ b)
*ℤ_neg_ℤ a b = *ℤ_comm a (neg_ℤ b) ∙ neg_ℤ_*ℤ b a ∙ ap neg_ℤ (*ℤ_comm b a)

-- example: two signs cancel
example_signs : (a b : ℤ) → neg_ℤ a *ℤ neg_ℤ b ≡ a *ℤ b
example_signs a b = simp (*ℤ_neg_ℤ, neg_ℤ_*ℤ, neg_ℤ-neg_ℤ)

pub *ℤ_assoc : (a b c : ℤ) → (a *ℤ b) *ℤ c ≡ a *ℤ (b *ℤ c)
*ℤ_assoc a b c =
    ℤ_steps (λ a. (a *ℤ b) *ℤ c ≡ a *ℤ (b *ℤ c))
    (simp zero-*ℤ)
    (λ k h. simp (suc_ℤ-*ℤ, +ℤ-*ℤ, h))
    (λ k h. simp (pred_ℤ-*ℤ, +ℤ-*ℤ, neg_ℤ_*ℤ, h))
    a

pub *ℤ-left_comm : (a b c : ℤ) → a *ℤ (b *ℤ c) ≡ b *ℤ (a *ℤ c)
*ℤ-left_comm a b c = sym (*ℤ_assoc a b c) ∙ ap (λ x. x *ℤ c) (*ℤ_comm a b) ∙ *ℤ_assoc b a c

-- ---- absolute values

pub nat_abs_neg_ℤ : (a : ℤ) → nat_abs (neg_ℤ a) ≡ nat_abs a
nat_abs_neg_ℤ (pos zero) = refl
nat_abs_neg_ℤ (pos (suc n)) = refl
nat_abs_neg_ℤ (negsuc n) = refl

nat_abs_subℕ : (m n : ℕ) → nat_abs (sub_ℕ m n) ≤ m + n
nat_abs_subℕ m n = go (ltb m n) (ltb→lt m n)
  where
    go : (t : Bool) → (T t → m < n) → nat_abs (cond t (negsuc (n - suc m)) (pos (m - n))) ≤ m + n
    go true f = let h : m < n = f tt in omega arith
    go false f = omega arith

pub nat_abs_+ℤ : (a b : ℤ) → nat_abs (a +ℤ b) ≤ nat_abs a + nat_abs b
nat_abs_+ℤ (pos a) (pos b) = omega arith
nat_abs_+ℤ (pos a) (negsuc b) = nat_abs_subℕ a (suc b)
nat_abs_+ℤ (negsuc a) (pos b) = omega (arith, nat_abs_subℕ b (suc a))
nat_abs_+ℤ (negsuc a) (negsuc b) = omega arith

pub nat_abs_*ℤ : (a b : ℤ) → nat_abs (a *ℤ b) ≡ nat_abs a * nat_abs b
nat_abs_*ℤ (pos a) (pos b) = refl
nat_abs_*ℤ (pos a) (negsuc b) = nat_abs_neg_ℤ (pos (a * suc b))
nat_abs_*ℤ (negsuc a) (pos b) = nat_abs_neg_ℤ (pos (suc a * b))
nat_abs_*ℤ (negsuc a) (negsuc b) = refl

pub pos_injective : {m n : ℕ} → pos m ≡ pos n → m ≡ n
pos_injective e = ap nat_abs e

pub nat_abs_zero : (a : ℤ) → nat_abs a ≡ 0 → a ≡ pos 0
nat_abs_zero (pos n) e = ap pos e
nat_abs_zero (negsuc n) e = absurd (let f : suc n ≡ 0 = e in omega arith)

-- a product is 0 only where a factor is
pub zero_product : (a b : ℤ) → a *ℤ b ≡ pos 0 → (a ≡ pos 0) ⊎ (b ≡ pos 0)
zero_product a b e = sides (nat_abs a) (nat_abs b) (sym (nat_abs_*ℤ a b) ∙ ap nat_abs e) (nat_abs_zero a)
    (nat_abs_zero b)
  where
    sides : (m n : ℕ) → m * n ≡ 0 → (m ≡ 0 → a ≡ pos 0) → (n ≡ 0 → b ≡ pos 0) → (a ≡ pos 0) ⊎ (b ≡ pos 0)
    sides zero n h f g = inl (f refl)
    sides (suc m) zero h f g = inr (g refl)
    sides (suc m) (suc n) h f g = absurd (omega arith)
