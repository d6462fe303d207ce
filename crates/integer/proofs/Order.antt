-- The order of ℤ: laws of `◌≤ℤ◌` and `◌<ℤ◌` of `lib.Signed`, which has `≤ℤ_refl`, `<ℤ_irrefl`, `<ℤ-≤ℤ_trans` and
-- `clash_ℤ`.
-- `≤ℤ` and `<ℤ` bind tighter than `+ℤ`: put brackets around a side that is a sum or a product.
-- A linear consequence of facts is one line of `Linear.antt`. For what is not linear there are certificates: `by_nn`
-- reduces `a ≤ℤ b` to a number that is not negative and an identity for `ring`.
-- Example (`example_mean`, checked after `by_nn`): 2ab ≤ a² + b², since the difference is a square:
--     by_nn (square_nonneg (a -ℤ b)) (ring (a ∷ b ∷ []) (search terms depth 100) refl)
use mathlib.Core.Path.{◌≡◌, refl, sym, ◌∙◌, ap, ap₂, subst}
use mathlib.Core.List.{[], ◌∷◌}
use mathlib.Core.Logic.{◌⊎◌, inl, inr, ⊎_elim}
use mathlib.Core.Bool.{Bool, true, false, not, cond}
use Prim.Native.Nat.{ℕ, zero, suc, ◌+◌, ◌*◌, ◌-◌, ◌≤◌, ◌<◌, zero-le}
use native.Mathlib.Omega.{arith}
use native.Mathlib.Nat.{le_antisymm}
use lib.Dec.{T, ltb, leb→le, le→leb, ltb→lt, lt→ltb}
use lib.IntN.{ℤ, pos, negsuc, ◌+ℤ◌, ◌-ℤ◌, ◌*ℤ◌, suc_ℤ, +ℤ_assoc, +ℤ_one}
use lib.Signed.{le_z, lt_z, ◌≤ℤ◌, ◌<ℤ◌, ≤ℤ_refl, <ℤ_irrefl, <ℤ-≤ℤ_trans, clash_ℤ, le_z_yes, lt_z_yes, lt_z_no}
use Rattle.integer.proofs.RingLaws.{+ℤ_swap}
use Rattle.integer.proofs.Ring.{ring, ring_from, terms}

-- ---- natural numbers in ℤ

pub pos_≤ℤ : {m n : ℕ} → m ≤ n → pos m ≤ℤ pos n
pos_≤ℤ {m} {n} h = le_z_yes (le→leb m n h)

pub ≤ℤ_pos : {m n : ℕ} → pos m ≤ℤ pos n → m ≤ n
≤ℤ_pos {m} {n} h = leb→le m n h.le

pub nonneg : (n : ℕ) → pos 0 ≤ℤ pos n
nonneg n = pos_≤ℤ zero-le

pub square_nonneg : (a : ℤ) → pos 0 ≤ℤ (a *ℤ a)
square_nonneg (pos n) = nonneg (n * n)
square_nonneg (negsuc n) = nonneg (suc n * suc n)

-- ---- a ≤ b as b ≡ a + k

up_by : (b k : ℕ) → negsuc b ≡ negsuc (b + k) +ℤ pos k
up_by b k = ring (pos b ∷ pos k ∷ []) (search terms depth 100) refl

diff : (a b : ℤ) → T (le_z a b) → (k : ℕ) × (b ≡ a +ℤ pos k)
diff (pos a) (pos b) t = let h : a ≤ b = leb→le a b t in (b - a, ap pos (omega arith))
diff (pos a) (negsuc b) t = absurd t
diff (negsuc a) (pos b) t = (suc a + b, ring (pos a ∷ pos b ∷ []) (search terms depth 100) refl)
diff (negsuc a) (negsuc b) t =
    let h : b ≤ a = leb→le b a t in
    let e : b + (a - b) ≡ a = omega arith in
    (a - b, up_by b (a - b) ∙ ap (λ x. negsuc x +ℤ pos (a - b)) e)

pub le_diff : {a b : ℤ} → a ≤ℤ b → (k : ℕ) × (b ≡ a +ℤ pos k)
le_diff {a} {b} h = diff a b h.le

plus_above : (m x y : ℕ) (c : Bool) → x ≤ m → T (le_z (negsuc m) (cond c (negsuc x) (pos y)))
plus_above m x y true h = le→leb x m h
plus_above m x y false h = tt

pub le_plus : (a : ℤ) (k : ℕ) → a ≤ℤ (a +ℤ pos k)
le_plus (pos m) k = le_z_yes (le→leb m (m + k) (omega arith))
le_plus (negsuc m) k = le_z_yes (plus_above m (suc m - suc k) (k - suc m) (ltb k (suc m)) (omega arith))

pub diff_le : {a b : ℤ} (k : ℕ) → b ≡ a +ℤ pos k → a ≤ℤ b
diff_le {a} k e = subst (λ x. a ≤ℤ x) (sym e) (le_plus a k)

-- ---- consequences by certificate

-- a ≤ b, since b - a is a number that is not negative
pub by_nn : {a b z : ℤ} → pos 0 ≤ℤ z → b -ℤ a ≡ z → a ≤ℤ b
by_nn {a} {b} {z} h e =
    let (k, d) = le_diff h in
    diff_le k (ring_from (pos 1) (e ∙ d) (ring (a ∷ b ∷ pos k ∷ []) (search terms depth 100) refl))

-- example: 2ab ≤ a² + b²
example_mean : (a b : ℤ) → (pos 2 *ℤ a *ℤ b) ≤ℤ (a *ℤ a +ℤ b *ℤ b)
example_mean a b = by_nn (square_nonneg (a -ℤ b)) (ring (a ∷ b ∷ []) (search terms depth 100) refl)

pub nn_diff : {a b : ℤ} → a ≤ℤ b → pos 0 ≤ℤ (b -ℤ a)
nn_diff {a} {b} h =
    let (k, d) = le_diff h in
    diff_le k (ring_from (pos 1) d (ring (a ∷ b ∷ pos k ∷ []) (search terms depth 100) refl))

-- ---- an order

pub ≤ℤ_trans : {a b c : ℤ} → a ≤ℤ b → b ≤ℤ c → a ≤ℤ c
≤ℤ_trans {a} h k =
    let (m, d) = le_diff h in
    let (n, e) = le_diff k in
    diff_le (m + n) (e ∙ ap (λ x. x +ℤ pos n) d ∙ +ℤ_assoc a (pos m) (pos n))

pub <ℤ_or_≤ℤ : (a b : ℤ) → (a <ℤ b) ⊎ (b ≤ℤ a)
<ℤ_or_≤ℤ a b = go (lt_z a b) lt_z_yes lt_z_no
  where
    go : (t : Bool) → (T t → a <ℤ b) → (T (not t) → b ≤ℤ a) → (a <ℤ b) ⊎ (b ≤ℤ a)
    go true f g = inl (f tt)
    go false f g = inr (g tt)

pub ≤ℤ-<ℤ_trans : {a b c : ℤ} → a ≤ℤ b → b <ℤ c → a <ℤ c
≤ℤ-<ℤ_trans {a} {c = c} h k = ⊎_elim (λ l. l) (λ g. clash_ℤ k (≤ℤ_trans g h)) (<ℤ_or_≤ℤ a c)

antisym : (a b : ℤ) → T (le_z a b) → T (le_z b a) → a ≡ b
antisym (pos a) (pos b) s t = ap pos (le_antisymm (leb→le a b s) (leb→le b a t))
antisym (pos a) (negsuc b) s t = absurd s
antisym (negsuc a) (pos b) s t = absurd t
antisym (negsuc a) (negsuc b) s t = ap negsuc (le_antisymm (leb→le a b t) (leb→le b a s))

pub ≤ℤ_antisym : {a b : ℤ} → a ≤ℤ b → b ≤ℤ a → a ≡ b
≤ℤ_antisym {a} {b} h k = antisym a b h.le k.le

pub ≡→≤ℤ : {a b : ℤ} → a ≡ b → a ≤ℤ b
≡→≤ℤ {a} e = subst (λ x. a ≤ℤ x) e (≤ℤ_refl a)

lt_le : (a b : ℤ) → T (lt_z a b) → T (le_z (suc_ℤ a) b)
lt_le (pos a) (pos b) t = t
lt_le (pos a) (negsuc b) t = t
lt_le (negsuc zero) (pos b) t = le→leb 0 b zero-le
lt_le (negsuc (suc a)) (pos b) t = tt
lt_le (negsuc zero) (negsuc b) t = absurd (let h : b < 0 = ltb→lt b 0 t in omega arith)
lt_le (negsuc (suc a)) (negsuc b) t = le→leb b a (let h : b < suc a = ltb→lt b (suc a) t in omega arith)

le_lt : (a b : ℤ) → T (le_z (suc_ℤ a) b) → T (lt_z a b)
le_lt (pos a) (pos b) t = t
le_lt (pos a) (negsuc b) t = t
le_lt (negsuc zero) (pos b) t = tt
le_lt (negsuc (suc a)) (pos b) t = tt
le_lt (negsuc zero) (negsuc b) t = absurd t
le_lt (negsuc (suc a)) (negsuc b) t = lt→ltb b (suc a) (let h : b ≤ a = leb→le b a t in omega arith)

-- a < b is a + 1 ≤ b
pub <ℤ→suc≤ℤ : {a b : ℤ} → a <ℤ b → (a +ℤ pos 1) ≤ℤ b
<ℤ→suc≤ℤ {a} {b} h = rw (+ℤ_one a) (le_z_yes (lt_le a b h.lt))

pub suc≤ℤ→<ℤ : {a b : ℤ} → (a +ℤ pos 1) ≤ℤ b → a <ℤ b
suc≤ℤ→<ℤ {a} {b} h = lt_z_yes (le_lt a b (rw (+ℤ_one a) at h).le)

-- a < b, since b - a is positive
pub by_pos : {a b z : ℤ} → pos 0 <ℤ z → b -ℤ a ≡ z → a <ℤ b
by_pos {a} {b} {z} h e =
    suc≤ℤ→<ℤ (by_nn (nn_diff (<ℤ→suc≤ℤ h)) (ring_from (pos 1) e (ring (a ∷ b ∷ z ∷ []) (search terms depth 100) refl)))

pub pos_diff : {a b : ℤ} → a <ℤ b → pos 0 <ℤ (b -ℤ a)
pos_diff {a} {b} h = suc≤ℤ→<ℤ (by_nn (nn_diff (<ℤ→suc≤ℤ h)) (ring (a ∷ b ∷ []) (search terms depth 100) refl))

pub <ℤ→≤ℤ : {a b : ℤ} → a <ℤ b → a ≤ℤ b
<ℤ→≤ℤ {a} h = ≤ℤ_trans (le_plus a 1) (<ℤ→suc≤ℤ h)

pub <ℤ→≢ : {a b : ℤ} → a <ℤ b → ¬ (a ≡ b)
<ℤ→≢ h e = <ℤ_irrefl (<ℤ-≤ℤ_trans h (≡→≤ℤ (sym e)))

pub ≤ℤ_total : (a b : ℤ) → (a ≤ℤ b) ⊎ (b ≤ℤ a)
≤ℤ_total a b = ⊎_elim (λ h. inl (<ℤ→≤ℤ h)) (λ h. inr h) (<ℤ_or_≤ℤ a b)

pub ≤ℤ_split : {a b : ℤ} → a ≤ℤ b → (a <ℤ b) ⊎ (a ≡ b)
≤ℤ_split {a} {b} h = ⊎_elim (λ l. inl l) (λ g. inr (≤ℤ_antisym h g)) (<ℤ_or_≤ℤ a b)

-- ---- sums and signs

pub +ℤ_mono : {a b c d : ℤ} → a ≤ℤ b → c ≤ℤ d → (a +ℤ c) ≤ℤ (b +ℤ d)
+ℤ_mono {a} {c = c} h k =
    let (m, e) = le_diff h in
    let (n, f) = le_diff k in
    diff_le (m + n) (ap₂ ◌+ℤ◌ e f ∙ +ℤ_swap a (pos m) c (pos n))

pub +ℤ_mono_< : {a b c d : ℤ} → a <ℤ b → c ≤ℤ d → (a +ℤ c) <ℤ (b +ℤ d)
+ℤ_mono_< {a} {b} {c} {d} h k =
    suc≤ℤ→<ℤ (subst (λ x. x ≤ℤ (b +ℤ d)) (ring (a ∷ c ∷ []) (search terms depth 100) refl) (+ℤ_mono (<ℤ→suc≤ℤ h) k))

-- ---- products

pub *ℤ_nonneg : {a b : ℤ} → pos 0 ≤ℤ a → pos 0 ≤ℤ b → pos 0 ≤ℤ (a *ℤ b)
*ℤ_nonneg {a = pos m} {b = pos n} h k = nonneg (m * n)
*ℤ_nonneg {a = pos m} {b = negsuc n} h k = absurd k.le
*ℤ_nonneg {a = negsuc m} h k = absurd h.le

pub *ℤ_mono : {a b c : ℤ} → a ≤ℤ b → pos 0 ≤ℤ c → (a *ℤ c) ≤ℤ (b *ℤ c)
*ℤ_mono {a} {b} {c} h k = by_nn (*ℤ_nonneg (nn_diff h) k) (ring (a ∷ b ∷ c ∷ []) (search terms depth 100) refl)

pub *ℤ_pos : {a b : ℤ} → pos 0 <ℤ a → pos 0 <ℤ b → pos 0 <ℤ (a *ℤ b)
*ℤ_pos {a} {b} h k = suc≤ℤ→<ℤ
    (≤ℤ_trans (<ℤ→suc≤ℤ h)
    (by_nn (*ℤ_nonneg (<ℤ→≤ℤ h) (nn_diff (<ℤ→suc≤ℤ k))) (ring (a ∷ b ∷ []) (search terms depth 100) refl)))

pub *ℤ_mono_< : {a b c : ℤ} → a <ℤ b → pos 0 <ℤ c → (a *ℤ c) <ℤ (b *ℤ c)
*ℤ_mono_< {a} {b} {c} h k = by_pos (*ℤ_pos (pos_diff h) k) (ring (a ∷ b ∷ c ∷ []) (search terms depth 100) refl)

-- a positive factor cancels
pub *ℤ_cancel_≤ : {a b c : ℤ} → pos 0 <ℤ c → (a *ℤ c) ≤ℤ (b *ℤ c) → a ≤ℤ b
*ℤ_cancel_≤ {a} {b} k h = ⊎_elim (λ l. clash_ℤ (*ℤ_mono_< l k) h) (λ g. g) (<ℤ_or_≤ℤ b a)

pub *ℤ_cancel_< : {a b c : ℤ} → pos 0 ≤ℤ c → (a *ℤ c) <ℤ (b *ℤ c) → a <ℤ b
*ℤ_cancel_< {a} {b} k h = ⊎_elim (λ l. l) (λ g. clash_ℤ h (*ℤ_mono g k)) (<ℤ_or_≤ℤ a b)

pub *ℤ_cancel : {a b c : ℤ} → pos 0 <ℤ c → a *ℤ c ≡ b *ℤ c → a ≡ b
*ℤ_cancel k e = ≤ℤ_antisym (*ℤ_cancel_≤ k (≡→≤ℤ e)) (*ℤ_cancel_≤ k (≡→≤ℤ (sym e)))
