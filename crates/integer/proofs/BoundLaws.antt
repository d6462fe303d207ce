-- Bounds of whole numbers (`Within`, `AllWithin`): laws for sums, differences, signs, products, quotients, remainders,
-- and sums over lists; a bound from two inequalities and back.
-- What a bound is for, the goals of 64-bit arithmetic, is `Machine.antt`.
-- `linear` takes bounds among its facts, and proves one, with the set `bounds` for `facts`.
-- Example (`example_middle`, checked after `bounds`): y is within 1010, from h : x within 1000, k : x < y and l : y ≤ x
-- + 10:
--     linear (h & k & l) (search bounds depth 40) (omega arith)
use mathlib.Core.Path.{sym}
use mathlib.Core.List.{List, []}
use Prim.Native.Nat.{ℕ, suc, ◌+◌, ◌*◌, ◌/◌, ◌%◌, ◌≤◌, ◌<◌, zero-le}
use native.Mathlib.Nat.{le_trans, mul-le-mul, le_refl, div-le_self, mod-le}
use native.Mathlib.Decide.{dec_lt}
use native.Mathlib.Omega.{arith}
use lib.ListN.{length, get_or, get_or-eq_default}
use lib.IntN.{ℤ, pos, negsuc, ◌+ℤ◌, ◌-ℤ◌, ◌*ℤ◌, neg_ℤ, nat_abs, +ℤ_idl, +ℤ_idr}
use lib.Signed.{quot_z, rem_z, ◌≤ℤ◌, ◌<ℤ◌}
use Rattle.integer.specs.Bounds.{Within, AllWithin}
use Rattle.integer.proofs.RingLaws.{nat_abs_neg_ℤ, nat_abs_*ℤ, nat_abs_+ℤ}
use Rattle.integer.proofs.Order.{≤ℤ_pos}
use Rattle.integer.proofs.Linear.{linear, facts, Fact, Lin, levels, ◌&◌, nothing, Both, ≤ℤ_parts, parts_≤ℤ}

-- ---- a number within a bound

pub Within-le : {A B : ℕ} {z : ℤ} → Within A z → A ≤ B → Within B z
Within-le h l = record { within = le_trans h.within l }

pub Within-pos : (n : ℕ) → Within n (pos n)
Within-pos n = record { within = le_refl n }

pub Within-negsuc : (n : ℕ) → Within (suc n) (negsuc n)
Within-negsuc n = record { within = le_refl (suc n) }

pub Within-neg_ℤ : {B : ℕ} {z : ℤ} → Within B z → Within B (neg_ℤ z)
Within-neg_ℤ {z = z} h = record { within = rw (nat_abs_neg_ℤ z) h.within }

pub Within-+ℤ : {A B : ℕ} {x y : ℤ} → Within A x → Within B y → Within (A + B) (x +ℤ y)
Within-+ℤ {x = x} {y = y} h k = record { within = omega (arith, nat_abs_+ℤ x y) }

pub Within--ℤ : {A B : ℕ} {x y : ℤ} → Within A x → Within B y → Within (A + B) (x -ℤ y)
Within--ℤ h k = Within-+ℤ h (Within-neg_ℤ k)

pub Within-*ℤ : {A B : ℕ} {x y : ℤ} → Within A x → Within B y → Within (A * B) (x *ℤ y)
Within-*ℤ {x = x} {y = y} h k = record { within = rw (nat_abs_*ℤ x y) (mul-le-mul h.within k.within) }

nat_abs_quot_z : (x y : ℤ) → nat_abs (quot_z x y) ≤ nat_abs x
nat_abs_quot_z (pos a) (pos b) = div-le_self a b
nat_abs_quot_z (pos a) (negsuc b) = rw (nat_abs_neg_ℤ (pos (a / suc b))) (div-le_self a (suc b))
nat_abs_quot_z (negsuc a) (pos b) = rw (nat_abs_neg_ℤ (pos (suc a / b))) (div-le_self (suc a) b)
nat_abs_quot_z (negsuc a) (negsuc b) = div-le_self (suc a) (suc b)

pub Within-quot_z : {A : ℕ} {x : ℤ} (y : ℤ) → Within A x → Within A (quot_z x y)
Within-quot_z {x = x} y h = record { within = le_trans (nat_abs_quot_z x y) h.within }

nat_abs_rem_z : (x y : ℤ) → nat_abs (rem_z x y) ≤ nat_abs x
nat_abs_rem_z (pos a) y = mod-le a (nat_abs y)
nat_abs_rem_z (negsuc a) y = rw (nat_abs_neg_ℤ (pos (suc a % nat_abs y))) (mod-le (suc a) (nat_abs y))

pub Within-rem_z : {A : ℕ} {x : ℤ} (y : ℤ) → Within A x → Within A (rem_z x y)
Within-rem_z {x = x} y h = record { within = le_trans (nat_abs_rem_z x y) h.within }

-- ---- a bound as two inequalities

pub Within-≤ℤ : {B : ℕ} {z : ℤ} → Within B z → z ≤ℤ pos B
Within-≤ℤ {z = pos n} h = let l = h.within in linear nothing (search facts depth 40) (omega arith)
Within-≤ℤ {z = negsuc n} h = linear nothing (search facts depth 40) (omega arith)

pub Within-≥ℤ : {B : ℕ} {z : ℤ} → Within B z → neg_ℤ (pos B) ≤ℤ z
Within-≥ℤ {z = pos n} h = linear nothing (search facts depth 40) (omega arith)
Within-≥ℤ {z = negsuc n} h = let l = h.within in linear nothing (search facts depth 40) (omega arith)

pub ≤ℤ-Within : {B : ℕ} {z : ℤ} → neg_ℤ (pos B) ≤ℤ z → z ≤ℤ pos B → Within B z
≤ℤ-Within {z = pos n} h k = record { within = ≤ℤ_pos k }
≤ℤ-Within {B} {z = negsuc n} h k = record { within = ≤ℤ_pos (below h) }
  where
    below : neg_ℤ (pos B) ≤ℤ negsuc n → pos (suc n) ≤ℤ pos B
    below h = linear h (search facts depth 40) (omega arith)

-- a bound, as `linear` reads it
abbrev pub fact_Within : {B : ℕ} {z : ℤ} → Lin levels z → Fact (Within B z)
fact_Within {B} h =
    record {
      plain = Both (h.up + 0 ≤ B + h.down) (0 + h.down ≤ h.up + B);
      to = λ w. ≤ℤ_parts h.up h.down B 0 h.says (sym (+ℤ_idr (pos B))) (Within-≤ℤ w)
          & ≤ℤ_parts 0 B h.up h.down (sym (+ℤ_idl (neg_ℤ (pos B)))) h.says (Within-≥ℤ w);
      from = λ p. ≤ℤ-Within (parts_≤ℤ 0 B h.up h.down (sym (+ℤ_idl (neg_ℤ (pos B)))) h.says p.two)
          (parts_≤ℤ h.up h.down B 0 h.says (sym (+ℤ_idr (pos B))) p.one);
    }

pub ruleset bounds = (facts, fact_Within)

-- example: a range, from a bound and two tests
example_middle : (x y : ℤ) → Within 1000 x → x <ℤ y → y ≤ℤ (x +ℤ pos 10) → Within 1010 y
example_middle x y h k l = linear (h & k & l) (search bounds depth 40) (omega arith)

-- ---- all members of a list

-- past its end a list is read as 0
pub all_within_lem : {B : ℕ} (l : List ℤ) → ((i : ℕ) → i < length l → Within B (get_or l i (pos 0))) → AllWithin B l
all_within_lem {B} l h = record { each = λ i. go i (dec_lt i (length l)) }
  where
    go : (i : ℕ) → Dec (i < length l) → Within B (get_or l i (pos 0))
    go i (yes p) = h i p
    go i (no f) = rw (get_or-eq_default l (pos 0) {n = i} (omega arith)) (record { within = zero-le })

pub AllWithin-le : {A B : ℕ} {l : List ℤ} → AllWithin A l → A ≤ B → AllWithin B l
AllWithin-le h k = record { each = λ i. Within-le (h.each i) k }
