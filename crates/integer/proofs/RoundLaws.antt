-- `Floor z d q` and `Ceil z d q` each hold of one number q only: the one that `floor_div` or `ceil_div` computes.
-- Example (`example_half`, checked after `floor_unique`): to show that k is the floor of (2k + 1)/2 show its two
-- inequalities:
--     floor_unique (floor_div_is (pos 2 *ℤ k +ℤ pos 1) (omega arith)) (record { at_most = ..; next_above = .. })
use mathlib.Core.Path.{◌≡◌}
use Prim.Native.Nat.{ℕ, ◌+◌, ◌*◌, ◌/◌, ◌%◌, ◌<◌}
use native.Mathlib.Nat.{div-add-mod', mod-lt}
use native.Mathlib.Omega.{arith}
use lib.IntN.{ℤ, pos, negsuc, ◌+ℤ◌, ◌-ℤ◌, ◌*ℤ◌, neg_ℤ}
use lib.Signed.{◌≤ℤ◌, ◌<ℤ◌, <ℤ-≤ℤ_trans}
use Rattle.integer.specs.Round.{floor_div, ceil_div, Floor, Ceil}
use Rattle.integer.proofs.Order.{≤ℤ_antisym, ≤ℤ-<ℤ_trans, nonneg, *ℤ_cancel_<}
use Rattle.integer.proofs.Linear.{linear, facts, nothing}

pub floor_div_is : (z : ℤ) {d : ℕ} → 0 < d → Floor z d (floor_div z d)
floor_div_is (pos n) {d} h =
    let e : n / d * d + n % d ≡ n = div-add-mod' n d in
    let l : n % d < d = mod-lt n h in
    record {
      at_most = linear nothing (search facts depth 40) (omega arith);
      next_above = linear nothing (search facts depth 40) (omega arith);
    }
floor_div_is (negsuc n) {d} h =
    let e : n / d * d + n % d ≡ n = div-add-mod' n d in
    let l : n % d < d = mod-lt n h in
    record {
      at_most = linear nothing (search facts depth 40) (omega arith);
      next_above = linear nothing (search facts depth 40) (omega arith);
    }

pub ceil_div_is : (z : ℤ) {d : ℕ} → 0 < d → Ceil z d (ceil_div z d)
ceil_div_is z {d} h =
    let f = floor_div_is (neg_ℤ z) h in
    let lo = f.at_most in
    let hi = f.next_above in
    record {
      last_below = linear hi (search facts depth 40) (omega arith);
      at_least = linear lo (search facts depth 40) (omega arith);
    }

-- below the floor are the numbers whose product with d is at most z
pub floor_greatest : {z : ℤ} {d : ℕ} {q : ℤ} → Floor z d q → (k : ℤ) → (k *ℤ pos d) ≤ℤ z → k ≤ℤ q
floor_greatest {z} {d} {q} f k h =
    let l : k <ℤ (q +ℤ pos 1) = *ℤ_cancel_< (nonneg d) (≤ℤ-<ℤ_trans h f.next_above) in
    linear l (search facts depth 40) (omega arith)

pub ceil_least : {z : ℤ} {d : ℕ} {q : ℤ} → Ceil z d q → (k : ℤ) → z ≤ℤ (k *ℤ pos d) → q ≤ℤ k
ceil_least {z} {d} {q} c k h =
    let l : (q -ℤ pos 1) <ℤ k = *ℤ_cancel_< (nonneg d) (<ℤ-≤ℤ_trans c.last_below h) in
    linear l (search facts depth 40) (omega arith)

pub floor_unique : {z : ℤ} {d : ℕ} {q r : ℤ} → Floor z d q → Floor z d r → q ≡ r
floor_unique {q = q} {r = r} f g = ≤ℤ_antisym (floor_greatest g q f.at_most) (floor_greatest f r g.at_most)

-- example: the floor of (2 k + 1) / 2 is k
example_half : (k : ℤ) → floor_div (pos 2 *ℤ k +ℤ pos 1) 2 ≡ k
example_half k =
    floor_unique (floor_div_is (pos 2 *ℤ k +ℤ pos 1) (omega arith))
    (record {
      at_most = linear nothing (search facts depth 40) (omega arith);
      next_above = linear nothing (search facts depth 40) (omega arith);
    })

pub ceil_unique : {z : ℤ} {d : ℕ} {q r : ℤ} → Ceil z d q → Ceil z d r → q ≡ r
ceil_unique {q = q} {r = r} c b = ≤ℤ_antisym (ceil_least c r b.at_least) (ceil_least b q c.at_least)
