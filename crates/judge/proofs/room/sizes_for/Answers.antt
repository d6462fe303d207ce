-- `sizes_for` meets its contract: each product is a count of the definition, and each length of a claim is asked.
use native.Mathlib.Nat.{mul-le-mul}
use native.Mathlib.Omega.{arith}
use Rattle.judge.proofs.RoomLaws.{counts_are}
use Rattle.judge.proofs.room.sizes_for.Goals as goal

pub returns : goal.returns
returns c =
    λ m k.
    counts_are k (c.claim_bytes.ensures m k) (c.claim_bytes-2.ensures m k) (c.claim_bytes-3.ensures m k)

pub overflow_mul-result-4 : goal.overflow_mul-result-4
overflow_mul-result-4 c =
    let s = c.args.s in
    omega (arith, mul-le-mul s.few_pairs s.sizes.few_sides)
