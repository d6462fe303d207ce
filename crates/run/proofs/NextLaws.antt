-- The next claim's own bytes: its header stands in the first bytes that are left, and with the mesh it says how many
-- are its own.
use mathlib.Core.Path.{◌≡◌, sym, ap, ◌∙◌}
use mathlib.Core.List.{List}
use Prim.Native.Nat.{ℕ, min, ◌+◌, ◌*◌, ◌≤◌, ◌<◌}
use native.Mathlib.Decide.{dec_le}
use native.Mathlib.Nat.{div-lt_iff_lt-mul}
use native.Mathlib.Omega.{arith}
use lib.IntN.{ℤ}
use lib.ListN.{length, take, length-take}
use lib.Seq.{take_all, take-length}
use Rattle.scope.specs.Layout.{Layout}
use Rattle.scope.specs.Claim.{claim_header_columns, claim_layout}
use Rattle.scope.specs.Mesh.{sides}
use Rattle.reader.specs.File.{file_width, numbers_of}
use Rattle.reader.specs.Listed.{Listed}
use Rattle.reader.proofs.Most.{numbers_by_length}
use Rattle.judge.specs.Judge.{claim_numbers}
use Rattle.judge.specs.ClaimBytes.{claim_bytes}
use Rattle.judge.proofs.ClaimBytes.{by_header_bytes}
use Rattle.judge.proofs.FilesJudged.{front}
use Rattle.run.specs.Run.{own_bytes}

-- the bytes of a claim's header
abbrev pub header_bytes : ℕ
header_bytes = claim_header_columns * file_width + 1

-- room for its numbers
pub header_room : (f : Layout) (bs : List ℕ) → length bs ≤ header_bytes
    → length (numbers_of file_width f bs) ≤ claim_header_columns + 1
header_room f bs l = omega (
  arith,
  numbers_by_length f bs,
  (div-lt_iff_lt-mul {k = file_width} {x = length bs} {y = claim_header_columns + 1} (omega arith)).1 (omega arith),
)

-- no more is taken than there is
pub take_least : (n : ℕ) (l : List ℕ) → take (min n (length l)) l ≡ take n l
take_least n l = by (dec_le n (length l))
  where
    by : Dec (n ≤ length l) → take (min n (length l)) l ≡ take n l
    by (yes h) = let e : min n (length l) ≡ n = omega arith in rw e
    by (no h) = let e : min n (length l) ≡ length l = omega arith in rw e
        (take-length l ∙ sym (take_all n l (omega arith)))

pub own_length : (m : List ℤ) (left : List ℕ) → length (own_bytes m left)
    ≡ min (claim_bytes m (claim_numbers file_width m left)) (length left)
unfolding own_bytes
own_length m left = length-take (claim_bytes m (claim_numbers file_width m left)) left

pub own_front : (m : List ℤ) (left : List ℕ) → take (length (own_bytes m left)) left ≡ own_bytes m left
unfolding own_bytes
own_front m left = rw (length-take (claim_bytes m (claim_numbers file_width m left)) left)
    (take_least (claim_bytes m (claim_numbers file_width m left)) left)

-- the header's numbers, read alone, count them
pub own_counted : (m : List ℤ) {before header : List ℤ} (left : List ℕ) {end count bytes : ℕ} → 0 < sides m
    → end ≡ min header_bytes (length left)
    → Listed (numbers_of file_width (claim_layout m) (take end left)) before count header
    → bytes ≡ claim_bytes m (take count header) → take (min bytes (length left)) left ≡ own_bytes m left
unfolding own_bytes claim_numbers
own_counted m left {bytes = bytes} s e l b =
    let cut = ap (λ (n : ℕ). take n left) e ∙ take_least header_bytes left in
    let told =
    b ∙ ap (claim_bytes m) (front l ∙ ap (claim_numbers file_width m) cut)
    ∙ by_header_bytes m header_bytes left s (omega arith) in
    take_least bytes left ∙ ap (λ (n : ℕ). take n left) told
