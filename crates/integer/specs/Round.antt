-- Floor and ceiling of z / d, for a whole number z and a natural number d above 0.
-- `Floor z d q` and `Ceil z d q` say what q is; `floor_div` and `ceil_div` compute it (`floor_div_is` and `ceil_div_is`
-- of proofs/RoundLaws.antt).
use Rattle.std.specs.Prelude.{◌≡◌, refl, ℕ, ◌/◌, ℤ, pos, negsuc, ◌+ℤ◌, ◌-ℤ◌, ◌*ℤ◌, neg_ℤ, ◌≤ℤ◌, ◌<ℤ◌}

-- q·d ≤ z < (q + 1)·d
pub record Floor (z : ℤ) (d : ℕ) (q : ℤ) : Type 0 where
  pub at_most : (q *ℤ pos d) ≤ℤ z
  pub next_above : z <ℤ ((q +ℤ pos 1) *ℤ pos d)

-- (q - 1)·d < z ≤ q·d
pub record Ceil (z : ℤ) (d : ℕ) (q : ℤ) : Type 0 where
  pub last_below : ((q -ℤ pos 1) *ℤ pos d) <ℤ z
  pub at_least : z ≤ℤ (q *ℤ pos d)

-- `negsuc n` is -(n + 1), whose floor is -(n / d + 1)
abbrev pub floor_div : ℤ → ℕ → ℤ
floor_div (pos n) d = pos (n / d)
floor_div (negsuc n) d = negsuc (n / d)

-- the ceiling of z / d is minus the floor of -z / d
abbrev pub ceil_div : ℤ → ℕ → ℤ
ceil_div z d = neg_ℤ (floor_div (neg_ℤ z) d)

-- example: the floor of -1000000/3 is -333334, and its ceiling -333333
example_third : (floor_div (negsuc 999999) 3 ≡ negsuc 333333) × (ceil_div (negsuc 999999) 3 ≡ negsuc 333332)
example_third = (refl, refl)
