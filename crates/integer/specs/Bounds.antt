-- Bounds of whole numbers, as contracts say them.
use Rattle.std.specs.Prelude.{◌≡◌, List, ℕ, ◌≤◌, get_or, ℤ, pos, nat_abs}

-- z is at most B in size
pub record Within (B : ℕ) (z : ℤ) : Type 0 where
  pub within : nat_abs z ≤ B

-- every member of a list is at most B in size; past its end a list is read as 0
pub record AllWithin (B : ℕ) (l : List ℤ) : Type 0 where
  pub each : (i : ℕ) → Within B (get_or l i (pos 0))

-- v is the number p, at most B in size: what a function says of a result v that 64 bits hold
pub record Is (v p : ℤ) (B : ℕ) : Type 0 where
  pub same : v ≡ p
  pub inside : Within B p
