-- Checks in order (document 01, 'Verdict and report', "Order"): a check is a test with a number and a place, and what
-- is said is the first check that fails.
use Rattle.std.specs.Prelude.{Bool, true, false, cond, ◌&&◌, ◌||◌, ℕ, zero, suc}
use Rattle.scope.specs.declared.Place.{Place}
use Rattle.scope.specs.Cases.Outcome.{Outcome}
use Rattle.scope.specs.Cases.Outcome.{Passed, Refused}

-- one check: where the test fails, its number with its place
abbrev pub demand : Bool → ℕ → Place → Outcome
demand b n p = cond b Passed (Refused n p)

-- one check after another: the first refusal counts
infixl 20 ◌then◌
abbrev pub ◌then◌ : Outcome → Outcome → Outcome
Passed then b = b
Refused n p then b = Refused n p

-- the checks 0, 1, .., n - 1 in this order: "lowest place first"
unfoldable pub lowest : (ℕ → Outcome) → ℕ → Outcome
lowest f zero = Passed
lowest f (suc n) = lowest f n then f n

-- some k below n passes a test, and each does
unfoldable pub some_below : (ℕ → Bool) → ℕ → Bool
some_below f zero = false
some_below f (suc n) = some_below f n || f n

unfoldable pub all_below : (ℕ → Bool) → ℕ → Bool
all_below f zero = true
all_below f (suc n) = all_below f n && f n
