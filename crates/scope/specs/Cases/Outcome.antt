-- What one check, or a row of checks in order, says.
use Rattle.std.specs.Prelude.{Bool, true, false, ℕ}
use Rattle.scope.specs.declared.Place.{Place}

pub data Outcome : Type 0 where
  Passed : Outcome
  Refused : ℕ → Place → Outcome

unfoldable pub has_passed : Outcome → Bool
has_passed Passed = true
has_passed (Refused n p) = false
