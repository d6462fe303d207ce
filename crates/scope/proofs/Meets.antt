-- The test of a row says that the row is met: by cases on its kind.
use mathlib.Core.Bool.{true}
use mathlib.Core.Logic.{◌↔◌}
use Prim.Native.Nat.{ℕ}
use lib.Dec.{T}
use lib.IntN.{ℤ}
use lib.Signed.{le_z, le_z_yes}
use Rattle.integer.specs.Tests.{eq_z}
use Rattle.integer.proofs.TestLaws.{eq_z_yes, yes_eq_z, yes_le_z}
use Rattle.scope.specs.Rows.{Kind, asked, unfixed, strength, Row}
use Rattle.scope.specs.Sums.{left_side, right_side, row_holds}
use Rattle.scope.specs.Meets.{Asks, RowMet}

pub row_holds_lem : (s : ℕ → ℤ) (l n : ℤ) (r : Row) → T (row_holds s l n r) ↔ RowMet s l n r
unfolding row_holds
row_holds_lem s l n r = go r.kind
  where
    go : (k : Kind) → T (elim k [
      | asked ↦ eq_z (left_side s l r) (right_side n r)
      | unfixed ↦ true
      | strength ↦ le_z (left_side s l r)
          (right_side n r)
    ]) ↔ Asks k (left_side s l r) (right_side n r)
    go asked = (eq_z_yes, yes_eq_z)
    go unfixed = (λ t. t, λ t. t)
    go strength = (le_z_yes, yes_le_z)
