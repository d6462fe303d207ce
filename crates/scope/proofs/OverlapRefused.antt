-- 47 names the higher element of a pair that shares a point: by the row of the table. Absent such a pair there is no
-- 47.
use mathlib.Core.List.{List}
use Prim.Native.Nat.{ℕ, ◌<◌}
use native.Mathlib.Omega.{arith}
use lib.IntN.{ℤ}
use Rattle.scope.specs.declared.Place.{Place}
use Rattle.scope.specs.Answer.{place_number}
use Rattle.scope.specs.RefusalTable.{of_lines, forty_seven}
use Rattle.scope.specs.RefusalTable.{RefusalRow, of_mesh, of_claim_lines}
use Rattle.scope.specs.Overlaps.{OnEachOther, OverlapNamed, NeverForThis}
use Rattle.scope.proofs.LineRefusals.{mesh_line_number, claim_line_number}
use Rattle.scope.proofs.Overlaps.{on_each_other}
use Rattle.scope.proofs.RefusalTable.{refusal_row}

module _ (m c : List ℤ) where
  of_row : {p : Place} → RefusalRow m c 47 p → OnEachOther m (place_number p)
  of_row (of_mesh (of_lines r)) = absurd (omega (arith, mesh_line_number m r))
  of_row (of_mesh (forty_seven e l turns b d h)) = on_each_other m turns e h
  of_row (of_claim_lines s r) = absurd (omega (arith, claim_line_number m c r))

  pub overlap_named : OverlapNamed m c
  overlap_named p r = of_row (refusal_row m c 47 p r)

  pub never_for_this : NeverForThis m c
  never_for_this none p r =
      let h = overlap_named p r in
      none h.lower h.higher (between h.below h.there) h.there (λ e. omega (arith, h.below, e)) h.shared
    where
      between : {d e n : ℕ} → d < e → e < n → d < n
      between a b = omega arith
