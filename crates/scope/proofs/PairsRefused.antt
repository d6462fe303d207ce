-- 42 names the node of the first pair beyond the most: by the row of the table.
use mathlib.Core.List.{List}
use Prim.Native.Nat.{ℕ}
use native.Mathlib.Omega.{arith}
use lib.IntN.{ℤ}
use Rattle.scope.specs.declared.Place.{Place}
use Rattle.scope.specs.declared.Place.TheVariants.{Node}
use Rattle.scope.specs.Answer.{place_number}
use Rattle.scope.specs.Mesh.{pairs_with, sides}
use Rattle.scope.specs.Refusals.{Refusal}
use Rattle.scope.specs.RefusalTable.{of_lines, forty_two}
use Rattle.scope.specs.RefusalTable.{RefusalRow, of_mesh, of_claim_lines}
use Rattle.scope.specs.Pairs.{PairsFail}
use Rattle.scope.proofs.LineRefusals.{mesh_line_number, claim_line_number}
use Rattle.scope.proofs.Pairs.{brings_one_more}
use Rattle.scope.proofs.RefusalTable.{refusal_row}

module _ (m c : List ℤ) where
  of_row : {p : Place} → RefusalRow m c 42 p → PairsFail m (pairs_with (sides m)) (place_number p)
  of_row (of_mesh (of_lines r)) = absurd (omega (arith, mesh_line_number m r))
  of_row (of_mesh (forty_two v l a b d k g i h)) = (brings_one_more m v).0 h
  of_row (of_claim_lines s r) = absurd (omega (arith, claim_line_number m c r))

  pub pairs_fail : (place : ℕ) → Refusal m c 42 (Node place) → PairsFail m (pairs_with (sides m)) place
  pairs_fail place r = of_row (refusal_row m c 42 (Node place) r)
