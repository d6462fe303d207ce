-- Accepted multipliers in the terms of the rows as document 01 prints them: which they are, and the m and W that they
-- have.
use Rattle.std.specs.Prelude.{◌≡◌, ◌↔◌, List, ℤ}
use Rattle.integer.specs.Fraction.{◌over◌}
use Rattle.scope.specs.Claim.{claim_layout, multiplier}
use Rattle.scope.specs.Statements.{LinesSound, MeshSound, HasMultipliers}
use Rattle.scope.specs.Accepted.{MultipliersAccepted}
use Rattle.scope.specs.Parts.{allowed}
use Rattle.scope.specs.PrintedColumns.{MultipliersPrinted, printed_live, printed_limit}

pub record MultipliersAsPrinted (m c : List ℤ) : Type 0 where
  pub exactly : MultipliersAccepted m c
      ↔ (MeshSound m × LinesSound (claim_layout m) c × HasMultipliers c × MultipliersPrinted m (multiplier m c))
  -- "The limit is W/m"
  pub limit : MultipliersAccepted m c
      → allowed m c ≡ printed_limit m (multiplier m c) over printed_live m (multiplier m c)
