-- What is said of a mesh and a claim: the open rows, the lower load l/n and the upper load W/m of an accepted claim, or
-- a refusal's number and place.
use Rattle.std.specs.Prelude.{ℕ}
use Rattle.scope.specs.declared.Place.{Place}
use Rattle.scope.specs.Cases.OpenRows.{OpenRows}
use Rattle.scope.specs.Cases.Load.{Load}

pub data Verdict : Type 0 where
  Accepted : OpenRows → Load → Load → Verdict
  Refused : ℕ → Place → Verdict
