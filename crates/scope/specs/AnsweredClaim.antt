-- When a mesh and a claim are accepted, and when each refusal comes (document 01, 'Verdict and report'): the verdict,
-- which is computed from tests, against the plain statements.
use Rattle.std.specs.Prelude.{◌≡◌, ◌↔◌, List, ℕ, ℤ}
use Rattle.scope.specs.declared.Place.{Place}
use Rattle.scope.specs.Cases.Verdict.{Accepted, Refused}
use Rattle.scope.specs.Answer.{number_of}
use Rattle.scope.specs.Claim.{claim_layout}
use Rattle.scope.specs.Statements.{LinesSound, MeshSound, HasField, HasMultipliers}
use Rattle.scope.specs.Refusals.{Refusal}
use Rattle.scope.specs.Verdict.{open_count, lower_load, upper_load, verdict}
use Rattle.scope.specs.Accepted.{FieldAccepted, MultipliersAccepted, ClaimAccepted}

-- accepted, with the claim's own open rows and loads, exactly when mesh and claim are sound and each part that is
-- there meets what is asked
abbrev pub AcceptedExactly : List ℤ → List ℤ → Type 0
AcceptedExactly m c = (verdict m c ≡ Accepted (open_count m c) (lower_load m c) (upper_load m c)) ↔ ClaimAccepted m c

-- each refusal with its place exactly when the table has it, in its order
abbrev pub RefusedExactly : List ℤ → List ℤ → Type 0
RefusedExactly m c = (k : ℕ) (p : Place) → (verdict m c ≡ Refused k p) ↔ Refusal m c k p

-- "Accepted returns 0"
abbrev pub ZeroExactly : List ℤ → List ℤ → Type 0
ZeroExactly m c = (number_of (verdict m c) ≡ 0) ↔ ClaimAccepted m c

-- "a claim, when each part that it has is" accepted
abbrev pub ByParts : List ℤ → List ℤ → Type 0
ByParts m c =
    ClaimAccepted m c
    ↔ (MeshSound m × LinesSound (claim_layout m) c × (HasField c → FieldAccepted m c)
    × (HasMultipliers c → MultipliersAccepted m c))
