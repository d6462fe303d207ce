-- What an accepted field promises at each strength pair of its mesh: the criterion (001, eq. 12) for a friction angle
-- whose sine is p/h and whose cosine is q/h, with true stresses over n, or for a soil by direction (document 02, N14)
-- the strength of each plane of the first half turn; and at each jump the same traction.
use Rattle.std.specs.Prelude.{◌≡◌, List, ℕ, ◌<◌, ℤ, pos, ◌+ℤ◌, ◌*ℤ◌, ◌≤ℤ◌, ◌<ℤ◌}
use Rattle.integer.specs.Members.{◌∈◌}
use Rattle.scope.specs.Columns.{n}
use Rattle.scope.specs.Mesh.{elements, sides, jumps, element_soil, p, q, h, ByDirection}
use Rattle.scope.specs.Polygon.{Point, half_turn, polygon_of}
use Rattle.scope.specs.Rows.{Pair, strength_pairs}
use Rattle.scope.specs.Claim.{stress}
use Rattle.scope.specs.Criterion.{CriterionAt}
use Rattle.scope.specs.Pairs.{HasCorner}
use Rattle.scope.specs.Jumps.{SameTraction}
use Rattle.scope.specs.Planes.{PlaneHoldsAt}

pub record MeetsCriterion (m c : List ℤ) (a : Pair) : Type 0 where
  pub n_above_0 : pos 0 <ℤ n c
  pub right_angle : p m a.soil *ℤ p m a.soil +ℤ q m a.soil *ℤ q m a.soil ≡ h m a.soil *ℤ h m a.soil
  pub p_not_below_0 : pos 0 ≤ℤ p m a.soil
  pub q_above_0 : pos 0 <ℤ q m a.soil
  pub h_above_0 : pos 0 <ℤ h m a.soil
  pub criterion : CriterionAt m (stress m c) (n c) a

-- for each pair whose soil is not by direction: "A field that meets these rows may lie outside the criterion, which is
-- no longer claimed for such a soil's pairs" (document 02, N14)
abbrev pub CriterionEverywhere : List ℤ → List ℤ → Type 0
CriterionEverywhere m c = (a : Pair) → a ∈ strength_pairs m → ¬ ByDirection m a.soil → MeetsCriterion m c a

-- so "soft clay under fill" has its own strength: at each node, for the soil of every element around it
abbrev pub CriterionAround : List ℤ → List ℤ → Type 0
CriterionAround m c = (v e : ℕ) → e < elements m → HasCorner m v e → ¬ ByDirection m (element_soil m e)
    → MeetsCriterion m c (record { at = v; soil = element_soil m e })

-- for the others: on each plane of the first half turn the shear stress is within the cohesion of that plane less the
-- friction
abbrev pub PlanesEverywhere : List ℤ → List ℤ → Type 0
PlanesEverywhere m c = (a : Pair) → a ∈ strength_pairs m → ByDirection m a.soil
    → (v : Point) → v ∈ half_turn (polygon_of (sides m)).corners → PlaneHoldsAt m (stress m c) (n c) a v

-- "while normal and shear agree" (document 02, N6): the traction on each joint is the same from both sides
abbrev pub TractionsAgree : List ℤ → List ℤ → Type 0
TractionsAgree m c = (j : ℕ) → j < jumps m → SameTraction m (stress m c) j
