-- Strength by direction applied to bedded clay (document 02, N14): antt computes what passes, and the theorems say the
-- rest.
use mathlib.Core.Path.{◌≡◌, refl}
use lib.IntN.{pos}
use Rattle.integer.specs.Fraction.{◌≈ᶠ◌}
use Rattle.scope.specs.declared.Place.TheVariants.{Line, Row as PlaceRow}
use Rattle.scope.specs.Cases.Outcome.{Refused as Fails}
use Rattle.scope.specs.Cases.Load.{Absent, Exact}
use Rattle.scope.specs.Cases.OpenRows.{Count}
use Rattle.scope.specs.Cases.Verdict.{Accepted, Refused}
use Rattle.scope.specs.Columns.{n}
use Rattle.scope.specs.Claim.{stress}
use Rattle.scope.specs.Verdict.{mesh_check, verdict}
use Rattle.scope.specs.Accepted.{FieldAccepted, MultipliersAccepted}
use Rattle.scope.specs.AcceptedField.{PlanesEverywhere}
use Rattle.scope.specs.Criterion.{CriterionAt}
use Rattle.scope.specs.Parts.{carried, allowed}
use Rattle.scope.specs.Worked.{zeros, worked_stresses, worked_multipliers, worked_claim, sheet, beds, on_beds}
use Rattle.scope.specs.Worked.{unused_beds}
use Rattle.scope.proofs.Computed.{computed}
use Rattle.scope.proofs.AcceptedField.{planes_everywhere}
use Rattle.scope.proofs.Applied.{field_accepted, multipliers_accepted}
use Rattle.scope.proofs.Parts.{open_rows_count}

-- ---- ch = cv = 10: 250/12 is carried and allowed, where the same square without directions carries 20; no load is
-- told

pub bedded_field : FieldAccepted (beds 12 1 1 10) (on_beds 125)
unfolding computed zeros worked_stresses beds on_beds
bedded_field = field_accepted (beds 12 1 1 10) (on_beds 125) refl refl refl refl

pub bedded_multipliers : MultipliersAccepted (beds 12 1 1 10) (on_beds 125)
unfolding computed zeros worked_stresses beds on_beds
bedded_multipliers = multipliers_accepted (beds 12 1 1 10) (on_beds 125) refl refl refl refl

pub bedded_closed : carried (on_beds 125) ≈ᶠ allowed (beds 12 1 1 10) (on_beds 125)
unfolding computed zeros worked_stresses beds on_beds
bedded_closed = ((open_rows_count (beds 12 1 1 10) (on_beds 125) bedded_field bedded_multipliers).none).0 refl

pub bedded_verdict : verdict (beds 12 1 1 10) (on_beds 125) ≡ Accepted (Count 0) Absent (Exact (pos 500) (pos 24))
unfolding computed zeros worked_stresses beds on_beds
bedded_verdict = refl

pub bedded_planes : PlanesEverywhere (beds 12 1 1 10) (on_beds 125)
bedded_planes = planes_everywhere (beds 12 1 1 10) (on_beds 125) bedded_field

-- "A field that meets these rows may lie outside the criterion": 125² is above 120²
pub outside_criterion : ¬ CriterionAt (beds 12 1 1 10) (stress (beds 12 1 1 10) (on_beds 125)) (n (on_beds 125))
    (record { at = 0; soil = 0 })
unfolding computed zeros worked_stresses beds on_beds
outside_criterion h = h.squares.le

-- one more is beyond row 4 of node 1, pN - qT of the plane (4, 3)
pub bedded_beyond : verdict (beds 12 1 1 10) (on_beds 126) ≡ Refused 22 (PlaceRow 4)
unfolding computed zeros worked_stresses beds on_beds
bedded_beyond = refl

-- ---- cv = ch/2: 170/12; with ch and cv exchanged that plane would have 205

pub half_verdict : verdict (beds 12 1 1 5) (on_beds 85) ≡ Accepted (Count 0) Absent (Exact (pos 340) (pos 24))
unfolding computed zeros worked_stresses beds on_beds
half_verdict = refl

pub half_beyond : verdict (beds 12 1 1 5) (on_beds 86) ≡ Refused 22 (PlaceRow 4)
unfolding computed zeros worked_stresses beds on_beds
half_beyond = refl

-- ---- kind 0: its cv is read by nothing; a bedded soil that no element has leaves the rows and takes the lower load

pub kind_zero : verdict (beds 12 1 0 5) sheet ≡ Accepted (Count 0) (Exact (pos 20) (pos 1)) (Exact (pos 600) (pos 30))
unfolding computed zeros worked_stresses worked_multipliers worked_claim sheet beds
kind_zero = refl

pub unused_verdict : verdict unused_beds sheet ≡ Accepted (Count 0) Absent (Exact (pos 600) (pos 30))
unfolding computed zeros worked_stresses worked_multipliers worked_claim sheet unused_beds
unused_verdict = refl

-- ---- 2 with the soil's line: kind 2, cv beyond its limit, kind 1 with 108 sides, before 3; and 3 is asked of kind 1
-- too

pub refused_kinds : (mesh_check (beds 12 1 2 0) ≡ Fails 2 (Line 2))
    × (mesh_check (beds 12 1 0 10001) ≡ Fails 2 (Line 2))
    × (mesh_check (beds 108 1 1 0) ≡ Fails 2 (Line 2)) × (mesh_check (beds 108 2 1 0) ≡ Fails 2 (Line 2))
    × (mesh_check (beds 12 2 1 0) ≡ Fails 3 (Line 2))
unfolding computed zeros beds
refused_kinds = (refl, refl, refl, refl, refl)
