-- The promises of strength by direction (document 02, N14) applied to bedded clay, to document 01's sheet, and to that
-- sheet with a bedded soil that no element has: antt computes the answer, and the promise says the rest.
use mathlib.Core.Path.{◌≡◌, refl}
use mathlib.Core.Logic.{inl}
use mathlib.Core.List.Memᴰ
use mathlib.Core.List.{List}
use Prim.Native.Nat.{ℕ, zero, suc}
use native.Mathlib.Omega.{arith}
use lib.IntN.{ℤ, pos}
use Rattle.integer.specs.Fraction.{◌over◌, ◌≈ᶠ◌}
use Rattle.scope.specs.Claim.{stress}
use Rattle.scope.specs.Mesh.{ByDirection, ListsDirection, element_soil}
use Rattle.scope.specs.Polygon.{point}
use Rattle.scope.specs.AcceptedField.{MeetsCriterion}
use Rattle.scope.specs.Planes.{PlaneHoldsAt}
use Rattle.scope.specs.Parts.{carried}
use Rattle.scope.specs.Worked.{zeros, worked_mesh, worked_stresses, worked_multipliers, worked_claim, sheet, beds}
use Rattle.scope.specs.Worked.{on_beds, unused_beds}
use Rattle.scope.proofs.Computed.{computed}
use Rattle.numbers.specs.declared.numbers_answer.NumbersAnswer.{NumbersAnswer}
use Rattle.numbers.specs.Promises.{Answers, Returned}
use Rattle.numbers.proofs.Promises.{returned, criterion_for_each_pair, directions_asked}
use Rattle.numbers.proofs.Reported.{field-reported, open_rows_reported}

-- ---- ch = cv = 10: 125/6 is carried and not told; 500/24 is allowed, and no row is open

abbrev bedded : List ℤ
bedded = beds 12 1 1 10

abbrev pub bedded_answer : NumbersAnswer
bedded_answer = record
    { number = 0; place = 0; field = 1; multipliers = 1; l = pos 0; n = pos 0; w = pos 500; m = pos 24; open_rows = 0 }

pub bedded_answered : Answers bedded (on_beds 125) bedded_answer
unfolding computed zeros worked_stresses beds on_beds
bedded_answered = refl

pub bedded_untold : {r : NumbersAnswer} → Answers bedded (on_beds 125) r → (r.l ≡ pos 0) × (r.n ≡ pos 0)
unfolding computed zeros beds
bedded_untold {r} h = (field-reported bedded (on_beds 125) r h).untold (0, omega arith, refl)

pub bedded_closed : pos 125 over pos 6 ≈ᶠ pos 500 over pos 24
unfolding computed zeros worked_stresses beds on_beds carried
bedded_closed = ((open_rows_reported bedded (on_beds 125) bedded_answer bedded_answered).closed refl refl).0 refl

bedded_returned : Returned bedded (on_beds 125) 0 0
bedded_returned = returned bedded_answered

-- the plane (4, 3) at node 1
pub bedded_plane : PlaneHoldsAt bedded (stress bedded (on_beds 125)) (pos 6) (record { at = 0; soil = 0 })
    (point (pos 4) (pos 3))
unfolding computed zeros worked_stresses beds on_beds
bedded_plane =
    (directions_asked bedded (on_beds 125) 0 0 bedded_returned).accepted (refl, inl refl) (record { at = 0; soil = 0 })
    (Memᴰ.head refl) refl (point (pos 4) (pos 3))
    (Memᴰ.tail (Memᴰ.head refl))

-- ---- the sheet with a bedded soil that no element has: no load is told, and its pairs still meet the criterion

abbrev pub unused_answer : NumbersAnswer
unused_answer = record
    { number = 0; place = 0; field = 1; multipliers = 1; l = pos 0; n = pos 0; w = pos 600; m = pos 30; open_rows = 0 }

pub unused_answered : Answers unused_beds sheet unused_answer
unfolding computed zeros worked_stresses worked_multipliers worked_claim sheet unused_beds
unused_answered = refl

pub unused_untold : {r : NumbersAnswer} → Answers unused_beds sheet r → (r.l ≡ pos 0) × (r.n ≡ pos 0)
unfolding computed zeros unused_beds
unused_untold {r} h = (field-reported unused_beds sheet r h).untold (1, omega arith, refl)

no_kind_1 : ¬ ByDirection unused_beds (element_soil unused_beds 0)
unfolding computed zeros unused_beds
no_kind_1 e = let z : ◌≡◌ {A = ℕ} 0 1 = cc in omega arith

unused_returned : Returned unused_beds sheet 0 0
unused_returned = returned unused_answered

pub unused_criterion : MeetsCriterion unused_beds sheet (record { at = 2; soil = 0 })
unfolding computed zeros worked_stresses worked_multipliers worked_claim sheet unused_beds
unused_criterion = (criterion_for_each_pair unused_beds sheet 0 0 unused_returned (refl, inl refl)).around 2 0
    (omega arith) (2, omega arith, refl) no_kind_1

-- ---- the sheet: its load is told

none_listed : ¬ ListsDirection worked_mesh
unfolding computed zeros worked_mesh
none_listed (zero, h, e) = let z : ◌≡◌ {A = ℕ} 0 1 = cc in omega arith
none_listed (suc s, h, e) = absurd (omega arith)

pub sheet_told : {r : NumbersAnswer} → Answers worked_mesh sheet r → r.field ≡ 1 → (r.l ≡ pos 20) × (r.n ≡ pos 1)
unfolding computed zeros worked_stresses worked_multipliers worked_claim sheet
sheet_told {r} h e = (field-reported worked_mesh sheet r h).load e none_listed
