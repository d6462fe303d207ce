-- The promises of the call on numbers applied to document 01's sheet and its neighbours: antt computes the answer, and
-- the promise says the rest. Those of document 02 are applied in `ShapesApplied`, `OverlapsApplied`, `Blends`,
-- `PromisesAppliedBeds` and, to one sheet with all of it, `MixedApplied`.
use mathlib.Core.Path.{◌≡◌, refl, ap, ◌∙◌}
use mathlib.Core.Logic.{inr}
use mathlib.Core.List.{List, [], ◌∷◌, ◌++◌}
use Prim.Native.Nat.{ℕ, suc}
use native.Mathlib.Omega.{arith}
use lib.Dec.{lt→ltb}
use lib.IntN.{ℤ, pos, negsuc, ◌*ℤ◌}
use lib.Signed.{lt_z_yes}
use lib.ListN.{length}
use Rattle.integer.proofs.Ring.{ring, terms}
use Rattle.integer.specs.Fraction.{◌over◌, ◌≈ᶠ◌, ◌≤ᶠ◌}
use Rattle.std.specs.Prelude.{Result}
use Rattle.scope.specs.declared.Place.TheVariants.{Line, Column}
use Rattle.scope.specs.declared.Refusal as Answered
use Rattle.integer.specs.Members.{◌∈◌}
use Rattle.scope.specs.Rows.{rows_of}
use Rattle.scope.specs.Sums.{live_sum, limit_sum}
use Rattle.scope.specs.Claim.{stress, multiplier}
use Rattle.scope.specs.Answer.{outcome_of, place_for, number_of, mesh_number_of, mesh_place_of}
use Rattle.scope.proofs.Computed.{computed}
use Rattle.scope.proofs.SameRows.{judged_as, judged, same_judged}
use Rattle.scope.specs.Refusals.{MeshRefusal, Refusal}
use Rattle.scope.specs.Verdict.{verdict}
use Rattle.scope.specs.Accepted.{FieldAccepted, MultipliersAccepted, ClaimAccepted}
use Rattle.scope.specs.Printed.{MeetsPrinted}
use Rattle.scope.specs.RefusedRows.{Lowest, None}
use Rattle.scope.specs.RefusedColumns.{UnfixedWeighed, ColumnFails}
use Rattle.scope.specs.AcceptedField.{MeetsCriterion}
use Rattle.scope.specs.Bracket.{Open, NoneOpen}
use Rattle.scope.specs.Fractions.{Fraction, FractionField, field_over}
use Rattle.scope.specs.AcceptedFractions.{MeetsMesh}
use Rattle.scope.specs.Parts.{carried, SameRows, NumberOf, PartsBracket}
use Rattle.scope.specs.Worked.{zeros, worked_mesh, worked_stresses, worked_multipliers, worked_claim, multipliers_alone}
use Rattle.scope.specs.Worked.{sheet, sheet19, sheet29, free_shear}
use Rattle.scope.proofs.Printed.{field-printed}
use Rattle.scope.proofs.Applied.{free_field, free_rows}
use Rattle.scope.specs.Tests.{row_at}
use Rattle.scope.specs.Mesh.{element_soil, ByDirection}
use Rattle.numbers.specs.declared.numbers_answer.NumbersAnswer.{NumbersAnswer}
use Rattle.numbers.specs.Promises.{Answers, CallsBracket, returned_numbers, TellsField, FieldInFractions, MeshAnswered}
use Rattle.numbers.proofs.Promises.{mesh_answered_exactly, returned, returns_zero_exactly, refuses_exactly}
use Rattle.numbers.proofs.Promises.{numbers_listed, rows_refused, field_exactly, multipliers_exactly}
use Rattle.numbers.proofs.Promises.{criterion_for_each_pair}
use Rattle.numbers.proofs.Reported.{field-reported}
use Rattle.numbers.proofs.Reported.{multipliers_reported, open_rows_reported, field_in_fractions, calls_bracket}
use Rattle.numbers.proofs.Reported.{call_bracket, accepted_parts, fractions_bracket}

-- ---- what is answered

-- the sheet: 20 carried, 600/30 allowed, no row open
abbrev pub sheet_answer : NumbersAnswer
sheet_answer = record {
  number = 0;
  place = 0;
  field = 1;
  multipliers = 1;
  l = pos 20;
  n = pos 1;
  w = pos 600;
  m = pos 30;
  open_rows = 0;
}

pub sheet-answered : Answers worked_mesh sheet sheet_answer
unfolding computed zeros worked_mesh worked_stresses worked_multipliers worked_claim sheet
sheet-answered = refl

-- l 19, sy -19: two open rows
abbrev pub answer19 : NumbersAnswer
answer19 = record {
  number = 0;
  place = 0;
  field = 1;
  multipliers = 1;
  l = pos 19;
  n = pos 1;
  w = pos 600;
  m = pos 30;
  open_rows = 2;
}

pub nineteen_answered : Answers worked_mesh sheet19 answer19
unfolding computed zeros worked_mesh worked_stresses worked_multipliers worked_claim sheet19
nineteen_answered = refl

-- that with the -30 as -29: 32, column 7
abbrev pub answer29 : NumbersAnswer
answer29 = record {
  number = 32;
  place = 7;
  field = 0;
  multipliers = 0;
  l = pos 0;
  n = pos 0;
  w = pos 0;
  m = pos 0;
  open_rows = 0;
}

pub refused_answered : Answers worked_mesh sheet29 answer29
unfolding computed zeros worked_mesh worked_stresses worked_multipliers worked_claim sheet29
refused_answered = refl

-- the multipliers alone, on a mesh that has one soil more, which no element has: the same rows
unfoldable pub second_soil : List ℤ
second_soil =
    (pos 4 ∷ pos 1 ∷ pos 2 ∷ pos 3 ∷ pos 12 ∷ pos 0 ∷ [])
    ++ (pos 0 ∷ pos 1 ∷ pos 1 ∷ pos 10 ∷ zeros 6)
    ++ (pos 3 ∷ pos 4 ∷ pos 5 ∷ pos 7 ∷ zeros 6)
    ++ (pos 0 ∷ pos 0 ∷ pos 1 ∷ pos 0 ∷ pos 1 ∷ pos 1 ∷ pos 0 ∷ pos 1 ∷ [])
    ++ (pos 1 ∷ pos 2 ∷ pos 3 ∷ pos 4 ∷ pos 1 ∷ [])
    ++ (pos 3 ∷ pos 4 ∷ pos 3 ∷ pos 0 ∷ pos 0 ∷ negsuc 0 ∷ pos 0 ∷ [])
    ++ (pos 2 ∷ pos 3 ∷ pos 3 ∷ zeros 4)
    ++ (pos 4 ∷ pos 1 ∷ pos 3 ∷ zeros 4)

abbrev pub alone_answer : NumbersAnswer
alone_answer = record {
  number = 0;
  place = 0;
  field = 0;
  multipliers = 1;
  l = pos 0;
  n = pos 0;
  w = pos 600;
  m = pos 30;
  open_rows = 0;
}

pub alone_answered : Answers second_soil multipliers_alone alone_answer
unfolding computed zeros worked_stresses worked_multipliers multipliers_alone second_soil
alone_answered = refl

pub same_rows : SameRows worked_mesh second_soil
unfolding computed zeros worked_mesh second_soil judged_as judged
same_rows = same_judged worked_mesh second_soil refl

-- ---- demand 2

pub sheet_accepted : ClaimAccepted worked_mesh sheet
sheet_accepted = (returns_zero_exactly worked_mesh sheet 0 0 (returned sheet-answered)).exactly.0 refl

pub refused_column-7 : Refusal worked_mesh sheet29 32 (Column 7)
unfolding place_for
refused_column-7 = ((refuses_exactly worked_mesh sheet29 32 7 (returned refused_answered)).exactly 32 7
    (λ e. omega arith)).0 (refl, refl)

-- no row has 31, and no column below 7 has a sum other than 0
pub column_7 : None (UnfixedWeighed worked_mesh sheet29) × Lowest (ColumnFails worked_mesh sheet29) 7
column_7 = (rows_refused worked_mesh sheet29 32 7 (returned refused_answered)).column refl

-- 1 on the shear of the third edge at its from-node, which is row 12 and unfixed
unfoldable pub on_free_shear : List ℤ
on_free_shear = (pos 0 ∷ pos 1 ∷ pos 0 ∷ pos 0 ∷ []) ++ zeros 11 ++ (pos 1 ∷ zeros 50)

abbrev answer31 : NumbersAnswer
answer31 = record {
  number = 31;
  place = 12;
  field = 0;
  multipliers = 0;
  l = pos 0;
  n = pos 0;
  w = pos 0;
  m = pos 0;
  open_rows = 0;
}

unfixed_answered : Answers (free_shear (pos 0)) on_free_shear answer31
unfolding computed zeros free_shear on_free_shear
unfixed_answered = refl

pub unfixed_12 : Lowest (UnfixedWeighed (free_shear (pos 0)) on_free_shear) 12
unfixed_12 = (rows_refused (free_shear (pos 0)) on_free_shear 31 12 (returned unfixed_answered)).unfixed refl

pub listed_32 : 32 ∈ returned_numbers
listed_32 = (numbers_listed worked_mesh sheet29 32 7 (returned refused_answered)).listed

-- 13 has line 1: a claim of neither part
neither_part : number_of (verdict worked_mesh (zeros 4)) ≡ 13
unfolding computed zeros worked_mesh
neither_part = refl

pub thirteen_at_line_1 : (r : NumbersAnswer) → Answers worked_mesh (zeros 4) r → r.place ≡ 1
thirteen_at_line_1 r a =
    (numbers_listed worked_mesh (zeros 4) r.number r.place (returned a)).line_one
    ((returned a).number_is ∙ neither_part)

-- 33 has column 0: multipliers that are all 0
unfoldable pub no_multipliers : List ℤ
no_multipliers = (pos 0 ∷ pos 1 ∷ pos 0 ∷ pos 0 ∷ []) ++ zeros 62

none_above_0 : number_of (verdict worked_mesh no_multipliers) ≡ 33
unfolding computed zeros worked_mesh no_multipliers
none_above_0 = refl

pub thirty_three_at_column_0 : (r : NumbersAnswer) → Answers worked_mesh no_multipliers r → r.place ≡ 0
thirty_three_at_column_0 r a =
    (numbers_listed worked_mesh no_multipliers r.number r.place (returned a)).column_zero
    ((returned a).number_is ∙ none_above_0)

-- the field of the refused claim
pub tells_field : TellsField sheet29 32
unfolding computed zeros worked_stresses worked_multipliers worked_claim sheet29
tells_field = (refl, inr (omega arith, omega arith))

pub field_of_refused : FieldAccepted worked_mesh sheet29
field_of_refused = (field_exactly worked_mesh sheet29 32 7 (returned refused_answered)).told.1 tells_field

pub alone_accepted : MultipliersAccepted second_soil multipliers_alone
unfolding computed zeros worked_stresses worked_multipliers multipliers_alone
alone_accepted = ((multipliers_exactly second_soil multipliers_alone 0 0 (returned alone_answered)).told.0
    (refl, refl)).0

pub sheet-carried : MeetsPrinted worked_mesh (stress worked_mesh sheet) (pos 20) (pos 1)
unfolding computed zeros worked_stresses worked_multipliers worked_claim sheet
sheet-carried = ((field-reported worked_mesh sheet sheet_answer sheet-answered).carries refl).1

-- m = 30, W = 600
pub sheet-limit : (pos 600 ≡ limit_sum (multiplier worked_mesh sheet) (rows_of worked_mesh))
    × (pos 30 ≡ live_sum (multiplier worked_mesh sheet) (rows_of worked_mesh))
sheet-limit = (multipliers_reported worked_mesh sheet sheet_answer sheet-answered).limit refl

no_kind-1 : ¬ ByDirection worked_mesh (element_soil worked_mesh 0)
unfolding computed zeros worked_mesh
no_kind-1 e = let z : ◌≡◌ {A = ℕ} 0 1 = cc in omega arith

pub criterion_at-node-3 : MeetsCriterion worked_mesh sheet29 (record { at = 2; soil = 0 })
unfolding computed zeros worked_mesh
criterion_at-node-3 = (criterion_for_each_pair worked_mesh sheet29 32 7 (returned refused_answered) tells_field).around
    2 0 (omega arith) (2, omega arith, refl) no_kind-1

-- ---- demand 3

-- one claim: 20/1 and 600/30 are equal, since no row is open
pub sheet_closed : pos 20 over pos 1 ≈ᶠ pos 600 over pos 30
unfolding computed zeros worked_stresses worked_multipliers worked_claim sheet carried
sheet_closed = ((open_rows_reported worked_mesh sheet sheet_answer sheet-answered).closed refl refl).0 refl

sheet-bracket : CallsBracket worked_mesh sheet worked_mesh sheet sheet_answer sheet_answer
sheet-bracket = call_bracket sheet-answered refl refl

pub sheet_none_open : NoneOpen (stress worked_mesh sheet) (pos 20) (pos 1) (multiplier worked_mesh sheet)
    (rows_of worked_mesh)
unfolding computed zeros worked_stresses worked_multipliers worked_claim sheet carried
sheet_none_open = sheet-bracket.equal.0 sheet_closed

-- the two open rows of l 19
pub nineteen_open : NumberOf (λ k. Open (stress worked_mesh sheet19) (pos 19) (pos 1) (multiplier worked_mesh sheet19 k)
    (row_at (rows_of worked_mesh) k)) (length (rows_of worked_mesh)) 2
unfolding computed zeros worked_stresses worked_multipliers worked_claim sheet19
nineteen_open = (open_rows_reported worked_mesh sheet19 answer19 nineteen_answered).count refl refl

-- two claims on two meshes with the same rows
nineteen_bracket : CallsBracket worked_mesh sheet19 second_soil multipliers_alone answer19 alone_answer
nineteen_bracket = calls_bracket nineteen_answered alone_answered same_rows refl refl

pub nineteen_alone : pos 19 over pos 1 ≤ᶠ pos 600 over pos 30
unfolding computed zeros worked_stresses worked_multipliers worked_claim sheet19 carried
nineteen_alone = nineteen_bracket.at_most

-- the field of the refused claim against them
pub refused_alone : PartsBracket worked_mesh sheet29 second_soil multipliers_alone
refused_alone = accepted_parts refused_answered same_rows tells_field alone_accepted

-- the field of l 19 in fractions, over another denominator in each column: 1 to 12
unfoldable pub fraction : ℤ → ℕ → Fraction
fraction a d = record {
  value = a over pos (suc d);
  proper = record { positive = record { lt = lt→ltb 0 (suc d) (omega arith) } };
}

unfoldable pub fractions : FractionField
fractions = record {
  stress = λ j. fraction (stress worked_mesh sheet19 j *ℤ pos (suc j)) j;
  load = fraction (pos 38) 1;
}

nineteen_carried : MeetsPrinted worked_mesh (stress worked_mesh sheet19) (pos 19) (pos 1)
unfolding computed zeros worked_stresses worked_multipliers worked_claim sheet19
nineteen_carried = ((field-reported worked_mesh sheet19 answer19 nineteen_answered).carries refl).1

pub fractions_meet : MeetsMesh worked_mesh fractions
unfolding fraction fractions
fractions_meet = record {
  denominator = pos 1;
  numerators = stress worked_mesh sheet19;
  numerator = pos 19;
  written = record {
    above_0 = lt_z_yes tt;
    stresses = λ j b. record {
      cross-≡ = ring (stress worked_mesh sheet19 j ∷ pos (suc j) ∷ []) (search terms depth 100)
          refl;
    };
    load = record { cross-≡ = refl };
  };
  meets = (field-printed worked_mesh (stress worked_mesh sheet19) (pos 19) (pos 1)).1
      nineteen_carried;
}

pub fractions_at_most : pos 38 over pos 2 ≤ᶠ pos 600 over pos 30
unfolding fraction fractions
fractions_at_most = (fractions_bracket alone_answered refl worked_mesh sheet_accepted.mesh same_rows).at_most fractions
    fractions_meet

-- the field of the sheet itself is one
pub sheet_in_fractions : FieldInFractions worked_mesh sheet
sheet_in_fractions = field_in_fractions worked_mesh sheet sheet_answer sheet-answered refl

-- two meshes that differ in a number of an unfixed part: the field of l 19 on the one, the sheet's multipliers on the
-- other
pub free_nineteen : Answers (free_shear (pos 0)) sheet19 answer19
unfolding computed zeros free_shear worked_stresses worked_multipliers worked_claim sheet19
free_nineteen = refl

pub free_sheet : Answers (free_shear (pos 5)) sheet sheet_answer
unfolding computed zeros free_shear worked_stresses worked_multipliers worked_claim sheet
free_sheet = refl

free_bracket : CallsBracket (free_shear (pos 0)) sheet19 (free_shear (pos 5)) sheet answer19 sheet_answer
free_bracket = calls_bracket free_nineteen free_sheet free_rows refl refl

pub free_calls : pos 19 over pos 1 ≤ᶠ pos 600 over pos 30
unfolding computed zeros worked_stresses worked_multipliers worked_claim sheet19 carried
free_calls = free_bracket.at_most

-- the same field in fractions
pub free_fractions : pos 19 over pos 1 ≤ᶠ pos 600 over pos 30
unfolding computed zeros worked_stresses worked_multipliers worked_claim sheet19
free_fractions =
    let field = field_in_fractions (free_shear (pos 0)) sheet19 answer19 free_nineteen refl in
    (fractions_bracket {d = free_shear (pos 5)} {k = sheet} {s = sheet_answer} free_sheet refl (free_shear (pos 0))
    free_field.mesh free_rows).at_most
    (field_over (pos 1) field.above_0 (stress (free_shear (pos 0)) sheet19) (pos 19)) field.meets

-- ---- a mesh alone

-- the sheet's mesh has the number 0
pub sheet_mesh_passes : {A : Type 0} (r : Result A Answered.Refusal) → MeshAnswered worked_mesh r
    → mesh_number_of (outcome_of r) ≡ 0
sheet_mesh_passes r h = (mesh_answered_exactly worked_mesh r h).passes.1 sheet_accepted.mesh

-- a header that asks for 101 nodes: 2, line 1
unfoldable pub many_nodes : List ℤ
many_nodes = pos 101 ∷ pos 1 ∷ pos 1 ∷ pos 0 ∷ pos 12 ∷ pos 0 ∷ []

many_nodes_number : {A : Type 0} (r : Result A Answered.Refusal) → MeshAnswered many_nodes r
    → (mesh_number_of (outcome_of r) ≡ 2) × (mesh_place_of (outcome_of r) ≡ 1)
unfolding computed many_nodes
many_nodes_number r h = (ap mesh_number_of h, ap mesh_place_of h)

pub many_nodes_refused : {A : Type 0} (r : Result A Answered.Refusal) → MeshAnswered many_nodes r
    → MeshRefusal many_nodes 2 (Line 1)
unfolding place_for
many_nodes_refused r h = ((mesh_answered_exactly many_nodes r h).refuses 2 1 (λ e. omega arith)).0
    (many_nodes_number r h)
