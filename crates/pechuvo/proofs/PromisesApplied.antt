-- The promises of the check of files, without a table, applied to document 01's sheets as bytes, with six decimals;
-- those of document 02 to a seam of clay (N2), to other decimals (N5) and to two blocks on a joint (N6) too. antt
-- computes what is returned and written, and the promise says the rest. Loads compared are in `LoadsApplied`.
use mathlib.Core.Path.{◌≡◌, refl, ◌∙◌, subst}
use mathlib.Core.Logic.{inl, inr, ◌≢◌}
use mathlib.Core.List.Memᴰ
use mathlib.Core.List.{List, [], ◌∷◌, ◌++◌}
use mathlib.Core.Option.{some}
use Prim.Native.Nat.{ℕ, zero, suc, ◌+◌, ◌*◌, ◌<◌, ◌≤◌}
use native.Mathlib.Omega.{arith}
use lib.IntN.{ℤ, pos, negsuc}
use lib.Signed.{<ℤ_irrefl}
use lib.ListN.{length, take, drop, replicate, get_or, length-replicate}
use Rattle.scope.specs.declared.Place.TheVariants.{Column}
use Rattle.integer.specs.Members.{◌∈◌}
use Rattle.scope.specs.Columns.{n, l}
use Rattle.scope.specs.Mesh.{mesh_layout, elements, edges, sides, corner, element_soil, from_node, jumps, ByDirection}
use Rattle.scope.specs.Mesh.{ListsDirection}
use Rattle.scope.specs.Polygon.{polygon_of, SidesListed}
use Rattle.scope.specs.Rows.{Pair, pair_count, pair_at}
use Rattle.scope.specs.Printed.{nth_side}
use Rattle.scope.proofs.RefusedRows.{normal_from_fails, side_fails}
use Rattle.scope.specs.Pairs.{Before}
use Rattle.scope.specs.Claim.{claim_layout, stress}
use Rattle.scope.specs.Statements.{HasField, HasMultipliers}
use Rattle.scope.specs.Answer.{place_for, number_of, place_of}
use Rattle.scope.specs.Refusals.{Refusal}
use Rattle.scope.specs.Accepted.{FieldAccepted, MultipliersAccepted, ClaimAccepted}
use Rattle.scope.specs.Printed.{NormalAt, StrengthAt}
use Rattle.scope.specs.AcceptedField.{MeetsCriterion}
use Rattle.scope.specs.Jumps.{SameTraction}
use Rattle.numbers.specs.Promises.{TellsField}
use Rattle.reader.specs.File.{file_of, file_width}
use Rattle.reader.specs.WellFormed.{FormFails}
use Rattle.report.specs.Text.{word, number as shows, before_point, after_point, decimal, said_number, below_zero}
use Rattle.report.specs.Text.{said_minus, and_said, signed_decimal, is_none, said}
use Rattle.report.specs.Report.{report_bytes, report_line, most_decimals, Decimals, usual_decimals}
use Rattle.report.specs.Says.{column_of, LineSays}
use Rattle.report.proofs.BufferLaws.{these_decimals}
use Rattle.judge.specs.Judge.{files_verdict}
use Rattle.judge.specs.Form.{MeshFormFails}
use Rattle.judge.specs.Handed.{mesh_of, claim_of}
use Rattle.pechuvo.specs.Check.{most_file_bytes, check}
use Rattle.pechuvo.specs.Sheets.{Sheet, sheet, starred, seam_mesh, seam_fault, joint_mesh, joint_blocks}
use Rattle.pechuvo.specs.Sheets.{two_thirds_mesh, two_thirds_claim, with_decimals}
use Rattle.pechuvo.specs.Answers.{Answers, AnswersOn}
use Rattle.pechuvo.specs.Promises.{mesh_in, mesh_with, claim_in, MeshAccepted, Room, LowerPrinted, UpperPrinted}
use Rattle.pechuvo.specs.Promises.{Millionths, TextsFit}
use Rattle.pechuvo.proofs.Sheets.{computed_line}
use Rattle.pechuvo.proofs.Promises.{on_mesh, prints_columns, millionths, texts_fit}
use Rattle.pechuvo.proofs.TablePromises.{no_table_file, any_files, starred-written}
use Rattle.pechuvo.proofs.FilePromises.{long_files, form_exactly, accepted_files}

-- for proofs by computation: besides the definitions that make a line, those that read its columns and those that say
-- what was handed over
unfoldable pub opened : Unit {0}
unfolding computed_line before_point after_point decimal said_number below_zero said_minus and_said signed_decimal
    is_none said column_of mesh_of claim_of two_thirds_mesh two_thirds_claim with_decimals
opened = tt

-- sheet k of the starred ones, counted from 0, and a buffer of 113 bytes
abbrev pub at : ℕ → Sheet
at k = get_or starred k (sheet "" "" "")

abbrev pub room : List ℕ
room = replicate report_bytes 0

-- ---- what is answered

-- the sheet; l 19; the -30 as -29; the empty mesh; 1/3

pub sheet-answered : Answers (at 0).mesh [] (at 0).claim (pos 6) room 0 0 (at 0).line
unfolding opened
sheet-answered = record { number_is = refl; place_is = refl; buffer_is = refl }

pub nineteen_file : Answers (at 1).mesh [] (at 1).claim (pos 6) room 0 0 (at 1).line
unfolding opened
nineteen_file = record { number_is = refl; place_is = refl; buffer_is = refl }

pub refused_answered : Answers (at 4).mesh [] (at 4).claim (pos 6) room 32 7 (at 4).line
unfolding opened
refused_answered = record { number_is = refl; place_is = refl; buffer_is = refl }

pub row_3-answered : Answers (at 3).mesh [] (at 3).claim (pos 6) room 21 3 (at 3).line
unfolding opened
row_3-answered = record { number_is = refl; place_is = refl; buffer_is = refl }

pub empty_answered : Answers [] [] [] (pos 6) room 1 1 (at 5).line
unfolding opened
empty_answered = record { number_is = refl; place_is = refl; buffer_is = refl }

pub third_answered : Answers (at 7).mesh [] (at 7).claim (pos 6) room 0 0 (at 7).line
unfolding opened
third_answered = record { number_is = refl; place_is = refl; buffer_is = refl }

-- multipliers alone; the sheet's mesh with an empty claim
pub alone_file : Answers (at 9).mesh [] (at 9).claim (pos 6) room 0 0 (at 9).line
unfolding opened
alone_file = record { number_is = refl; place_is = refl; buffer_is = refl }

pub empty_claim : Answers (at 0).mesh [] [] (pos 6) room 11 1 (check (at 0).mesh [] [] (pos 6) room).buffer
unfolding opened
empty_claim = record { number_is = refl; place_is = refl; buffer_is = refl }

-- without a table a call is one on the mesh as it stands
pub plain : (mesh claim : List ℕ) {z : ℤ} {before : List ℕ} {number place : ℕ} {after : List ℕ}
    → Answers mesh [] claim z before number place after → AnswersOn (mesh_in mesh) claim z before number place after
plain mesh claim {z} {before} {number} {place} {after} h =
    ((no_table_file mesh).calls claim z before number place after).0 h

-- up to seven decimals, the buffer of 113 bytes has room; the parts are there
pub fits_with : (d : ℕ) → d ≤ most_decimals → Room (pos d) room
fits_with d h = record { decimals = these_decimals h; bytes = omega (arith, length-replicate {A = ℕ} report_bytes 0) }

six : Decimals (pos 6)
six = these_decimals (omega arith)

pub fits : Room (pos 6) room
fits = fits_with 6 (omega arith)

sheet_parts : HasField (claim_in (mesh_in (at 0).mesh) (at 0).claim)
    × HasMultipliers (claim_in (mesh_in (at 0).mesh) (at 0).claim)
unfolding opened
sheet_parts = (refl, refl)

pub nineteen_parts : HasField (claim_in (mesh_in (at 1).mesh) (at 1).claim)
    × HasMultipliers (claim_in (mesh_in (at 1).mesh) (at 1).claim)
unfolding opened
nineteen_parts = (refl, refl)

pub third_parts : HasField (claim_in (mesh_in (at 7).mesh) (at 7).claim)
    × HasMultipliers (claim_in (mesh_in (at 7).mesh) (at 7).claim)
unfolding opened
third_parts = (refl, refl)

-- ---- demand 1

-- "112 bytes: 41"
pub short_buffer : (number place : ℕ) (after : List ℕ) → Answers (at 0).mesh [] (at 0).claim (pos 6)
    (replicate 112 0) number place after → (number ≡ 41) × (place ≡ 0) × (after ≡ replicate 112 0)
short_buffer number place after h =
    (any_files (at 0).mesh [] (at 0).claim (pos 6) (replicate 112 0) number place after h).too_short six
    (omega (arith, length-replicate {A = ℕ} 112 0))

-- with room 41 never comes, and the number, the place and the line are the verdict's
pub never_41 : (number place : ℕ) (after : List ℕ) → Answers (at 0).mesh [] (at 0).claim
    (pos 6) room number place after → number ≢ 41
never_41 number place after h e = let short =
    ((any_files (at 0).mesh [] (at 0).claim (pos 6) room number place after h).only_then e).1 in omega
    (arith, fits.bytes)

pub sheet_returned : (0 ≡ number_of (files_verdict file_width (at 0).mesh [] (at 0).claim))
    × (0 ≡ place_of (files_verdict file_width (at 0).mesh [] (at 0).claim))
sheet_returned = (any_files (at 0).mesh [] (at 0).claim (pos 6) room 0 0 (at 0).line sheet-answered).returns fits

pub sheet_line : take report_bytes (at 0).line ≡ report_line 6 (files_verdict file_width (at 0).mesh [] (at 0).claim)
sheet_line = (any_files (at 0).mesh [] (at 0).claim (pos 6) room 0 0 (at 0).line sheet-answered).line fits

pub sheet_says : LineSays 6 (files_verdict file_width (at 0).mesh [] (at 0).claim) (take report_bytes (at 0).line)
sheet_says = (any_files (at 0).mesh [] (at 0).claim (pos 6) room 0 0 (at 0).line sheet-answered).says fits

-- a byte beyond 113 stays, and the buffer is as long as before
pub byte_114 : (number place : ℕ) (after : List ℕ)
    → Answers (at 0).mesh [] (at 0).claim (pos 6) (replicate 114 7) number place after
    → drop report_bytes after ≡ 7 ∷ []
byte_114 number place after h =
    (any_files (at 0).mesh [] (at 0).claim (pos 6) (replicate 114 7) number place after h).rest

pub as_long : (number place : ℕ) (after : List ℕ) → Answers (at 0).mesh [] (at 0).claim (pos 6)
    (replicate 114 7) number place after → length after ≡ 114
as_long number place after h =
    (any_files (at 0).mesh [] (at 0).claim (pos 6) (replicate 114 7) number place after h).size
    ∙ length-replicate {A = ℕ} 114 7

-- eight decimals, and one less than none in a buffer of 112 bytes: 43, before 41; six never get 43
eight : ¬ Decimals (pos 8)
eight d = d.to_most.le

minus_one : ¬ Decimals (negsuc 0)
minus_one d = d.from_0.le

pub eight_decimals : (number place : ℕ) (after : List ℕ) → Answers (at 0).mesh [] (at 0).claim
    (pos 8) room number place after
    → (number ≡ 43) × (place ≡ 0) × (after ≡ room)
eight_decimals number place after h =
    (any_files (at 0).mesh [] (at 0).claim (pos 8) room number place after h).other_decimals eight

pub before_41 : (number place : ℕ) (after : List ℕ)
    → Answers (at 0).mesh [] (at 0).claim (negsuc 0) (replicate 112 0) number place after → number ≡ 43
before_41 number place after h =
    ((any_files (at 0).mesh [] (at 0).claim (negsuc 0) (replicate 112 0) number place after h).other_decimals
    minus_one).0

pub never_43 : (number place : ℕ) (after : List ℕ) → Answers (at 0).mesh [] (at 0).claim
    (pos 6) room number place after → number ≢ 43
never_43 number place after h e =
    (any_files (at 0).mesh [] (at 0).claim (pos 6) room number place after h).only_others e six

-- the sheet's mesh with 65,536 spaces after it gets the answer of its first 65,536 bytes
abbrev long_mesh : List ℕ
long_mesh = (at 0).mesh ++ replicate most_file_bytes 32

short_claim : take most_file_bytes (at 0).claim ≡ (at 0).claim
unfolding opened
short_claim = refl

pub sheet_cut : (number place : ℕ) (after : List ℕ) → Answers long_mesh [] (at 0).claim (pos 6) room number place after
    → Answers (take most_file_bytes long_mesh) [] (at 0).claim (pos 6) room number place after
sheet_cut number place after h =
    subst (λ (claim : List ℕ). Answers (take most_file_bytes long_mesh) [] claim (pos 6) room number place after)
    short_claim
    (long_files long_mesh [] (at 0).claim (pos 6) room number place after h).cut

-- a file of 65,537 spaces
pub too_long : (number place : ℕ) (after : List ℕ) → Answers (replicate 65537 32) [] [] (pos 6) room number place after
    → number ≢ 0
too_long number place after h =
    (long_files (replicate 65537 32) [] [] (pos 6) room number place after h).never_accepted
    (inl (omega (arith, length-replicate {A = ℕ} 65537 32)))

-- ---- demand 2

pub sheet_accepted_file : ClaimAccepted (mesh_in (at 0).mesh) (claim_in (mesh_in (at 0).mesh) (at 0).claim)
sheet_accepted_file =
    (on_mesh (mesh_in (at 0).mesh) (at 0).claim (pos 6) room 0 0 (at 0).line
    (plain (at 0).mesh (at 0).claim sheet-answered) fits).returns_zero.exactly.0 refl

pub refused_column-7 : Refusal (mesh_in (at 4).mesh) (claim_in (mesh_in (at 4).mesh) (at 4).claim) 32 (Column 7)
unfolding place_for
refused_column-7 = ((on_mesh (mesh_in (at 4).mesh) (at 4).claim (pos 6) room 32 7 (at 4).line
    (plain (at 4).mesh (at 4).claim refused_answered) fits).refuses.exactly 32 7 (λ e. omega arith)).0 (refl, refl)

-- l 20, sy -21: row 3 is the normal row of the first edge at its from-node, and the field does not meet it as it is
-- printed
abbrev mesh_at3 : List ℤ
mesh_at3 = mesh_in (at 3).mesh

abbrev claim_at3 : List ℤ
claim_at3 = claim_in (mesh_in (at 3).mesh) (at 3).claim

row_3 : (0 < edges mesh_at3) × (3 ≡ 2 * elements mesh_at3 + 4 * 0 + 1)
unfolding opened
row_3 = (omega arith, refl)

pub row_3_fails : ¬ NormalAt mesh_at3 (stress mesh_at3 claim_at3) (l claim_at3) (n claim_at3) 0 (from_node mesh_at3 0)
row_3_fails =
    normal_from_fails mesh_at3 claim_at3
    ((on_mesh (mesh_in (at 3).mesh) (at 3).claim (pos 6) room 21 3 (at 3).line
    (plain (at 3).mesh (at 3).claim row_3-answered) fits).rows.equality refl).fails 0 row_3.0 row_3.1

-- the sheet's files are those of their numbers
pub sheet_mesh_file : (at 0).mesh ≡ file_of file_width mesh_layout (mesh_in (at 0).mesh)
sheet_mesh_file = (accepted_files (at 0).mesh [] (at 0).claim (pos 6) room 0 0
    (at 0).line sheet-answered fits).mesh_file refl

pub sheet_claim_file : (at 0).claim ≡ file_of file_width (claim_layout (mesh_with (at 0).mesh []))
    (claim_in (mesh_with (at 0).mesh []) (at 0).claim)
sheet_claim_file = (accepted_files (at 0).mesh [] (at 0).claim (pos 6) room 0 0
    (at 0).line sheet-answered fits).claim_file refl

-- its field is accepted, and meets the criterion at node 3
tells_field : TellsField (claim_in (mesh_in (at 4).mesh) (at 4).claim) 32
unfolding opened
tells_field = (refl, inr (omega arith, omega arith))

pub field_of_refused : FieldAccepted (mesh_in (at 4).mesh) (claim_in (mesh_in (at 4).mesh) (at 4).claim)
field_of_refused = (on_mesh (mesh_in (at 4).mesh) (at 4).claim (pos 6) room 32 7 (at 4).line
    (plain (at 4).mesh (at 4).claim refused_answered) fits).field.told.1 tells_field

one_element : (0 < elements (mesh_in (at 4).mesh)) × (corner (mesh_in (at 4).mesh) 0 2 ≡ 2)
unfolding opened
one_element = (omega arith, refl)

no_direction : ¬ ByDirection (mesh_in (at 4).mesh) (element_soil (mesh_in (at 4).mesh) 0)
unfolding opened
no_direction e = let z : ◌≡◌ {A = ℕ} 0 1 = cc in omega arith

pub criterion_at-node-3 : MeetsCriterion (mesh_in (at 4).mesh) (claim_in (mesh_in (at 4).mesh) (at 4).claim)
    (record { at = 2; soil = element_soil (mesh_in (at 4).mesh) 0 })
criterion_at-node-3 =
    ((on_mesh (mesh_in (at 4).mesh) (at 4).claim (pos 6) room 32 7 (at 4).line
    (plain (at 4).mesh (at 4).claim refused_answered) fits).criterion tells_field).around 2 0 one_element.0
    (2, omega arith, one_element.1) no_direction

-- node 3 of the seam is a pair with the clay, and the row of 22 is that pair's, which the field does not meet
abbrev mesh_of_seam : List ℤ
mesh_of_seam = mesh_in seam_fault.mesh

abbrev claim_of_seam : List ℤ
claim_of_seam = claim_in (mesh_in seam_fault.mesh) seam_fault.claim

fault_answered : Answers seam_fault.mesh [] seam_fault.claim (pos 6) room 22 37 seam_fault.line
unfolding opened seam_mesh seam_fault
fault_answered = record { number_is = refl; place_is = refl; buffer_is = refl }

fourth_pair : (3 < pair_count mesh_of_seam) × (0 < sides mesh_of_seam) × (37 ≡ 3 * sides mesh_of_seam + 1)
    × (pair_at mesh_of_seam 3 ≡ record { at = 2; soil = 1 })
unfolding opened seam_mesh seam_fault
fourth_pair = (omega arith, omega arith, refl, refl)

seam_sides : SidesListed (sides mesh_of_seam)
unfolding opened seam_mesh seam_fault
seam_sides = inl refl

no_bedded_clay : ¬ ByDirection mesh_of_seam (pair_at mesh_of_seam 3).soil
unfolding opened seam_mesh seam_fault
no_bedded_clay e = let z : ◌≡◌ {A = ℕ} 0 1 = cc in omega arith

pub clay_row_fails : ¬ StrengthAt mesh_of_seam (stress mesh_of_seam claim_of_seam) (l claim_of_seam) (n claim_of_seam)
    (polygon_of (sides mesh_of_seam)).radius (record { at = 2; soil = 1 })
    (nth_side mesh_of_seam 0)
clay_row_fails =
    subst (λ (a : Pair). ¬ StrengthAt mesh_of_seam (stress mesh_of_seam claim_of_seam) (l claim_of_seam)
    (n claim_of_seam) (polygon_of (sides mesh_of_seam)).radius a
    (nth_side mesh_of_seam 0)) fourth_pair.3
    (side_fails mesh_of_seam claim_of_seam seam_sides
    ((on_mesh (mesh_in seam_fault.mesh) seam_fault.claim (pos 6) room 22 37 seam_fault.line
    (plain seam_fault.mesh seam_fault.claim fault_answered) fits).rows.strength refl).1.fails 3 0 fourth_pair.0
    fourth_pair.1 no_bedded_clay fourth_pair.2)

-- the two blocks press on their joint alike
abbrev mesh_of_joint : List ℤ
mesh_of_joint = mesh_in joint_blocks.mesh

abbrev claim_of_joint : List ℤ
claim_of_joint = claim_in (mesh_in joint_blocks.mesh) joint_blocks.claim

joint-answered : Answers joint_blocks.mesh [] joint_blocks.claim (pos 6) room 0 0 joint_blocks.line
unfolding opened joint_mesh joint_blocks
joint-answered = record { number_is = refl; place_is = refl; buffer_is = refl }

joint-there : (0 < jumps mesh_of_joint) × HasField claim_of_joint
unfolding opened joint_mesh joint_blocks
joint-there = (omega arith, refl)

pub joint_tractions : SameTraction mesh_of_joint (stress mesh_of_joint claim_of_joint) 0
joint_tractions =
    (on_mesh (mesh_in joint_blocks.mesh) joint_blocks.claim (pos 6) room 0 0 joint_blocks.line
    (plain joint_blocks.mesh joint_blocks.claim joint-answered) fits).tractions (joint-there.1, inl refl) 0
    joint-there.0

pub seam_ascends : Before (pair_at mesh_of_seam 2) (pair_at mesh_of_seam 3)
seam_ascends =
    (on_mesh (mesh_in seam_fault.mesh) seam_fault.claim (pos 6) room 22 37 seam_fault.line
    (plain seam_fault.mesh seam_fault.claim fault_answered) fits).pairs.listed.ascending 2 3 (omega arith)
    fourth_pair.0

pub sheet_multipliers : MultipliersAccepted (mesh_in (at 0).mesh) (claim_in (mesh_in (at 0).mesh) (at 0).claim)
sheet_multipliers = ((on_mesh (mesh_in (at 0).mesh) (at 0).claim (pos 6) room 0 0 (at 0).line
    (plain (at 0).mesh (at 0).claim sheet-answered) fits).multipliers.told.0 (sheet_parts.1, refl)).0

-- the empty mesh fails in its form at line 1
pub empty_form : MeshFormFails file_width [] [] 0
empty_form = ((form_exactly [] [] [] (pos 6) room 1 1 (at 5).line empty_answered fits).mesh_form 0).0 (refl, refl)

-- the empty claim fails in its form at line 1, on a mesh that passes
pub empty_claim_form : MeshAccepted (at 0).mesh [] × FormFails file_width (claim_layout (mesh_with (at 0).mesh [])) [] 0
empty_claim_form = ((form_exactly (at 0).mesh [] [] (pos 6) room 11 1
    (check (at 0).mesh [] [] (pos 6) room).buffer empty_claim fits).claim_form 0).0 (refl, refl)

-- 1/3 as lower 0.333333, as upper 0.333334
third_told : ¬ ListsDirection (mesh_in (at 7).mesh)
unfolding opened
third_told (zero, h, e) = let z : ◌≡◌ {A = ℕ} 0 1 = cc in omega arith
third_told (suc s, h, e) = absurd (omega arith)

pub third_lower : LowerPrinted 6 (claim_in (mesh_in (at 7).mesh) (at 7).claim) (take report_bytes (at 7).line)
third_lower = (prints_columns (mesh_in (at 7).mesh) (at 7).claim (pos 6) room 0 0 (at 7).line
    (plain (at 7).mesh (at 7).claim third_answered) fits).lower refl third_parts.0 third_told

pub third_upper : UpperPrinted 6 (mesh_in (at 7).mesh) (claim_in (mesh_in (at 7).mesh) (at 7).claim)
    (take report_bytes (at 7).line)
third_upper = (prints_columns (mesh_in (at 7).mesh) (at 7).claim (pos 6) room 0 0 (at 7).line
    (plain (at 7).mesh (at 7).claim third_answered) fits).upper refl third_parts.1

third_columns : (said (column_of 2 (take report_bytes (at 7).line)) ≡ some (shows (pos 333333) 6))
    × (said (column_of 3 (take report_bytes (at 7).line)) ≡ some (shows (pos 333334) 6))
unfolding opened
third_columns = (refl, refl)

pub third_units : (third_lower.units ≡ pos 333333) × (third_upper.units ≡ pos 333334)
third_units = (
  let a = third_lower.reads in let b = third_columns.0 in cc,
  let a = third_upper.reads in let b = third_columns.1 in cc,
)

pub third_millionths : Millionths (mesh_in (at 7).mesh) (claim_in (mesh_in (at 7).mesh) (at 7).claim)
    (take report_bytes (at 7).line)
third_millionths = millionths
    (prints_columns (mesh_in (at 7).mesh) (at 7).claim (pos 6) room 0 0 (at 7).line
    (plain (at 7).mesh (at 7).claim third_answered) fits)

-- the text of 1/3 has room for seven decimals
third_accepted : ClaimAccepted (mesh_in (at 7).mesh) (claim_in (mesh_in (at 7).mesh) (at 7).claim)
third_accepted = (on_mesh (mesh_in (at 7).mesh) (at 7).claim (pos 6) room 0 0 (at 7).line
    (plain (at 7).mesh (at 7).claim third_answered) fits).returns_zero.exactly.0 refl

pub third_fits : TextsFit 7 (mesh_in (at 7).mesh) (claim_in (mesh_in (at 7).mesh) (at 7).claim)
third_fits = texts_fit (mesh_in (at 7).mesh) (claim_in (mesh_in (at 7).mesh) (at 7).claim) 7
    (omega arith) third_accepted

-- -1/3 with three decimals: -0.334 and -0.333
abbrev pull : ℕ → Sheet
pull k = (get_or with_decimals k (pos 0, sheet "" "" "")).1

pull_answered : Answers (pull 1).mesh [] (pull 1).claim (pos 3) room 0 0 (pull 1).line
unfolding opened
pull_answered = record { number_is = refl; place_is = refl; buffer_is = refl }

pull_parts : HasField (claim_in (mesh_in (pull 1).mesh) (pull 1).claim)
    × HasMultipliers (claim_in (mesh_in (pull 1).mesh) (pull 1).claim)
unfolding opened
pull_parts = (refl, refl)

pull_told : ¬ ListsDirection (mesh_in (pull 1).mesh)
unfolding opened
pull_told (zero, h, e) = let z : ◌≡◌ {A = ℕ} 0 1 = cc in omega arith
pull_told (suc s, h, e) = absurd (omega arith)

pub pull_lower : LowerPrinted 3 (claim_in (mesh_in (pull 1).mesh) (pull 1).claim) (take report_bytes (pull 1).line)
pull_lower = (prints_columns (mesh_in (pull 1).mesh) (pull 1).claim (pos 3) room 0 0 (pull 1).line
    (plain (pull 1).mesh (pull 1).claim pull_answered) (fits_with 3 (omega arith))).lower refl pull_parts.0 pull_told

pub pull_upper : UpperPrinted 3 (mesh_in (pull 1).mesh) (claim_in (mesh_in (pull 1).mesh) (pull 1).claim)
    (take report_bytes (pull 1).line)
pull_upper = (prints_columns (mesh_in (pull 1).mesh) (pull 1).claim (pos 3) room 0 0 (pull 1).line
    (plain (pull 1).mesh (pull 1).claim pull_answered) (fits_with 3 (omega arith))).upper refl pull_parts.1

pull_columns : (said (column_of 2 (take report_bytes (pull 1).line)) ≡ some (shows (negsuc 333) 3))
    × (said (column_of 3 (take report_bytes (pull 1).line)) ≡ some (shows (negsuc 332) 3))
unfolding opened
pull_columns = (refl, refl)

pub pull_units : (pull_lower.units ≡ negsuc 333) × (pull_upper.units ≡ negsuc 332)
pull_units = (
  let a = pull_lower.reads in let b = pull_columns.0 in cc,
  let a = pull_upper.reads in let b = pull_columns.1 in cc,
)

-- with none its upper load is 0, which has no minus
whole_answered : Answers (pull 0).mesh [] (pull 0).claim (pos 0) room 0 0 (pull 0).line
unfolding opened
whole_answered = record { number_is = refl; place_is = refl; buffer_is = refl }

whole_has : HasMultipliers (claim_in (mesh_in (pull 0).mesh) (pull 0).claim)
unfolding opened
whole_has = refl

whole_upper : UpperPrinted 0 (mesh_in (pull 0).mesh) (claim_in (mesh_in (pull 0).mesh) (pull 0).claim)
    (take report_bytes (pull 0).line)
whole_upper = (prints_columns (mesh_in (pull 0).mesh) (pull 0).claim (pos 0) room 0 0 (pull 0).line
    (plain (pull 0).mesh (pull 0).claim whole_answered) (fits_with 0 (omega arith))).upper refl whole_has

whole_column : said (column_of 3 (take report_bytes (pull 0).line)) ≡ some (shows (pos 0) 0)
unfolding opened
whole_column = refl

pub zero_has_no_minus : (k : ℕ) (rest : List ℕ) → column_of 3 (take report_bytes (pull 0).line) ≢ replicate k 32
    ++ (45 ∷ rest)
zero_has_no_minus k rest e =
    let z : whole_upper.units ≡ pos 0 = let a = whole_upper.reads in let b = whole_column in cc in
    <ℤ_irrefl (rw z at (whole_upper.minus k rest e))

-- "Refused: number, place, none, none"
pub refused_columns : (said (column_of 0 (take report_bytes (at 4).line)) ≡ some (shows (pos 32) 0))
    × (said (column_of 1 (take report_bytes (at 4).line)) ≡ some (shows (pos 7) 0))
    × (said (column_of 2 (take report_bytes (at 4).line)) ≡ some word)
    × (said (column_of 3 (take report_bytes (at 4).line)) ≡ some word)
refused_columns =
    let prints = prints_columns (mesh_in (at 4).mesh) (at 4).claim (pos 6) room 32 7 (at 4).line
    (plain (at 4).mesh (at 4).claim refused_answered) fits in (
      prints.first,
      prints.refused (λ e. omega arith),
      prints.lower_none.1 (inl (λ e. omega arith)),
      prints.upper_none.1 (inl (λ e. omega arith)),
    )

-- "open rows need both parts"
pub no_field : ¬ HasField (claim_in (mesh_in (at 9).mesh) (at 9).claim)
unfolding opened
no_field e = let z : ◌≡◌ {A = ℕ} 0 1 = cc in omega arith

pub alone_no_rows : said (column_of 1 (take report_bytes (at 9).line)) ≡ some word
alone_no_rows = ((prints_columns (mesh_in (at 9).mesh) (at 9).claim (pos 6) room 0 0 (at 9).line
    (plain (at 9).mesh (at 9).claim alone_file) fits).rows_none refl).1 (inl no_field)

-- ---- the sheets

pub sheet-written : (number place : ℕ) (after : List ℕ) → Answers (at 0).mesh [] (at 0).claim
    (pos 6) room number place after
    → take report_bytes after ≡ (at 0).line
unfolding starred sheet usual_decimals
sheet-written number place after h = starred-written (at 0) first room after number place h fits.bytes
  where
    first : at 0 ∈ starred
    first = Memᴰ.head refl
