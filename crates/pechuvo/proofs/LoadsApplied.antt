-- The promises about loads compared (document 01, demand 3) applied to document 01's sheet and its neighbours, as
-- files and as numbers, one claim or two, and to a field in fractions: antt computes what is handed over, and the
-- promise says the rest.
use mathlib.Core.Path.{◌≡◌, refl, sym, ◌∙◌, ap, subst}
use mathlib.Core.Logic.{inl, inr}
use mathlib.Core.List.{List, []}
use mathlib.Core.Option.{some}
use Prim.Native.Nat.{◌*◌}
use native.Mathlib.Omega.{arith}
use lib.IntN.{ℤ, pos}
use lib.ListN.{take}
use Rattle.integer.specs.Fraction.{◌over◌, ◌≈ᶠ◌, ◌≤ᶠ◌}
use Rattle.scope.proofs.Computed.{computed}
use Rattle.scope.specs.Columns.{has_field}
use Rattle.scope.specs.Mesh.{nodes}
use Rattle.scope.specs.Rows.{equality_rows, rows_of}
use Rattle.scope.proofs.SameRows.{same_mesh}
use Rattle.scope.specs.Claim.{claim_layout, multiplier}
use Rattle.scope.specs.Statements.{HasField, HasMultipliers}
use Rattle.scope.specs.Parts.{carried, allowed, SameRows}
use Rattle.scope.specs.Table.{has_table, mesh_read}
use Rattle.scope.proofs.TableVerdict.{no_table_verdict}
use Rattle.scope.proofs.Refusals.{mesh_passed, lines_passed, multipliers_passed}
use Rattle.scope.specs.Worked as Numbers
use Rattle.numbers.specs.declared.numbers_answer.NumbersAnswer.{NumbersAnswer}
use Rattle.numbers.specs.NumbersAnswer.{answer_of}
use Rattle.numbers.specs.Promises as Handed-over
use Rattle.numbers.specs.Promises.{TellsField}
use Rattle.numbers.specs.TablePromises.{TableAnswers}
use Rattle.numbers.proofs.PromisesApplied.{second_soil, answer19, alone_answer, nineteen_answered, alone_answered}
use Rattle.numbers.proofs.PromisesApplied.{sheet_accepted, same_rows, fraction, fractions, fractions_meet}
use Rattle.report.specs.Text.{number as shows, said}
use Rattle.report.specs.Report.{report_bytes}
use Rattle.report.specs.Says.{column_of}
use Rattle.judge.specs.Handed.{files, numbers, mesh_of, claim_of, HasAcceptedMultipliers, HandedBracket}
use Rattle.pechuvo.specs.Promises.{mesh_in, claim_in, OpenRowsPrinted, Call, on_files, on_numbers, AsAFile}
use Rattle.pechuvo.proofs.Promises.{prints_open_rows}
use Rattle.pechuvo.proofs.TablePromises.{calls_bracket, accepted_parts, fractions_bracket}
use Rattle.pechuvo.proofs.FilePromises.{as_a_file}
use Rattle.pechuvo.proofs.PromisesApplied.{opened, at, room, fits, plain, nineteen_parts, third_parts, sheet-answered}
use Rattle.pechuvo.proofs.PromisesApplied.{nineteen_file, refused_answered, third_answered}

-- two open rows of l 19
pub nineteen_open : OpenRowsPrinted (mesh_in (at 1).mesh) (claim_in (mesh_in (at 1).mesh) (at 1).claim)
    (take report_bytes (at 1).line)
nineteen_open = prints_open_rows (mesh_in (at 1).mesh) (at 1).claim (pos 6) room 0 0 (at 1).line
    (plain (at 1).mesh (at 1).claim nineteen_file) fits refl nineteen_parts.0 nineteen_parts.1

nineteen_column : said (column_of 1 (take report_bytes (at 1).line)) ≡ some (shows (pos 2) 0)
unfolding opened
nineteen_column = refl

pub nineteen_two : nineteen_open.number ≡ 2
nineteen_two = let a = nineteen_open.reads in let b = nineteen_column in cc

-- "1/3 on 1/3 prints 0.333333 and 0.333334 with 0 open rows"
third_open : OpenRowsPrinted (mesh_in (at 7).mesh) (claim_in (mesh_in (at 7).mesh) (at 7).claim)
    (take report_bytes (at 7).line)
third_open = prints_open_rows (mesh_in (at 7).mesh) (at 7).claim (pos 6) room 0 0 (at 7).line
    (plain (at 7).mesh (at 7).claim third_answered) fits refl third_parts.0 third_parts.1

third_column : said (column_of 1 (take report_bytes (at 7).line)) ≡ some (shows (pos 0) 0)
unfolding opened
third_column = refl

pub third_closed : carried (claim_in (mesh_in (at 7).mesh) (at 7).claim) ≈ᶠ allowed (mesh_in (at 7).mesh)
    (claim_in (mesh_in (at 7).mesh) (at 7).claim)
third_closed = third_open.closed.0 (let a = third_open.reads in let b = third_column in cc)

-- the calls, on files and on numbers, without a table
untabled : (m c : List ℤ) {r : NumbersAnswer} → Handed-over.Answers m c r → TableAnswers [] m c r
untabled m c h = h ∙ ap (answer_of (has_field c)) (sym (no_table_verdict m c))

pub refused_call : Call (files (at 4).mesh [] (at 4).claim) 32
refused_call = on_files (at 4).mesh [] (at 4).claim (pos 6) room 32 7 (at 4).line refused_answered

pub sheet_call : Call (files (at 0).mesh [] (at 0).claim) 0
sheet_call = on_files (at 0).mesh [] (at 0).claim (pos 6) room 0 0 (at 0).line sheet-answered

pub numbers_call : Call (numbers Numbers.worked_mesh [] Numbers.sheet19) 0
numbers_call = on_numbers Numbers.worked_mesh [] Numbers.sheet19 answer19
    (untabled Numbers.worked_mesh Numbers.sheet19 nineteen_answered)

alone_call : Call (numbers second_soil [] Numbers.multipliers_alone) 0
alone_call = on_numbers second_soil [] Numbers.multipliers_alone alone_answer
    (untabled second_soil Numbers.multipliers_alone alone_answered)

-- the meshes of the files are the numbers of document 01's sheet
pub sheet_mesh : mesh_of (files (at 0).mesh [] (at 0).claim) ≡ Numbers.worked_mesh
unfolding opened Numbers.zeros Numbers.worked_mesh
sheet_mesh = refl

pub refused_mesh_lem : mesh_of (files (at 4).mesh [] (at 4).claim) ≡ Numbers.worked_mesh
unfolding opened Numbers.zeros Numbers.worked_mesh
refused_mesh_lem = refl

sheet-has : HasMultipliers (claim_of (files (at 0).mesh [] (at 0).claim))
unfolding opened
sheet-has = refl

pub sheet-field : HasField (claim_of (files (at 0).mesh [] (at 0).claim))
unfolding opened
sheet-field = refl

pub refused_tells : TellsField (claim_of (files (at 4).mesh [] (at 4).claim)) 32
unfolding opened
refused_tells = (refl, inr (omega arith, omega arith))

-- one claim
pub one_file : HandedBracket (files (at 0).mesh [] (at 0).claim) (files (at 0).mesh [] (at 0).claim)
one_file = calls_bracket sheet_call sheet_call (same_mesh refl) (sheet-field, inl refl) sheet-has refl

-- two files: the field of the claim that is refused for its multipliers, and the sheet's multipliers
pub two_files : HandedBracket (files (at 4).mesh [] (at 4).claim) (files (at 0).mesh [] (at 0).claim)
two_files = calls_bracket refused_call sheet_call (same_mesh (refused_mesh_lem ∙ sym sheet_mesh)) refused_tells
    sheet-has refl

-- the field of a file, and multipliers handed over as numbers on another mesh with the same rows
pub file_and_numbers : HandedBracket (files (at 4).mesh [] (at 4).claim)
    (numbers second_soil [] Numbers.multipliers_alone)
unfolding computed mesh_of claim_of mesh_read has_table Numbers.zeros Numbers.worked_multipliers
    Numbers.multipliers_alone
file_and_numbers = calls_bracket refused_call alone_call
    (subst (λ (m : List ℤ). SameRows m second_soil) (sym refused_mesh_lem) same_rows) refused_tells refl
    refl

-- the other way round: a field handed over as numbers, and the multipliers of a file
pub numbers_and_file : HandedBracket (numbers Numbers.worked_mesh [] Numbers.sheet19)
    (files (at 0).mesh [] (at 0).claim)
unfolding computed mesh_of claim_of mesh_read has_table Numbers.zeros Numbers.worked_stresses
    Numbers.worked_multipliers Numbers.worked_claim Numbers.sheet19
numbers_and_file = calls_bracket numbers_call sheet_call (same_mesh (sym sheet_mesh)) (refl, inl refl) sheet-has refl

-- against the multipliers of the claim with l 21, which is refused with 22 for its field
pub beyond_strength : HasAcceptedMultipliers (files (at 2).mesh [] (at 2).claim)
unfolding opened
beyond_strength =
    let m : List ℤ = mesh_in (at 2).mesh in
    let c : List ℤ = claim_in (mesh_in (at 2).mesh) (at 2).claim in
    record {
      mesh = (mesh_passed m).says refl;
      lines = (lines_passed (claim_layout m) c).says refl;
      there = refl;
      meet = (multipliers_passed (equality_rows m) (rows_of m) (3 * nodes m) (multiplier m c)).says refl;
    }

pub beyond_mesh : mesh_of (files (at 2).mesh [] (at 2).claim) ≡ Numbers.worked_mesh
unfolding opened Numbers.zeros Numbers.worked_mesh
beyond_mesh = refl

pub sheet_and_refused : HandedBracket (files (at 0).mesh [] (at 0).claim) (files (at 2).mesh [] (at 2).claim)
sheet_and_refused = accepted_parts sheet_call (files (at 2).mesh [] (at 2).claim)
    (same_mesh (sheet_mesh ∙ sym beyond_mesh)) (sheet-field, inl refl) beyond_strength

-- a field in fractions over twelve denominators, and the multipliers of a file
pub fractions_and_file : pos 38 over pos 2 ≤ᶠ allowed (mesh_of (files (at 0).mesh [] (at 0).claim))
    (claim_of (files (at 0).mesh [] (at 0).claim))
unfolding fraction fractions
fractions_and_file = (fractions_bracket sheet_call sheet-has refl Numbers.worked_mesh sheet_accepted.mesh
    (same_mesh (sym sheet_mesh))).at_most fractions fractions_meet

-- numbers handed over get the answer of a file of them
pub nineteen_as_a_file : AsAFile [] Numbers.worked_mesh Numbers.sheet19 answer19
nineteen_as_a_file = as_a_file (untabled Numbers.worked_mesh Numbers.sheet19 nineteen_answered)
