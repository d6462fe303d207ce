-- The promises with a borehole table applied to document 01's sheet with soil 0 and to its tables: one that gives its
-- soil, one with a gap, one with an overlap, one that is cut short, one of soil 0; beside them the sheet without a
-- table (`PromisesApplied`).
use mathlib.Core.Path.{◌≡◌, refl, ap}
use mathlib.Core.Logic.{inl, inr, ◌≢◌}
use mathlib.Core.Bool.{true}
use mathlib.Core.List.Memᴰ
use mathlib.Core.List.{List, [], ◌∷◌}
use Prim.Native.Nat.{ℕ, zero, suc, ◌+◌, ◌<◌}
use native.Mathlib.Omega.{arith}
use lib.IntN.{ℤ, pos}
use lib.ListN.{take, replicate, get_or, length-replicate}
use Rattle.scope.specs.declared.Place.TheVariants.{Line, Height}
use Rattle.scope.specs.Answer.{place_for}
use Rattle.scope.specs.Accepted.{ClaimAccepted}
use Rattle.integer.specs.Members.{◌∈◌}
use Rattle.scope.specs.Columns.{at as number_at}
use Rattle.scope.specs.Mesh.{elements, ListsDirection}
use Rattle.scope.proofs.SameRows.{same_mesh}
use Rattle.scope.specs.Filled.{height_of, soil_place}
use Rattle.scope.specs.LayerRefusals.{LowestGap, OneLayer}
use Rattle.scope.specs.Statements.{HasField, HasMultipliers}
use Rattle.scope.specs.Table.{has_table}
use Rattle.scope.specs.TableVerdict.{TabledRefusal, TableFits}
use Rattle.scope.specs.TabledRefusals.{OwnSoilFails, LinesPass, LayersRefused, TabledRefusalRow}
use Rattle.scope.specs.Worked as Numbers
use Rattle.scope.specs.WorkedTable.{soil_zero}
use Rattle.numbers.specs.declared.numbers_answer.NumbersAnswer.{NumbersAnswer}
use Rattle.numbers.specs.TablePromises.{TableAnswers, FirstLayerFails}
use Rattle.reader.specs.File.{file_width, table_of}
use Rattle.report.specs.Report.{report_bytes, usual_decimals}
use Rattle.judge.specs.Form.{MeshFormFails}
use Rattle.judge.specs.Handed.{files, mesh_of, claim_of, HandedBracket}
use Rattle.pechuvo.specs.Sheets.{Sheet, sheet, soil_zero_mesh, worked_claim, seam_zero, seam_mixed, seam_claim}
use Rattle.pechuvo.specs.Sheets.{tabled_sheets}
use Rattle.pechuvo.specs.Answers.{Answers, AnswersOn}
use Rattle.pechuvo.specs.Promises.{mesh_in, table_in, mesh_with, claim_in, OnTable, LowerPrinted, Call, on_files}
use Rattle.pechuvo.specs.Promises.{AsAFile}
use Rattle.pechuvo.proofs.Sheets.{computed_line}
use Rattle.pechuvo.proofs.Promises.{on_mesh, prints_columns}
use Rattle.pechuvo.proofs.TablePromises.{as_read, on_table, accepted_mesh, calls_bracket, tabled_written}
use Rattle.pechuvo.proofs.FilePromises.{long_files, form_exactly, accepted_files, as_a_file}
use Rattle.pechuvo.proofs.PromisesApplied.{at, room, fits, sheet-answered}

-- for proofs by computation: besides the definitions that make a line, those that say what was handed over, and the
-- sheets
unfoldable pub opened : Unit {0}
unfolding computed_line mesh_of claim_of soil_zero_mesh worked_claim seam_zero seam_mixed seam_claim tabled_sheets
opened = tt

-- sheet k of those with a table, counted from 0
abbrev pub with_table : ℕ → Sheet
with_table k = get_or tabled_sheets k (sheet "" "" "")

-- ---- what is answered: the table that gives the soil; the gap; the overlap; the line that is cut short; soil 0 in it

soil-answered : Answers (with_table 0).mesh (with_table 0).table (with_table 0).claim (pos 6) room 0 0
    (with_table 0).line
unfolding opened
soil-answered = record { number_is = refl; place_is = refl; buffer_is = refl }

gap_answered : Answers (with_table 1).mesh (with_table 1).table (with_table 1).claim (pos 6) room 45 4
    (with_table 1).line
unfolding opened
gap_answered = record { number_is = refl; place_is = refl; buffer_is = refl }

overlap_answered : Answers (with_table 2).mesh (with_table 2).table (with_table 2).claim (pos 6) room 46 1002
    (with_table 2).line
unfolding opened
overlap_answered = record { number_is = refl; place_is = refl; buffer_is = refl }

cut_short_answered : Answers (with_table 5).mesh (with_table 5).table (with_table 5).claim (pos 6) room 1 1002
    (with_table 5).line
unfolding opened
cut_short_answered = record { number_is = refl; place_is = refl; buffer_is = refl }

own_soil_answered : Answers (with_table 4).mesh (with_table 4).table (with_table 4).claim (pos 6) room 4 1001
    (with_table 4).line
unfolding opened
own_soil_answered = record { number_is = refl; place_is = refl; buffer_is = refl }

-- ---- the table that gives the soil

soil_on : OnTable (with_table 0).mesh (with_table 0).table (with_table 0).claim 0 0
soil_on = on_table (with_table 0).mesh (with_table 0).table (with_table 0).claim (pos 6) room 0 0
    (with_table 0).line soil-answered fits

-- it fits, and the claim is accepted on the filled mesh
pub soil_fits : TableFits (table_in (with_table 0).table) (mesh_in (with_table 0).mesh)
soil_fits = (soil_on.exactly.zero.0 refl).0

there : has_table (table_in (with_table 0).table) ≡ true
unfolding opened
there = refl

one_element : 0 < elements (mesh_in (with_table 0).mesh)
unfolding opened
one_element = omega arith

pub soil-layer : OneLayer (table_in (with_table 0).table) (height_of (mesh_in (with_table 0).mesh) 0)
soil-layer = (soil_on.filled (soil_fits there)).one_layer 0 one_element

-- the call is the one on the filled mesh, which is document 01's
soil_read : AnswersOn (mesh_with (with_table 0).mesh (with_table 0).table) (with_table 0).claim (pos 6) room 0 0
    (with_table 0).line
soil_read = (as_read (with_table 0).mesh (with_table 0).table (with_table 0).claim (pos 6) room 0 0
    (with_table 0).line soil-answered).fits soil_fits

pub soil_mesh : mesh_with (with_table 0).mesh (with_table 0).table ≡ mesh_in (at 0).mesh
unfolding opened
soil_mesh = refl

soil-has : HasField (claim_in (mesh_with (with_table 0).mesh (with_table 0).table) (with_table 0).claim)
unfolding opened
soil-has = refl

soil_told : ¬ ListsDirection (mesh_with (with_table 0).mesh (with_table 0).table)
unfolding opened
soil_told (zero, h, e) = let z : ◌≡◌ {A = ℕ} 0 1 = cc in omega arith
soil_told (suc s, h, e) = absurd (omega arith)

pub soil_lower : LowerPrinted 6 (claim_in (mesh_with (with_table 0).mesh (with_table 0).table) (with_table 0).claim)
    (take report_bytes (with_table 0).line)
soil_lower = (prints_columns (mesh_with (with_table 0).mesh (with_table 0).table) (with_table 0).claim (pos 6) room 0 0
    (with_table 0).line soil_read fits).lower refl soil-has soil_told

pub soil_accepted : ClaimAccepted (mesh_with (with_table 0).mesh (with_table 0).table)
    (claim_in (mesh_with (with_table 0).mesh (with_table 0).table) (with_table 0).claim)
soil_accepted = (on_mesh (mesh_with (with_table 0).mesh (with_table 0).table) (with_table 0).claim (pos 6) room 0 0
    (with_table 0).line soil_read fits).returns_zero.exactly.0 refl

-- the table is the file of its numbers
pub soil_table_file : (with_table 0).table ≡ table_of file_width (table_in (with_table 0).table)
soil_table_file = (accepted_files (with_table 0).mesh (with_table 0).table (with_table 0).claim (pos 6) room 0 0
    (with_table 0).line soil-answered fits).table_file refl

-- beside the sheet's own mesh the same table changes nothing
own_soil : (e : ℕ) → e < elements (mesh_in (at 0).mesh)
    → ¬ (number_at (mesh_in (at 0).mesh) (soil_place (mesh_in (at 0).mesh) e) ≡ pos 0)
unfolding opened
own_soil zero l z = let y : ◌≡◌ {A = ℕ} 0 1 = cc in omega arith
own_soil (suc e) l z = absurd (omega arith)

fits_sheet : TableFits (table_in (with_table 0).table) (mesh_in (at 0).mesh)
unfolding opened
fits_sheet = (accepted_mesh (at 0).mesh (with_table 0).table refl).fits

pub sheet_unchanged : (number place : ℕ) (after : List ℕ) → Answers (at 0).mesh (with_table 0).table (at 0).claim
    (pos 6) room number place after
    → AnswersOn (mesh_in (at 0).mesh) (at 0).claim (pos 6) room number place after
sheet_unchanged number place after h =
    (as_read (at 0).mesh (with_table 0).table (at 0).claim (pos 6) room number place after h).own_soils fits_sheet
    own_soil

-- ---- refused tables

-- 45 at four quarters, and 46 at the second line, exactly as the order has them; neither table fits
gap_on : OnTable (with_table 1).mesh (with_table 1).table (with_table 1).claim 45 4
gap_on = on_table (with_table 1).mesh (with_table 1).table (with_table 1).claim (pos 6) room 45 4
    (with_table 1).line gap_answered fits

overlap_on : OnTable (with_table 2).mesh (with_table 2).table (with_table 2).claim 46 1002
overlap_on = on_table (with_table 2).mesh (with_table 2).table (with_table 2).claim (pos 6) room 46 1002
    (with_table 2).line overlap_answered fits

pub gap_refused : TabledRefusal (table_in (with_table 1).table) (mesh_in (with_table 1).mesh)
    (claim_in (mesh_with (with_table 1).mesh (with_table 1).table) (with_table 1).claim) 45 (Height 4)
unfolding place_for
gap_refused = (gap_on.exactly.refuses 45 4 (λ e. omega arith)).0 (refl, refl)

pub overlap_refused : TabledRefusal (table_in (with_table 2).table) (mesh_in (with_table 2).mesh)
    (claim_in (mesh_with (with_table 2).mesh (with_table 2).table) (with_table 2).claim) 46 (Line 1002)
unfolding place_for
overlap_refused = (overlap_on.exactly.refuses 46 1002 (λ e. omega arith)).0 (refl, refl)

-- with all lines before them, as rows; what their places are; and soil 0 in the table's own line
pub gap_row : LayersRefused (table_in (with_table 1).table) (mesh_in (with_table 1).mesh) 45 (Height 4)
unfolding place_for
gap_row = (gap_on.exactly.layers_asked.exactly 45 4 (inl refl)).0 (refl, refl)

pub gap_height : (lo hi : ℕ) × LinesPass (table_in (with_table 1).table) (mesh_in (with_table 1).mesh) lo hi
    × LowestGap (table_in (with_table 1).table) lo hi 4
gap_height = gap_on.exactly.layers_asked.gap refl

pub overlap_line : (lo hi i : ℕ) × LinesPass (table_in (with_table 2).table) (mesh_in (with_table 2).mesh) lo hi
    × FirstLayerFails (table_in (with_table 2).table) lo hi i × (1002 ≡ 1001 + i)
overlap_line = overlap_on.exactly.layers_asked.line refl

pub own_soil_zero : OwnSoilFails (table_in (with_table 4).table) (mesh_in (with_table 4).mesh) 0
own_soil_zero = ((on_table (with_table 4).mesh (with_table 4).table (with_table 4).claim (pos 6) room 4 1001
    (with_table 4).line own_soil_answered fits).exactly.own_lines_asked.soil 0).0 (refl, refl)

pub cut_short_row : TabledRefusalRow (table_in (with_table 5).table) (mesh_in (with_table 5).mesh)
    (claim_in (mesh_with (with_table 5).mesh (with_table 5).table) (with_table 5).claim) 1 (Line 1002)
unfolding place_for
cut_short_row = ((on_table (with_table 5).mesh (with_table 5).table (with_table 5).claim (pos 6) room 1 1002
    (with_table 5).line cut_short_answered fits).exactly.row 1 1002 (λ e. omega arith)).0 (refl, refl)

-- the second line is not whole: 1, line 1,002
pub cut_short_form : MeshFormFails file_width (with_table 5).mesh (with_table 5).table 1001
cut_short_form = ((form_exactly (with_table 5).mesh (with_table 5).table (with_table 5).claim (pos 6) room 1 1002
    (with_table 5).line cut_short_answered fits).mesh_form 1001).0 (refl, refl)

-- a table of 65,537 spaces
pub long_table : (number place : ℕ) (after : List ℕ) → Answers (at 0).mesh (replicate 65537 32) (at 0).claim
    (pos 6) room number place after → number ≢ 0
long_table number place after h =
    (long_files (at 0).mesh (replicate 65537 32) (at 0).claim (pos 6) room number place after h).never_accepted
    (inr (inl (omega (arith, length-replicate {A = ℕ} 65537 32))))

-- ---- loads compared: the field of the filled mesh, the multipliers of the sheet without a table

pub soil_call : Call (files (with_table 0).mesh (with_table 0).table (with_table 0).claim) 0
soil_call = on_files (with_table 0).mesh (with_table 0).table (with_table 0).claim (pos 6) room 0 0
    (with_table 0).line soil-answered

sheet_call : Call (files (at 0).mesh [] (at 0).claim) 0
sheet_call = on_files (at 0).mesh [] (at 0).claim (pos 6) room 0 0 (at 0).line sheet-answered

pub same_meshes : mesh_of (files (with_table 0).mesh (with_table 0).table (with_table 0).claim)
    ≡ mesh_of (files (at 0).mesh [] (at 0).claim)
unfolding opened
same_meshes = refl

pub parts : HasField (claim_of (files (with_table 0).mesh (with_table 0).table (with_table 0).claim))
    × HasMultipliers (claim_of (files (at 0).mesh [] (at 0).claim))
unfolding opened
parts = (refl, refl)

pub with_and_without : HandedBracket (files (with_table 0).mesh (with_table 0).table (with_table 0).claim)
    (files (at 0).mesh [] (at 0).claim)
with_and_without = calls_bracket soil_call sheet_call (same_mesh same_meshes)
    (parts.0, inl refl) parts.1 refl

-- numbers with a table get the answer of files of them
pub numbers_as_files : (r : NumbersAnswer) → TableAnswers (pos 0 ∷ pos 2 ∷ pos 1 ∷ []) soil_zero Numbers.sheet19 r
    → AsAFile (pos 0 ∷ pos 2 ∷ pos 1 ∷ []) soil_zero Numbers.sheet19 r
numbers_as_files r h = as_a_file h

-- ---- the sheets with a table give their lines

pub soil-written : (number place : ℕ) (after : List ℕ) → Answers (with_table 0).mesh (with_table 0).table
    (with_table 0).claim (pos 6) room number place after
    → take report_bytes after ≡ (with_table 0).line
unfolding tabled_sheets usual_decimals
soil-written number place after h = tabled_written (with_table 0) first room after number place h fits.bytes
  where
    first : with_table 0 ∈ tabled_sheets
    first = Memᴰ.head refl
