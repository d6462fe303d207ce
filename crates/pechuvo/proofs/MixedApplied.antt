-- The promises of the check of files applied to one sheet with triangles, pairs, a joint and a table, with 12 and with
-- 108 sides and with bedded clay: antt computes the verdict of the three files, and the promises say the rest.
use mathlib.Core.Path.{◌≡◌, refl, sym, ◌∙◌, ap, subst, subst₂}
use mathlib.Core.Logic.{inl, inr, ◌≢◌}
use mathlib.Core.List.{List, ◌++◌}
use mathlib.Core.Option.{some}
use Prim.Native.Nat.{ℕ, suc, ◌+◌, ◌*◌, ◌<◌}
use native.Mathlib.Omega.{arith}
use lib.IntN.{ℤ, pos}
use lib.ListN.{take, replicate, length-replicate}
use Rattle.scope.proofs.SameRows.{same_mesh}
use Rattle.scope.specs.Cases.Load.{Absent, Exact}
use Rattle.scope.specs.Cases.OpenRows.{Count}
use Rattle.scope.specs.Cases.Verdict.{Verdict}
use Rattle.scope.specs.Cases.Verdict.{Accepted}
use Rattle.scope.specs.Mesh.{sides, ByDirection}
use Rattle.scope.specs.Columns.{n, l}
use Rattle.scope.specs.Claim.{stress}
use Rattle.scope.specs.Rows.{Pair, pair_count, pair_at}
use Rattle.scope.specs.Polygon.{point, polygon_of, SidesListed}
use Rattle.scope.specs.Printed.{nth_side}
use Rattle.scope.proofs.RefusedRows.{side_fails}
use Rattle.scope.specs.Printed.{StrengthAt}
use Rattle.scope.specs.Planes.{PlaneHoldsAt}
use Rattle.scope.specs.Accepted.{MultipliersAccepted}
use Rattle.scope.specs.Statements.{MeshSound, HasField, HasMultipliers}
use Rattle.scope.specs.Answer.{place_for}
use Rattle.scope.specs.TableVerdict.{TableFits}
use Rattle.numbers.specs.Promises.{TellsField}
use Rattle.numbers.specs.MixedSheet.{mixed, two_layers, lower_layer, soils_written, mixed_field, mixed_multipliers}
use Rattle.numbers.specs.MixedSheet.{mixed_claim, claim_108, bedded_claim, even, MeshSays, ClayFails, GapRefused}
use Rattle.numbers.specs.MixedSheet.{unfilled}
use Rattle.numbers.proofs.MixedSays.{Facts, facts_lem, mesh_says, answer}
use Rattle.numbers.proofs.MixedApplied.{mixed_answered, mixed_parts, mixed_kinds, many_answered, many_parts}
use Rattle.numbers.proofs.MixedApplied.{many_kinds, bedded_answered, bedded_parts, bedded_kind}
use Rattle.scope.specs.Worked.{zeros}
use Rattle.reader.specs.File.{file_width}
use Rattle.report.specs.Text.{word, number as shows, said}
use Rattle.report.specs.Report.{report_bytes}
use Rattle.report.specs.Says.{column_of}
use Rattle.judge.specs.Judge.{files_verdict}
use Rattle.judge.specs.Handed.{Handed, files, mesh_of, claim_of, HasAcceptedMultipliers}
use Rattle.pechuvo.specs.Sheets.{Sheet}
use Rattle.scope.specs.Mesh.{mesh_layout}
use Rattle.scope.specs.Claim.{claim_layout}
use Rattle.reader.specs.File.{file_of}
use Rattle.reader.specs.WellFormed.{FormFails}
use Rattle.report.specs.Report.{report_line, usual_decimals}
use Rattle.pechuvo.specs.Check.{check}
use lib.ListN.{length-append}
use Rattle.pechuvo.specs.Answers.{Answers, AnswersFor, AnswersOn}
use Rattle.pechuvo.specs.Promises.{mesh_in, table_in, mesh_with, claim_in, AcceptedFiles, OnTable, OnMesh, Prints}
use Rattle.pechuvo.specs.Promises.{OpenRowsPrinted, LowerPrinted, Call, on_files, NoTable, AsAFile, Written}
use Rattle.pechuvo.specs.Promises.{MeshAccepted}
use Rattle.pechuvo.specs.MixedFiles.{cut_claim, mixed_sheet, mixed_files, beyond_files, gap_files, many_files}
use Rattle.pechuvo.specs.MixedFiles.{bedded_files, CallSays, FilesSay}
use Rattle.pechuvo.proofs.Promises.{on_mesh, prints_columns, prints_open_rows, millionths, texts_fit}
use Rattle.pechuvo.proofs.TablePromises.{no_table_file, any_files, as_read, on_table, calls_bracket, accepted_parts}
use Rattle.pechuvo.proofs.TablePromises.{fractions_bracket}
use Rattle.pechuvo.proofs.FilePromises.{accepted_files, long_files, form_exactly, as_a_file}
use Rattle.pechuvo.proofs.Blends.{blended_calls}
use Rattle.pechuvo.proofs.PromisesApplied as Sheets
use Rattle.pechuvo.proofs.PromisesApplied.{room, fits}

-- for proofs by computation: besides the definitions that make a line, those of the sheet
unfoldable pub opened : Unit {0}
unfolding Sheets.opened zeros mixed two_layers lower_layer mixed_field mixed_multipliers mixed_claim claim_108
    bedded_claim mixed_sheet mixed_files beyond_files gap_files many_files bedded_files cut_claim
opened = tt

-- ---- what the promises say of a call whose verdict is v, on files that read as the numbers m and c

module _ (s : Sheet) (m c : List ℤ) (number place : ℕ)
    (h : Answers s.mesh s.table s.claim (pos 6) room number place s.line)
    (fitting : TableFits (table_in s.table) (mesh_in s.mesh)) (mesh_is : mesh_with s.mesh s.table ≡ m)
    (claim_is : claim_in m s.claim ≡ c) where
  on_lem : AnswersOn m s.claim (pos 6) room number place s.line
  on_lem = subst (λ (x : List ℤ). AnswersOn x s.claim (pos 6) room number place s.line) mesh_is
      ((as_read s.mesh s.table s.claim (pos 6) room number place s.line h).fits fitting)

  call : OnMesh m c number place
  call = subst (λ (x : List ℤ). OnMesh m x number place) claim_is
      (on_mesh m s.claim (pos 6) room number place s.line on_lem fits)

  printed : Prints 6 m c number place (take report_bytes s.line)
  printed = subst (λ (x : List ℤ). Prints 6 m x number place (take report_bytes s.line)) claim_is
      (prints_columns m s.claim (pos 6) room number place s.line on_lem fits)

  open_lem : number ≡ 0 → HasField c → HasMultipliers c → OpenRowsPrinted m c (take report_bytes s.line)
  open_lem e f w = subst (λ (x : List ℤ). OpenRowsPrinted m x (take report_bytes s.line)) claim_is
      (prints_open_rows m s.claim (pos 6) room number place s.line on_lem fits e (subst HasField (sym claim_is) f)
      (subst HasMultipliers (sym claim_is) w))

-- of one that is accepted
module _ (s : Sheet) (m c : List ℤ) (h : Answers s.mesh s.table s.claim (pos 6) room 0 0 s.line)
    (mesh_is : mesh_with s.mesh s.table ≡ m) (claim_is : claim_in m s.claim ≡ c) (facts : Facts m)
    (has_field : HasField c) (has_multipliers : HasMultipliers c) where
  on : OnTable s.mesh s.table s.claim 0 0
  on = on_table s.mesh s.table s.claim (pos 6) room 0 0 s.line h fits

  pub table_fits : TableFits (table_in s.table) (mesh_in s.mesh)
  table_fits = (on.exactly.zero.0 refl).0

  pub accepted_call : OnMesh m c 0 0
  accepted_call = call s m c 0 0 h table_fits mesh_is claim_is

  pub accepted_prints : Prints 6 m c 0 0 (take report_bytes s.line)
  accepted_prints = printed s m c 0 0 h table_fits mesh_is claim_is

  sound : MeshSound m
  sound = (accepted_call.returns_zero.exactly.0 refl).mesh

  tells : TellsField c 0
  tells = (has_field, inl refl)

  pub call_says : said (column_of 1 (take report_bytes s.line)) ≡ some (shows (pos 0) 0)
      → CallSays m c (take report_bytes s.line)
  call_says none = record {
    mesh = mesh;
    accepted = accepted_call.returns_zero.exactly.0 refl;
    rows_met = (accepted_call.field.exactly.0 (accepted_call.field.told.1 tells)).3;
    columns = (accepted_call.multipliers.exactly.0 (accepted_call.multipliers.told.0 (has_multipliers, refl)).0).3;
    fill = (accepted_call.criterion tells).pairs (record { at = 2; soil = 0 }) mesh.fill_pair facts.fill_kind;
    joint = accepted_call.tractions tells 0 facts.one_jump;
    upper = accepted_prints.upper refl has_multipliers;
    millionths = millionths accepted_prints;
    texts = texts_fit m c 6 (omega arith) (accepted_call.returns_zero.exactly.0 refl);
    open_rows = rows;
    closed = rows.closed.0 (let a = rows.reads in cc);
  }
    where
      mesh : MeshSays m
      mesh = mesh_says m c 0 0 sound facts accepted_call.triangles accepted_call.pairs accepted_call.overlaps
          accepted_call.jumps accepted_call.sides

      rows : OpenRowsPrinted m c (take report_bytes s.line)
      rows = open_lem s m c 0 0 h table_fits mesh_is claim_is refl has_field has_multipliers

  handed : Handed
  handed = files s.mesh s.table s.claim

  call_made : Call (files s.mesh s.table s.claim) 0
  call_made = on_files s.mesh s.table s.claim (pos 6) room 0 0 s.line h

  claim_lem : claim_of (files s.mesh s.table s.claim) ≡ c
  unfolding claim_of
  claim_lem = ap (λ (x : List ℤ). claim_in x s.claim) mesh_is ∙ claim_is

  mesh_lem : mesh_of (files s.mesh s.table s.claim) ≡ m
  unfolding mesh_of
  mesh_lem = mesh_is

  pub files_say : FilesSay s (files s.mesh s.table s.claim)
  files_say = record {
    line = (any_files s.mesh s.table s.claim (pos 6) room 0 0 s.line h).says fits;
    as_read = (as_read s.mesh s.table s.claim (pos 6) room 0 0 s.line h).fits table_fits;
    mesh_accepted = record { fits = table_fits; sound = subst MeshSound (sym mesh_is) sound };
    listed = on.listed;
    mesh_file = own.mesh_file refl;
    table_file = own.table_file refl;
    claim_file = own.claim_file refl;
    bracket = calls_bracket call_made call_made (same_mesh refl) tells_handed has_handed refl;
    parts_bracket = accepted_parts call_made (files s.mesh s.table s.claim) (same_mesh refl) tells_handed multipliers;
    fractions = fractions_bracket call_made has_handed refl (mesh_of (files s.mesh s.table s.claim))
        (subst MeshSound (sym mesh_lem) sound) (same_mesh refl);
    blended = blended_calls call_made call_made (same_mesh refl) tells_handed tells_handed 1 2 (omega arith);
  }
    where
      own : AcceptedFiles s.mesh s.table s.claim 0
      own = accepted_files s.mesh s.table s.claim (pos 6) room 0 0 s.line h fits

      tells_handed : TellsField (claim_of (files s.mesh s.table s.claim)) 0
      tells_handed = subst (λ (x : List ℤ). TellsField x 0) (sym claim_lem) tells

      has_handed : HasMultipliers (claim_of (files s.mesh s.table s.claim))
      has_handed = subst HasMultipliers (sym claim_lem) has_multipliers

      multipliers : HasAcceptedMultipliers (files s.mesh s.table s.claim)
      multipliers =
          subst₂ MultipliersAccepted (sym mesh_lem) (sym claim_lem)
          (accepted_call.multipliers.told.0 (has_multipliers, refl)).0

-- a call with a verdict that antt has computed
answers_lem : (s : Sheet) {v : Verdict} {number place : ℕ} → files_verdict file_width s.mesh s.table s.claim ≡ v
    → AnswersFor v (pos 6) room number place s.line
    → Answers s.mesh s.table s.claim (pos 6) room number place s.line
answers_lem s {v} {number} {place} e h =
    subst (λ (x : Verdict). AnswersFor x (pos 6) room number place s.line) (sym e) h

written_lem : (s : Sheet) {v : Verdict} → files_verdict file_width s.mesh s.table s.claim ≡ v
    → report_line 6 v ≡ s.line → Written s
unfolding usual_decimals
written_lem s e line before after number place h long =
    (any_files s.mesh s.table s.claim (pos 6) before number place after h).line
    (record { decimals = fits.decimals; bytes = long })
    ∙ ap (report_line 6) e
    ∙ line

-- a mesh file with 65,537 spaces after it is too long
pub longer_refused : (s : Sheet) (number place : ℕ) (after : List ℕ)
    → Answers (s.mesh ++ replicate 65537 32) s.table s.claim (pos 6) room number place after → number ≢ 0
longer_refused s number place after h =
    (long_files (s.mesh ++ replicate 65537 32) s.table s.claim (pos 6) room number place after h).never_accepted
    (inl (omega (arith, length-append s.mesh (replicate 65537 32), length-replicate {A = ℕ} 65537 32)))

-- with its soils written and no table it is the call on two files
pub untabled : (side_count kind : ℕ) → NoTable (file_of file_width mesh_layout (soils_written side_count kind))
untabled side_count kind = no_table_file (file_of file_width mesh_layout (soils_written side_count kind))

-- a claim that lacks its last byte, refused at line j + 1
cut_form : (s : Sheet) (j : ℕ) {after : List ℕ} → Answers s.mesh s.table (cut_claim s) (pos 6) room 11 (suc j) after
    → MeshAccepted s.mesh s.table × FormFails file_width (claim_layout (mesh_with s.mesh s.table)) (cut_claim s) j
cut_form s j {after} h =
    ((form_exactly s.mesh s.table (cut_claim s) (pos 6) room 11 (suc j) after h fits).claim_form j).0 (refl, refl)

-- ---- 12 sides

abbrev mixed_carried : Verdict
mixed_carried = Accepted (Count 0) (Exact (pos 64) (pos 1)) (Exact (pos 15360) (pos 240))

pub mixed_verdict : files_verdict file_width mixed_files.mesh mixed_files.table mixed_files.claim
    ≡ Accepted (Count 0) (Exact (pos 64) (pos 1)) (Exact (pos 15360) (pos 240))
unfolding opened
mixed_verdict = refl

mixed_line : AnswersFor mixed_carried (pos 6) room 0 0 mixed_files.line
unfolding opened
mixed_line = record { number_is = refl; place_is = refl; buffer_is = refl }

mixed_answers : Answers mixed_files.mesh mixed_files.table mixed_files.claim (pos 6) room 0 0 mixed_files.line
mixed_answers = answers_lem mixed_files mixed_verdict mixed_line

pub mixed_reads : (mesh_with mixed_files.mesh mixed_files.table ≡ soils_written 12 0)
    × (claim_in (soils_written 12 0) mixed_files.claim ≡ mixed_claim 64 even)
unfolding opened
mixed_reads = (refl, refl)

mixed_open : said (column_of 1 (take report_bytes mixed_files.line)) ≡ some (shows (pos 0) 0)
unfolding opened
mixed_open = refl

pub mixed_call_says : CallSays (soils_written 12 0) (mixed_claim 64 even) (take report_bytes mixed_files.line)
mixed_call_says = call_says mixed_files (soils_written 12 0) (mixed_claim 64 even) mixed_answers mixed_reads.0
    mixed_reads.1 (facts_lem 12 0) mixed_parts.0 mixed_parts.1 mixed_open

pub mixed_lower : LowerPrinted 6 (mixed_claim 64 even) (take report_bytes mixed_files.line)
mixed_lower = (accepted_prints mixed_files (soils_written 12 0)
    (mixed_claim 64 even) mixed_answers mixed_reads.0 mixed_reads.1 (facts_lem 12 0) mixed_parts.0 mixed_parts.1).lower
    refl mixed_parts.0 mixed_kinds.1

pub mixed_files_say : FilesSay mixed_files (files mixed_files.mesh mixed_files.table mixed_files.claim)
mixed_files_say = files_say mixed_files (soils_written 12 0) (mixed_claim 64 even) mixed_answers mixed_reads.0
    mixed_reads.1 (facts_lem 12 0) mixed_parts.0 mixed_parts.1

mixed_report : report_line 6 mixed_carried ≡ mixed_files.line
unfolding opened
mixed_report = refl

pub mixed_written : Written mixed_files
mixed_written = written_lem mixed_files mixed_verdict mixed_report

mixed_cut : Answers mixed_files.mesh mixed_files.table (cut_claim mixed_files) (pos 6) room 11 25
    (check mixed_files.mesh mixed_files.table (cut_claim mixed_files) (pos 6) room).buffer
unfolding opened
mixed_cut = record { number_is = refl; place_is = refl; buffer_is = refl }

pub mixed_cut_form : MeshAccepted mixed_files.mesh mixed_files.table
    × FormFails file_width (claim_layout (mesh_with mixed_files.mesh mixed_files.table)) (cut_claim mixed_files) 24
mixed_cut_form = cut_form mixed_files 24 mixed_cut

pub mixed_as_a_file : AsAFile two_layers (unfilled 12 0) (mixed_claim 64 even) (answer 64 1 15360 240)
mixed_as_a_file = as_a_file mixed_answered

mixed_fits : TableFits (table_in mixed_files.table) (mesh_in mixed_files.mesh)
mixed_fits = mixed_files_say.mesh_accepted.fits

-- one more than the clay carries
beyond_answers : Answers beyond_files.mesh beyond_files.table beyond_files.claim (pos 6) room 22 13 beyond_files.line
unfolding opened
beyond_answers = record { number_is = refl; place_is = refl; buffer_is = refl }

same_files : (mesh_in beyond_files.mesh ≡ mesh_in mixed_files.mesh)
    × (table_in beyond_files.table ≡ table_in mixed_files.table)
    × (mesh_with beyond_files.mesh beyond_files.table ≡ soils_written 12 0)
    × (claim_in (soils_written 12 0) beyond_files.claim ≡ mixed_claim 65 even)
unfolding opened
same_files = (refl, refl, refl, refl)

beyond_call : OnMesh (soils_written 12 0) (mixed_claim 65 even) 22 13
beyond_call =
    call beyond_files (soils_written 12 0) (mixed_claim 65 even) 22 13 beyond_answers
    (subst₂ TableFits (sym same_files.1) (sym same_files.0) mixed_fits) same_files.2 same_files.3

-- its line has the number and the place, and none twice
beyond_prints : Prints 6 (soils_written 12 0) (mixed_claim 65 even) 22 13 (take report_bytes beyond_files.line)
beyond_prints =
    printed beyond_files (soils_written 12 0) (mixed_claim 65 even) 22 13 beyond_answers
    (subst₂ TableFits (sym same_files.1) (sym same_files.0) mixed_fits) same_files.2 same_files.3

pub beyond_columns : (said (column_of 0 (take report_bytes beyond_files.line)) ≡ some (shows (pos 22) 0))
    × (said (column_of 1 (take report_bytes beyond_files.line)) ≡ some (shows (pos 13) 0))
    × (said (column_of 2 (take report_bytes beyond_files.line)) ≡ some word)
    × (said (column_of 3 (take report_bytes beyond_files.line)) ≡ some word)
beyond_columns = (
  beyond_prints.first,
  beyond_prints.refused (λ e. omega arith),
  beyond_prints.lower_none.1 (inl (λ e. omega arith)),
  beyond_prints.upper_none.1 (inl (λ e. omega arith)),
)

row_13 : (1 < pair_count (soils_written 12 0)) × (0 < sides (soils_written 12 0))
    × (¬ ByDirection (soils_written 12 0) (pair_at (soils_written 12 0) 1).soil)
    × (13 ≡ 1 * sides (soils_written 12 0) + 1) × (pair_at (soils_written 12 0) 1 ≡ record { at = 0; soil = 1 })
unfolding opened
row_13 = (omega arith, omega arith, λ e. let z : ◌≡◌ {A = ℕ} 0 1 = cc in omega arith, refl, refl)

twelve_sides : SidesListed (sides (soils_written 12 0))
unfolding opened
twelve_sides = inl refl

pub clay_fails : ClayFails (soils_written 12 0) (mixed_claim 65 even) 13
clay_fails =
    let lowest = (beyond_call.rows.strength refl).1 in
    record {
      lowest = lowest;
      named = subst (λ (a : Pair). ¬ StrengthAt (soils_written 12 0) (stress (soils_written 12 0) (mixed_claim 65 even))
          (l (mixed_claim 65 even)) (n (mixed_claim 65 even)) (polygon_of (sides (soils_written 12 0))).radius a
          (nth_side (soils_written 12 0) 0)) row_13.4
          (side_fails (soils_written 12 0) (mixed_claim 65 even) twelve_sides lowest.fails 1 0 row_13.0 row_13.1
          row_13.2 row_13.3);
    }

-- the lower layer alone
gap_answers : Answers gap_files.mesh gap_files.table gap_files.claim (pos 6) room 45 12 gap_files.line
unfolding opened
gap_answers = record { number_is = refl; place_is = refl; buffer_is = refl }

pub gap_refused : GapRefused (table_in gap_files.table) (mesh_in gap_files.mesh)
    (claim_in (mesh_with gap_files.mesh gap_files.table) gap_files.claim)
unfolding place_for
gap_refused =
    let told = (on_table gap_files.mesh gap_files.table gap_files.claim (pos 6) room 45 12 gap_files.line gap_answers
    fits).exactly in (
      (told.refuses 45 12 (λ e. omega arith)).0 (refl, refl),
      (told.layers_asked.exactly 45 12 (inl refl)).0 (refl, refl),
    )

-- ---- 108 sides

pub many_verdict : files_verdict file_width many_files.mesh many_files.table many_files.claim
    ≡ Accepted (Count 0) (Exact (pos 64) (pos 1)) (Exact (pos 53181440) (pos 830960))
unfolding opened
many_verdict = refl

many_line : AnswersFor (Accepted (Count 0) (Exact (pos 64) (pos 1)) (Exact (pos 53181440) (pos 830960)))
    (pos 6) room 0 0 many_files.line
unfolding opened
many_line = record { number_is = refl; place_is = refl; buffer_is = refl }

many_answers : Answers many_files.mesh many_files.table many_files.claim (pos 6) room 0 0 many_files.line
many_answers = answers_lem many_files many_verdict many_line

pub many_reads : (mesh_with many_files.mesh many_files.table ≡ soils_written 108 0)
    × (claim_in (soils_written 108 0) many_files.claim ≡ claim_108 64 even)
unfolding opened
many_reads = (refl, refl)

many_open : said (column_of 1 (take report_bytes many_files.line)) ≡ some (shows (pos 0) 0)
unfolding opened
many_open = refl

pub many_call_says : CallSays (soils_written 108 0) (claim_108 64 even) (take report_bytes many_files.line)
many_call_says = call_says many_files (soils_written 108 0) (claim_108 64 even) many_answers many_reads.0 many_reads.1
    (facts_lem 108 0) many_parts.0 many_parts.1 many_open

pub many_lower : LowerPrinted 6 (claim_108 64 even) (take report_bytes many_files.line)
many_lower = (accepted_prints many_files (soils_written 108 0)
    (claim_108 64 even) many_answers many_reads.0 many_reads.1 (facts_lem 108 0) many_parts.0 many_parts.1).lower refl
    many_parts.0 many_kinds.1

pub many_files_say : FilesSay many_files (files many_files.mesh many_files.table many_files.claim)
many_files_say = files_say many_files (soils_written 108 0) (claim_108 64 even) many_answers many_reads.0 many_reads.1
    (facts_lem 108 0) many_parts.0 many_parts.1

many_report : report_line 6 (Accepted (Count 0) (Exact (pos 64) (pos 1)) (Exact (pos 53181440) (pos 830960)))
    ≡ many_files.line
unfolding opened
many_report = refl

pub many_written : Written many_files
many_written = written_lem many_files many_verdict many_report

many_cut : Answers many_files.mesh many_files.table (cut_claim many_files) (pos 6) room 11 25
    (check many_files.mesh many_files.table (cut_claim many_files) (pos 6) room).buffer
unfolding opened
many_cut = record { number_is = refl; place_is = refl; buffer_is = refl }

pub many_cut_form : MeshAccepted many_files.mesh many_files.table
    × FormFails file_width (claim_layout (mesh_with many_files.mesh many_files.table)) (cut_claim many_files) 24
many_cut_form = cut_form many_files 24 many_cut

pub many_as_a_file : AsAFile two_layers (unfilled 108 0) (claim_108 64 even) (answer 64 1 53181440 830960)
many_as_a_file = as_a_file many_answered

-- ---- bedded clay

pub bedded_verdict : files_verdict file_width bedded_files.mesh bedded_files.table bedded_files.claim
    ≡ Accepted (Count 0) Absent (Exact (pos 15600) (pos 240))
unfolding opened
bedded_verdict = refl

bedded_line : AnswersFor (Accepted (Count 0) Absent (Exact (pos 15600) (pos 240))) (pos 6) room 0 0 bedded_files.line
unfolding opened
bedded_line = record { number_is = refl; place_is = refl; buffer_is = refl }

bedded_answers : Answers bedded_files.mesh bedded_files.table bedded_files.claim (pos 6) room 0 0 bedded_files.line
bedded_answers = answers_lem bedded_files bedded_verdict bedded_line

pub bedded_reads : (mesh_with bedded_files.mesh bedded_files.table ≡ soils_written 12 1)
    × (claim_in (soils_written 12 1) bedded_files.claim ≡ bedded_claim 65 even)
unfolding opened
bedded_reads = (refl, refl)

bedded_open : said (column_of 1 (take report_bytes bedded_files.line)) ≡ some (shows (pos 0) 0)
unfolding opened
bedded_open = refl

pub bedded_call_says : CallSays (soils_written 12 1) (bedded_claim 65 even) (take report_bytes bedded_files.line)
bedded_call_says = call_says bedded_files (soils_written 12 1)
    (bedded_claim 65 even) bedded_answers bedded_reads.0 bedded_reads.1
    (facts_lem 12 1) bedded_parts.0 bedded_parts.1 bedded_open

pub bedded_files_say : FilesSay bedded_files (files bedded_files.mesh bedded_files.table bedded_files.claim)
bedded_files_say = files_say bedded_files (soils_written 12 1)
    (bedded_claim 65 even) bedded_answers bedded_reads.0 bedded_reads.1 (facts_lem 12 1) bedded_parts.0 bedded_parts.1

-- no lower load is told, and the plane (4, 3) holds at node 3 with the clay
pub bedded_untold : said (column_of 2 (take report_bytes bedded_files.line)) ≡ some word
bedded_untold =
    (accepted_prints bedded_files (soils_written 12 1) (bedded_claim 65 even) bedded_answers bedded_reads.0
    bedded_reads.1 (facts_lem 12 1) bedded_parts.0 bedded_parts.1).lower_none.1
    (inr (inr (1, bedded_kind.1, bedded_kind.0)))

pub bedded_plane : PlaneHoldsAt (soils_written 12 1) (stress (soils_written 12 1) (bedded_claim 65 even))
    (n (bedded_claim 65 even)) (record { at = 2; soil = 1 }) (point (pos 4) (pos 3))
bedded_plane =
    (accepted_call bedded_files (soils_written 12 1) (bedded_claim 65 even) bedded_answers bedded_reads.0
    bedded_reads.1 (facts_lem 12 1) bedded_parts.0 bedded_parts.1).directions.accepted
    (bedded_parts.0, inl refl) (record { at = 2; soil = 1 }) bedded_call_says.mesh.clay_pair bedded_kind.0
    (point (pos 4) (pos 3)) bedded_kind.2

bedded_report : report_line 6 (Accepted (Count 0) Absent (Exact (pos 15600) (pos 240))) ≡ bedded_files.line
unfolding opened
bedded_report = refl

pub bedded_written : Written bedded_files
bedded_written = written_lem bedded_files bedded_verdict bedded_report

bedded_cut : Answers bedded_files.mesh bedded_files.table (cut_claim bedded_files) (pos 6) room 11 25
    (check bedded_files.mesh bedded_files.table (cut_claim bedded_files) (pos 6) room).buffer
unfolding opened
bedded_cut = record { number_is = refl; place_is = refl; buffer_is = refl }

pub bedded_cut_form : MeshAccepted bedded_files.mesh bedded_files.table
    × FormFails file_width (claim_layout (mesh_with bedded_files.mesh bedded_files.table)) (cut_claim bedded_files) 24
bedded_cut_form = cut_form bedded_files 24 bedded_cut

pub bedded_as_a_file : AsAFile two_layers (unfilled 12 1) (bedded_claim 65 even) (answer 0 0 15600 240)
bedded_as_a_file = as_a_file bedded_answered
