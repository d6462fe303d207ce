-- The promises of a run applied to several claims on document 01's sheet, to a refused mesh, to a table that gives the
-- sheet its soil and to one that is refused: antt computes what is answered and written, and the promise says the
-- rest.
use mathlib.Core.Path.{◌≡◌, refl, sym, subst}
use mathlib.Core.Logic.{inl, inr}
use mathlib.Core.List.{List, [], ◌∷◌, map, flat_map, flatten}
use Prim.Native.Nat.{ℕ, ◌*◌, ◌≤◌}
use native.Mathlib.Omega.{arith}
use lib.ListN.{length, take, drop, replicate, length-replicate}
use Rattle.scope.specs.Cases.Outcome.{Passed}
use Rattle.report.specs.Report.{report_bytes}
use Rattle.reader.specs.File.{file_width}
use Rattle.judge.specs.Judge.{mesh_outcome}
use Rattle.judge.specs.ClaimBytes.{claim_bytes}
use Rattle.reader.specs.WellFormed.{bytes_of}
use Rattle.run.specs.declared.RunAnswer.{RunAnswer}
use Rattle.run.specs.Run.{own_bytes, verdict_on, ends_run, taken_of, line_of, claims_judged, ran, run}
use Rattle.run.specs.InTurn.{RefusedByLines, claim_at, start_of}
use Rattle.pechuvo.specs.Sheets.{worked_mesh, soil_zero_mesh}
use Rattle.pechuvo.specs.RunSheets.{claims_on, run_sheet_with, run_sheet, lent, left, ran_on, told, good, beyond}
use Rattle.pechuvo.specs.RunSheets.{field, limit, refused_mesh, refused_line, good_line, several, mesh_alone}
use Rattle.pechuvo.specs.RunSheets.{tabled_run, table_refused, run_sheets}
use Rattle.pechuvo.specs.Promises.{mesh_with, MeshAccepted, RunAsked, report_at, SingleCall, judged_in, RunCall}
use Rattle.pechuvo.proofs.TablePromises.{accepted_mesh, mesh_accepted}
use Rattle.pechuvo.proofs.Sheets.{computed_line}
use Rattle.pechuvo.proofs.RunPromises.{run_call}

-- for proofs by computation: besides the definitions that make a line, those of a run
unfoldable opened : Unit {0}
unfolding computed_line flat_map flatten bytes_of claim_bytes own_bytes verdict_on ends_run taken_of line_of
    claims_judged ran run claims_on run_sheet_with run_sheet ran_on told good beyond field limit refused_mesh
    refused_line good_line several mesh_alone soil_zero_mesh tabled_run table_refused run_sheets
opened = tt

-- each run gives its reports, as one table
pub run_sheets_lem : map ran_on run_sheets ≡ map told run_sheets
unfolding opened
run_sheets_lem = refl

-- ---- several claims: the second is refused with 22, the fourth with 12, and there is a fifth

abbrev answer : RunAnswer
answer = record { reports = 4; bytes = 2095 }

several-answered : RunAsked several.mesh several.table several.claims (lent several) answer (left several)
unfolding opened
several-answered = record { reports_are = refl; bytes_are = refl; buffer_is = refl }

abbrev pub several_judged : List (List ℕ)
several_judged = judged_in several.mesh several.table several.claims (lent several)

several_call : RunCall several.mesh several.table several.claims (lent several) several_judged 4 2095 (left several)
several_call = run_call several.mesh several.table several.claims (lent several) answer (left several) several-answered

-- each claim's own bytes are those of its file
pub several-judged : several_judged ≡ claims_on worked_mesh (good ∷ []) ∷ claims_on worked_mesh (beyond ∷ [])
    ∷ claims_on worked_mesh (field ∷ []) ∷ claims_on worked_mesh (limit ∷ []) ∷ []
unfolding opened
several-judged = refl

-- the third report is that of a single call on the field alone
pub third_report : SingleCall several.mesh several.table (claims_on worked_mesh (field ∷ []))
    (report_at 2 (left several))
third_report = subst (λ (cs : List (List ℕ)). SingleCall several.mesh several.table (claim_at cs 2)
    (report_at 2 (left several))) several-judged (several_call.single_calls 2 (omega arith))

-- the 120 bytes after the reports stay
pub bytes_stay : drop (4 * report_bytes) (left several) ≡ replicate 120 7
unfolding opened
bytes_stay = several_call.rest

pub as_long : length (left several) ≡ 572
unfolding opened
as_long = several_call.size

several_sound : MeshAccepted several.mesh several.table
unfolding opened
several_sound = accepted_mesh several.mesh several.table refl

-- the four claims are the input's first 3,044 bytes; 22 does not end the run, and the bytes of the one refused with 12
-- aren't taken
pub first_bytes : flatten several_judged ≡ take 3044 several.claims
unfolding opened
first_bytes = (several_call.in_turn several_sound).adjoining

pub goes_on_after_22 : ¬ RefusedByLines
    (verdict_on Passed (mesh_with several.mesh several.table) (claim_at several_judged 1))
goes_on_after_22 = (several_call.in_turn several_sound).goes_on 1 (omega (arith, several_call.count))

refused_12 : RefusedByLines (verdict_on Passed (mesh_with several.mesh several.table) (claim_at several_judged 3))
unfolding opened
refused_12 = inr (inl refl)

pub not_taken_12 : 2095 ≡ start_of several_judged 3
not_taken_12 = (several_call.in_turn several_sound).not_taken 3 (sym several_call.count) refused_12

-- ---- a refused mesh with no claim byte: one report, that of a call on any claim

never : ¬ (mesh_outcome file_width mesh_alone.mesh mesh_alone.table ≡ Passed)
unfolding opened
never e = let z : ◌≡◌ {A = ℕ} 0 1 = cc in omega arith

some_room : report_bytes ≤ length (lent mesh_alone)
unfolding opened
some_room = omega arith

pub refused_once : (r : RunAnswer) (after : List ℕ) → RunAsked mesh_alone.mesh mesh_alone.table mesh_alone.claims
    (lent mesh_alone) r after → (r.reports ≡ 1) × (r.bytes ≡ 0)
    × ((claim : List ℕ) → SingleCall mesh_alone.mesh mesh_alone.table claim (report_at 0 after))
refused_once r after h =
    (run_call mesh_alone.mesh mesh_alone.table mesh_alone.claims (lent mesh_alone) r after h).mesh_refused not_sound
    some_room
  where
    not_sound : ¬ MeshAccepted mesh_alone.mesh mesh_alone.table
    not_sound s = never (mesh_accepted mesh_alone.mesh mesh_alone.table s)

-- no room: nothing is written, and there is no 41
pub nothing_written : (r : RunAnswer) (after : List ℕ) → RunAsked several.mesh several.table several.claims
    (replicate 112 7) r after → (r.reports ≡ 0) × (r.bytes ≡ 0) × (after ≡ replicate 112 7)
nothing_written r after h = (run_call several.mesh several.table several.claims (replicate 112 7) r after h).no_room
    (omega (arith, length-replicate {A = ℕ} 112 7))

-- ---- a table that gives the sheet its soil: its claims in turn; and one that ends at the highest node: its report
-- once

tabled_answered : RunAsked tabled_run.mesh tabled_run.table tabled_run.claims (lent tabled_run)
    (record { reports = 2; bytes = 1898 }) (left tabled_run)
unfolding opened
tabled_answered = record { reports_are = refl; bytes_are = refl; buffer_is = refl }

tabled_sound : MeshAccepted tabled_run.mesh tabled_run.table
unfolding opened
tabled_sound = accepted_mesh tabled_run.mesh tabled_run.table refl

tabled_call : RunCall tabled_run.mesh tabled_run.table tabled_run.claims (lent tabled_run)
    (judged_in tabled_run.mesh tabled_run.table tabled_run.claims (lent tabled_run)) 2 1898 (left tabled_run)
tabled_call = run_call tabled_run.mesh tabled_run.table tabled_run.claims (lent tabled_run)
    (record { reports = 2; bytes = 1898 }) (left tabled_run) tabled_answered

pub tabled_bytes : flatten (judged_in tabled_run.mesh tabled_run.table tabled_run.claims (lent tabled_run))
    ≡ take 1898 tabled_run.claims
unfolding opened
tabled_bytes = (tabled_call.in_turn tabled_sound).adjoining

never_fits : ¬ (mesh_outcome file_width table_refused.mesh table_refused.table ≡ Passed)
unfolding opened
never_fits e = let z : ◌≡◌ {A = ℕ} 0 1 = cc in omega arith

table_room_lem : report_bytes ≤ length (lent table_refused)
unfolding opened
table_room_lem = omega arith

pub table_refused_once : (r : RunAnswer) (after : List ℕ)
    → RunAsked table_refused.mesh table_refused.table table_refused.claims (lent table_refused) r after
    → (r.reports ≡ 1) × (r.bytes ≡ 0)
    × ((claim : List ℕ) → SingleCall table_refused.mesh table_refused.table claim (report_at 0 after))
table_refused_once r after h =
    (run_call table_refused.mesh table_refused.table table_refused.claims (lent table_refused) r after h).mesh_refused
    (λ s. never_fits (mesh_accepted table_refused.mesh table_refused.table s)) table_room_lem
