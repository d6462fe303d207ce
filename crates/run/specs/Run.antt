-- A solver's run handed over whole (document 02, N3): "One call is to take claims written one after another and write
-- their reports in turn."
-- A mesh is given by its outcome o, whether it passes or what it is refused for, and by its numbers m as the claims are
-- judged on them: with a borehole table, the outcome of both and the filled mesh (document 02, N8).
use Rattle.std.specs.Prelude.{◌≡◌, Bool, false, cond, ◌||◌, ℕ, zero, suc, ◌/◌, eqb, ℤ, length, take, drop}
use mathlib.Core.List.{List, [], ◌∷◌, ◌++◌, flat_map}
use Rattle.scope.specs.Cases.Outcome.{Outcome}
use Rattle.scope.specs.Cases.Outcome.{Passed, Refused as Fails}
use Rattle.scope.specs.Cases.Verdict.{Verdict}
use Rattle.scope.specs.Cases.Verdict.{Accepted, Refused}
use Rattle.scope.specs.Verdict.{answer, claim_verdict}
use Rattle.reader.specs.File.{file_width}
use Rattle.report.specs.Report.{report_bytes, report_line, usual_decimals}
use Rattle.judge.specs.Judge.{claim_numbers}
use Rattle.judge.specs.ClaimBytes.{claim_bytes}
use Rattle.run.specs.declared.RunAnswer.{RunAnswer}

-- ---- one claim

-- "Each claim's length follows from its header and the mesh": the bytes that are the next claim's own, at the front of
-- those that are left; "a claim cut short" has what is left of them
unfoldable pub own_bytes : List ℤ → List ℕ → List ℕ
own_bytes m left = take (claim_bytes m (claim_numbers file_width m left)) left

-- the verdict of a single call on a claim: "the reports equal those of single calls"
unfoldable pub verdict_on : Outcome → List ℤ → List ℕ → Verdict
verdict_on o m claim = answer o (claim_verdict m (claim_numbers file_width m claim))

-- "A claim refused with 11, 12 or 13 ends the run"
unfoldable pub ends_run : Verdict → Bool
ends_run (Accepted o lower upper) = false
ends_run (Refused k place) = eqb k 11 || eqb k 12 || eqb k 13

-- ".. and its bytes aren't taken"
unfoldable pub taken_of : Outcome → List ℤ → List ℕ → List ℕ
taken_of o m claim = cond (ends_run (verdict_on o m claim)) [] claim

-- "The desk program and N3's runs go on with six" decimals (document 02, N5)
unfoldable pub line_of : Outcome → List ℤ → List ℕ → List ℕ
line_of o m claim = report_line usual_decimals (verdict_on o m claim)

-- ---- all claims

-- the claims that get a report, each by its own bytes, where the buffer has room for so many reports:
-- "A run ends first of all when the buffer lacks 113 bytes for the next report";
-- "A refused mesh writes its report once, even with no claim byte, and takes no claim";
-- "With no claim byte left it ends without a further report";
-- else the next claim, and where it does not end the run those that begin after it: "Bytes after a full claim begin
-- the next"
unfoldable pub claims_judged : ℕ → Outcome → List ℤ → List ℕ → List (List ℕ)
claims_judged zero o m left = []
claims_judged (suc room) (Fails k place) m left = [] ∷ []
claims_judged (suc room) Passed m [] = []
claims_judged (suc room) Passed m (b ∷ bs) =
    let own : List ℕ = own_bytes m (b ∷ bs) in
    own ∷ cond (ends_run (verdict_on Passed m own)) [] (claims_judged room Passed m (drop (length own) (b ∷ bs)))

-- ---- the whole run

-- what is answered, "reports written and claim bytes taken", and what the buffer holds afterwards
pub record Ran : Type 0 where
  pub reports : ℕ
  pub bytes : ℕ
  pub buffer : List ℕ

-- the reports stand one after another at the buffer's front, and no other byte is written
unfoldable pub ran : Outcome → List ℤ → List (List ℕ) → List ℕ → Ran
ran o m judged buffer = record {
  reports = length judged;
  bytes = length (flat_map (taken_of o m) judged);
  buffer = flat_map (line_of o m) judged ++ drop (length (flat_map (line_of o m) judged)) buffer;
}

unfoldable pub run : Outcome → List ℤ → List ℕ → List ℕ → Ran
run o m claims buffer = ran o m (claims_judged (length buffer / report_bytes) o m claims) buffer

-- a run answers r and makes the bytes `before` of the buffer `after`
pub record RunAnswers (o : Outcome) (m : List ℤ) (claims before : List ℕ) (r : RunAnswer) (after : List ℕ)
    : Type 0 where
  pub reports_are : r.reports ≡ (run o m claims before).reports
  pub bytes_are : r.bytes ≡ (run o m claims before).bytes
  pub buffer_is : after ≡ (run o m claims before).buffer
