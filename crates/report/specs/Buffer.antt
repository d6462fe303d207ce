-- What the report leaves in the buffer that is lent, and what is answered.
use Rattle.std.specs.Prelude.{◌≡◌, cond, List, ◌++◌, ℕ, ltb, ℤ, nat_abs, length, drop, Result, Ok, Err}
use Rattle.scope.specs.Cases.Verdict.{Verdict}
use Rattle.scope.specs.Answer.{number_of, place_of}
use Rattle.report.specs.declared.ReportError.{ReportError}
use Rattle.report.specs.declared.ReportError.TheVariants.{OtherDecimals, ShortBuffer}
use Rattle.report.specs.Report.{report_bytes, report_line, is_decimals}

-- whether the line is written, and else why not
abbrev pub Written : Type 0
Written = Result (Unit {0}) ReportError

-- what is answered where z decimals are asked for: "for any other number, checked before 41" (document 02, N5);
-- "buffer under 113 bytes"
unfoldable pub reported : ℤ → List ℕ → Written
reported z buffer =
    cond (is_decimals z) (cond (ltb (length buffer) report_bytes) (Err ShortBuffer) (Ok tt)) (Err OtherDecimals)

-- "untouched" where no line is written; else the report stands at its front, and "Bytes beyond 113 are never written"
unfoldable pub after_answer : Written → ℕ → Verdict → List ℕ → List ℕ
after_answer (Ok x) d v buffer = report_line d v ++ drop report_bytes buffer
after_answer (Err e) d v buffer = buffer

unfoldable pub after_report : ℤ → Verdict → List ℕ → List ℕ
after_report z v buffer = after_answer (reported z buffer) (nat_abs z) v buffer

-- "41, place 0"; "43, place 0"
abbrev pub error_number : ReportError → ℕ
error_number OtherDecimals = 43
error_number ShortBuffer = 41

-- what is returned for each answer: the number of what keeps the line from being written, and place 0; else the
-- verdict's number and place
abbrev pub reported_number : Verdict → Written → ℕ
reported_number v (Ok x) = number_of v
reported_number v (Err e) = error_number e

abbrev pub reported_place : Verdict → Written → ℕ
reported_place v (Ok x) = place_of v
reported_place v (Err e) = 0

-- the report of v, with z decimals asked for, makes the bytes `before` of a buffer `after`, and answers r
pub record Reports (z : ℤ) (v : Verdict) (before after : List ℕ) (r : Written) : Type 0 where
  pub buffer : after ≡ after_report z v before
  pub answer : r ≡ reported z before
