-- In a buffer as long as the report the check, asked for six decimals, leaves the report line and nothing else.
use mathlib.Core.Path.{◌≡◌, ap, ◌∙◌}
use mathlib.Core.List.{List, ◌++◌, append-nil}
use Prim.Native.Nat.{ℕ}
use native.Mathlib.Omega.{arith}
use lib.IntN.{pos}
use lib.ListN.{length, drop_of_length-le}
use Rattle.scope.specs.Cases.Verdict.{Verdict}
use Rattle.report.specs.Report.{report_bytes, report_line, is_decimals, usual_decimals}
use Rattle.pechuvo.specs.Check.{answered}
use Rattle.pechuvo.specs.Answers.{AnswersFor}

pub whole_line : {v : Verdict} {before after : List ℕ} {number place : ℕ} → length before ≡ report_bytes
    → AnswersFor v (pos 6) before number place after
    → after ≡ report_line usual_decimals v
unfolding answered is_decimals usual_decimals
whole_line {v} {before} {after} l a =
    let b : after ≡ (answered v (pos 6) before).buffer = a.buffer_is in
    (rw (l, answered) at b)
    ∙ ap (λ (rest : List ℕ). report_line usual_decimals v ++ rest)
    (drop_of_length-le before {i = report_bytes} (omega arith))
    ∙ append-nil (report_line usual_decimals v)
