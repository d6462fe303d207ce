-- The second column of any line of an accepted claim with both parts reads as the number of its open rows: the line
-- says what the verdict says, and the verdict carries the count.
use mathlib.Core.Path.{◌≡◌, refl, ◌∙◌, ap, subst}
use mathlib.Core.List.{List}
use mathlib.Core.Option.{some}
use Prim.Native.Nat.{ℕ, ◌≤◌}
use lib.IntN.{ℤ, pos}
use Rattle.scope.specs.Cases.OpenRows.{OpenRows}
use Rattle.scope.specs.Cases.OpenRows.{Count}
use Rattle.scope.specs.Cases.Load.{Load}
use Rattle.scope.specs.Cases.Verdict.{Verdict}
use Rattle.scope.specs.Cases.Verdict.{Accepted}
use Rattle.scope.specs.Columns.{n, l}
use Rattle.scope.specs.Rows.{rows_of}
use Rattle.scope.specs.Sums.{open_rows}
use Rattle.scope.specs.Claim.{stress, multiplier}
use Rattle.scope.specs.Verdict.{verdict, lower_load, upper_load}
use Rattle.scope.specs.Accepted.{ClaimAccepted}
use Rattle.scope.proofs.Exactly.{accepted_exactly, claim_by_parts}
use Rattle.scope.proofs.Parts.{open_rows_count}
use Rattle.scope.specs.Statements.{HasField, HasMultipliers}
use Rattle.report.specs.Text.{Said, number, said}
use Rattle.report.specs.Report.{report_line}
use Rattle.report.specs.Says.{column_of, RowsSay, rows, Says, says_accepted}
use Rattle.report.proofs.Line.{line_says}
use Rattle.pechuvo.proofs.VerdictFits.{held}

count_says : {k : ℕ} {b : Said} → RowsSay (Count k) b → b ≡ number (pos k) 0
count_says (rows k) = refl

second : {d k : ℕ} {lower upper : Load} {a b c e : Said} → Says d (Accepted (Count k) lower upper) a b c e
    → b ≡ number (pos k) 0
second (says_accepted r x y) = count_says r

pub open_column : (d : ℕ) (m c : List ℤ) → d ≤ 7 → ClaimAccepted m c → HasField c → HasMultipliers c
    → said (column_of 1 (report_line d (verdict m c))) ≡ some
    (number (pos (open_rows (stress m c) (l c) (n c) (multiplier m c) (rows_of m))) 0)
open_column d m c h a f w =
    let parts = (claim_by_parts m c).0 a in
    let count = (open_rows_count m c (parts.2 f) (parts.3 w)).both in
    let e : verdict m c ≡ Accepted (Count (open_rows (stress m c) (l c) (n c) (multiplier m c) (rows_of m)))
    (lower_load m c) (upper_load m c) = (accepted_exactly m c).1 a
    ∙ ap (λ (o : OpenRows). Accepted o (lower_load m c) (upper_load m c)) count in
    let line = line_says d (verdict m c) h (held m c) in
    line.read_second ∙ ap some
    (second (subst (λ (v : Verdict). Says d v line.first line.second line.third line.fourth) e line.says))
