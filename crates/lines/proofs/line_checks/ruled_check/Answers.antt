-- `ruled_check` meets its contract: the first line that is refused, or none.
use mathlib.Core.Path.{refl, ◌∙◌}
use native.Mathlib.Omega.{arith}
use Rattle.scope.specs.Checks.{lowest}
use Rattle.scope.proofs.Answered.{passed_on}
use Rattle.lines.specs.LineContracts.{file_numbers}
use Rattle.lines.proofs.GroupLaws.{ruled_more, ruled_stops, ruled_ends}
use Rattle.lines.proofs.line_checks.ruled_check.Goals as goal

pub loop-k-init : goal.loop-k-init
unfolding lowest
loop-k-init c = refl

pub returns-in_err-line_at : goal.returns-in_err-line_at
returns-in_err-line_at c =
    let a = c.args in
    passed_on c.from_residual.result c.in_err-line_at.field-0.0 c.from_residual.ensures.1
    ∙ ruled_stops a.rule a.sizes (file_numbers a.file) a.s.now a.line _ c.loop-k.invariant c.in_err-line_at.ensures
    a.count c.loop-k-test.true refl

pub loop-k-preserved : goal.loop-k-preserved
loop-k-preserved c =
    let a = c.args in
    ruled_more a.rule a.sizes (file_numbers a.file) a.s.now a.line _ c.loop-k.invariant c.in_ok-line_at.ensures refl

pub returns : goal.returns
returns c =
    let a = c.args in
    ruled_ends a.rule a.sizes (file_numbers a.file) a.s.now a.line _ a.count c.loop-k.invariant (omega arith)
