-- `ruled_check` meets its contract. The loop's invariant: the lines before line k have passed.
use mathlib.Core.Path.{◌≡◌}
use Rattle.scope.specs.Cases.Outcome.{Passed}
use Rattle.scope.specs.Checks.{lowest}
use Rattle.lines.specs.LineContracts.{file_numbers, line_step}
use Rattle.lines.specs.Table.{ruled_lines}
use Rattle.lines.proofs.line_checks.ruled_check.Given as goal

abbrev pub invariant-loop-k : goal.invariant-loop-k
invariant-loop-k l = lowest (line_step (file_numbers l.file) (ruled_lines l.rule l.sizes 0) l.s l.line) l.k ≡ Passed
