-- `groups_check` meets its contract. The loop's invariant: the groups so far have passed.
use mathlib.Core.List.{map}
use Rattle.lines.specs.Table.{meant}
use Rattle.lines.specs.LineContracts.{groups_check, file_numbers}
use Rattle.lines.proofs.ThroughLaws.{Through}
use Rattle.lines.proofs.line_checks.groups_check.Given as goal

abbrev pub invariant-loop-g : goal.invariant-loop-g
invariant-loop-g l =
    Through (groups_check (file_numbers l.file) (map (meant l.sizes) l.fn.groups.of) l.fn.s 2)
    (file_numbers l.file) l.sizes l.fn.groups.of l.rest l.line l.g-index
