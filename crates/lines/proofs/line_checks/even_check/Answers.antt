-- `even_check` meets its contract: each return by what the numbers of the whole lines say of the lines.
use mathlib.Core.Path.{sym, ◌∙◌}
use native.Mathlib.Omega.{arith}
use Rattle.lines.specs.LineContracts.{file_numbers}
use Rattle.lines.proofs.EvenLaws.{first_found, even_outside, even_short, even_passed}
use Rattle.lines.proofs.line_checks.even_check.Goals as goal

pub returns-in-Some : goal.returns-in-Some
unfolding file_numbers
returns-in-Some c =
    let a = c.args in
    let r = first_found a.s.now a.count a.columns c.min-whole.result c.ranges.lo c.ranges.hi
    c.requires.few.some_column c.min-whole.ensures c.in-Some.ensures.found in
    c.refused.ensures ∙ even_outside r (file_numbers a.file) a.line c.in-Some.ensures.in_count

pub returns-then-whole-count : goal.returns-then-whole-count
unfolding file_numbers
returns-then-whole-count c =
    let a = c.args in
    let r = first_found a.s.now a.count a.columns c.min-whole.result c.ranges.lo c.ranges.hi
    c.requires.few.some_column c.min-whole.ensures (sym c.in_default.ensures.none) in
    c.refused-then-whole-count.ensures ∙ even_short r (file_numbers a.file) a.line (omega arith) c.if-whole-count.true

pub returns : goal.returns
returns c =
    let a = c.args in
    let r = first_found a.s.now a.count a.columns c.min-whole.result c.ranges.lo c.ranges.hi
    c.requires.few.some_column c.min-whole.ensures (sym c.in_default.ensures.none) in
    even_passed r (file_numbers a.file) a.line (omega arith) c.if-whole-count.false
