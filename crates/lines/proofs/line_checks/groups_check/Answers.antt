-- `groups_check` meets its contract: group after group, and no number left over.
use mathlib.Core.Path.{refl, sym, ◌∙◌}
use native.Mathlib.Omega.{arith}
use Rattle.std.proofs.lemmas.List.{take_rest}
use Rattle.scope.proofs.Answered.{passed_on}
use Rattle.lines.specs.LineContracts.{file_numbers}
use Rattle.lines.proofs.TableLaws.{few_in}
use Rattle.lines.proofs.ThroughLaws.{through_start, this_good, through_stop, through_there, through_next, through_end}
use Rattle.lines.proofs.line_checks.groups_check.Goals as goal

pub loop-g-init : goal.loop-g-init
loop-g-init c = through_start _ _ _ _

pub group_check-requires : goal.group_check-requires
group_check-requires c =
    let h = c.loop-g.invariant in
    record {
      good = this_good c.requires.table h c.loop-g-test.true;
      small_line = omega (arith, h.few_lines, c.loop-g-test.true);
    }

pub returns-in_err-group_check : goal.returns-in_err-group_check
returns-in_err-group_check c =
    passed_on c.from_residual.result c.in_err-group_check.field-0.0 c.from_residual.ensures.1
    ∙ through_stop c.requires.table c.loop-g.invariant c.loop-g-test.true c.in_err-group_check.ensures refl

pub loop-g-preserved : goal.loop-g-preserved
loop-g-preserved c =
    through_next c.requires.table c.loop-g.invariant c.loop-g-test.true c.in_ok-group_check.ensures refl
    (take_rest c.loop-g.rest.now _)

pub overflow_mul-rest : goal.overflow_mul-rest
overflow_mul-rest c =
    record { fits = omega (arith, few_in (this_good c.requires.table c.loop-g.invariant c.loop-g-test.true)) }

pub offset_bounds-rest-g : goal.offset_bounds-rest-g
offset_bounds-rest-g c =
    record { fits = omega (arith, few_in (this_good c.requires.table c.loop-g.invariant c.loop-g-test.true)) }

pub slice_bounds-rest-count : goal.slice_bounds-rest-count
slice_bounds-rest-count c =
    through_there c.requires.table c.loop-g.invariant c.loop-g-test.true c.in_ok-group_check.ensures refl

pub slice_bounds-rest-start : goal.slice_bounds-rest-start
slice_bounds-rest-start c =
    through_there c.requires.table c.loop-g.invariant c.loop-g-test.true c.in_ok-group_check.ensures refl

pub overflow_add-line : goal.overflow_add-line
overflow_add-line c =
    let h = c.loop-g.invariant in
    let few = (this_good c.requires.table h c.loop-g-test.true).few in
    record { fits = omega (arith, few.few_lines, h.few_lines, c.loop-g-test.true) }

pub returns-then-not-is_empty : goal.returns-then-not-is_empty
unfolding file_numbers
returns-then-not-is_empty c =
    c.refused.ensures
    ∙ through_end c.requires.table c.loop-g.invariant c.loop-g-test.false
    (sym c.if-not-is_empty.true ∙ c.is_empty.ensures)

pub returns : goal.returns
unfolding file_numbers
returns c =
    through_end c.requires.table c.loop-g.invariant c.loop-g-test.false
    (sym c.if-not-is_empty.false ∙ c.is_empty.ensures)
