-- `check_numbers` meets its contract: an empty table is none, and a mesh is copied only where its lines have passed, so
-- that it has room.
use mathlib.Core.Path.{sym, ◌∙◌, ap}
use native.Mathlib.Omega.{arith}
use borrow.Author.Tests.{tests}
use lib.ListN.{length}
use Rattle.scope.specs.Verdict.{answer, claim_verdict}
use Rattle.scope.specs.Table.{mesh_read}
use Rattle.scope.proofs.TableVerdict.{has_table_lem}
use Rattle.verdict.proofs.Handed.{answer_refuses}
use Rattle.verdict.proofs.LeftLaws.{copied, copy_fits}
use Rattle.verdict.proofs.TableLaws.{few_numbers_lem, after_lines, mesh_lines_first, alone}
use Rattle.verdict.proofs.check_numbers.Goals as goal

pub returns-then-is_empty : goal.returns-then-is_empty
returns-then-is_empty c = c.check_alone.ensures ∙ alone _ _ _ (omega (arith, tests))

pub copy_numbers-requires : goal.copy_numbers-requires
copy_numbers-requires c = few_numbers_lem _ (sym c.in_ok-mesh_lines.ensures)

pub slice_bounds-copy-end : goal.slice_bounds-copy-end
slice_bounds-copy-end c = copy_fits _ _ c.copy_numbers.ensures

pub slice_bounds-check_filled-end : goal.slice_bounds-check_filled-end
slice_bounds-check_filled-end c = sym (ap length (copied _ _ c.copy_numbers.ensures))

pub returns-in_err-mesh_lines : goal.returns-in_err-mesh_lines
returns-in_err-mesh_lines c =
    let t = c.args.t.now in
    let m = c.args.m.now in
    answer_refuses c.from_residual.result c.in_err-mesh_lines.field-0.0
    (answer (after_lines t m) (claim_verdict (mesh_read t m) c.args.c.now))
    c.from_residual.ensures.1 c.in_err-mesh_lines.ensures
    (mesh_lines_first t m c.args.c.now (has_table_lem _ (omega (arith, tests))))

pub check_filled-requires : goal.check_filled-requires
check_filled-requires c = record {
  lines_passed = record { tabled = has_table_lem _ (omega (arith, tests)); lines = sym c.in_ok-mesh_lines.ensures };
  copied = copied _ _ c.copy_numbers.ensures;
}
