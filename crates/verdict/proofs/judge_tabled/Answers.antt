-- `judge_tabled` meets its contract: a mesh is copied only where its lines have passed, so that the copy has room.
use mathlib.Core.Path.{sym, ap, subst}
use mathlib.Core.List.{List}
use lib.IntN.{ℤ}
use lib.ListN.{length}
use Rattle.scope.proofs.Answered.{first_refuses}
use Rattle.verdict.specs.JudgeContracts.{LinesPassed}
use Rattle.verdict.proofs.LeftLaws.{copied, copy_fits, lines_leave}
use Rattle.verdict.proofs.TableLaws.{few_numbers_lem, after_lines, lines_first}
use Rattle.verdict.proofs.judge_tabled.Goals as goal

pub returns-in_err-mesh_lines-clause-outcome : goal.returns-in_err-mesh_lines-clause-outcome
returns-in_err-mesh_lines-clause-outcome c =
    let t = c.args.t.now in
    let m = c.args.m.now in
    first_refuses c.from_residual.result c.in_err-mesh_lines.field-0.0 (after_lines t m)
    c.from_residual.ensures.1 c.in_err-mesh_lines.ensures (lines_first t m c.requires)

pub returns-in_err-mesh_lines-clause-left : goal.returns-in_err-mesh_lines-clause-left
returns-in_err-mesh_lines-clause-left c =
    lines_leave c.args.t.now c.args.m.now c.requires c.in_err-mesh_lines.ensures

pub copy_numbers-requires : goal.copy_numbers-requires
copy_numbers-requires c = few_numbers_lem _ (sym c.in_ok-mesh_lines.ensures)

pub slice_bounds-copy-end : goal.slice_bounds-copy-end
slice_bounds-copy-end c = copy_fits _ _ c.copy_numbers.ensures

pub slice_bounds-judge_layers-end : goal.slice_bounds-judge_layers-end
slice_bounds-judge_layers-end c = sym (ap length (copied _ _ c.copy_numbers.ensures))

pub judge_layers-requires : goal.judge_layers-requires
judge_layers-requires c =
    let same = copied _ _ c.copy_numbers.ensures in record {
      lines_passed = subst (λ (m : List ℤ). LinesPassed c.args.t.now m) (sym same)
          (record { tabled = c.requires; lines = sym c.in_ok-mesh_lines.ensures });
      copied = sym same;
    }

pub returns-clause-outcome : goal.returns-clause-outcome
returns-clause-outcome c = rw (copied _ _ c.copy_numbers.ensures) at c.judge_layers.ensures.outcome

pub returns-clause-pairs : goal.returns-clause-pairs
returns-clause-pairs c = rw (copied _ _ c.copy_numbers.ensures) at c.judge_layers.ensures.pairs

pub returns-clause-left : goal.returns-clause-left
returns-clause-left c = rw (copied _ _ c.copy_numbers.ensures) at c.judge_layers.ensures.left
