-- `multipliers_limit` meets its contract: 31, then the sums over all rows to columns that are 0, and by them 32 and 33.
use mathlib.Core.Path.{refl, ◌∙◌}
use Prim.Native.Nat.{◌*◌}
use native.Mathlib.Omega.{arith}
use Rattle.scope.specs.Columns.{at}
use Rattle.scope.specs.Mesh.{nodes}
use Rattle.scope.specs.Phases.{check_phases}
use Rattle.scope.specs.Rows.{rows_of}
use Rattle.scope.specs.Sums.{column_sum, live_sum}
use Rattle.scope.specs.Verdict.{multipliers_check}
use Rattle.scope.proofs.Answered.{first_refuses, second_decides}
use Rattle.multipliers.proofs.PairSumLaws.{no_sums, whole_room, first_room}
use Rattle.multipliers.proofs.LimitLaws.{sums_check, sums_checked, limit_found}
use Rattle.multipliers.proofs.multiplier_checks.multipliers_limit.Goals as goal

pub returns-in_err-unfixed_check-clause-outcome : goal.returns-in_err-unfixed_check-clause-outcome
unfolding multipliers_check check_phases
returns-in_err-unfixed_check-clause-outcome c =
    let m = c.args.rows.now.mesh.mesh.numbers.now in
    let w = at c.args.rows.now.multipliers.now in
    first_refuses c.from_residual.result c.in_err-unfixed_check.field-0.0
    (sums_check (column_sum w (rows_of m)) (3 * nodes m) (live_sum w (rows_of m))) c.from_residual.ensures.1
    c.in_err-unfixed_check.ensures refl

pub row_sums-sums-requires : goal.row_sums-sums-requires
row_sums-sums-requires c = no_sums refl

pub sums_limit-requires-clause-sums_fit : goal.sums_limit-requires-clause-sums_fit
sums_limit-requires-clause-sums_fit c =
    let mesh = c.args.rows.now.mesh in
    first_room _ (whole_room _ _ mesh.mesh.sized.facts.counts mesh.few_with_sides c.row_sums-sums.ensures)

pub returns : goal.returns
unfolding multipliers_check check_phases
returns c =
    let sized = c.args.rows.now.mesh.mesh.sized in
    let counts = sized.facts.counts in
    let summed = c.row_sums-sums.ensures in
    let checked =
    sums_checked _ _ (record { listed = counts.sides_listed }) _ summed (omega (arith, sized.nodes_are))
    (omega (arith, sized.nodes_are, summed.size, counts.nodes_most)) in
    record {
      outcome = second_decides c.in_ok-unfixed_check.ensures refl (c.sums_limit.ensures.outcome ∙ checked);
      load = limit_found _ _ (record { listed = counts.sides_listed }) _ summed _ c.sums_limit.ensures.load;
    }
