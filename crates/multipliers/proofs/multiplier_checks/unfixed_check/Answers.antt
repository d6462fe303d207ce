-- `unfixed_check` meets its contract: the lowest row that fails, or none.
use mathlib.Core.Path.{refl, ap}
use Prim.Native.Nat.{suc}
use native.Mathlib.Numerals.{add-one}
use native.Mathlib.Omega.{arith}
use Rattle.std.proofs.Common.{length}
use Rattle.scope.specs.declared.Place.TheVariants.{Row}
use Rattle.scope.specs.Checks.{all_below}
use Rattle.scope.specs.Phases.{check_phase}
use Rattle.scope.specs.Rows.{equality_rows}
use Rattle.scope.proofs.RowCounts.{equality_count_lem}
use Rattle.lines.proofs.Asked.{asked_more, asked_stops, asked_all}
use Rattle.multipliers.proofs.LimitLaws.{unfixed_test}
use Rattle.multipliers.proofs.multiplier_checks.unfixed_check.Goals as goal

pub loop-k-init : goal.loop-k-init
unfolding all_below
loop-k-init c = refl

pub returns-in_err-demand : goal.returns-in_err-demand
unfolding check_phase
returns-in_err-demand c =
    let m = c.args.rows.now.mesh.mesh.numbers.now in
    asked_stops (unfixed_test m c.args.rows.now.multipliers.now) c.loop-k.invariant c.zero_if_unfixed-passes.ensures
    c.from_residual.result c.in_err-demand.field-0.0 c.from_residual.ensures.1 c.at.ensures c.in_err-demand.ensures
    (λ k. Row (suc k)) (ap Row (add-one _)) (length (equality_rows m))
    (omega (arith, c.equality_count-k-end.ensures.rows, equality_count_lem m))

pub loop-k-preserved : goal.loop-k-preserved
loop-k-preserved c =
    asked_more (unfixed_test _ _) c.loop-k.invariant c.zero_if_unfixed-passes.ensures _ _ c.in_ok-demand.ensures

pub returns : goal.returns
unfolding check_phase
returns c =
    let m = c.args.rows.now.mesh.mesh.numbers.now in
    asked_all (unfixed_test m c.args.rows.now.multipliers.now) c.loop-k.invariant 31 (λ k. Row (suc k))
    (length (equality_rows m)) (omega (arith, c.equality_count-k-end.ensures.rows, equality_count_lem m))
