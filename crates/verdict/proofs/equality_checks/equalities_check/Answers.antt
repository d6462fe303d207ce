-- `equalities_check` meets its contract: the first row that fails, or none.
use mathlib.Core.Path.{ap}
use Prim.Native.Nat.{suc}
use native.Mathlib.Numerals.{add-one}
use native.Mathlib.Omega.{arith}
use lib.ListN.{length}
use Rattle.scope.specs.declared.Place.TheVariants.{Row}
use Rattle.scope.specs.Phases.{check_phase}
use Rattle.scope.specs.Rows.{equality_rows}
use Rattle.scope.proofs.RowCounts.{equality_count_lem}
use Rattle.lines.proofs.Asked.{asked_more, asked_stops, asked_all}
use Rattle.verdict.specs.FieldContracts.{passes}
use Rattle.verdict.proofs.equality_checks.equalities_check.Goals as goal

pub returns-in_err-demand : goal.returns-in_err-demand
unfolding check_phase
returns-in_err-demand c =
    let field = c.args.field.now in
    let m = field.mesh.mesh.numbers.now in
    asked_stops (passes field) c.loop-k.invariant c.equality_passes-passes.ensures c.from_residual.result
    c.in_err-demand.field-0.0 c.from_residual.ensures.1 c.at.ensures c.in_err-demand.ensures (λ i. Row (suc i))
    (ap Row (add-one c.loop-k.k)) (length (equality_rows m))
    (omega (arith, c.loop-k-test.true, c.equality_count-k-end.ensures.rows, equality_count_lem m))

pub loop-k-preserved : goal.loop-k-preserved
loop-k-preserved c =
    asked_more (passes c.args.field.now) c.loop-k.invariant c.equality_passes-passes.ensures _ _
    c.in_ok-demand.ensures

pub returns : goal.returns
unfolding check_phase
returns c =
    let field = c.args.field.now in
    let m = field.mesh.mesh.numbers.now in
    asked_all (passes field) c.loop-k.invariant 21 (λ i. Row (suc i)) (length (equality_rows m))
    (omega (arith, c.loop-k-test.false, c.equality_count-k-end.ensures.rows, equality_count_lem m))
