-- `gaps_check` meets its contract: the lowest height from which no layer goes on, or none.
use mathlib.Core.Path.{◌∙◌}
use native.Mathlib.Omega.{arith}
use Rattle.integer.proofs.Machine.{machine, casts, meets}
use Rattle.scope.proofs.Answered.{refused_at}
use Rattle.layers.proofs.GapLaws.{found_has, top_not_negative, top_counted, rises, covered_more, gap_here, no_gap}
use Rattle.layers.proofs.layer_checks.gaps_check.Goals as goal

pub returns-in_default : goal.returns-in_default
returns-in_default c =
    let inv = c.loop-h.invariant in
    refused_at c.at.ensures
    ∙ gap_here _ _ _ inv.covered _ inv.risen (omega (arith, c.loop-h-test.true)) c.in_default.ensures.none (omega arith)

pub overflow_cast-h-in-loop-h : goal.overflow_cast-h-in-loop-h
overflow_cast-h-in-loop-h c =
    let found = c.in-Some.ensures.found in
    let top = c.layer-h.ensures.top in
    let least = top_not_negative _ _ _ (found_has _ _ c.args.layers.now.counted found) in (
      meets (search (machine, casts) depth 30) (omega arith) least,
      meets (search (machine, casts) depth 30) (omega arith) (omega arith),
    )

pub loop-h-smaller : goal.loop-h-smaller
loop-h-smaller c =
    let has = found_has _ _ c.args.layers.now.counted c.in-Some.ensures.found in
    omega (arith, c.loop-h-test.true, rises _ _ _ has (top_counted _ _ _ has c.layer-h.ensures.top))

pub loop-h-preserved : goal.loop-h-preserved
loop-h-preserved c =
    let inv = c.loop-h.invariant in
    let layer = c.layer-h.ensures in
    let has = found_has _ _ c.args.layers.now.counted c.in-Some.ensures.found in
    let top = top_counted _ _ _ has layer.top in record {
      risen = omega (arith, inv.risen, rises _ _ _ has top);
      covered = covered_more _ _ _ inv.covered layer.there has top;
    }

pub returns : goal.returns
returns c = no_gap _ _ _ c.loop-h.invariant.covered _ (omega (arith, c.loop-h-test.false))
