-- `run_claims` meets its contract: each turn writes one report more, and each way out is an end of the run.
use mathlib.Core.Path.{◌≡◌, sym, ◌∙◌}
use mathlib.Core.List.{List}
use Prim.Native.Nat.{ℕ, ◌+◌, ◌*◌, ◌/◌}
use native.Mathlib.Omega.{arith}
use lib.IntN.{ℤ}
use lib.ListN.{length}
use Rattle.mesh.specs.declared.pairs.PairedMesh.{PairedMesh}
use Rattle.mesh.specs.declared.pairs.ClaimSizes.{ClaimSizes}
use Rattle.mesh.specs.ClaimContracts.{Counted}
use Rattle.mesh.proofs.PairLaws.{counted}
use Rattle.report.specs.Report.{report_bytes, usual_decimals}
use Rattle.run.specs.Run.{own_bytes}
use Rattle.run.proofs.RunLaws.{none_done, same_size, taken_within}
use Rattle.run.proofs.RunLaws.{ends_for_room, ends_for_claims, ends_for_claim, goes_on}
use Rattle.run.proofs.run_claims.Goals as goal

-- bytes that are a claim's own on each mesh with these counts are its own on the mesh that has them
its_own : (m : PairedMesh) {s : ClaimSizes} (left : List ℕ) {own : List ℕ} → s.sizes ≡ m.mesh.sizes
    → s.pairs ≡ length m.pairs.now → ((n : List ℤ) → Counted n s → own ≡ own_bytes n left)
    → own ≡ own_bytes m.mesh.numbers.now left
its_own m left e p own = own m.mesh.numbers.now (counted m _ e p)

pub own_bytes-claim-requires : goal.own_bytes-claim-requires
own_bytes-claim-requires c =
    let sizes = c.claim_sizes-sizes.ensures in
    record { mesh = c.args.m.now.mesh.numbers.now; counted = counted c.args.m.now _ sizes.sizes sizes.pairs }

pub loop-count-init : goal.loop-count-init
loop-count-init c = none_done _ _ _

pub returns-then-at-claims : goal.returns-then-at-claims
returns-then-at-claims c = rw c.answer_of.ensures (ends_for_claims c.loop-count.invariant c.if-at-claims.true)

pub returns-then-ends_run : goal.returns-then-ends_run
unfolding usual_decimals
returns-then-ends_run c =
    let done = c.loop-count.invariant in
    let sizes = c.claim_sizes-sizes.ensures in
    rw c.answer_of-then-ends_run.ensures
    (ends_for_claim done
    (omega (arith, c.loop-count-test.true, same_size done))
    (omega (arith, done.within, c.if-at-claims.false))
    _
    (its_own c.args.m.now _ sizes.sizes sizes.pairs c.own_bytes-claim.ensures)
    c.judge_claim_file-verdict.ensures
    c.write_report.ensures
    c.write_report.auto.buffer
    (sym c.ends_run.ensures ∙ c.if-ends_run.true))

pub overflow_add-at : goal.overflow_add-at
unfolding usual_decimals
overflow_add-at c =
    let done = c.loop-count.invariant in
    let sizes = c.claim_sizes-sizes.ensures in
    let within =
    taken_within done
    (omega (arith, c.loop-count-test.true, same_size done))
    (omega (arith, done.within, c.if-at-claims.false))
    _
    (its_own c.args.m.now _ sizes.sizes sizes.pairs c.own_bytes-claim.ensures)
    c.judge_claim_file-verdict.ensures
    c.write_report.ensures
    c.write_report.auto.buffer in
    omega (arith, within)

pub loop-count-preserved : goal.loop-count-preserved
unfolding usual_decimals
loop-count-preserved c =
    let done = c.loop-count.invariant in
    let sizes = c.claim_sizes-sizes.ensures in
    let k = c.loop-count.count in
    let from : k * report_bytes + report_bytes ≡ (k + 1) * report_bytes = omega arith in
    rw (sym from)
    (goes_on done
    (omega (arith, c.loop-count-test.true, same_size done))
    (omega (arith, done.within, c.if-at-claims.false))
    _
    (its_own c.args.m.now _ sizes.sizes sizes.pairs c.own_bytes-claim.ensures)
    c.judge_claim_file-verdict.ensures
    c.write_report.ensures
    c.write_report.auto.buffer
    (sym c.ends_run.ensures ∙ c.if-ends_run.false))

pub returns : goal.returns
returns c =
    let done = c.loop-count.invariant in
    let all : length c.args.reports.now / report_bytes ≡ c.loop-count.count =
    omega (arith, c.loop-count.auto.count-end, c.loop-count-test.false) in
    rw (c.answer_of-2.ensures, all) (ends_for_room done (omega (arith, c.loop-count-test.false, same_size done)))
