-- `judge_claim` meets its contract: the parts are judged only where the lines have passed.
use mathlib.Core.Path.{◌≡◌}
use mathlib.Core.List.{List}
use lib.IntN.{ℤ}
use lib.ListN.{length}
use Rattle.scope.specs.Cases.Outcome.{Outcome}
use Rattle.scope.specs.Claim.{claim_layout}
use Rattle.scope.specs.Phases.{check_phases}
use Rattle.scope.specs.Refusals.{part_phases}
use Rattle.scope.specs.Verdict.{lines_check, answer}
use Rattle.mesh.specs.declared.pairs.PairedMesh.{PairedMesh}
use Rattle.mesh.specs.declared.pairs.ClaimSizes.{ClaimSizes}
use Rattle.mesh.specs.ClaimContracts.{Counted}
use Rattle.mesh.proofs.PairLaws.{counted}
use Rattle.verdict.proofs.Handed.{answer_refuses, answer_goes_on}
use Rattle.verdict.proofs.VerdictLaws.{judged, all_accepted, claim_lines_first}
use Rattle.verdict.proofs.judge_claim.Goals as goal

-- what the check of a claim's lines says by counts alone, it says of the mesh that has them
of_mesh : (m : PairedMesh) (s : ClaimSizes) (c : List ℤ) {o : Outcome} → s.sizes ≡ m.mesh.sizes
    → s.pairs ≡ length m.pairs.now → ((n : List ℤ) → Counted n s → o ≡ lines_check (claim_layout n) c)
    → o ≡ lines_check (claim_layout m.mesh.numbers.now) c
of_mesh m s c e p says = says m.mesh.numbers.now (counted m s e p)

pub returns-in_err-claim_lines : goal.returns-in_err-claim_lines
returns-in_err-claim_lines c =
    let m = c.args.m.now.mesh.numbers.now in
    let k = c.args.c.now in
    let sizes = c.claim_sizes.ensures in
    answer_refuses c.from_residual.result c.in_err-claim_lines.field-0.0
    (answer (check_phases (part_phases m k)) (all_accepted m k)) c.from_residual.ensures.1
    (of_mesh c.args.m.now _ c.args.c.now sizes.sizes sizes.pairs c.in_err-claim_lines.ensures) (claim_lines_first m k)

pub returns : goal.returns
returns c =
    let sizes = c.claim_sizes.ensures in
    answer_goes_on (of_mesh c.args.m.now _ c.args.c.now sizes.sizes sizes.pairs c.in_ok-claim_lines.ensures)
    (claim_lines_first _ _) c.parts_verdict.ensures

pub parts_verdict-requires : goal.parts_verdict-requires
parts_verdict-requires c =
    let sizes = c.claim_sizes.ensures in
    judged _ _ c.args.m.now.mesh.sized.facts
    (of_mesh c.args.m.now _ c.args.c.now sizes.sizes sizes.pairs c.in_ok-claim_lines.ensures)
