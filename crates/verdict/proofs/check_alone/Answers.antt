-- `check_alone` meets its contract: the claim is judged only on a mesh that passes.
use mathlib.Core.Path.{sym, ◌∙◌, ap, subst}
use mathlib.Core.List.{List}
use lib.IntN.{ℤ}
use Rattle.scope.specs.Verdict.{claim_verdict}
use Rattle.verdict.specs.JudgeContracts.{SoundMesh}
use Rattle.verdict.proofs.Handed.{answer_refuses, answer_goes_on}
use Rattle.verdict.proofs.VerdictLaws.{mesh_first, sound_mesh}
use Rattle.verdict.proofs.check_alone.Goals as goal

pub returns-in_err-pairs : goal.returns-in_err-pairs
returns-in_err-pairs c =
    let m = c.args.m.now in
    answer_refuses c.from_residual.result c.in_err-pairs.field-0.0 (claim_verdict m c.args.c.now)
    c.from_residual.ensures.1 c.in_err-pairs.ensures.outcome (mesh_first m c.args.c.now)

pub passed_mesh-requires : goal.passed_mesh-requires
passed_mesh-requires c =
    let judged = c.in_ok-pairs.ensures in
    subst (SoundMesh c.args.m.now) (sym c.deref.ensures.0) (sound_mesh (λ e. e) judged.outcome judged.pairs)

pub returns : goal.returns
returns c =
    answer_goes_on c.in_ok-pairs.ensures.outcome (mesh_first _ _)
    (c.judge_claim.ensures ∙ ap (λ (m : List ℤ). claim_verdict m c.args.c.now) c.passed_mesh.ensures)
