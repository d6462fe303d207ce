-- `check_filled` meets its contract: the claim is judged only on a mesh that passes, as it is filled.
use mathlib.Core.Path.{sym, ◌∙◌, ap, subst₂}
use mathlib.Core.List.{List}
use lib.IntN.{ℤ}
use Rattle.scope.specs.Table.{mesh_read}
use Rattle.scope.specs.Verdict.{claim_verdict}
use Rattle.scope.proofs.TableVerdict.{read_passes}
use Rattle.verdict.proofs.Handed.{answer_refuses, answer_goes_on}
use Rattle.verdict.specs.JudgeContracts.{SoundMesh}
use Rattle.verdict.proofs.LeftLaws.{left_read}
use Rattle.verdict.proofs.TableLaws.{table_first}
use Rattle.verdict.proofs.VerdictLaws.{sound_mesh}
use Rattle.verdict.proofs.check_filled.Goals as goal

pub returns-in_err-pairs : goal.returns-in_err-pairs
returns-in_err-pairs c =
    let t = c.args.t.now in
    let m = c.args.m.now in
    answer_refuses c.from_residual.result c.in_err-pairs.field-0.0 (claim_verdict (mesh_read t m) c.args.c.now)
    c.from_residual.ensures.1 c.in_err-pairs.ensures.outcome (table_first t m c.args.c.now)

pub passed_mesh-requires : goal.passed_mesh-requires
passed_mesh-requires c =
    let judged = c.in_ok-pairs.ensures in
    subst₂ SoundMesh (sym (judged.left ∙ left_read _ _ judged.outcome)) (sym c.deref.ensures.0)
    (sound_mesh (read_passes _ _) judged.outcome judged.pairs)

pub returns : goal.returns
returns c =
    let judged = c.in_ok-pairs.ensures in
    let read = c.passed_mesh.ensures ∙ judged.left ∙ left_read _ _ judged.outcome in
    answer_goes_on judged.outcome (table_first _ _ _)
    (c.judge_claim.ensures ∙ ap (λ (m : List ℤ). claim_verdict m c.args.c.now) read)
