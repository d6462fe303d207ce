-- `judge_files_in` meets its contract: the claim is judged only on a mesh that has passed.
use mathlib.Core.Path.{sym, ap, subst, ◌∙◌}
use mathlib.Core.List.{List}
use lib.IntN.{ℤ}
use lib.ListN.{length-replicate}
use Rattle.scope.specs.Verdict.{claim_verdict}
use Rattle.verdict.specs.JudgeContracts.{SoundMesh}
use Rattle.verdict.proofs.Handed.{answer_refuses, answer_goes_on}
use Rattle.reader.specs.File.{file_width}
use Rattle.judge.specs.Judge.{claim_numbers}
use Rattle.judge.proofs.FilesJudged.{passed_as, refused_as, on_the_mesh, files_first, judged_read, judged_sound}
use Rattle.judge.proofs.judge_files_in.Goals as goal

pub judge_mesh_file-judged-requires : goal.judge_mesh_file-judged-requires
judge_mesh_file-judged-requires g c = simp length-replicate c.requires.fits

pub returns-in_err-pairs : goal.returns-in_err-pairs
returns-in_err-pairs g c =
    let claim = c.args.claim.now in
    answer_refuses c.from_residual.result c.in_err-pairs.field-0.0 (on_the_mesh c.args.mesh.now c.args.table.now claim)
    c.from_residual.ensures.1 (refused_as c.judge_mesh_file-judged.ensures.outcome c.in_err-pairs.was)
    (files_first c.args.mesh.now c.args.table.now claim)

pub passed_mesh-requires : goal.passed_mesh-requires
passed_mesh-requires g c =
    let judged = c.judge_mesh_file-judged.ensures in
    subst (SoundMesh _) (sym c.deref.ensures.0)
    (judged_sound _ _ _ judged.outcome judged.list judged.pairs c.in_ok-pairs.was)

pub returns : goal.returns
returns g c =
    let claim = c.args.claim.now in
    let judged = c.judge_mesh_file-judged.ensures in
    let read = c.passed_mesh.ensures ∙ judged_read _ _ _ judged.outcome judged.list c.in_ok-pairs.was in
    answer_goes_on (passed_as judged.outcome c.in_ok-pairs.was) (files_first c.args.mesh.now c.args.table.now claim)
    (c.judge_claim_file.ensures ∙ ap (λ (m : List ℤ). claim_verdict m (claim_numbers file_width m claim)) read)
