-- `run_in` meets its contract: claims are judged only on a mesh that has passed, and a refused mesh has its report.
use mathlib.Core.Path.{refl, sym, subst, ◌∙◌}
use lib.ListN.{length-replicate}
use Rattle.verdict.specs.JudgeContracts.{SoundMesh}
use Rattle.judge.proofs.FilesJudged.{passed_as, refused_as, judged_read, judged_sound}
use Rattle.run.proofs.RunLaws.{same_mesh}
use Rattle.run.proofs.run_in.Goals as goal

pub judge_mesh_file-count-requires : goal.judge_mesh_file-count-requires
judge_mesh_file-count-requires g c = simp length-replicate c.requires.fits

pub passed_mesh-m-requires : goal.passed_mesh-m-requires
passed_mesh-m-requires g c =
    let judged = c.judge_mesh_file-count.ensures in
    subst (SoundMesh _) (sym c.deref.ensures.0)
    (judged_sound _ _ _ judged.outcome judged.list judged.pairs c.in-Ok.is)

pub returns-in-Ok : goal.returns-in-Ok
returns-in-Ok g c =
    let judged = c.judge_mesh_file-count.ensures in
    let read = c.passed_mesh-m.ensures ∙ judged_read _ _ _ judged.outcome judged.list c.in-Ok.is in
    same_mesh (passed_as judged.outcome c.in-Ok.is) read c.run_claims.ensures

pub returns-in-Err : goal.returns-in-Err
returns-in-Err g c =
    same_mesh (refused_as c.judge_mesh_file-count.ensures.outcome c.in-Err.is) refl
    (c.run_refused.ensures _ c.args.claims.now)
