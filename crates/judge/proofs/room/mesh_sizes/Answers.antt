-- `mesh_sizes` meets its contract: the mesh is judged, and its sizes are told only where it passes.
use mathlib.Core.Path.{sym, subst, ◌∙◌}
use Rattle.mesh.proofs.PairLaws.{counted}
use Rattle.verdict.specs.JudgeContracts.{SoundMesh}
use Rattle.judge.proofs.FilesJudged.{as_many, passed_as, refused_as, judged_read, judged_sound}
use Rattle.judge.proofs.RoomLaws.{sizes_refused, sizes_passed}
use Rattle.judge.proofs.room.mesh_sizes.Goals as goal

pub slice_bounds-passed_mesh-end : goal.slice_bounds-passed_mesh-end
slice_bounds-passed_mesh-end c =
    as_many c.judge_mesh_file-count.ensures.list

pub passed_mesh-m-requires : goal.passed_mesh-m-requires
passed_mesh-m-requires c =
    let judged = c.judge_mesh_file-count.ensures in
    subst (SoundMesh _) (sym c.deref.ensures.0)
    (judged_sound _ _ _ judged.outcome judged.list judged.pairs c.in-Ok.is)

pub returns-in-Ok : goal.returns-in-Ok
returns-in-Ok c =
    let judged = c.judge_mesh_file-count.ensures in
    let read = c.passed_mesh-m.ensures ∙ judged_read _ _ _ judged.outcome judged.list c.in-Ok.is in
    let sizes = c.claim_sizes.ensures in
    sizes_passed _ _ (passed_as judged.outcome c.in-Ok.is) read
    (c.sizes_for.ensures _ (counted c.passed_mesh-m.result _ sizes.sizes sizes.pairs))

pub returns-in-Err : goal.returns-in-Err
returns-in-Err c =
    c.from.ensures ∙ sizes_refused _ _ (refused_as c.judge_mesh_file-count.ensures.outcome c.in-Err.is)
