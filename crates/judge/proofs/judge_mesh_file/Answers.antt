-- `judge_mesh_file` meets its contract: the numbers that are judged are those that were read, and a table fills them.
use borrow.Author.Rules.{rules}
use Rattle.verdict.proofs.LeftLaws.{left-length}
use Rattle.judge.specs.Judge.{mesh_numbers, mesh_from, mesh_outcome}
use Rattle.judge.specs.MeshLeft.{mesh_left}
use Rattle.judge.proofs.FilesJudged.{front, changed}
use Rattle.judge.proofs.judge_mesh_file.Goals as goal

pub read_mesh-count-requires : goal.read_mesh-count-requires
unfolding mesh_numbers
read_mesh-count-requires c = search rules

pub returns-clause-count : goal.returns-clause-count
unfolding mesh_numbers
returns-clause-count c = c.read_mesh-count.ensures.count

pub returns-clause-list : goal.returns-clause-list
unfolding mesh_numbers mesh_left
returns-clause-list c =
    let listed = c.read_mesh-count.ensures in
    changed listed (rw (front listed) at c.judge_with-pairs.ensures.left) (left-length _ _)

pub returns-clause-outcome : goal.returns-clause-outcome
unfolding mesh_numbers mesh_outcome
returns-clause-outcome c = rw (front c.read_mesh-count.ensures) at c.judge_with-pairs.ensures.outcome

pub returns-clause-pairs : goal.returns-clause-pairs
unfolding mesh_numbers mesh_from
returns-clause-pairs c = rw (front c.read_mesh-count.ensures) at c.judge_with-pairs.ensures.pairs
