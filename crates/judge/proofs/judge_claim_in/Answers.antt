-- `judge_claim_in` meets its contract: the numbers that are judged are those that were read against this mesh.
use mathlib.Core.Path.{◌≡◌, ap, ◌∙◌}
use mathlib.Core.List.{List}
use Prim.Native.Nat.{ℕ}
use lib.IntN.{ℤ}
use lib.ListN.{length, length-replicate}
use Rattle.scope.specs.Claim.{claim_layout}
use Rattle.scope.specs.Verdict.{claim_verdict}
use Rattle.mesh.specs.declared.pairs.PairedMesh.{PairedMesh}
use Rattle.mesh.specs.declared.pairs.ClaimSizes.{ClaimSizes}
use Rattle.mesh.proofs.PairLaws.{counted}
use Rattle.reader.specs.File.{file_width, numbers_of}
use Rattle.reader.specs.Listed.{Listed, ClaimListed}
use Rattle.judge.specs.Judge.{claim_numbers}
use Rattle.judge.proofs.FilesJudged.{front, as_many}
use Rattle.judge.proofs.judge_claim_in.Goals as goal

-- what is read against the counts of a mesh is read against the mesh that has them
of_mesh : (m : PairedMesh) {s : ClaimSizes} {bs : List ℕ} {before after : List ℤ} {r : ℕ} → s.sizes ≡ m.mesh.sizes
    → s.pairs ≡ length m.pairs.now → ClaimListed bs s before r after
    → Listed (numbers_of file_width (claim_layout m.mesh.numbers.now) bs) before r after
of_mesh m {s} e p l = l.against m.mesh.numbers.now (counted m s e p)

pub read_claim-count-requires : goal.read_claim-count-requires
unfolding claim_numbers
read_claim-count-requires g c =
    let sizes = c.claim_sizes.ensures in
    record {
      mesh = c.args.m.now.mesh.numbers.now;
      counted = counted c.args.m.now _ sizes.sizes sizes.pairs;
      fits = simp length-replicate c.requires.fits;
    }

pub returns : goal.returns
unfolding claim_numbers
returns g c =
    let m = c.args.m.now in
    let sizes = c.claim_sizes.ensures in
    c.judge_claim.ensures
    ∙ ap (claim_verdict m.mesh.numbers.now) (front (of_mesh m sizes.sizes sizes.pairs c.read_claim-count.ensures))

pub slice_bounds-judge_claim-end : goal.slice_bounds-judge_claim-end
slice_bounds-judge_claim-end g c =
    let sizes = c.claim_sizes.ensures in
    as_many (of_mesh c.args.m.now sizes.sizes sizes.pairs c.read_claim-count.ensures)
