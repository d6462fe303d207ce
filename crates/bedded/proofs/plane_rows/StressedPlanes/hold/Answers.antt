-- `hold` meets its contract: `all` over the corners of the half turn is the test of each row, two by two.
use Rattle.std.proofs.Common.{rules, tests, refl, arith, ◌∙◌}
use Rattle.std.proofs.lemmas.Iterator.{YieldsList-from_range}
use Rattle.std.proofs.lemmas.Iterator.Search.{all_from_yields_List}
use mathlib.Core.Bool.{Bool, ◌&&◌}
use Prim.Native.Nat.{ℕ, ◌+◌, ◌*◌, ◌/◌}
use lib.IntN.{pos}
use lib.ListN.{length}
use lib.Signed.{le_z}
use Rattle.scope.proofs.Ranges.{all_in_range}
use Rattle.bedded.specs.PlaneContracts.{slack_at}
use Rattle.bedded.proofs.PlaneLaws.{all_twos}
use Rattle.bedded.proofs.plane_rows.StressedPlanes.hold.Goals as goal

pub returns : goal.returns
returns c =
    let row : ℕ → Bool = λ k. le_z (pos 0) (slack_at c.args.self.now.numbers c.args.self.now.corners.now k) in
    let test : ℕ → Bool = λ j. row (2 * j) && row (2 * j + 1) in
    let n : ℕ = length c.args.self.now.corners.now / 2 in
    all_from_yields_List test _ _ c.all.result c.all.ensures.ran
    (YieldsList-from_range 0 n n refl (omega arith)) (λ x b q k. search (rules, tests))
    ∙ all_in_range test n ∙ all_twos row n
