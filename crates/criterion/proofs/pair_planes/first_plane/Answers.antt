-- `first_plane` meets its contract: the first row whose test fails, or that each holds.
use mathlib.Core.Path.{◌≡◌}
use mathlib.Core.Bool.{Bool, true, false}
use Prim.Native.Nat.{ℕ, ◌≤◌, ◌<◌}
use native.Mathlib.Omega.{arith}
use lib.IntN.{pos}
use lib.Signed.{le_z}
use Rattle.std.specs.Option.{MatchOption, IfSome, IfNone}
use Rattle.std.proofs.Common.{rules, tests, Option, None, Some}
use Rattle.std.proofs.lemmas.Iterator.{first_from_Range}
use Rattle.scope.specs.Checks.{all_below}
use Rattle.lines.specs.SearchContracts.{first_failing}
use Rattle.lines.proofs.Loops.{all_of_each, first_is}
use Rattle.bedded.specs.PlaneContracts.{slack_at}
use Rattle.criterion.proofs.pair_planes.first_plane.Goals as goal

found_in :
    (f : ℕ → Bool) (n : ℕ) (o : Option ℕ) →
    MatchOption o ((k : ℕ) → 0 ≤ k → k < n → f k ≡ true)
    (λ i. (0 ≤ i) × (i < n) × (f i ≡ false) × ((k : ℕ) → 0 ≤ k → k < i → f k ≡ true)) →
    IfSome o (λ k. k ≡ first_failing f n) × IfNone o (all_below f n ≡ true)
found_in f n None none = (tt, all_of_each f n (λ k l. none k (omega arith) l))
found_in f n (Some i) (_, there, fails, before) =
    (first_is f n (omega arith) (λ k l. before k (omega arith) l) (λ l. fails), tt)

pub returns : goal.returns
returns c =
    let planes = c.args.planes.now in
    let holds : ℕ → Bool = λ k. le_z (pos 0) (slack_at planes.numbers planes.corners.now k) in
    let found = found_in holds _ c.find.result
    (first_from_Range _ _ _ c.find.result (λ k. holds k ≡ false) (λ k. holds k ≡ true) c.find.ensures.ran
    (λ x q k. search (rules, tests)) (λ x q k. search (rules, tests))) in
    record { found = found.0; none = found.1 }
