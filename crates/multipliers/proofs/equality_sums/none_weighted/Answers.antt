-- `none_weighted` meets its contract: each is the one that is asked or one before it.
use mathlib.Core.Path.{◌≡◌}
use mathlib.Core.Logic.{◌⊎◌, inl, inr}
use Prim.Native.Nat.{ℕ, ◌+◌, ◌<◌}
use native.Mathlib.Omega.{arith}
use lib.IntN.{pos}
use Rattle.integer.proofs.Machine.{machine, told}
use Rattle.scope.specs.Columns.{at}
use Rattle.scope.proofs.Checks.{below_suc}
use Rattle.multipliers.proofs.equality_sums.none_weighted.Goals as goal

pub loop-i-preserved : goal.loop-i-preserved
unfolding at
loop-i-preserved c = λ j h. by j (below_suc (omega (arith, h)))
  where
    by : (j : ℕ) → (j < c.loop-i.i) ⊎ (j ≡ c.loop-i.i) → at c.args.rows.now.multipliers.now (c.args.k + j) ≡ pos 0
    by j (inl l) = c.loop-i.invariant j l
    by j (inr e) =
        let bounds = c.args.rows.now.of_each_row.bounds in
        rw e (told c.if-rows-k-ne0.false (search machine depth 30) (omega arith))
