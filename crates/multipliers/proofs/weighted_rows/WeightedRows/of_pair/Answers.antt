-- `of_pair` meets its contract: as many as the sides, from the place of the first.
use mathlib.Core.Path.{ap, ap₂}
use Prim.Native.Nat.{ℕ, ◌*◌}
use native.Mathlib.Omega.{arith}
use lib.ListN.{take, drop}
use Rattle.multipliers.specs.MultiplierContracts.{pair_first}
use Rattle.multipliers.proofs.weighted_rows.WeightedRows.of_pair.Goals as goal

pub returns : goal.returns
unfolding pair_first
returns c =
    let rows = c.args.self.now in
    let sides = rows.mesh.mesh.sized.sides_are in
    let before = ap (λ (n : ℕ). c.args.a * n) sides in
    ap₂ (λ (n first : ℕ). take n (drop first rows.multipliers.now)) (omega (arith, sides))
    (omega (arith, c.equality_count.ensures.rows, before))
