-- `claim_sizes` meets its contract: the pairs are as many as the definitions count, and so as few as the sides ask.
use mathlib.Core.Path.{sym, subst}
use Prim.Native.Nat.{ℕ, ◌≤◌}
use native.Mathlib.Omega.{arith}
use Rattle.scope.specs.Mesh.{pairs_with}
use Rattle.scope.specs.Rows.{pair_count}
use Rattle.mesh.proofs.PairLaws.{pairs_counted}
use Rattle.mesh.proofs.pairs.PairedMesh.claim_sizes.Goals as goal

pub invariant_of-result : goal.invariant_of-result
invariant_of-result c =
    let m = c.args.self.now in
    let count = pairs_counted m.mesh.numbers.now m.pairs.now m.paired in
    let few : pair_count m.mesh.numbers.now ≤ pairs_with m.mesh.sizes.sides =
    subst (λ (k : ℕ). pair_count m.mesh.numbers.now ≤ pairs_with k) (sym m.mesh.sized.sides_are) m.few_with_sides in
    record { few_pairs = omega (arith, count, m.few); few_with_sides = omega (arith, count, few) }
