-- `passed_mesh` meets its contract: a mesh that passes has few pairs, and its pairs are those that are handed over.
use mathlib.Core.Path.{sym, subst}
use mathlib.Core.List.{List}
use Prim.Native.Nat.{◌≤◌}
use lib.IntN.{ℤ}
use Rattle.scope.specs.Mesh.{most_pairs, pairs_with, sides}
use Rattle.scope.specs.Rows.{pair_count}
use Rattle.mesh.specs.PairContracts.{PairsAre}
use Rattle.scope.proofs.Pairs.{few_pairs_lem}
use Rattle.scope.proofs.SideLimits.{few_most}
use Rattle.verdict.proofs.VerdictLaws.{mesh_known}
use Rattle.verdict.proofs.passed_mesh.Goals as goal

pub new-requires : goal.new-requires
new-requires c = (mesh_known c.requires.passes).facts

pub invariant_of-result : goal.invariant_of-result
invariant_of-result c =
    let m = c.args.numbers.now in
    let t = c.args.pairs.now in
    let few = few_pairs_lem m (mesh_known c.requires.passes).sound in record {
      few = subst (λ (m : List ℤ). pair_count m ≤ most_pairs) (sym c.new.ensures) (few_most (sides m) few);
      few_with_sides = subst (λ (m : List ℤ). pair_count m ≤ pairs_with (sides m)) (sym c.new.ensures) few;
      paired = subst (λ (m : List ℤ). PairsAre m t) (sym c.new.ensures) c.requires.paired;
    }
