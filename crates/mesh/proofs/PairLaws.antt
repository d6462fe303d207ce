-- A mesh's pairs are as many as the definitions count, and its counts with them are those that a claim's lines go by.
use mathlib.Core.Path.{◌≡◌, refl, sym, ◌∙◌, ap, subst}
use mathlib.Core.Bool.{true}
use mathlib.Core.List.{List}
use lib.Dec.{T}
use lib.IntN.{ℤ}
use lib.ListN.{length, length-map}
use Rattle.scope.specs.Cases.Outcome.{Outcome, Passed, Refused, has_passed}
use Rattle.scope.specs.Rows.{pair_count}
use Rattle.mesh.specs.declared.pairs.Pair.{Pair}
use Rattle.mesh.specs.declared.pairs.PairedMesh.{PairedMesh}
use Rattle.mesh.specs.declared.pairs.ClaimSizes.{ClaimSizes}
use Rattle.mesh.specs.PairContracts.{pair_of, PairsAre}
use Rattle.mesh.specs.MeshContracts.{SizesAre}
use Rattle.mesh.specs.ClaimContracts.{Counted}
use Rattle.mesh.proofs.Places.{as_sizes}

pub pairs_counted : (m : List ℤ) (t : List Pair) → PairsAre m t → length t ≡ pair_count m
unfolding pair_count
pairs_counted m t e = sym (length-map t pair_of) ∙ ap length e

-- what has passed
pub outcome_passed : (o : Outcome) → has_passed o ≡ true → o ≡ Passed
unfolding has_passed
outcome_passed Passed e = refl
outcome_passed (Refused n p) e = absurd (subst T (sym e) tt)

-- what `claim_sizes` answers
pub counted : (m : PairedMesh) (s : ClaimSizes) → s.sizes ≡ m.mesh.sizes → s.pairs ≡ length m.pairs.now
    → Counted m.mesh.numbers.now s
counted m s e p = record {
  sizes = subst (SizesAre m.mesh.numbers.now) (sym e) (as_sizes m.mesh.sized);
  pairs_are = p ∙ pairs_counted m.mesh.numbers.now m.pairs.now m.paired;
}
