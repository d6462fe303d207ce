-- A mesh has its sizes in one way, as the fact of a ghost field must: each part of the fact can be shown in one way
-- only.
use mathlib.Core.Path.{ap, sym, ◌∙◌}
use mathlib.Core.Logic.{inl, inr}
use native.Mathlib.Omega.{arith}
use Rattle.std.specs.Prelude.{◌≡◌, ◌⊎◌, List, ℕ, ℤ}
use Rattle.std.proofs.Props.{props}
use Rattle.mesh.specs.declared.sizes.Sizes.{Sizes}
use Rattle.scope.specs.Polygon.{SidesListed}
use Rattle.scope.specs.NumberRanges.{Counts, MeshFacts}
use Rattle.mesh.specs.MeshContracts.{Sized}

-- of two statements that exclude each other, one holds, and in one way
either_once : {A B : Type 0} → IsProp A → IsProp B → (A → B → ⊥) → IsProp (A ⊎ B)
either_once a b n (inl x) (inl y) = ap inl (a x y)
either_once a b n (inl x) (inr y) = absurd (n x y)
either_once a b n (inr x) (inl y) = absurd (n y x)
either_once a b n (inr x) (inr y) = ap inr (b x y)

-- no number is two: one that is a is none of those after
apart : {k a : ℕ} {B : Type 0} → (k ≡ a → B → ⊥) → k ≡ a → (b : ℕ) → ¬ (a ≡ b) → (k ≡ b) ⊎ B → ⊥
apart f x b n (inl y) = n (sym x ∙ y)
apart f x b n (inr y) = f x y

differ : {k a b : ℕ} → ¬ (a ≡ b) → k ≡ a → k ≡ b → ⊥
differ n x y = n (sym x ∙ y)

-- a number is one of four in one way
listed_once : (k : ℕ) → IsProp (SidesListed k)
listed_once k =
    either_once (Prim.hlevel props)
    (either_once (Prim.hlevel props)
    (either_once (Prim.hlevel props) (Prim.hlevel props) (differ (λ e. omega arith)))
    (λ x. apart (differ (λ e. omega arith)) x 36 (λ e. omega arith)))
    (λ x. apart (λ x. apart (differ (λ e. omega arith)) x 36 (λ e. omega arith)) x 20 (λ e. omega arith))

counts_once : (m : List ℤ) → IsProp (Counts m)
counts_once m = Prim.hlevel (listed_once, props)

facts_once : (m : List ℤ) → IsProp (MeshFacts m)
facts_once m = Prim.hlevel (counts_once, props)

pub sized_once : (m : List ℤ) (s : Sizes) → IsProp (Sized m s)
sized_once m s = Prim.hlevel (facts_once, props)
