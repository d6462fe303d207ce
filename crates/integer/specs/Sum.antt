-- `sum_of f l`: the sum of f over the members of a list.
use Rattle.std.specs.Prelude.{◌≡◌, refl, List, [], ◌∷◌, ℤ, pos, ◌+ℤ◌, ◌-ℤ◌}

module _ {A : Type 0} where
  abbrev pub sum_of : (A → ℤ) → List A → ℤ
  sum_of f [] = pos 0
  sum_of f (a ∷ l) = f a +ℤ sum_of f l

-- example: a sum over a list that is written out computes
example_computed : sum_of (λ i. pos i -ℤ pos 2) (1 ∷ 2 ∷ 3 ∷ 4 ∷ []) ≡ pos 2
example_computed = refl
