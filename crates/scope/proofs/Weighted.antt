-- Laws of weighted sums: by induction on the list, each step a ring identity.
use mathlib.Core.Path.{◌≡◌, refl, ◌∙◌, ap}
use mathlib.Core.List.{List, [], ◌∷◌}
use Prim.Native.Nat.{ℕ}
use lib.IntN.{ℤ, pos, ◌+ℤ◌, ◌-ℤ◌, ◌*ℤ◌, *ℤ-zero}
use Rattle.integer.proofs.Ring.{ring, terms}
use Rattle.integer.specs.Sum.{sum_of}
use Rattle.integer.proofs.SumLaws.{sum_of_same, sum_of_zero}
use Rattle.integer.specs.Members.{◌∈◌}
use Rattle.scope.specs.Sums.{weighted_sum}

module _ {A : Type 0} where
  pub weighted_linear : (k : ℤ) (f g : A → ℤ) (ws : List (ℤ × A))
      → weighted_sum (λ a. k *ℤ f a +ℤ g a) ws ≡ k *ℤ weighted_sum f ws +ℤ weighted_sum g ws
  unfolding weighted_sum
  weighted_linear k f g [] = rw *ℤ-zero
  weighted_linear k f g (w ∷ ws) =
      ap (λ z. w.0 *ℤ (k *ℤ f w.1 +ℤ g w.1) +ℤ z) (weighted_linear k f g ws)
      ∙ ring (k ∷ w.0 ∷ f w.1 ∷ g w.1 ∷ weighted_sum f ws ∷ weighted_sum g ws ∷ []) (search terms depth 100) refl

  pub weighted_difference : (n : ℤ) (f g : A → ℤ) (ws : List (ℤ × A))
      → weighted_sum (λ a. f a *ℤ n -ℤ g a) ws ≡ weighted_sum f ws *ℤ n -ℤ weighted_sum g ws
  unfolding weighted_sum
  weighted_difference n f g [] = ring (n ∷ []) (search terms depth 100) refl
  weighted_difference n f g (w ∷ ws) =
      ap (λ z. w.0 *ℤ (f w.1 *ℤ n -ℤ g w.1) +ℤ z) (weighted_difference n f g ws)
      ∙ ring (n ∷ w.0 ∷ f w.1 ∷ g w.1 ∷ weighted_sum f ws ∷ weighted_sum g ws ∷ []) (search terms depth 100) refl

  pub weighted_multiple : (n : ℤ) (f : A → ℤ) (ws : List (ℤ × A))
      → weighted_sum (λ a. f a *ℤ n) ws ≡ weighted_sum f ws *ℤ n
  unfolding weighted_sum
  weighted_multiple n f [] = ring (n ∷ []) (search terms depth 100) refl
  weighted_multiple n f (w ∷ ws) =
      ap (λ z. w.0 *ℤ (f w.1 *ℤ n) +ℤ z) (weighted_multiple n f ws)
      ∙ ring (n ∷ w.0 ∷ f w.1 ∷ weighted_sum f ws ∷ []) (search terms depth 100) refl

  pub weighted_zero : (ws : List (ℤ × A)) → weighted_sum (λ a. pos 0) ws ≡ pos 0
  unfolding weighted_sum
  weighted_zero ws = simp *ℤ-zero (sum_of_zero ws)

  pub weighted_same : (f g : A → ℤ) (ws : List (ℤ × A)) → ((w : ℤ × A) → w ∈ ws → f w.1 ≡ g w.1)
      → weighted_sum f ws ≡ weighted_sum g ws
  unfolding weighted_sum
  weighted_same f g ws h = sum_of_same (λ w. w.0 *ℤ f w.1) (λ w. w.0 *ℤ g w.1) ws (λ w m. ap (λ z. w.0 *ℤ z) (h w m))

  -- what is weighed may be summed column by column
  pub by_columns : (s : ℕ → ℤ) (g : ℕ → A → ℤ) (js : List ℕ) (ws : List (ℤ × A))
      → weighted_sum (λ a. sum_of (λ j. s j *ℤ g j a) js) ws ≡ sum_of (λ j. s j *ℤ weighted_sum (g j) ws) js
  by_columns s g [] ws = weighted_zero ws
  by_columns s g (j ∷ js) ws =
      weighted_linear (s j) (g j) (λ a. sum_of (λ j. s j *ℤ g j a) js) ws
      ∙ ap (λ z. s j *ℤ weighted_sum (g j) ws +ℤ z) (by_columns s g js ws)
