-- Sums over lists: of a list put together from parts, of a mapped list, of a sum and a multiple of functions, of a sum
-- within a sum, and comparison member by member.
-- Example (`example_taken_apart`, checked after `sum_of_*ℤ`): Σ(k·f + c·g) + c = k·Σf + c·(Σg + 1), taken apart by
-- `simp` and closed by `ring`:
--     simp (sum_of_+ℤ, sum_of_*ℤ) (ring (k ∷ c ∷ sum_of f l ∷ sum_of g l ∷ []) (search terms depth 100) refl)
use mathlib.Core.Path.{◌≡◌, refl, sym, ◌∙◌, ap, ap₂}
use mathlib.Core.List.{List, [], ◌∷◌, ◌++◌, Memᴰ}
use Prim.Native.Nat.{ℕ}
use lib.IntN.{ℤ, pos, ◌+ℤ◌, ◌*ℤ◌, +ℤ_idl, +ℤ_assoc, *ℤ-zero}
use lib.Signed.{◌≤ℤ◌, ≤ℤ_refl}
use Rattle.integer.specs.Sum.{sum_of}
use Rattle.integer.proofs.RingLaws.{+ℤ_swap, *ℤ-+ℤ}
use Rattle.integer.proofs.Ring.{ring, terms}
use Rattle.integer.proofs.Order.{+ℤ_mono}

module _ {A : Type 0} where
  pub sum_of_+ℤ : (f g : A → ℤ) (l : List A) → sum_of (λ a. f a +ℤ g a) l ≡ sum_of f l +ℤ sum_of g l
  sum_of_+ℤ f g [] = refl
  sum_of_+ℤ f g (a ∷ l) = ap (λ x. (f a +ℤ g a) +ℤ x) (sum_of_+ℤ f g l) ∙ +ℤ_swap (f a) (g a) (sum_of f l) (sum_of g l)

  pub sum_of_*ℤ : (k : ℤ) (f : A → ℤ) (l : List A) → sum_of (λ a. k *ℤ f a) l ≡ k *ℤ sum_of f l
  sum_of_*ℤ k f [] = sym (*ℤ-zero k)
  sum_of_*ℤ k f (a ∷ l) = ap (λ x. k *ℤ f a +ℤ x) (sum_of_*ℤ k f l) ∙ sym (*ℤ-+ℤ k (f a) (sum_of f l))

-- example: a sum taken apart by `simp`, and closed by `ring`
example_taken_apart : (k c : ℤ) (f g : ℕ → ℤ) (l : List ℕ) → sum_of (λ i. k *ℤ f i +ℤ c *ℤ g i) l +ℤ c
    ≡ k *ℤ sum_of f l +ℤ c *ℤ (sum_of g l +ℤ pos 1)
example_taken_apart k c f g l =
    simp (sum_of_+ℤ, sum_of_*ℤ) (ring (k ∷ c ∷ sum_of f l ∷ sum_of g l ∷ []) (search terms depth 100) refl)

module _ {A : Type 0} where
  pub sum_of_++ : (f : A → ℤ) (l m : List A) → sum_of f (l ++ m) ≡ sum_of f l +ℤ sum_of f m
  sum_of_++ f [] m = sym (+ℤ_idl (sum_of f m))
  sum_of_++ f (a ∷ l) m = ap (λ x. f a +ℤ x) (sum_of_++ f l m) ∙ sym (+ℤ_assoc (f a) (sum_of f l) (sum_of f m))

  pub sum_of_zero : (l : List A) → sum_of (λ a. pos 0) l ≡ pos 0
  sum_of_zero [] = refl
  sum_of_zero (a ∷ l) = ap (λ x. pos 0 +ℤ x) (sum_of_zero l)

  pub sum_of_same : (f g : A → ℤ) (l : List A) → ((a : A) → Memᴰ a l → f a ≡ g a) → sum_of f l ≡ sum_of g l
  sum_of_same f g [] h = refl
  sum_of_same f g (a ∷ l) h =
      ap₂ ◌+ℤ◌ (h a (Memᴰ.head refl)) (sum_of_same f g l (λ b m. h b (Memᴰ.tail m)))

  pub sum_of_mono : (f g : A → ℤ) (l : List A) → ((a : A) → Memᴰ a l → f a ≤ℤ g a) → sum_of f l ≤ℤ sum_of g l
  sum_of_mono f g [] h = ≤ℤ_refl (pos 0)
  sum_of_mono f g (a ∷ l) h =
      +ℤ_mono (h a (Memᴰ.head refl)) (sum_of_mono f g l (λ b m. h b (Memᴰ.tail m)))

module _ {A B : Type 0} where
  -- two sums may change places
  pub sum_of_exchange : (f : A → B → ℤ) (l : List A) (m : List B)
      → sum_of (λ a. sum_of (f a) m) l ≡ sum_of (λ b. sum_of (λ a. f a b) l) m
  sum_of_exchange f [] m = sym (sum_of_zero m)
  sum_of_exchange f (a ∷ l) m =
      ap (λ x. sum_of (f a) m +ℤ x) (sum_of_exchange f l m) ∙ sym (sum_of_+ℤ (f a) (λ b. sum_of (λ a. f a b) l) m)
