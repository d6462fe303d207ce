-- Sums below a number: term by term, from the front, and in two pieces, by induction on how many terms there are.
use mathlib.Core.Path.{◌≡◌, refl, sym, ◌∙◌, ap, ap₂}
use Prim.Native.Nat.{ℕ, zero, suc, ◌+◌, ◌<◌}
use native.Mathlib.Nat.{add-zero, add-suc}
use native.Mathlib.Omega.{arith}
use lib.IntN.{ℤ, ◌+ℤ◌, +ℤ_assoc, +ℤ_idl, +ℤ_idr}
use Rattle.scope.specs.PrintedColumns.{sum_below}

pub sum_below_front : (f : ℕ → ℤ) (n : ℕ) → sum_below f (suc n) ≡ f 0 +ℤ sum_below (λ k. f (suc k)) n
unfolding sum_below
sum_below_front f zero = +ℤ_idl (f 0) ∙ sym (+ℤ_idr (f 0))
sum_below_front f (suc n) =
    ap (λ z. z +ℤ f (suc n)) (sum_below_front f n) ∙ +ℤ_assoc (f 0) (sum_below (λ k. f (suc k)) n) (f (suc n))

pub sum_below_cong : (f g : ℕ → ℤ) (n : ℕ) → ((k : ℕ) → k < n → f k ≡ g k) → sum_below f n ≡ sum_below g n
unfolding sum_below
sum_below_cong f g zero h = refl
sum_below_cong f g (suc n) h = ap₂ ◌+ℤ◌ (sum_below_cong f g n (λ k l. h k (omega arith))) (h n (omega arith))

pub sum_below_add : (f : ℕ → ℤ) (a b : ℕ) → sum_below f (a + b) ≡ sum_below f a +ℤ sum_below (λ k. f (a + k)) b
unfolding sum_below
sum_below_add f a zero = ap (sum_below f) (add-zero a) ∙ sym (+ℤ_idr (sum_below f a))
sum_below_add f a (suc b) =
    ap (sum_below f) (add-suc a b)
    ∙ ap (λ z. z +ℤ f (a + b)) (sum_below_add f a b)
    ∙ +ℤ_assoc (sum_below f a) (sum_below (λ k. f (a + k)) b) (f (a + b))
