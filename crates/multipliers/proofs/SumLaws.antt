-- Sums and counts over rows, one more at a time, as a loop takes them: by induction on how many.
use mathlib.Core.Path.{◌≡◌, refl, sym, ◌∙◌, ap, ap₂}
use mathlib.Core.Bool.{Bool, true, false, cond}
use mathlib.Core.List.{List, [], ◌∷◌}
use Prim.Native.Nat.{ℕ, zero, suc, ◌+◌, ◌≤◌, ◌<◌, zero-le}
use native.Mathlib.Numerals.{add-one}
use native.Mathlib.Nat.{add-zero, add-suc, add_comm, add_assoc}
use native.Mathlib.Omega.{arith}
use lib.IntN.{ℤ, ◌+ℤ◌, ◌*ℤ◌}
use lib.ListN.{length}
use Rattle.scope.specs.Rows.{Row}
use Rattle.scope.specs.Sums.{weighted_sum, weighed, how_many}
use Rattle.scope.specs.Tests.{row_at}
use Rattle.scope.specs.PrintedColumns.{sum_below}
use Rattle.scope.proofs.SumBelow.{sum_below_front}
use Rattle.multipliers.specs.MultiplierContracts.{count_below, row_sum}

-- ---- sums below a number

pub sum_below-next : (f : ℕ → ℤ) (n : ℕ) → sum_below f (n + 1) ≡ sum_below f n +ℤ f n
unfolding sum_below
sum_below-next f n = ap (sum_below f) (add-one n)

-- ---- the sums of the definitions

-- sums over rows, by their places
pub weighed_sum : (F : Row → ℤ) (w : ℕ → ℤ) (rs : List Row) → weighted_sum F (weighed w rs) ≡ row_sum F w rs (length rs)
unfolding weighted_sum weighed row_sum row_at sum_below
weighed_sum F w [] = refl
weighed_sum F w (r ∷ rs) =
    ap (λ z. w 0 *ℤ F r +ℤ z) (weighed_sum F (λ k. w (suc k)) rs)
    ∙ sym (sum_below_front (λ k. w k *ℤ F (row_at (r ∷ rs) k)) (length rs))

pub count_below_front : (f : ℕ → Bool) (n : ℕ) → count_below f (suc n) ≡ cond (f 0) 1 0 + count_below (λ k. f (suc k)) n
unfolding count_below
count_below_front f zero = add_comm 0 (cond (f 0) 1 0)
count_below_front f (suc n) =
    ap (λ z. z + cond (f (suc n)) 1 0) (count_below_front f n)
    ∙ add_assoc (cond (f 0) 1 0) (count_below (λ k. f (suc k)) n) (cond (f (suc n)) 1 0)

pub weighed-count : (f : ℤ × Row → Bool) (w : ℕ → ℤ) (rs : List Row)
    → how_many f (weighed w rs) ≡ count_below (λ k. f (w k, row_at rs k)) (length rs)
unfolding how_many weighed row_at count_below
weighed-count f w [] = refl
weighed-count f w (r ∷ rs) =
    ap (λ z. cond (f (w 0, r)) 1 0 + z) (weighed-count f (λ k. w (suc k)) rs)
    ∙ sym (count_below_front (λ k. f (w k, row_at (r ∷ rs) k)) (length rs))

-- ---- counts below a number

pub count_below_cong : (f g : ℕ → Bool) (n : ℕ) → ((k : ℕ) → k < n → f k ≡ g k) → count_below f n ≡ count_below g n
unfolding count_below
count_below_cong f g zero h = refl
count_below_cong f g (suc n) h =
    ap₂ (λ a b. a + cond b 1 0) (count_below_cong f g n (λ k l. h k (omega arith))) (h n (omega arith))

pub count_below_add : (f : ℕ → Bool) (a b : ℕ)
    → count_below f (a + b) ≡ count_below f a + count_below (λ k. f (a + k)) b
unfolding count_below
count_below_add f a zero = ap (count_below f) (add-zero a) ∙ sym (add-zero (count_below f a))
count_below_add f a (suc b) =
    ap (count_below f) (add-suc a b)
    ∙ ap (λ z. z + cond (f (a + b)) 1 0) (count_below_add f a b)
    ∙ add_assoc (count_below f a) (count_below (λ k. f (a + k)) b) (cond (f (a + b)) 1 0)

pub count_below_none : (f : ℕ → Bool) (n : ℕ) → ((k : ℕ) → k < n → f k ≡ false) → count_below f n ≡ 0
unfolding count_below
count_below_none f zero h = refl
count_below_none f (suc n) h =
    ap₂ (λ a b. a + cond b 1 0) (count_below_none f n (λ k l. h k (omega arith))) (h n (omega arith))

pub one_most : (b : Bool) → cond b 1 0 ≤ 1
one_most true = omega arith
one_most false = omega arith

pub count_below_most : (f : ℕ → Bool) (n : ℕ) → count_below f n ≤ n
unfolding count_below
count_below_most f zero = zero-le
count_below_most f (suc n) = omega (arith, count_below_most f n, one_most (f n))
