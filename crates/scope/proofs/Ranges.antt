-- `any` and `all` over the numbers below n are the tests in a row of the definitions: by what the first of them adds.
use mathlib.Core.Path.{◌≡◌, refl, sym, ◌∙◌, ap, ap₂}
use mathlib.Core.Bool.{Bool, true, false, ◌&&◌, ◌||◌}
use Prim.Native.Nat.{ℕ, zero, suc, ◌+◌}
use native.Mathlib.Omega.{arith}
use Rattle.std.specs.List.{list_any, list_all, range_with_len}
use Rattle.scope.specs.Checks.{some_below, all_below}

or_assoc : (a b c : Bool) → ((a || b) || c) ≡ (a || (b || c))
or_assoc true b c = refl
or_assoc false b c = refl

and_assoc : (a b c : Bool) → ((a && b) && c) ≡ (a && (b && c))
and_assoc true b c = refl
and_assoc false b c = refl

some_first : (f : ℕ → Bool) (n : ℕ) → some_below f (suc n) ≡ (f 0 || some_below (λ k. f (suc k)) n)
unfolding some_below
some_first f zero = by (f 0)
  where
    by : (b : Bool) → b ≡ (b || false)
    by true = refl
    by false = refl
some_first f (suc n) =
    ap (λ (b : Bool). b || f (suc n)) (some_first f n) ∙ or_assoc (f 0) (some_below (λ k. f (suc k)) n) (f (suc n))

all_first : (f : ℕ → Bool) (n : ℕ) → all_below f (suc n) ≡ (f 0 && all_below (λ k. f (suc k)) n)
unfolding all_below
all_first f zero = by (f 0)
  where
    by : (b : Bool) → b ≡ (b && true)
    by true = refl
    by false = refl
all_first f (suc n) =
    ap (λ (b : Bool). b && f (suc n)) (all_first f n) ∙ and_assoc (f 0) (all_below (λ k. f (suc k)) n) (f (suc n))

some_from : (f : ℕ → Bool) (a n : ℕ) → list_any f (range_with_len a n) ≡ some_below (λ k. f (a + k)) n
unfolding some_below
some_from f a zero = refl
some_from f a (suc n) =
    let later : list_any f (range_with_len (a + 1) n) ≡ some_below (λ k. f (a + suc k)) n =
    some_from f (a + 1) n ∙ (λ i. some_below (λ k. f (moved k i)) n) in
    ap₂ ◌||◌ (ap f (omega arith)) later ∙ sym (some_first (λ k. f (a + k)) n)
  where
    moved : (k : ℕ) → a + 1 + k ≡ a + suc k
    moved k = omega arith

all_from : (f : ℕ → Bool) (a n : ℕ) → list_all f (range_with_len a n) ≡ all_below (λ k. f (a + k)) n
unfolding all_below
all_from f a zero = refl
all_from f a (suc n) =
    let later : list_all f (range_with_len (a + 1) n) ≡ all_below (λ k. f (a + suc k)) n =
    all_from f (a + 1) n ∙ (λ i. all_below (λ k. f (moved k i)) n) in
    ap₂ ◌&&◌ (ap f (omega arith)) later ∙ sym (all_first (λ k. f (a + k)) n)
  where
    moved : (k : ℕ) → a + 1 + k ≡ a + suc k
    moved k = omega arith

pub some_in_range : (f : ℕ → Bool) (n : ℕ) → list_any f (range_with_len 0 n) ≡ some_below f n
some_in_range f n = some_from f 0 n ∙ (λ i. some_below (λ k. f (zero_plus k i)) n)
  where
    zero_plus : (k : ℕ) → 0 + k ≡ k
    zero_plus k = omega arith

pub all_in_range : (f : ℕ → Bool) (n : ℕ) → list_all f (range_with_len 0 n) ≡ all_below f n
all_in_range f n = all_from f 0 n ∙ (λ i. all_below (λ k. f (zero_plus k i)) n)
  where
    zero_plus : (k : ℕ) → 0 + k ≡ k
    zero_plus k = omega arith
