-- The open rows are counted one by one: their places are listed from the front, each once.
use mathlib.Core.Path.{◌≡◌, refl, sym, subst}
use mathlib.Core.Bool.{Bool, true, false, cond}
use mathlib.Core.List.Memᴰ
use mathlib.Core.List.{List, [], ◌∷◌, map}
use Prim.Native.Nat.{ℕ, zero, suc, ◌+◌, ◌<◌}
use native.Mathlib.Omega.{arith}
use lib.IntN.{ℤ}
use lib.Dec.{T}
use lib.ListN.{length, length-map}
use Rattle.integer.specs.Members.{◌∈◌}
use Rattle.scope.specs.Rows.{Row}
use Rattle.scope.specs.Sums.{weighed, how_many}
use Rattle.scope.specs.Parts.{Ascending, NumberOf}
use Rattle.scope.specs.Tests.{row_at}

module _ (f : ℤ × Row → Bool) where
  -- the places of the rows that pass the test, from the front
  front : Bool → List ℕ → List ℕ
  front b later = cond b (0 ∷ map suc later) (map suc later)

  places : (ℕ → ℤ) → List Row → List ℕ
  places w [] = []
  places w (r ∷ rs) = front (f (w 0, r)) (places (λ k. w (suc k)) rs)

  count : (w : ℕ → ℤ) (rs : List Row) → length (places w rs) ≡ how_many f (weighed w rs)
  unfolding places front how_many weighed
  count w [] = refl
  count w (r ∷ rs) = by (f (w 0, r)) (count (λ k. w (suc k)) rs)
    where
      by : (b : Bool) → length (places (λ k. w (suc k)) rs) ≡ how_many f (weighed (λ k. w (suc k)) rs)
          → length (front b (places (λ k. w (suc k)) rs)) ≡ cond b 1 0 + how_many f (weighed (λ k. w (suc k)) rs)
      by true e = omega (arith, length-map (places (λ k. w (suc k)) rs) suc)
      by false e = omega (arith, length-map (places (λ k. w (suc k)) rs) suc)

  -- ---- in order

  later_ascends : (l : List ℕ) → Ascending l → Ascending (map suc l)
  later_ascends [] a = tt
  later_ascends (i ∷ []) a = tt
  later_ascends (i ∷ j ∷ l) a = (omega (arith, a.0), later_ascends (j ∷ l) a.1)

  zero_first : (l : List ℕ) → Ascending (map suc l) → Ascending (0 ∷ map suc l)
  zero_first [] a = tt
  zero_first (i ∷ l) a = (omega arith, a)

  ascends : (w : ℕ → ℤ) (rs : List Row) → Ascending (places w rs)
  unfolding places front
  ascends w [] = tt
  ascends w (r ∷ rs) = by (f (w 0, r)) (ascends (λ k. w (suc k)) rs)
    where
      by : (b : Bool) → Ascending (places (λ k. w (suc k)) rs) → Ascending (front b (places (λ k. w (suc k)) rs))
      by true a = zero_first (places (λ k. w (suc k)) rs) (later_ascends (places (λ k. w (suc k)) rs) a)
      by false a = later_ascends (places (λ k. w (suc k)) rs) a

  -- ---- exactly those that pass

  passes : (w : ℕ → ℤ) (rs : List Row) (i : ℕ) → i ∈ places w rs → (i < length rs) × T (f (w i, row_at rs i))
  unfolding places front row_at
  passes w [] i m = elim m [ ]
  passes w (r ∷ rs) i m = by (f (w 0, r)) refl (λ k. passes (λ j. w (suc j)) rs k) m
    where
      Here : ℕ → Type 0
      Here i = (i < suc (length rs)) × T (f (w i, row_at (r ∷ rs) i))

      after : ((k : ℕ) → k ∈ places (λ j. w (suc j)) rs → (k < length rs) × T (f (w (suc k), row_at rs k)))
          → i ∈ map suc (places (λ j. w (suc j)) rs) → Here i
      after ih m =
          let (k, n, e) = Memᴰ.of_map suc (places (λ j. w (suc j)) rs) m in
          let h : (k < length rs) × T (f (w (suc k), row_at rs k)) = ih k n in
          subst Here e (omega (arith, h.0), h.1)

      by : (b : Bool) → f (w 0, r) ≡ b
          → ((k : ℕ) → k ∈ places (λ j. w (suc j)) rs → (k < length rs) × T (f (w (suc k), row_at rs k)))
          → i ∈ front b (places (λ j. w (suc j)) rs) → Here i
      by true e ih (Memᴰ.head d) = subst Here (sym d) (omega arith, subst T (sym e) tt)
      by true e ih (Memᴰ.tail n) = after ih n
      by false e ih n = after ih n

  listed : (w : ℕ → ℤ) (rs : List Row) (i : ℕ) → i < length rs → T (f (w i, row_at rs i)) → i ∈ places w rs
  unfolding places front row_at
  listed w [] i h t = absurd (omega arith)
  listed w (r ∷ rs) zero h t = by (f (w 0, r)) t
    where
      by : (b : Bool) → T b → 0 ∈ front b (places (λ j. w (suc j)) rs)
      by true t = Memᴰ.head refl
      by false t = absurd t
  listed w (r ∷ rs) (suc i) h t = by (f (w 0, r)) (Memᴰ.map suc (listed (λ j. w (suc j)) rs i (omega arith) t))
    where
      by : (b : Bool) → suc i ∈ map suc (places (λ j. w (suc j)) rs) → suc i ∈ front b (places (λ j. w (suc j)) rs)
      by true m = Memᴰ.tail m
      by false m = m

  pub number_of_lem : (w : ℕ → ℤ) (rs : List Row) → NumberOf (λ k. T (f (w k, row_at rs k))) (length rs)
      (how_many f (weighed w rs))
  number_of_lem w rs = record {
    places = places w rs;
    count = count w rs;
    ascending = ascends w rs;
    exactly = λ i. (passes w rs i, λ h. listed w rs i h.0 h.1);
  }
