-- The lists that rows are made of, by what is in them and by what stands at a place: by induction on the list.
use mathlib.Core.Path.{◌≡◌, refl, sym, ◌∙◌, ap, subst}
use mathlib.Core.Logic.{⊎_elim}
use mathlib.Core.List.Memᴰ
use mathlib.Core.List.{List, [], ◌∷◌, ◌++◌, map}
use Prim.Native.Nat.{ℕ, zero, suc, ◌+◌, ◌≤◌, ◌<◌}
use native.Mathlib.Nat.{add-zero, eq-or-lt_of_le}
use native.Mathlib.Omega.{arith}
use lib.ListN.{length, get_or}
use Rattle.integer.specs.Members.{◌∈◌}
use Rattle.scope.specs.Rows.{Row, count_from, joined}
use Rattle.scope.specs.Tests.{row_at}

pub in_joined : {A B : Type 0} (f : A → List B) (l : List A) {a : A} {b : B} → a ∈ l → b ∈ f a → b ∈ joined f l
unfolding joined
in_joined f (c ∷ l) (Memᴰ.head e) m = Memᴰ.append_left (joined f l) (rw e at m)
in_joined f (c ∷ l) (Memᴰ.tail k) m = Memᴰ.append_right (f c) (in_joined f l k m)
in_joined {A = A} {B = B} f [] {a = a} {b = b} x'' m = elim x'' [ ]

pub of_joined : {A B : Type 0} (f : A → List B) (l : List A) {b : B} → b ∈ joined f l → (a : A) × (a ∈ l) × (b ∈ f a)
unfolding joined
of_joined f (c ∷ l) m =
    ⊎_elim
    (λ k. (c, Memᴰ.head refl, k))
    (λ k. let (a, j, b) = of_joined f l k in (a, Memᴰ.tail j, b))
    (Memᴰ.append_cases (f c) m)
of_joined {A = A} {B = B} f [] {b = b} m = elim m [ ]

pub in_count : (k n : ℕ) {i : ℕ} → k ≤ i → i < k + n → i ∈ count_from k n
unfolding count_from
in_count k zero h g = absurd (omega arith)
in_count k (suc n) h g =
    ⊎_elim (λ e. Memᴰ.head (sym e)) (λ l. Memᴰ.tail (in_count (suc k) n l (omega arith))) (eq-or-lt_of_le h)

pub of_count : (k n : ℕ) {i : ℕ} → i ∈ count_from k n → (k ≤ i) × (i < k + n)
unfolding count_from
of_count k (suc n) (Memᴰ.head e) = omega arith
of_count k (suc n) (Memᴰ.tail m) = let h = of_count (suc k) n m in omega arith
of_count k zero {i = i} x' = elim x' [ ]

pub count-length : (k n : ℕ) → length (count_from k n) ≡ n
unfolding count_from
count-length k zero = refl
count-length k (suc n) = ap suc (count-length (suc k) n)

-- one more number, at the end
pub count_last : (k n : ℕ) → count_from k (suc n) ≡ count_from k n ++ ((k + n) ∷ [])
unfolding count_from
count_last k zero = ap (λ (i : ℕ). i ∷ []) (sym (add-zero k))
count_last k (suc n) =
    ap (λ (l : List ℕ). k ∷ l) (count_last (suc k) n ∙ ap (λ (i : ℕ). count_from (suc k) n ++ (i ∷ [])) (omega arith))

-- ---- a fact of each element, by how the list is made

module _ {A : Type 0} (P : A → Type 0) where
  pub each_nil : (a : A) → a ∈ [] → P a
  each_nil a m = absurd (Memᴰ.not-nil m)

  pub each_cons : {b : A} {l : List A} → P b → ((a : A) → a ∈ l → P a) → (a : A) → a ∈ b ∷ l → P a
  each_cons h f a (Memᴰ.head e) = rw e h
  each_cons h f a (Memᴰ.tail m) = f a m

  pub each_++ : {k l : List A} → ((a : A) → a ∈ k → P a) → ((a : A) → a ∈ l → P a) → (a : A) → a ∈ k ++ l → P a
  each_++ {k} f g a m = ⊎_elim (f a) (g a) (Memᴰ.append_cases k m)

  pub each_map : {B : Type 0} (f : B → A) (l : List B) → ((b : B) → b ∈ l → P (f b)) → (a : A) → a ∈ map f l → P a
  each_map f l h a m = let (b, k, e) = Memᴰ.of_map f l m in subst P e (h b k)

  pub each_joined : {B : Type 0} (f : B → List A) (l : List B) → ((b : B) → b ∈ l → (a : A) → a ∈ f b → P a) → (a : A)
      → a ∈ joined f l → P a
  each_joined f l h a m = let (b, k, j) = of_joined f l m in h b k a j

-- ---- what stands at a place

pub at_count : (k n i d : ℕ) → i < n → get_or (count_from k n) i d ≡ k + i
unfolding count_from
at_count k zero i d h = absurd (omega arith)
at_count k (suc n) zero d h = sym (add-zero k)
at_count k (suc n) (suc i) d h = at_count (suc k) n i d (omega arith) ∙ (omega arith)

pub at_map : {A B : Type 0} (f : A → B) (l : List A) (k : ℕ) (a : A) (b : B) → k < length l
    → get_or (map f l) k b ≡ f (get_or l k a)
at_map f [] k a b h = absurd (omega arith)
at_map f (c ∷ l) zero a b h = refl
at_map f (c ∷ l) (suc k) a b h = at_map f l k a b (omega arith)

pub at_in : {A : Type 0} (l : List A) (d : A) (k : ℕ) → k < length l → get_or l k d ∈ l
at_in [] d k h = absurd (omega arith)
at_in (a ∷ l) d zero h = Memᴰ.head refl
at_in (a ∷ l) d (suc k) h = Memᴰ.tail (at_in l d k (omega arith))

-- ---- rows by their place

pub row_in : (rs : List Row) (k : ℕ) → k < length rs → row_at rs k ∈ rs
unfolding row_at
row_in rs k h = at_in rs _ k h

pub by_place : (P : Row → Type 0) (rs : List Row) → ((k : ℕ) → k < length rs → P (row_at rs k)) → (r : Row) → r ∈ rs
    → P r
unfolding row_at
by_place P (a ∷ rs) h r (Memᴰ.head e) = rw e (h 0 (omega arith))
by_place P (a ∷ rs) h r (Memᴰ.tail m) = by_place P rs (λ k b. h (suc k) (omega arith)) r m
by_place P [] h r x'' = elim x'' [ ]
