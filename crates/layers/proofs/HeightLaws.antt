-- The least of the heights of the first nodes stands at one of them, and none of them is below it; so the least of all
-- is the lowest node. The highest likewise.
use mathlib.Core.Path.{◌≡◌, refl, sym, ◌∙◌, subst}
use mathlib.Core.Logic.{◌⊎◌, inl, inr}
use mathlib.Core.List.{List, map}
use Prim.Native.Nat.{ℕ, zero, suc, ◌+◌, ◌*◌, ◌≤◌, ◌<◌, min, max}
use native.Mathlib.Decide.{dec_lt, dec_le}
use native.Mathlib.Omega.{arith}
use lib.IntN.{ℤ, pos}
use lib.Signed.{◌≤ℤ◌}
use Rattle.std.specs.List.{fold, reduce, sum, range_with_len}
use Rattle.std.specs.Option.{unwrap_or}
use Rattle.scope.specs.Mesh.{most_coordinate}
use Rattle.scope.specs.Layout.{count}
use Rattle.scope.specs.Mesh.{nodes, elements, y, corner}
use Rattle.scope.specs.NumberRanges.{MeshFacts}
use Rattle.scope.specs.Layers.{lowest, highest}
use Rattle.scope.specs.Filled.{height_of}
use Rattle.scope.proofs.Layers.{node_heights}
use Rattle.scope.proofs.NumberRanges.{count_range}

pub height_most : {m : List ℤ} → MeshFacts m → {v : ℕ} → v < nodes m → count (y m v) ≤ most_coordinate
height_most {m} f {v} l = let r = (f.node v l).y_range in (count_range (y m v) r.least r.most).1

pub not_negative : {m : List ℤ} → MeshFacts m → {v : ℕ} → v < nodes m → pos 0 ≤ℤ y m v
not_negative f {v} l = (f.node v l).y_range.least

-- the extreme of the first v nodes, by an order: it is at one of them, and all are on its side
record Extreme (m : List ℤ) (Side : ℕ → ℕ → Type 0) (v h : ℕ) : Type 0 where
  there : (u : ℕ) × (u < v) × (count (y m u) ≡ h)
  all : (u : ℕ) → u < v → Side h (count (y m u))

-- the heights of k nodes from v on
abbrev pub heights : List ℤ → ℕ → ℕ → List ℕ
heights m v k = map (λ u. count (y m u)) (range_with_len v k)

-- of two heights one is picked: both are on its side
record Picks (Side : ℕ → ℕ → Type 0) (pick : ℕ → ℕ → ℕ) : Type 0 where
  own : (a : ℕ) → Side a a
  past : (a b c : ℕ) → Side a c → Side (pick a b) c
  next : (a b : ℕ) → Side (pick a b) b
  one : (a b : ℕ) → (pick a b ≡ a) ⊎ (pick a b ≡ b)

module _ (m : List ℤ) (Side : ℕ → ℕ → Type 0) (pick : ℕ → ℕ → ℕ) (p : Picks Side pick) where
  extreme_one : Extreme m Side 1 (count (y m 0))
  extreme_one = record { there = (0, omega arith, refl); all = λ u l. only u (omega arith) }
    where
      only : (u : ℕ) → u ≡ 0 → Side (count (y m 0)) (count (y m u))
      only u z = subst (λ (u : ℕ). Side (count (y m 0)) (count (y m u))) (sym z) (p.own (count (y m 0)))

  extreme_more : {v h : ℕ} → Extreme m Side v h → Extreme m Side (v + 1) (pick h (count (y m v)))
  extreme_more {v} {h} x = record { there = at (p.one h (count (y m v))); all = λ u l. by u (dec_lt u v) l }
    where
      at :
          (pick h (count (y m v)) ≡ h) ⊎ (pick h (count (y m v)) ≡ count (y m v)) →
          (u : ℕ) × (u < v + 1) × (count (y m u) ≡ pick h (count (y m v)))
      at (inl d) = let (u, l, g) = x.there in (u, omega (arith, l), g ∙ sym d)
      at (inr d) = (v, omega arith, sym d)

      by : (u : ℕ) → Dec (u < v) → u < v + 1 → Side (pick h (count (y m v))) (count (y m u))
      by u (yes l) b = p.past h (count (y m v)) (count (y m u)) (x.all u l)
      by u (no l) b =
          let e : v ≡ u = omega arith in
          subst (λ (w : ℕ). Side (pick h (count (y m v))) (count (y m w))) e (p.next h (count (y m v)))

  extreme_fold : (k v h : ℕ) → Extreme m Side v h → Extreme m Side (v + k) (fold pick h (heights m v k))
  extreme_fold zero v h x = subst (λ (n : ℕ). Extreme m Side n h) (omega arith) x
  extreme_fold (suc k) v h x =
      let next = pick h (count (y m v)) in
      subst (λ (n : ℕ). Extreme m Side n (fold pick next (heights m (v + 1) k))) (omega arith)
      (extreme_fold k (v + 1) next (extreme_more x))

  extreme : (n : ℕ) → 0 < n → Extreme m Side n (unwrap_or (reduce pick (heights m 0 n)) 0)
  extreme zero l = absurd (omega arith)
  extreme (suc k) l =
      let first = count (y m 0) in
      subst (λ (n : ℕ). Extreme m Side n (fold pick first (heights m 1 k))) (omega arith)
      (extreme_fold k 1 first extreme_one)

lower : Picks (λ a b. a ≤ b) min
lower =
    record {
      own = λ a. omega arith;
      past = λ a b c l. omega arith;
      next = λ a b. omega arith;
      one = λ a b. by a b (dec_le a b);
    }
  where
    by : (a b : ℕ) → Dec (a ≤ b) → (min a b ≡ a) ⊎ (min a b ≡ b)
    by a b (yes l) = inl (omega arith)
    by a b (no l) = inr (omega arith)

higher : Picks (λ a b. b ≤ a) max
higher =
    record {
      own = λ a. omega arith;
      past = λ a b c l. omega arith;
      next = λ a b. omega arith;
      one = λ a b. by a b (dec_le a b);
    }
  where
    by : (a b : ℕ) → Dec (a ≤ b) → (max a b ≡ a) ⊎ (max a b ≡ b)
    by a b (yes l) = inr (omega arith)
    by a b (no l) = inl (omega arith)

-- of all nodes
module _ {m : List ℤ} (f : MeshFacts m) where
  some_node : 0 < nodes m
  some_node = omega (arith, f.counts.nodes_least)

  pub low_is : unwrap_or (reduce min (heights m 0 (nodes m))) 0 ≡ lowest m
  low_is =
      let k = node_heights f in
      let x = extreme m (λ a b. a ≤ b) min lower (nodes m) some_node in
      let (u, lu, eu) = x.there in
      let (w, lw, ew) = k.some_lowest in
      omega (arith, eu, ew, x.all w lw, k.not_below u lu)

  pub high_is : unwrap_or (reduce max (heights m 0 (nodes m))) 0 ≡ highest m
  high_is =
      let k = node_heights f in
      let x = extreme m (λ a b. b ≤ a) max higher (nodes m) some_node in
      let (u, lu, eu) = x.there in
      let (w, lw, ew) = k.some_highest in
      omega (arith, eu, ew, x.all w lw, k.not_above u lu)

-- an element's height, corner by corner
abbrev pub corner_heights : List ℤ → ℕ → List ℕ
corner_heights m e = map (λ i. count (y m (corner m e i))) (range_with_len 0 4)

pub height_is : (m : List ℤ) (e : ℕ) → sum (corner_heights m e) ≡ height_of m e
unfolding height_of
height_is m e = omega arith

pub height_few : {m : List ℤ} → MeshFacts m → (e : ℕ) → e < elements m → height_of m e ≤ 4 * most_coordinate
unfolding height_of
height_few {m} f e l =
    omega (arith, most 0 (omega arith), most 1 (omega arith), most 2 (omega arith), most 3 (omega arith))
  where
    most : (i : ℕ) → i < 4 → count (y m (corner m e i)) ≤ most_coordinate
    most i b = height_most f ((f.element e l).corner_there i b)
