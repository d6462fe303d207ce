-- The pairs of a mesh, collected in order: those of a node soil by soil, then those of all nodes.
use mathlib.Core.Path.{◌≡◌, refl, sym, ◌∙◌, ap}
use mathlib.Core.Logic.{⊎_elim}
use mathlib.Core.Bool.{Bool, true, false, cond}
use mathlib.Core.List.{List, [], ◌∷◌, ◌++◌, map, map-append, append-nil, append_assoc}
use Prim.Native.Nat.{ℕ, zero, suc, ◌+◌, ◌≤◌, ◌<◌}
use native.Mathlib.Nat.{eq-or-lt_of_le}
use native.Mathlib.Numerals.{add-one}
use native.Mathlib.Omega.{arith}
use lib.IntN.{ℤ}
use lib.Dec.{leb}
use lib.ListN.{length, length-append, length-map}
use borrow.Author.Tests.{le-leb, lt-leb, leb-true}
use Rattle.scope.specs.Checks.{all_below}
use Rattle.scope.specs.Mesh.{pairs_with, soils, sides}
use Rattle.scope.specs.Rows as R
use Rattle.scope.specs.Rows.{has_soil, passing, node_pairs, pairs_below}
use Rattle.scope.specs.Tests.{pairs_fit}
use Rattle.scope.proofs.Pairs.{pairs_more}
use Rattle.mesh.specs.declared.pairs.Pair.{Pair}
use Rattle.mesh.specs.PairContracts.{pair_of}
use Rattle.lines.proofs.Loops.{all_of_each}

-- ---- the pairs of a node

module _ (m : List ℤ) (v : ℕ) where
  -- its pairs with the soils below n: `node_pairs` once all are passed
  abbrev pub soil_pairs : ℕ → List R.Pair
  soil_pairs n = map (λ s. record { at = v; soil = s }) (passing (has_soil m v) n)

  next_soil : (s : ℕ) {b : Bool} → has_soil m v s ≡ b
      → soil_pairs (suc s) ≡ soil_pairs s ++ cond b (record { at = v; soil = s } ∷ []) []
  unfolding passing
  next_soil s {b} e =
      ap (λ (b : Bool). map with (passing (has_soil m v) s ++ cond b (s ∷ []) [])) e
      ∙ map-append with (passing (has_soil m v) s) (cond b (s ∷ []) [])
      ∙ ap (λ (l : List R.Pair). map with (passing (has_soil m v) s) ++ l) (by b)
    where
      with : ℕ → R.Pair
      with s = record { at = v; soil = s }

      by : (b : Bool) → map with (cond b (s ∷ []) []) ≡ cond b (with s ∷ []) []
      by true = refl
      by false = refl

  one_soil : (s : ℕ) {b : Bool} → has_soil m v s ≡ b
      → soil_pairs (s + 1) ≡ soil_pairs s ++ cond b (record { at = v; soil = s } ∷ []) []
  one_soil s e = ap soil_pairs (add-one s) ∙ next_soil s e

  more_soils : (s n : ℕ) → s ≤ n → length (soil_pairs s) ≤ length (soil_pairs n)
  more_soils s zero l = let e : s ≡ 0 = omega arith in rw e (omega arith)
  more_soils s (suc n) l =
      ⊎_elim (λ e. rw e (omega arith))
      (λ j. omega (arith, more_soils s n (omega arith), ap length (next_soil n refl), length-append {A = R.Pair}))
      (eq-or-lt_of_le l)

  -- its pairs with the soils below s are added to the list t, which is u then, and there are no more than `most`
  pub record Added (most s : ℕ) (t u : List Pair) : Type 0 where
    pub are : map pair_of u ≡ map pair_of t ++ soil_pairs s
    pub few : length u ≤ most

  pub none_added : {most : ℕ} (t : List Pair) → length t ≤ most → Added most 0 t t
  unfolding passing
  none_added t l = record { are = sym (append-nil (map pair_of t)); few = l }

  module _ {most s : ℕ} {t u : List Pair} (h : Added most s t u) where
    -- how many there are then
    pub count : length u ≡ length t + length (soil_pairs s)
    count =
        sym (length-map u pair_of) ∙ ap length h.are ∙ length-append (map pair_of t) (soil_pairs s)
        ∙ ap (λ (k : ℕ). k + length (soil_pairs s)) (length-map t pair_of)

    pub not_added : has_soil m v s ≡ false → Added most (s + 1) t u
    not_added e = record {
      are = h.are ∙ ap (λ (l : List R.Pair). map pair_of t ++ l) (sym (one_soil s e ∙ append-nil (soil_pairs s)));
      few = h.few;
    }

    module _ (e : has_soil m v s ≡ true) where
      pub one_added : {w : List Pair} → length u < most → w ≡ u ++ record { node = v; soil = s } ∷ []
          → Added most (s + 1) t w
      one_added {w} l d = record {
        are =
            ap (map pair_of) d ∙ map-append pair_of u (record { node = v; soil = s } ∷ [])
            ∙ ap (λ (l : List R.Pair). l ++ record { at = v; soil = s } ∷ []) h.are
            ∙ append_assoc (map pair_of t) (soil_pairs s) _
            ∙ ap (λ (l : List R.Pair). map pair_of t ++ l) (sym (one_soil s e));
        few = omega (arith, ap length d, length-append u (record { node = v; soil = s } ∷ []));
      }

      pub too_many : s < soils m → most ≤ length u
          → leb (length t + length (node_pairs m v)) most ≡ false
      unfolding node_pairs
      too_many l many =
          lt-leb _ most
          (omega (
            arith,
            count,
            ap length (one_soil s e),
            length-append {A = R.Pair},
            more_soils (s + 1) (soils m) (omega arith),
          ))

  -- once all soils are passed, its pairs are
  module _ {most : ℕ} {t u : List Pair} (h : Added most (soils m) t u) where
    pub all_added : map pair_of u ≡ map pair_of t ++ node_pairs m v
    unfolding node_pairs
    all_added = h.are

    pub all_fitted : leb (length t + length (node_pairs m v)) most ≡ true
    unfolding node_pairs
    all_fitted = le-leb _ most (omega (arith, count h, h.few))

-- ---- the pairs of the nodes below v, all of which fit

module _ (m : List ℤ) where
  -- as many as its number of sides lets it have
  abbrev most_of : ℕ
  most_of = pairs_with (sides m)

  pub record Collected (v : ℕ) (t : List Pair) : Type 0 where
    pub are : map pair_of t ≡ pairs_below m v
    pub few : length t ≤ most_of

  pub none_collected : Collected 0 []
  unfolding pairs_below
  none_collected = record { are = refl; few = omega arith }

  module _ {v : ℕ} {t : List Pair} (c : Collected v t) where
    count_below : length t ≡ length (pairs_below m v)
    count_below = sym (length-map t pair_of) ∙ ap length c.are

    pub all_fit : all_below (pairs_fit m) v ≡ true
    unfolding pairs_fit
    all_fit =
        all_of_each (pairs_fit m) v
        (λ k l. le-leb (length (pairs_below m (suc k))) most_of
        (omega (arith, pairs_more m v (suc k) (omega arith), count_below, c.few)))

    -- they fit exactly where this is not the node of 42
    pub fits_here : leb (length t + length (node_pairs m v)) most_of ≡ pairs_fit m v
    unfolding pairs_fit pairs_below
    fits_here =
        ap (λ (k : ℕ). leb k most_of)
        (ap (λ (k : ℕ). k + length (node_pairs m v)) count_below
        ∙ sym (length-append (pairs_below m v) (node_pairs m v)))

    pub more_collected : {u : List Pair} → map pair_of u ≡ map pair_of t ++ node_pairs m v
        → leb (length t + length (node_pairs m v)) most_of ≡ true → Collected (v + 1) u
    unfolding pairs_below
    more_collected {u} d fit = record {
      are = d ∙ ap (λ (l : List R.Pair). l ++ node_pairs m v) c.are ∙ ap (pairs_below m) (sym (add-one v));
      few =
          omega (
            arith,
            leb-true _ most_of fit,
            length-map u pair_of,
            ap length d,
            length-append (map pair_of t) (node_pairs m v),
            length-map t pair_of,
          );
    }
