-- The pairs of a node and a soil: those of the nodes below k by induction on k, and at a node the soils below n that
-- are around it by induction on n.
-- A list that is in order stays so when all that is joined at its end comes after all in it.
use mathlib.Core.Path.{◌≡◌, refl, sym, ◌∙◌, ap, ap₂, subst}
use mathlib.Core.Logic.{◌↔◌, inl, inr, ⊎_elim}
use mathlib.Core.Bool.{Bool, true, false, cond}
use mathlib.Core.List.Memᴰ
use mathlib.Core.List.{List, [], ◌∷◌, ◌++◌, map, map-append}
use Prim.Native.Nat.{ℕ, zero, suc, ◌+◌, ◌-◌, ◌<◌, ◌≤◌}
use native.Mathlib.Nat.{zero-add, eq-or-lt_of_le}
use native.Mathlib.Decide.{dec_lt}
use native.Mathlib.Omega.{arith}
use lib.Dec.{T, T_not}
use lib.IntN.{ℤ}
use lib.ListN.{length, get_or, length-append, get_or-append}
use lib.Seq.{get_or-append-add}
use Rattle.integer.specs.Members.{◌∈◌}
use Rattle.scope.specs.Mesh.{pairs_with, nodes, elements, soils, sides, element_soil}
use Rattle.scope.specs.Polygon.{polygon_of}
use Rattle.scope.specs.Rows.{Pair, joined, count_from, first_where, has_corner, has_soil, passing, node_pairs}
use Rattle.scope.specs.Rows.{pairs_below, pair_rows, strength_pairs, pair_count, pair_at, strength_rows}
use Rattle.scope.specs.Statements.{InElement, MeshSound, PairsFit}
use Rattle.scope.specs.RefusalTable.{LowestFails}
use Rattle.scope.specs.NumberRanges.{MeshFacts}
use Rattle.scope.specs.Pairs.{SoilAround, Before, Pairs, PairsFail, soil_before, rows_before, OneSoilEach, SoundPairs}
use Rattle.scope.proofs.Checks.{below_suc}
use Rattle.scope.proofs.Decides.{First, first_where_lem}
use Rattle.scope.proofs.Lists.{each_++, at_in, count_last}
use Rattle.scope.proofs.NumberRanges.{mesh_facts}
use Rattle.scope.proofs.Statements.{corner_of, soil-around}

-- ---- a list in order

module _ {A : Type 0} (R : A → A → Type 0) where
  -- each element comes before all after it
  abbrev Sorted : List A → Type 0
  Sorted [] = Unit {0}
  Sorted (a ∷ l) = ((b : A) → b ∈ l → R a b) × Sorted l

  sorted_++ : (k l : List A) → Sorted k → Sorted l → ((a b : A) → a ∈ k → b ∈ l → R a b) → Sorted (k ++ l)
  sorted_++ [] l s t h = t
  sorted_++ (a ∷ k) l s t h =
      (each_++ (R a) s.0 (λ b i. h a b (Memᴰ.head refl) i), sorted_++ k l s.1 t (λ c b j i. h c b (Memᴰ.tail j) i))

  sorted_at : (l : List A) (d : A) (i j : ℕ) → i < j → j < length l → Sorted l → R (get_or l i d) (get_or l j d)
  sorted_at [] d i j h k s = absurd (omega arith)
  sorted_at (a ∷ l) d i zero h k s = absurd (omega arith)
  sorted_at (a ∷ l) d zero (suc j) h k s = s.0 (get_or l j d) (at_in l d j (omega arith))
  sorted_at (a ∷ l) d (suc i) (suc j) h k s = sorted_at l d i j (omega arith) (omega arith) s.1

-- ---- numbers that pass a test

last_is : (b : Bool) {n i : ℕ} → i ∈ cond b (n ∷ []) [] → (i ≡ n) × T b
last_is true k = (Memᴰ.eq_of_singleton k, tt)
last_is false k = absurd (Memᴰ.not-nil k)

last_in : (b : Bool) (n : ℕ) → T b → n ∈ cond b (n ∷ []) []
last_in true n t = Memᴰ.head refl
last_in false n t = absurd t

module _ (f : ℕ → Bool) where
  of_passing : (n : ℕ) {i : ℕ} → i ∈ passing f n → (i < n) × T (f i)
  unfolding passing
  of_passing zero k = absurd (Memᴰ.not-nil k)
  of_passing (suc n) {i} k =
      ⊎_elim
      (λ j. let h = of_passing n j in (omega (arith, h.0), h.1))
      (λ j. let h = last_is (f n) j in (omega (arith, h.0), subst (λ (a : ℕ). T (f a)) (sym h.0) h.1))
      (Memᴰ.append_cases (passing f n) k)

  in_passing : (n : ℕ) {i : ℕ} → i < n → T (f i) → i ∈ passing f n
  unfolding passing
  in_passing zero h t = absurd (omega arith)
  in_passing (suc n) {i} h t =
      ⊎_elim
      (λ l. Memᴰ.append_left (cond (f n) (n ∷ []) []) (in_passing n l t))
      (λ e. Memᴰ.append_right (passing f n) (Memᴰ.cast e (last_in (f n) n (subst (λ (a : ℕ). T (f a)) e t))))
      (below_suc h)

  passing_sorted : (n : ℕ) → Sorted (λ a b. a < b) (passing f n)
  unfolding passing
  passing_sorted zero = tt
  passing_sorted (suc n) =
      sorted_++ (λ a b. a < b) (passing f n) (cond (f n) (n ∷ []) []) (passing_sorted n) (one (f n))
      (λ a b j k. omega (arith, (of_passing n j).0, (last_is (f n) k).0))
    where
      one : (b : Bool) → Sorted (λ a b. a < b) (cond b (n ∷ []) [])
      one true = (λ b k. absurd (Memᴰ.not-nil k), tt)
      one false = tt

  none_passing : (n : ℕ) → ((i : ℕ) → i < n → ¬ T (f i)) → passing f n ≡ []
  unfolding passing
  none_passing zero h = refl
  none_passing (suc n) h = ap₂ ◌++◌ (none_passing n (λ i l. h i (omega arith))) (none (f n) (h n (omega arith)))
    where
      none : (b : Bool) → ¬ T b → cond b (n ∷ []) [] ≡ []
      none true h = absurd (h tt)
      none false h = refl

  one_passing : (n s : ℕ) → s < n → T (f s) → ((i : ℕ) → i < n → T (f i) → i ≡ s) → passing f n ≡ s ∷ []
  unfolding passing
  one_passing zero s h t only = absurd (omega arith)
  one_passing (suc n) s h t only =
      ⊎_elim
      (λ l. ap₂ ◌++◌ (one_passing n s l t (λ i k. only i (omega arith)))
      (none (f n) (λ u. omega (arith, only n (omega arith) u))))
      (λ e.
      ap₂ ◌++◌ (none_passing n (λ i k u. omega (arith, only i (omega arith) u)))
      (one (f n) (subst (λ (a : ℕ). T (f a)) e t))
      ∙ ap (λ (a : ℕ). a ∷ []) (sym e))
      (below_suc h)
    where
      none : (b : Bool) → ¬ T b → cond b (n ∷ []) [] ≡ []
      none true h = absurd (h tt)
      none false h = refl

      one : (b : Bool) → T b → cond b (n ∷ []) [] ≡ n ∷ []
      one true t = refl
      one false t = absurd t

-- ---- pairs of the nodes below k

abbrev pub pair_of : ℕ → ℕ → Pair
pair_of v s = record { at = v; soil = s }

module _ (m : List ℤ) where
  abbrev Around : ℕ → ℕ → Type 0
  Around v s = (s < soils m) × SoilAround m v s

  of_node : (v : ℕ) {a : Pair} → a ∈ node_pairs m v → (a.at ≡ v) × Around a.at a.soil
  unfolding node_pairs
  of_node v {a} k =
      let (s, j, e) = Memᴰ.of_map (pair_of v) (passing (has_soil m v) (soils m)) k in
      let h = of_passing (has_soil m v) (soils m) j in
      subst (λ (b : Pair). (b.at ≡ v) × Around b.at b.soil) e (refl, (h.0, (soil-around m v s).holds h.1))

  of_below : (k : ℕ) {a : Pair} → a ∈ pairs_below m k → (a.at < k) × Around a.at a.soil
  unfolding pairs_below
  of_below zero j = absurd (Memᴰ.not-nil j)
  of_below (suc k) {a} j =
      ⊎_elim
      (λ i. let h = of_below k i in (omega (arith, h.0), h.1))
      (λ i. let h = of_node k i in (omega (arith, h.0), h.1))
      (Memᴰ.append_cases (pairs_below m k) j)

  in_below : (k : ℕ) {v s : ℕ} → v < k → Around v s → pair_of v s ∈ pairs_below m k
  unfolding pairs_below node_pairs
  in_below zero h r = absurd (omega arith)
  in_below (suc k) {v} {s} h r =
      ⊎_elim
      (λ l. Memᴰ.append_left (node_pairs m k) (in_below k l r))
      (λ e.
      Memᴰ.append_right (pairs_below m k)
      (Memᴰ.cast (ap (λ (u : ℕ). pair_of u s) e)
      (Memᴰ.map (pair_of k)
      (in_passing (has_soil m k) (soils m) r.0
      ((soil-around m k s).passes (subst (λ (u : ℕ). SoilAround m u s) e r.1))))))
      (below_suc h)

  node_sorted : (v : ℕ) (l : List ℕ) → Sorted (λ a b. a < b) l → Sorted Before (map (pair_of v) l)
  node_sorted v [] s = tt
  node_sorted v (a ∷ l) s = (
    λ b k. let (c, j, e) = Memᴰ.of_map (pair_of v) l k in subst (Before (pair_of v a)) e (inr (refl, s.0 c j)),
    node_sorted v l s.1,
  )

  below_sorted : (k : ℕ) → Sorted Before (pairs_below m k)
  unfolding pairs_below node_pairs
  below_sorted zero = tt
  below_sorted (suc k) =
      sorted_++ Before (pairs_below m k) (node_pairs m k) (below_sorted k)
      (node_sorted k (passing (has_soil m k) (soils m)) (passing_sorted (has_soil m k) (soils m)))
      (λ a b i j. inl (omega (arith, (of_below k i).0, (of_node k j).0)))

  -- ---- how many, and at which place

  pub pairs_next : (k : ℕ) → length (pairs_below m (suc k)) ≡ length (pairs_below m k) + length (node_pairs m k)
  unfolding pairs_below
  pairs_next k = length-append (pairs_below m k) (node_pairs m k)

  pub pairs_more : (n k : ℕ) → k ≤ n → length (pairs_below m k) ≤ length (pairs_below m n)
  pairs_more zero k h = let e : k ≡ 0 = omega arith in rw e (omega arith)
  pairs_more (suc n) k h =
      ⊎_elim (λ e. rw e (omega arith)) (λ l. omega (arith, pairs_next n, pairs_more n k (omega arith)))
      (eq-or-lt_of_le h)

  -- the pairs of the nodes below k stand first among those of the nodes below n, and the others after them
  pub place_below : (n k i : ℕ) (d : Pair) → k ≤ n → i < length (pairs_below m k)
      → get_or (pairs_below m n) i d ≡ get_or (pairs_below m k) i d
  unfolding pairs_below
  place_below zero k i d h l = let e : k ≡ 0 = omega arith in rw e refl
  place_below (suc n) k i d h l =
      ⊎_elim
      (λ e. rw e refl)
      (λ g. get_or-append (pairs_below m n) (node_pairs m n) d i (omega (arith, pairs_more n k (omega arith)))
      ∙ place_below n k i d (omega arith) l)
      (eq-or-lt_of_le h)

  place_from : (n k i : ℕ) (d : Pair) → k ≤ n → length (pairs_below m k) ≤ i → i < length (pairs_below m n)
      → k ≤ (get_or (pairs_below m n) i d).at
  unfolding pairs_below
  place_from zero k i d h l g = omega arith
  place_from (suc n) k i d h l g = ⊎_elim (λ e. absurd (whole e))
      (λ j. by j (place_from n k i d (omega arith) l) (dec_lt i (length (pairs_below m n)))) (eq-or-lt_of_le h)
    where
      whole : ¬ (k ≡ suc n)
      whole e = omega (arith, ap (λ (u : ℕ). length (pairs_below m u)) e)

      by : k < suc n → (i < length (pairs_below m n) → k ≤ (get_or (pairs_below m n) i d).at)
          → Dec (i < length (pairs_below m n)) → k ≤ (get_or (pairs_below m (suc n)) i d).at
      by j ih (yes f) = rw (get_or-append (pairs_below m n) (node_pairs m n) d i f) (ih f)
      by j ih (no f) =
          let c : ℕ = i - length (pairs_below m n) in
          let e : i ≡ length (pairs_below m n) + c = omega arith in
          let at : get_or (pairs_below m n ++ node_pairs m n) i d ≡ get_or (node_pairs m n) c d =
          ap (λ (u : ℕ). get_or (pairs_below m n ++ node_pairs m n) u d) e
          ∙ get_or-append-add (pairs_below m n) (node_pairs m n) c d in
          let s = (of_node n (at_in (node_pairs m n) d c (omega (arith, pairs_next n)))).0 in
          subst (λ (b : Pair). k ≤ b.at) (sym at) (omega (arith, s))

  -- ---- the pairs of the mesh

  pub pair_there : (a : ℕ) → a < pair_count m → ((pair_at m a).at < nodes m) × ((pair_at m a).soil < soils m)
  unfolding pair_count pair_at strength_pairs
  pair_there a h = let r = of_below (nodes m) (at_in (strength_pairs m) _ a h) in (r.0, r.1.0)

  -- pair a is one of a node below k exactly when these have more than a pairs
  pub node_of_pair : (k a : ℕ) → k ≤ nodes m → a < pair_count m
      → ((pair_at m a).at < k) ↔ (a < length (pairs_below m k))
  unfolding pair_count pair_at strength_pairs
  node_of_pair k a h l = (
    λ g. by g (dec_lt a (length (pairs_below m k))),
    λ g. rw (place_below (nodes m) k a (pair_of 0 0) h g) (of_below k (at_in (pairs_below m k) (pair_of 0 0) a g)).0,
  )
    where
      by : (pair_at m a).at < k → Dec (a < length (pairs_below m k)) → a < length (pairs_below m k)
      by g (yes f) = f
      by g (no f) = absurd (omega (arith, place_from (nodes m) k a (pair_of 0 0) h (omega arith) l))

  abbrev most : ℕ
  most = pairs_with (sides m)

  -- the nodes below v fit where each of them does
  before_fits : (v : ℕ) → ((j : ℕ) → j < v → PairsFit m j) → length (pairs_below m v) ≤ most
  unfolding pairs_below
  before_fits zero h = omega arith
  before_fits (suc u) h = h u (omega arith)

  -- the node of 42, counted from 1, is that of the first pair beyond the most
  pub brings_one_more : (v : ℕ) → LowestFails (nodes m) (PairsFit m) v ↔ PairsFail m most (suc v)
  unfolding pair_count strength_pairs
  brings_one_more v = (to, λ f. from f.many (omega (arith, f.node)))
    where
      to : LowestFails (nodes m) (PairsFit m) v → PairsFail m most (suc v)
      to h =
          let there = h.there in
          let here : ¬ (length (pairs_below m (suc v)) ≤ most) = h.fails in
          let many : most < pair_count m = omega (arith, pairs_more (nodes m) (suc v) (omega arith)) in
          let small = (node_of_pair (suc v) most (omega arith) many).1 (omega arith) in
          let large : ¬ ((pair_at m most).at < v) = λ g. omega
          (arith, (node_of_pair v most (omega arith) many).0 g, before_fits v h.lower) in
          record { many = many; node = omega arith }

      from : most < pair_count m → (pair_at m most).at ≡ v → LowestFails (nodes m) (PairsFit m) v
      from many e =
          let there : v < nodes m = omega (arith, (pair_there most many).0) in
          record {
            there = there;
            lower = λ j l. fits j l (dec_lt most (length (pairs_below m (suc j))));
            fails = λ k. omega (arith, (node_of_pair (suc v) most (omega arith) many).0 (omega arith));
          }
        where
          fits : (j : ℕ) → j < v → Dec (most < length (pairs_below m (suc j))) → PairsFit m j
          fits j l (yes k) = absurd
              (omega (
                arith,
                (pair_there most many).0,
                (node_of_pair (suc j) most (omega (arith, (pair_there most many).0)) many).1 k,
              ))
          fits j l (no k) = omega arith

  pub pairs : Pairs m
  unfolding strength_pairs pair_count pair_at
  pairs = record {
    exactly = λ a. (λ k. let h = of_below (nodes m) k in (h.0, h.1.0, h.1.1), λ h. in_below (nodes m) h.0 (h.1, h.2));
    ascending = λ i j h l. sorted_at Before (strength_pairs m) _ i j h l (below_sorted (nodes m));
  }

  -- ---- a mesh whose lines are sound

  around-there : MeshFacts m → {v s : ℕ} → SoilAround m v s → (v < nodes m) × (s < soils m)
  around-there f {v} {s} r =
      let e = f.element r.element r.there in
      let (i, l, at) = r.has-corner in
      (omega (arith, e.corner_there i l, at), omega (arith, e.soil_there, r.same))

  pub pair_of_lem : MeshFacts m → {v s : ℕ} → SoilAround m v s → pair_of v s ∈ strength_pairs m
  unfolding strength_pairs
  pair_of_lem f r = let there = around-there f r in in_below (nodes m) there.0 (there.1, r)

  pub some_pairs : MeshFacts m → 0 < pair_count m
  unfolding pair_count
  some_pairs f =
      some (strength_pairs m)
      (pair_of_lem f (record {
        element = 0;
        there = omega (arith, f.counts.elements_least);
        has-corner = (0, omega arith, refl);
        same =
            refl;
      }))
    where
      some : (l : List Pair) {a : Pair} → a ∈ l → 0 < length l
      some [] k = absurd (Memᴰ.not-nil k)
      some (b ∷ l) k = omega arith

-- ---- a mesh that passes

pub few_pairs_lem : (m : List ℤ) → MeshSound m → pair_count m ≤ pairs_with (sides m)
unfolding pair_count strength_pairs
few_pairs_lem m s = before_fits m (nodes m) s.pairs_fit

module _ (m : List ℤ) (s : MeshSound m) where
  facts : MeshFacts m
  facts = mesh_facts m s.lines

  at-node : (v : ℕ) → v < nodes m → (t : ℕ) × SoilAround m v t
  at-node v h =
      let i = s.in_element v h in (
        element_soil m i.element,
        record { element = i.element; there = i.there; has-corner = (i.place, i.four, i.same); same = refl },
      )

  one_each : (soil : ℕ → ℕ) → ((v t : ℕ) → v < nodes m → SoilAround m v t → t ≡ soil v)
      → (k : ℕ) → k ≤ nodes m → pairs_below m k ≡ map (λ v. pair_of v (soil v)) (count_from 0 k)
  unfolding pairs_below node_pairs count_from
  one_each soil only zero h = refl
  one_each soil only (suc k) h =
      ap₂ ◌++◌ (one_each soil only k (omega arith)) here
      ∙ sym (map-append (λ v. pair_of v (soil v)) (count_from 0 k) (k ∷ []))
      ∙ ap (map (λ v. pair_of v (soil v)))
      (sym (count_last 0 k ∙ ap (λ (i : ℕ). count_from 0 k ++ (i ∷ [])) (zero-add k)))
    where
      here : node_pairs m k ≡ pair_of k (soil k) ∷ []
      here =
          let (t, r) = at-node k (omega arith) in
          let there = around-there m facts r in
          let e = only k t (omega arith) r in
          ap (map (pair_of k))
          (one_passing (has_soil m k) (soils m) (soil k) (omega (arith, there.1, e))
          ((soil-around m k (soil k)).passes (subst (SoilAround m k) e r))
          (λ i l u. only k i (omega arith) ((soil-around m k i).holds u)))

  -- the lowest element around a node is found
  soil_before_lem : (v : ℕ) → v < nodes m → SoilAround m v (soil_before m v)
  unfolding soil_before
  soil_before_lem v h =
      let first = first_where_lem (has_corner m v) (elements m) in
      let there = found (s.in_element v h) first in
      record {
        element = first_where (has_corner m v) (elements m);
        there = there;
        has-corner = (corner_of m v (first_where (has_corner m v) (elements m))).holds (first.passes there);
        same = refl;
      }
    where
      found : {k : ℕ} → InElement m v → First (has_corner m v) (elements m) k → k < elements m
      found {k} i first =
          let small = first.fits in
          ⊎_elim
          (λ p. absurd (T_not (has_corner m v i.element) (first.before i.element (rw p i.there))
          ((corner_of m v i.element).passes (i.place, i.four, i.same))))
          (λ l. l)
          (eq-or-lt_of_le small)

  as_before : OneSoilEach m → strength_rows m ≡ rows_before m
  unfolding strength_pairs strength_rows rows_before
  as_before one =
      ap (joined (pair_rows (polygon_of (sides m)) m))
      (one_each (soil_before m) (λ v t h r. one v t (soil_before m v) r (soil_before_lem v h)) (nodes m) (omega arith))

  pub sound_pairs : SoundPairs m
  unfolding strength_pairs
  sound_pairs = record {
    exactly = λ a. (λ k. (((pairs m).exactly a).0 k).2, λ r. pair_of_lem m facts r);
    each_node = λ v h. let (t, r) = at-node v h in (t, pair_of_lem m facts r);
    most = few_pairs_lem m s;
    as_before = as_before;
  }
