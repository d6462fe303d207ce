-- 46 and 45: each test decides its plain statement, so each refusal comes exactly when it is said; where both pass,
-- each height from the lowest node to the highest is in exactly one layer.
use mathlib.Core.Path.{◌≡◌, refl, sym, ap, subst}
use mathlib.Core.Logic.{◌↔◌, inl, inr}
use mathlib.Core.Bool.{Bool, true, false, not}
use mathlib.Core.List.{List}
use Prim.Native.Nat.{ℕ, zero, suc, ◌+◌, ◌-◌, ◌*◌, ◌≤◌, ◌<◌}
use native.Mathlib.Decide.{dec_lt}
use native.Mathlib.Omega.{arith}
use lib.Dec.{T, T_not, leb}
use lib.IntN.{ℤ, pos, ◌*ℤ◌}
use Rattle.scope.specs.declared.Place.{Place}
use Rattle.scope.specs.declared.Place.TheVariants.{Height}
use Rattle.scope.specs.Cases.Outcome.{Passed, Refused}
use Rattle.scope.specs.Checks.{some_below}
use Rattle.scope.specs.Phases.{AllPass, RefusedBy, check_phases}
use Rattle.scope.specs.Layout.{count}
use Rattle.scope.specs.Mesh.{nodes, y}
use Rattle.scope.specs.Rows.{first_where}
use Rattle.scope.specs.Mesh.{most_coordinate}
use Rattle.scope.specs.NumberRanges.{MeshFacts}
use Rattle.scope.specs.Layers.{layers, bottom, top, soil, node_at, none_above, lowest, highest, quarters, Has, has}
use Rattle.scope.specs.Layers.{soil_at, TopAbove, top_above, Apart, apart, InLayer, in_layer, layer_phases}
use Rattle.scope.specs.LayerRefusals.{NodeHeights, LowestGap, LayerRefusalRow, forty_six, forty_six_else, forty_five, OneLayer}
use Rattle.scope.specs.LayerRefusals.{TableSound}
use Rattle.scope.proofs.Decides.{Decides, First, first_where_lem, both, opposite, said_as, equal, at_most, at_mostℤ}
use Rattle.scope.proofs.Decides.{belowℤ, some_below_lem, all_below_lem}
use Rattle.scope.proofs.Phases.{Exact, Decided, EachIn, each_refusal, one_step, phases_exact}
use Rattle.scope.proofs.RefusalTable.{row, alone, lowest_fails, held}
use Rattle.scope.proofs.NumberRanges.{count_range}

-- what is the first is what the search finds
pub first_is : (f : ℕ → Bool) (n r : ℕ) → First f n r → r ≡ first_where f n
first_is f n r h = by (first_where_lem f n) (dec_lt r (first_where f n)) (dec_lt (first_where f n) r)
  where
    by : First f n (first_where f n) → Dec (r < first_where f n) → Dec (first_where f n < r) → r ≡ first_where f n
    by g (yes p) d = absurd (T_not (f r) (g.before r p) (h.passes (omega (arith, g.fits))))
    by g (no p) (yes d) =
        absurd (T_not (f (first_where f n)) (h.before (first_where f n) d) (g.passes (omega (arith, h.fits))))
    by g (no p) (no d) = omega arith

-- ---- what the tests say

pub has_says : (t : List ℤ) (q i : ℕ) → Decides (has t q i) (Has t q i)
unfolding has
has_says t q i = both (at_mostℤ (pos 4 *ℤ bottom t i) (pos q)) (belowℤ (pos q) (pos 4 *ℤ top t i))

pub in_layer_says : (t : List ℤ) (q : ℕ) → Decides (in_layer t q) (InLayer t q)
unfolding in_layer
in_layer_says t q = some_below_lem (has_says t q) (layers t)

top_above_says : (t : List ℤ) (i : ℕ) → Decides (top_above t i) (TopAbove t i)
unfolding top_above
top_above_says t i = belowℤ (bottom t i) (top t i)

pub apart_says : (t : List ℤ) (lo hi i : ℕ) → Decides (apart t lo hi i) (Apart t lo hi i)
unfolding apart
apart_says t lo hi i =
    said_as (opposite (some_below_lem
    (λ k. both (has_says t (4 * lo + k) i) (some_below_lem (has_says t (4 * lo + k)) i)) (quarters lo hi))) to from
  where
    Shared : Type 0
    Shared = (k : ℕ) × (k < quarters lo hi) × (Has t (4 * lo + k) i × ((j : ℕ) × (j < i) × Has t (4 * lo + k) j))

    to : ¬ Shared → Apart t lo hi i
    to f q l u h j b g =
        let e : 4 * lo + (q - 4 * lo) ≡ q = omega arith in
        f (
          q - 4 * lo,
          omega arith,
          (subst (λ (x : ℕ). Has t x i) (sym e) h, (j, b, subst (λ (x : ℕ). Has t x j) (sym e) g)),
        )

    from : Apart t lo hi i → ¬ Shared
    from a s = a (4 * lo + s.0) (omega arith) (omega (arith, s.1)) s.2.0 s.2.1.0 s.2.1.1 s.2.1.2

-- ---- exactly when

module _ (t m : List ℤ) where
  pub layers_decided : Decided (layer_phases t m)
  layers_decided = (
    λ i h b. one_step (top_above_says t i),
    λ tops. (
      λ i h b. one_step (apart_says t (lowest m) (highest m) i),
      λ parts. (λ k h b. one_step (in_layer_says t (4 * lowest m + k)), λ gaps. tt),
    ),
  )

  layers_exact : Exact (check_phases (layer_phases t m)) (AllPass (layer_phases t m)) (RefusedBy (layer_phases t m))
  layers_exact = phases_exact (layer_phases t m) layers_decided

  gap_at : (k : ℕ) → k < quarters (lowest m) (highest m) → ((j : ℕ) → j < k → InLayer t (4 * lowest m + j))
      → ¬ InLayer t (4 * lowest m + k) → LowestGap t (lowest m) (highest m) (4 * lowest m + k)
  gap_at k h lower x = record {
    from_lowest = omega arith;
    to_highest = omega arith;
    in_none = x;
    below = λ r l u. let e : 4 * lowest m + (r - 4 * lowest m) ≡ r =
        omega arith in subst (InLayer t) e (lower (r - 4 * lowest m) (omega arith));
  }

  -- the rows between this mesh's lowest node and its highest
  abbrev pub Row : ℕ → Place → Type 0
  Row = LayerRefusalRow t (lowest m) (highest m)

  pub layer_rows : EachIn Row (layer_phases t m)
  layer_rows = (
    λ i c h l r. row Row r (λ x. forty_six i (lowest_fails h l x)),
    λ tops. (
      λ i c h l r. row Row r (λ x. forty_six_else i (alone tops) (lowest_fails h l x)),
      λ parts. (
        λ k c h l r. row Row r
            (λ x. forty_five (4 * lowest m + k) (alone tops) (alone parts) (gap_at k h (alone l) x)),
        λ gaps. tt,
      ),
    ),
  )

  pub row_layers : {k : ℕ} {p : Place} → Row k p → RefusedBy (layer_phases t m) k p
  row_layers (forty_six i h) =
      inl (record { here = i; there = h.there; lower = held h.lower; fails = inl (h.fails, refl); called = refl })
  row_layers (forty_six_else i tops h) =
      inr (
        held tops,
        inl (record
            { here = i; there = h.there; lower = held h.lower; fails = inl (h.fails, refl); called = refl }),
      )
  row_layers (forty_five q tops parts g) =
      let e : 4 * lowest m + (q - 4 * lowest m) ≡ q = omega (arith, g.from_lowest) in
      inr (
        held tops,
        inr (
          held parts,
          inl (record {
            here = q - 4 * lowest m;
            there = omega (arith, g.from_lowest, g.to_highest);
            lower = λ j i. (g.below (4 * lowest m + j) (omega arith) (omega (arith, g.from_lowest)), tt);
            fails = inl (λ s. g.in_none (subst (InLayer t) e s), refl);
            called = ap Height e;
          }),
        ),
      )

  -- refused with a number and a place exactly when the table of refusals has a row with them
  pub layers_refused : (k : ℕ) (p : Place) → (check_phases (layer_phases t m) ≡ Refused k p) ↔ Row k p
  layers_refused k p = (
    λ e. each_refusal Row (layer_phases t m) layer_rows (layers_exact.refuses.why k p e),
    λ r. layers_exact.refuses.refused k p (row_layers r),
  )

  pub sound_of : AllPass (layer_phases t m) → TableSound t (lowest m) (highest m)
  sound_of a = record { tops = alone a.0; once = λ q l u. one q l u (there q l u) }
    where
      there : (q : ℕ) → 4 * lowest m ≤ q → q ≤ 4 * highest m → InLayer t q
      there q l u =
          let e : 4 * lowest m + (q - 4 * lowest m) ≡ q = omega arith in
          subst (InLayer t) e (a.1.1.0 (q - 4 * lowest m) (omega arith)).0

      one : (q : ℕ) → 4 * lowest m ≤ q → q ≤ 4 * highest m → InLayer t q → OneLayer t q
      one q l u (i, b, h) =
          record { layer = i; there = b; has = h; only = λ j c g. same j c g (dec_lt j i) (dec_lt i j) }
        where
          same : (j : ℕ) → j < layers t → Has t q j → Dec (j < i) → Dec (i < j) → j ≡ i
          same j c g (yes d) f = absurd ((a.1.0 i b).0 q l u h j d g)
          same j c g (no d) (yes f) = absurd ((a.1.0 j c).0 q l u g i f h)
          same j c g (no d) (no f) = omega arith

  pub of_sound : TableSound t (lowest m) (highest m) → AllPass (layer_phases t m)
  of_sound s = (
    held s.tops,
    (
      λ i b. (
        λ q l u h j c g. let o = s.once q l u in absurd
            (omega (arith, c, o.only i b h, o.only j (omega (arith, b, c)) g)),
        tt,
      ),
      (
        λ k h. (let o = s.once (4 * lowest m + k) (omega arith) (omega (arith, h)) in (o.layer, o.there, o.has), tt),
        tt,
      ),
    ),
  )

  -- both pass exactly when "The table has no gap and no overlap at any quarter unit from the lowest node to the
  -- highest"
  pub layers_passed : (check_phases (layer_phases t m) ≡ Passed) ↔ TableSound t (lowest m) (highest m)
  layers_passed = (λ e. sound_of (layers_exact.passes.says e), λ s. layers_exact.passes.passed (of_sound s))

-- the soil at a height is that of its one layer
pub soil_found : (t : List ℤ) (q : ℕ) (o : OneLayer t q) → first_where (has t q) (layers t) ≡ o.layer
soil_found t q o = sym (first_is (has t q) (layers t) o.layer (record {
  fits = omega (arith, o.there);
  before = λ j l. (opposite (has_says t q j)).passes (λ h. absurd (omega (arith, o.only j (omega (arith, o.there)) h)));
  passes = λ l. (has_says t q o.layer).passes o.has;
}))

pub soil-at : (t : List ℤ) (q : ℕ) (o : OneLayer t q) → soil_at t q ≡ soil t o.layer
unfolding soil_at
soil-at t q o = ap (soil t) (soil_found t q o)

-- ---- the lowest node and the highest

-- there is only one lowest and one highest
pub same_heights : {m : List ℤ} {a b c d : ℕ} → NodeHeights m a b → NodeHeights m c d → (a ≡ c) × (b ≡ d)
same_heights h k =
    let (u, lu, eu) = h.some_lowest in
    let (v, lv, ev) = k.some_lowest in
    let (w, lw, ew) = h.some_highest in
    let (x, lx, ex) = k.some_highest in (
      omega (arith, eu, ev, h.not_below v lv, k.not_below u lu),
      omega (arith, ew, ex, h.not_above x lx, k.not_above w lw),
    )

module _ (m : List ℤ) (some : 0 < nodes m) (most : (v : ℕ) → v < nodes m → count (y m v) ≤ most_coordinate) where
  stands_says : (h : ℕ) → Decides (node_at m h) ((v : ℕ) × (v < nodes m) × (count (y m v) ≡ h))
  unfolding node_at
  stands_says h = some_below_lem (λ v. equal (count (y m v)) h) (nodes m)

  above_says : (h : ℕ) → Decides (none_above m h) ((v : ℕ) → v < nodes m → count (y m v) ≤ h)
  unfolding none_above
  above_says h = all_below_lem (λ v. at_most (count (y m v)) h) (nodes m)

  not_below_lem : (v : ℕ) → v < nodes m → lowest m ≤ count (y m v)
  unfolding lowest
  not_below_lem v l = by (dec_lt (count (y m v)) (first_where (node_at m) most_coordinate))
    where
      by : Dec (count (y m v) < first_where (node_at m) most_coordinate)
          → first_where (node_at m) most_coordinate ≤ count (y m v)
      by (yes h) = absurd (T_not (node_at m (count (y m v)))
          ((first_where_lem (node_at m) most_coordinate).before (count (y m v)) h)
          ((stands_says (count (y m v))).passes (v, l, refl)))
      by (no h) = omega arith

  not_above_lem : (v : ℕ) → v < nodes m → count (y m v) ≤ highest m
  unfolding highest
  not_above_lem v l = by (dec_lt (first_where (none_above m) most_coordinate) most_coordinate)
    where
      by : Dec (first_where (none_above m) most_coordinate < most_coordinate)
          → count (y m v) ≤ first_where (none_above m) most_coordinate
      by (yes h) = (above_says (first_where (none_above m) most_coordinate)).holds
          ((first_where_lem (none_above m) most_coordinate).passes h) v l
      by (no h) = omega (arith, most v l)

  some_lowest_lem : (v : ℕ) × (v < nodes m) × (count (y m v) ≡ lowest m)
  unfolding lowest
  some_lowest_lem = by (dec_lt (first_where (node_at m) most_coordinate) most_coordinate)
    where
      by : Dec (first_where (node_at m) most_coordinate < most_coordinate)
          → (v : ℕ) × (v < nodes m) × (count (y m v) ≡ first_where (node_at m) most_coordinate)
      by (yes h) = (stands_says (first_where (node_at m) most_coordinate)).holds
          ((first_where_lem (node_at m) most_coordinate).passes h)
      by (no h) = (
        0,
        some,
        omega (arith, most 0 some, not_below_lem 0 some, (first_where_lem (node_at m) most_coordinate).fits),
      )

  -- a height that not all are at most has one above it
  above : (h : ℕ) → T (not (none_above m h)) → (v : ℕ) × (v < nodes m) × (h < count (y m v))
  above h x = by (some_below (λ v. not (leb (count (y m v)) h)) (nodes m))
      (some_below_lem (λ v. opposite (at_most (count (y m v)) h)) (nodes m))
    where
      by : (b : Bool) → Decides b ((v : ℕ) × (v < nodes m) × ¬ (count (y m v) ≤ h))
          → (v : ℕ) × (v < nodes m) × (h < count (y m v))
      by true d = let (v, l, g) = d.holds tt in (v, l, omega (arith, g))
      by false d = absurd (T_not (none_above m h) x ((above_says h).passes (λ v l. at v l (dec_lt h (count (y m v))))))
        where
          at : (v : ℕ) → v < nodes m → Dec (h < count (y m v)) → count (y m v) ≤ h
          at v l (yes g) = absurd (d.passes (v, l, λ k. omega arith))
          at v l (no g) = omega arith

  some_highest_lem : (v : ℕ) × (v < nodes m) × (count (y m v) ≡ highest m)
  unfolding highest
  some_highest_lem = by (first_where (none_above m) most_coordinate) refl
    where
      by : (h : ℕ) → first_where (none_above m) most_coordinate ≡ h
          → (v : ℕ) × (v < nodes m) × (count (y m v) ≡ first_where (none_above m) most_coordinate)
      by zero e = (0, some, omega (arith, e, not_above_lem 0 some))
      by (suc h) e =
          let (v, l, g) = above h ((first_where_lem (none_above m) most_coordinate).before h (omega (arith, e))) in
          (v, l, omega (arith, e, g, not_above_lem v l))

  pub heights_of : NodeHeights m (lowest m) (highest m)
  heights_of = record {
    not_below = not_below_lem;
    not_above = not_above_lem;
    some_lowest = some_lowest_lem;
    some_highest = some_highest_lem;
  }

pub node_heights : {m : List ℤ} → MeshFacts m → NodeHeights m (lowest m) (highest m)
node_heights {m} f = heights_of m (omega (arith, f.counts.nodes_least))
    (λ v l. let r = (f.node v l).y_range in (count_range (y m v) r.least r.most).1)
