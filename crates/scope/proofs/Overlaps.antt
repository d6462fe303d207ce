-- The test of 47 decides its statement where all elements turn left: such elements are convex, and of convex polygons a
-- line along a side decides (`plane`). Sides and corners of an outline are those of the element, one by one.
use mathlib.Core.Path.{◌≡◌, refl, sym, ap, subst}
use mathlib.Core.Logic.{◌⊎◌, inl, inr, ⊎_elim}
use mathlib.Core.List.Memᴰ
use mathlib.Core.List.{List, [], ◌∷◌, map}
use Prim.Native.Nat.{ℕ, zero, suc, ◌+◌, ◌%◌, ◌≤◌, ◌<◌, zero-le}
use native.Mathlib.Omega.{arith}
use native.Mathlib.Decide.{dec_lt}
use lib.Dec.{lit<}
use lib.IntN.{ℤ, pos}
use lib.Signed.{◌≤ℤ◌, ◌<ℤ◌}
use Rattle.integer.proofs.Ring.{ring, terms}
use Rattle.plane.specs.Points.{Corner, corner_point, Side, ◌⟶◌, left_by}
use Rattle.plane.specs.Polygon.{sides_from, sides, Shared, Convex}
use Rattle.plane.specs.Apart.{NoneLeft, Parting, Apart}
use Rattle.plane.proofs.Parted.{swapped}
use Rattle.plane.proofs.Unparted.{a_side_decides, apart_or_shared}
use Rattle.plane.proofs.Convex.{triangle, quadrilateral}
use Rattle.integer.specs.Members.{◌∈◌}
use Rattle.scope.specs.Mesh.{x, y, elements, corner, corner_count, around}
use Rattle.scope.specs.Rows.{count_from}
use Rattle.scope.specs.Outline.{node_point, outline}
use Rattle.scope.specs.Tests.{turn, none_left, parted_by, apart_from, lies_apart}
use Rattle.scope.specs.Statements.{LeftTurns, NoneShared}
use Rattle.scope.specs.RefusalTable.{LowestFails}
use Rattle.scope.specs.Overlaps.{SoundMeshApart, OnEachOther}
use Rattle.scope.proofs.Checks.{below_suc}
use Rattle.scope.proofs.Decides.{Decides, either, said_as, at_mostℤ, some_below_lem, all_below_lem, all_below_where}
use Rattle.scope.proofs.Lists.{in_count, of_count, each_map}
use Rattle.scope.proofs.Triangles as Elements
use Rattle.scope.proofs.Triangles.{Shape, shape_of, turn_at}

-- the numbers below n
below : (n : ℕ) {j : ℕ} → j ∈ count_from 0 n → j < n
below n k = let h = of_count 0 n k in omega arith

listed : (n : ℕ) {j : ℕ} → j < n → j ∈ count_from 0 n
listed n l = in_count 0 n zero-le (omega arith)

-- ---- an outline, corner by corner and side by side

-- how far node c is left of the line from node a to node b
left_by_turn : (m : List ℤ) (a b c : ℕ) → left_by (node_point m a ⟶ node_point m b) (corner_point (node_point m c))
    ≡ turn m a b c
unfolding left_by corner_point turn
left_by_turn m a b c =
    ring (x m a ∷ y m a ∷ x m b ∷ y m b ∷ x m c ∷ y m c ∷ []) (search terms depth 100 fits 10000) refl

module _ (m : List ℤ) (e : ℕ) where
  -- the corners of an element that has so many
  abbrev corners : ℕ → List Corner
  corners n = map (λ i. node_point m (corner m e (i % n))) (count_from 0 n)

  corners_of : {n : ℕ} → corner_count m e ≡ n → outline m e ≡ corners n
  unfolding outline around
  corners_of c = ap corners c

  outline_sides :
      sides (outline m e)
      ≡ map (λ i. node_point m (around m e i) ⟶ node_point m (around m e (i + 1))) (count_from 0 (corner_count m e))
  unfolding outline around sides sides_from count_from
  outline_sides = by (shape_of m e)
    where
      Same : ℕ → Type 0
      Same n =
          sides (corners n)
          ≡ map (λ i. node_point m (corner m e (i % n)) ⟶ node_point m (corner m e ((i + 1) % n))) (count_from 0 n)

      by : Shape m e → Same (corner_count m e)
      by (Elements.triangle h c) = subst Same (sym c) refl
      by (Elements.quadrilateral h c) = subst Same (sym c) refl

  -- an element that turns left at its corners is convex
  pub element_convex : LeftTurns m e → Convex (outline m e)
  unfolding count_from
  element_convex left = by (shape_of m e)
    where
      left_turn : (a b c : ℕ) → pos 0 <ℤ turn m a b c
          → pos 0 <ℤ left_by (node_point m a ⟶ node_point m b) (corner_point (node_point m c))
      left_turn a b c h = subst (λ z. pos 0 <ℤ z) (sym (left_by_turn m a b c)) h

      by : Shape m e → Convex (outline m e)
      by (Elements.triangle h c) =
          subst Convex (sym (corners_of c)) (triangle _ _ _ (left_turn _ _ _ (turn_at m e 3 c left 1 (lit< tt))))
      by (Elements.quadrilateral h c) =
          subst Convex (sym (corners_of c))
          (quadrilateral _ _ _ _
          (left_turn _ _ _ (turn_at m e 4 c left 0 (lit< tt)))
          (left_turn _ _ _ (turn_at m e 4 c left 1 (lit< tt)))
          (left_turn _ _ _ (turn_at m e 4 c left 2 (lit< tt)))
          (left_turn _ _ _ (turn_at m e 4 c left 3 (lit< tt))))

-- ---- the test by sides

module _ (m : List ℤ) where
  none_left_lem : (a b d : ℕ) → Decides (none_left m a b d) (NoneLeft (node_point m a ⟶ node_point m b) (outline m d))
  unfolding none_left outline
  none_left_lem a b d =
      said_as (all_below_lem (λ j. at_mostℤ (turn m a b (around m d j)) (pos 0)) (corner_count m d))
      (λ h. each_map (λ c. left_by (node_point m a ⟶ node_point m b) (corner_point c) ≤ℤ pos 0)
      (λ j. node_point m (around m d j)) (count_from 0 (corner_count m d))
      (λ j k. subst (λ z. z ≤ℤ pos 0) (sym (left_by_turn m a b (around m d j))) (h j (below (corner_count m d) k))))
      (λ h j l.
      subst (λ z. z ≤ℤ pos 0) (left_by_turn m a b (around m d j))
      (h (node_point m (around m d j))
      (Memᴰ.map (λ j. node_point m (around m d j)) (listed (corner_count m d) l))))

  parted_by_lem : (e d : ℕ) → Decides (parted_by m e d) (Parting (outline m e) (outline m d))
  unfolding parted_by
  parted_by_lem e d =
      said_as (some_below_lem (λ i. none_left_lem (around m e i) (around m e (i + 1)) d) (corner_count m e))
      (λ h. record {
        side = side h.0;
        of_first =
            subst (λ S. side h.0 ∈ S) (sym (outline_sides m e))
            (Memᴰ.map side (listed (corner_count m e) h.1));
        none_left = h.2;
      })
      (λ p.
      let (i, k, s) =
      Memᴰ.of_map side (count_from 0 (corner_count m e)) (subst (λ S. p.side ∈ S) (outline_sides m e) p.of_first) in
      (i, below (corner_count m e) k, subst (λ s. NoneLeft s (outline m d)) (sym s) p.none_left))
    where
      side : ℕ → Side
      side i = node_point m (around m e i) ⟶ node_point m (around m e (i + 1))

  apart_from_lem : (d e : ℕ) → Decides (apart_from m d e) (Apart (outline m d) (outline m e))
  unfolding apart_from
  apart_from_lem d e = either (parted_by_lem d e) (parted_by_lem e d)

  -- of two elements that turn left
  pub none_shared : (d e : ℕ) → LeftTurns m d → LeftTurns m e
      → Decides (apart_from m d e) (¬ Shared (outline m d) (outline m e))
  none_shared d e p q =
      let decides = a_side_decides (element_convex m d p) (element_convex m e q) in
      said_as (apart_from_lem d e) decides.0 decides.1

  module _ (turns : (d : ℕ) → d < elements m → LeftTurns m d) where
    pub lies_apart_lem : (e : ℕ) → e < elements m → Decides (lies_apart m e) (NoneShared m e)
    unfolding lies_apart
    lies_apart_lem e l = all_below_where e (λ d h. none_shared d e (turns d (omega arith)) (turns e l))

    -- of the elements below e one shares a point with it, or none does
    some_or_none : (e : ℕ) → e < elements m → (n : ℕ) → n ≤ e
        → ((d : ℕ) × (d < n) × Shared (outline m d) (outline m e))
        ⊎ ((d : ℕ) → d < n → ¬ Shared (outline m d) (outline m e))
    some_or_none e l zero h = inr (λ d k. absurd (omega arith))
    some_or_none e l (suc n) h =
        let here = apart_or_shared (element_convex m n (turns n (omega arith))) (element_convex m e (turns e l)) in
        ⊎_elim
        (λ s. inl (s.0, omega (arith, s.1), s.2))
        (λ none.
        ⊎_elim
        (λ p. inr (λ d k. up none (none_of p) (below_suc k)))
        (λ s. inl (n, omega arith, s))
        here)
        (some_or_none e l n (omega arith))
      where
        none_of : Apart (outline m n) (outline m e) → ¬ Shared (outline m n) (outline m e)
        none_of p = (a_side_decides (element_convex m n (turns n (omega arith))) (element_convex m e (turns e l))).0 p

        up : {d : ℕ} → ((d : ℕ) → d < n → ¬ Shared (outline m d) (outline m e)) → ¬ Shared (outline m n) (outline m e)
            → (d < n) ⊎ (d ≡ n) → ¬ Shared (outline m d) (outline m e)
        up {d} none last (inl k) = none d k
        up {d} none last (inr k) = subst (λ i. ¬ Shared (outline m i) (outline m e)) (sym k) last

    -- the lowest place that fails is the higher element of a pair
    pub on_each_other : (e : ℕ) → LowestFails (elements m) (NoneShared m) e → OnEachOther m (suc e)
    on_each_other e h =
        ⊎_elim
        (λ s. record {
          lower = s.0;
          higher = e;
          named = refl;
          below = s.1;
          there = h.there;
          shared = s.2;
          least = λ d k i j. h.lower k j d i;
        })
        (λ none. absurd (h.fails none))
        (some_or_none e h.there e (omega arith))

-- ---- a mesh that passes

pub sound_mesh_apart : SoundMeshApart
sound_mesh_apart m s d e i j different t = elim (dec_lt d e) [
  | yes l ↦ s.none_shared e j d l t
  | no l ↦ s.none_shared d i e (between l) (swapped t)
]
  where
    between : ¬ (d < e) → e < d
    between l = omega (arith, l, different)
