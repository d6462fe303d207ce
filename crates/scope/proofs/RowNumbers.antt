-- The rows by their number: pieces of equal length joined, row j of piece i has the place i times that length plus j.
use mathlib.Core.Path.{◌≡◌, refl, sym, ◌∙◌, ap, ap₂}
use mathlib.Core.Logic.{◌⊎◌, inl, inr}
use mathlib.Core.Bool.{Bool, true, false, cond}
use mathlib.Core.List.{List, [], ◌∷◌, ◌++◌}
use Prim.Native.Nat.{ℕ, zero, suc, ◌+◌, ◌*◌, ◌-◌, ◌<◌, ◌/◌, ◌%◌}
use native.Mathlib.Nat.{zero-add, zero-mul, suc-mul, div-add-mod', mod-lt}
use native.Mathlib.Decide.{dec_lt}
use native.Mathlib.Omega.{arith}
use lib.IntN.{ℤ, pos, neg_ℤ}
use lib.Dec.{eqb}
use lib.ListN.{length, get_or, length-append, get_or-append}
use lib.Seq.{get_or-append-add, get_or-take}
use Rattle.scope.specs.Mesh.{elements, edges, sides, jumps, from_node, to_node, jump_from, jump_to, facing_from}
use Rattle.scope.specs.Mesh.{facing_to, q, by_direction}
use Rattle.scope.specs.Polygon.{polygon_sides, polygon_of, SidesListed, Point, point, half_turn}
use Rattle.scope.specs.Rows.{Row, Pair, count_from, joined, balance_x, balance_y, balance_rows, normal_row, shear_row}
use Rattle.scope.specs.Rows.{side_rows, jump_normal, jump_shear, jump_rows, strength_pairs, pair_count, pair_at}
use Rattle.scope.specs.Rows.{pair_rows, strength_rows, equality_rows, rows_of, rows_by_sides, rows_by_planes}
use Rattle.scope.specs.RowNumbers.{side_at, corner_at, side_row, direction_row, plus_minus, direction_row_at}
use Rattle.scope.proofs.RowCounts.{balance_count, side_count, equality_count_lem, polygon_sides_lem, strength_count}
use Rattle.scope.proofs.RowCounts.{half_length, pair_rows_count}
use Rattle.scope.proofs.PolygonRule.{listed_polygon}
use Rattle.scope.proofs.Lists.{count-length, at_count, at_map}
use Rattle.scope.specs.Tests.{row_at}

-- ---- pieces

module _ {A B : Type 0} (f : A → List B) (b : ℕ) (each : (a : A) → length (f a) ≡ b) where
  pub at_joined : (l : List A) (a₀ : A) (d : B) (i j : ℕ) → i < length l → j < b
      → get_or (joined f l) (i * b + j) d ≡ get_or (f (get_or l i a₀)) j d
  unfolding joined
  at_joined [] a₀ d i j h k = absurd (omega arith)
  at_joined (a ∷ l) a₀ d zero j h k =
      ap (λ n. get_or (f a ++ joined f l) n d) (ap (λ n. n + j) (zero-mul b) ∙ zero-add j)
      ∙ get_or-append (f a) (joined f l) d j (omega (arith, each a))
  at_joined (a ∷ l) a₀ d (suc i) j h k =
      ap (λ n. get_or (f a ++ joined f l) n d) (omega (arith, suc-mul i b, each a))
      ∙ get_or-append-add (f a) (joined f l) (i * b + j) d
      ∙ at_joined l a₀ d i j (omega arith) k

-- pieces numbered from 0
module _ {B : Type 0} (f : ℕ → List B) (b : ℕ) (each : (a : ℕ) → length (f a) ≡ b) (n : ℕ) where
  pub at_pieces : (d : B) (i j : ℕ) → i < n → j < b → get_or (joined f (count_from 0 n)) (i * b + j) d
      ≡ get_or (f i) j d
  at_pieces d i j h k =
      at_joined f b each (count_from 0 n) 0 d i j (omega (arith, count-length 0 n)) k
      ∙ ap (λ a. get_or (f a) j d) (at_count 0 n i 0 h ∙ zero-add i)

-- ---- lists of rows, one after the other

rows_before : (es ss : List Row) (k : ℕ) → k < length es → row_at (es ++ ss) k ≡ row_at es k
unfolding row_at
rows_before es ss k h = get_or-append es ss _ k h

rows_after : (es ss : List Row) (k : ℕ) → row_at (es ++ ss) (length es + k) ≡ row_at ss k
unfolding row_at
rows_after es ss k = get_or-append-add es ss k _

-- ---- the rows of a mesh

-- the two rows of an element, the four of an edge, and the four of a jump
abbrev pub element_rows : List ℤ → ℕ → List Row
element_rows m e = balance_x m e ∷ balance_y m e ∷ []

abbrev pub edge_rows : List ℤ → ℕ → List Row
edge_rows m g = normal_row m g (from_node m g) ∷ shear_row m g (from_node m g) ∷ normal_row m g (to_node m g)
    ∷ shear_row m g (to_node m g) ∷ []

abbrev pub rows_of_jump : List ℤ → ℕ → List Row
rows_of_jump m j =
    jump_normal m j (jump_from m j) (facing_from m j)
    ∷ jump_shear m j (jump_from m j) (facing_from m j)
    ∷ jump_normal m j (jump_to m j) (facing_to m j)
    ∷ jump_shear m j (jump_to m j) (facing_to m j)
    ∷ []

module _ (m : List ℤ) where
  pub balance_at : (e i : ℕ) → e < elements m → i < 2 → row_at (equality_rows m) (e * 2 + i)
      ≡ row_at (element_rows m e) i
  unfolding equality_rows balance_rows row_at
  balance_at e i h k =
      rows_before (balance_rows m) (side_rows m ++ jump_rows m) (e * 2 + i) (omega (arith, balance_count m))
      ∙ at_pieces (element_rows m) 2 (λ e. refl) (elements m) _ e i h k

  pub side_at_lem : (g i : ℕ) → g < edges m → i < 4 → row_at (equality_rows m) (elements m * 2 + (g * 4 + i))
      ≡ row_at (edge_rows m g) i
  unfolding equality_rows side_rows row_at
  side_at_lem g i h k =
      ap (λ n. row_at (balance_rows m ++ (side_rows m ++ jump_rows m)) (n + (g * 4 + i))) (sym (balance_count m))
      ∙ rows_after (balance_rows m) (side_rows m ++ jump_rows m) (g * 4 + i)
      ∙ rows_before (side_rows m) (jump_rows m) (g * 4 + i) (omega (arith, side_count m))
      ∙ at_pieces (edge_rows m) 4 (λ g. refl) (edges m) _ g i h k

  pub jump_at : (j i : ℕ) → j < jumps m → i < 4 → row_at (equality_rows m) (elements m * 2 + edges m * 4 + (j * 4 + i))
      ≡ row_at (rows_of_jump m j) i
  unfolding equality_rows jump_rows row_at
  jump_at j i h k =
      ap (row_at (balance_rows m ++ (side_rows m ++ jump_rows m))) (omega (arith, balance_count m, side_count m))
      ∙ rows_after (balance_rows m) (side_rows m ++ jump_rows m) (length (side_rows m) + (j * 4 + i))
      ∙ rows_after (side_rows m) (jump_rows m) (j * 4 + i)
      ∙ at_pieces (rows_of_jump m) 4 (λ j. refl) (jumps m) _ j i h k

  pub equality_among : (k : ℕ) → k < elements m * 2 + edges m * 4 + jumps m * 4
      → row_at (rows_of m) k ≡ row_at (equality_rows m) k
  unfolding rows_of
  equality_among k h = rows_before (equality_rows m) (strength_rows m) k (omega (arith, equality_count_lem m))

  pub strength_among : (k : ℕ) → row_at (rows_of m) (elements m * 2 + edges m * 4 + jumps m * 4 + k)
      ≡ row_at (strength_rows m) k
  unfolding rows_of
  strength_among k = ap (λ n. row_at (equality_rows m ++ strength_rows m) (n + k)) (sym (equality_count_lem m))
      ∙ rows_after (equality_rows m) (strength_rows m) k

-- place k of the equality rows is one of an element, one of an edge, or one of a jump
pub record InEdge (m : List ℤ) (k : ℕ) : Type 0 where
  pub edge : ℕ
  pub there : edge < edges m
  pub row : ℕ
  pub four : row < 4
  pub is : k ≡ elements m * 2 + (edge * 4 + row)

pub record InJump (m : List ℤ) (k : ℕ) : Type 0 where
  pub jump : ℕ
  pub there : jump < jumps m
  pub row : ℕ
  pub four : row < 4
  pub is : k ≡ elements m * 2 + edges m * 4 + (jump * 4 + row)

pub record InElementRows (m : List ℤ) (k : ℕ) : Type 0 where
  pub element : ℕ
  pub there : element < elements m
  pub row : ℕ
  pub two : row < 2
  pub is : k ≡ element * 2 + row

pub which_row : (m : List ℤ) (k : ℕ) → k < elements m * 2 + edges m * 4 + jumps m * 4
    → InElementRows m k ⊎ (InEdge m k ⊎ InJump m k)
which_row m k h = by (dec_lt k (elements m * 2)) (dec_lt k (elements m * 2 + edges m * 4))
  where
    by : Dec (k < elements m * 2) → Dec (k < elements m * 2 + edges m * 4)
        → InElementRows m k ⊎ (InEdge m k ⊎ InJump m k)
    by (yes f) g =
        let d = div-add-mod' k 2 in
        let r = mod-lt k {m = 2} (omega arith) in
        inl (record { element = k / 2; there = omega arith; row = k % 2; two = r; is = sym d })
    by (no f) (yes g) =
        let d = div-add-mod' (k - elements m * 2) 4 in
        let r = mod-lt (k - elements m * 2) {m = 4} (omega arith) in
        inr (inl (record {
          edge = (k - elements m * 2) / 4;
          there = omega arith;
          row = (k - elements m * 2) % 4;
          four =
              r;
          is = omega arith;
        }))
    by (no f) (no g) =
        let d = div-add-mod' (k - (elements m * 2 + edges m * 4)) 4 in
        let r = mod-lt (k - (elements m * 2 + edges m * 4)) {m = 4} (omega arith) in
        inr (inr (record {
          jump = (k - (elements m * 2 + edges m * 4)) / 4;
          there = omega arith;
          row =
              (k - (elements m * 2 + edges m * 4)) % 4;
          four = r;
          is = omega arith;
        }))

-- ---- strength rows

-- the first of two rows, or the second
first_or_second : (f : ℤ → Row) (q : ℤ) (d : Row) (i : ℕ) → i < 2
    → get_or (f q ∷ f (neg_ℤ q) ∷ []) i d ≡ f (cond (eqb i 0) q (neg_ℤ q))
first_or_second f q d zero h = refl
first_or_second f q d (suc zero) h = refl
first_or_second f q d (suc (suc i)) h = absurd (omega arith)

module _ (m : List ℤ) (listed : SidesListed (sides m)) where
  pub even_sides : sides m / 2 * 2 ≡ sides m
  even_sides = (listed_polygon (sides m) listed).fits.even_sides

  -- row k of a pair by sides, and by planes
  in_sides : (a : Pair) (k : ℕ) → k < sides m → row_at (rows_by_sides (polygon_of (sides m)) m a) k
      ≡ side_row m a (side_at (polygon_of (sides m)) k)
  unfolding rows_by_sides row_at side_at
  in_sides a k h = at_map _ (polygon_sides (polygon_of (sides m)).corners) k _ _
      (omega (arith, polygon_sides_lem (sides m) listed))

  half_count : length (half_turn (polygon_of (sides m)).corners) ≡ sides m / 2
  half_count = half_length (polygon_of (sides m)).corners ∙ ap (λ (n : ℕ). n / 2)
      (listed_polygon (sides m) listed).fits.rule.count

  pub corner_of_half : (j : ℕ) → j < sides m / 2 → get_or (half_turn (polygon_of (sides m)).corners) j
      (point (pos 0) (pos 0)) ≡ corner_at (polygon_of (sides m)) j
  unfolding half_turn corner_at
  corner_of_half j h =
      get_or-take (length (polygon_of (sides m)).corners / 2) (polygon_of (sides m)).corners j _
      (omega (arith, ap (λ (n : ℕ). n / 2) (listed_polygon (sides m) listed).fits.rule.count))

  in_planes : (a : Pair) (k : ℕ) → k < sides m → row_at (rows_by_planes (polygon_of (sides m)) m a) k
      ≡ direction_row_at m a k
  unfolding rows_by_planes row_at plus_minus
  in_planes a k h =
      let half : List Point = half_turn (polygon_of (sides m)).corners in
      let low : k / 2 < sides m / 2 = omega (arith, div-add-mod' k 2, even_sides) in
      ap (row_at (rows_by_planes (polygon_of (sides m)) m a)) (sym (div-add-mod' k 2))
      ∙ at_joined _ 2 (λ v. refl) half (point (pos 0) (pos 0)) _ (k / 2) (k % 2) (omega (arith, half_count))
      (mod-lt k (omega arith))
      ∙ first_or_second (direction_row m a (get_or half (k / 2) (point (pos 0) (pos 0)))) (q m a.soil) _ (k % 2)
      (mod-lt k (omega arith))
      ∙ ap (λ v. direction_row m a v (cond (eqb (k % 2) 0) (q m a.soil) (neg_ℤ (q m a.soil))))
      (corner_of_half (k / 2) low)

  -- row k of pair a, by the kind of its soil
  pair_row_at : (a k : ℕ) → a < pair_count m → k < sides m → row_at (strength_rows m) (a * sides m + k)
      ≡ row_at (pair_rows (polygon_of (sides m)) m (pair_at m a)) k
  unfolding strength_rows row_at pair_count pair_at
  pair_row_at a k l j =
      at_joined (pair_rows (polygon_of (sides m)) m) (sides m) (pair_rows_count (sides m) listed m) (strength_pairs m)
      (record { at = 0; soil = 0 }) _ a k l j

  module _ (a k : ℕ) (l : a < pair_count m) (j : k < sides m) where
    rows_as : {b : Bool} → by_direction m (pair_at m a).soil ≡ b
        → row_at (strength_rows m) (a * sides m + k) ≡ row_at
        (cond b (rows_by_planes (polygon_of (sides m)) m (pair_at m a))
        (rows_by_sides (polygon_of (sides m)) m (pair_at m a))) k
    unfolding pair_rows
    rows_as e = pair_row_at a k l j
        ∙ ap (λ (b : Bool). row_at
        (cond b (rows_by_planes (polygon_of (sides m)) m (pair_at m a))
        (rows_by_sides (polygon_of (sides m)) m (pair_at m a))) k) e

    pub strength_at : by_direction m (pair_at m a).soil ≡ false
        → row_at (strength_rows m) (a * sides m + k) ≡ side_row m (pair_at m a) (side_at (polygon_of (sides m)) k)
    strength_at e = rows_as e ∙ in_sides (pair_at m a) k j

    pub plane_at : by_direction m (pair_at m a).soil ≡ true → row_at (strength_rows m) (a * sides m + k)
        ≡ direction_row_at m (pair_at m a) k
    plane_at e = rows_as e ∙ in_planes (pair_at m a) k j

  -- the two rows of corner i
  module _ (a i : ℕ) (l : a < pair_count m) (j : 2 * i + 1 < sides m)
      (e : by_direction m (pair_at m a).soil ≡ true) where
    pub plus_at : row_at (strength_rows m) (a * sides m + 2 * i)
        ≡ direction_row m (pair_at m a) (corner_at (polygon_of (sides m)) i) (q m (pair_at m a).soil)
    unfolding plus_minus
    plus_at =
        let half : 2 * i / 2 ≡ i = omega (arith, div-add-mod' (2 * i) 2, mod-lt (2 * i) {m = 2} (omega arith)) in
        let rest : 2 * i % 2 ≡ 0 = omega (arith, div-add-mod' (2 * i) 2) in
        plane_at a (2 * i) l (omega arith) e
        ∙ ap₂ (λ (c k : ℕ). direction_row m (pair_at m a) (corner_at (polygon_of (sides m)) c)
        (cond (eqb k 0) (q m (pair_at m a).soil) (neg_ℤ (q m (pair_at m a).soil)))) half rest

    pub minus_at : row_at (strength_rows m) (a * sides m + (2 * i + 1))
        ≡ direction_row m (pair_at m a) (corner_at (polygon_of (sides m)) i) (neg_ℤ (q m (pair_at m a).soil))
    unfolding plus_minus
    minus_at =
        let half : (2 * i + 1) / 2 ≡ i =
        omega (arith, div-add-mod' (2 * i + 1) 2, mod-lt (2 * i + 1) {m = 2} (omega arith)) in
        let rest : (2 * i + 1) % 2 ≡ 1 = omega (arith, div-add-mod' (2 * i + 1) 2) in
        plane_at a (2 * i + 1) l j e
        ∙ ap₂ (λ (c k : ℕ). direction_row m (pair_at m a) (corner_at (polygon_of (sides m)) c)
        (cond (eqb k 0) (q m (pair_at m a).soil) (neg_ℤ (q m (pair_at m a).soil)))) half rest

  pub row_count : length (rows_of m) ≡ elements m * 2 + edges m * 4 + jumps m * 4 + pair_count m * sides m
  unfolding rows_of
  row_count = length-append (equality_rows m) (strength_rows m)
      ∙ ap₂ ◌+◌ (equality_count_lem m) (strength_count m listed)
