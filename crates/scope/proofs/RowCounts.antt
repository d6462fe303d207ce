-- How many rows there are and of which kind: a joined list has as many as its pieces have, by induction on the pieces.
use mathlib.Core.Path.{◌≡◌, refl, sym, ◌∙◌, ap}
use mathlib.Core.Bool.{Bool, true, false, cond, ◌||◌}
use mathlib.Core.List.Memᴰ
use mathlib.Core.List.{List, [], ◌∷◌, ◌++◌}
use Prim.Native.Nat.{ℕ, suc, ◌*◌, ◌/◌, ◌≤◌}
use native.Mathlib.Nat.{zero-mul, div-add-mod'}
use native.Mathlib.Omega.{arith}
use lib.IntN.{ℤ, pos}
use lib.ListN.{length, length-append, length-map}
use lib.Seq.{length-take-le}
use Rattle.integer.specs.Tests.{eq_z}
use Rattle.integer.specs.Members.{◌∈◌}
use Rattle.scope.specs.Mesh.{elements, edges, sides, jumps, edge_entry, equality_count}
use Rattle.scope.specs.Polygon.{Point, sides_to, polygon_sides, polygon_of, SidesListed, Polygon, half_turn}
use Rattle.scope.specs.Rows.{Kind, asked, unfixed, strength, Row, count_from, joined, balance_x, balance_y}
use Rattle.scope.specs.Rows.{balance_rows, fixed_if, normal_row, shear_row, side_rows, agree_row, jump_normal}
use Rattle.scope.specs.Rows.{jump_shear, jump_rows, strength_pairs, pair_count, strength_row, pair_rows}
use Rattle.scope.specs.Rows.{strength_rows, equality_rows, Pair, plane_row, rows_by_sides, rows_by_planes}
use Rattle.scope.proofs.Lists.{count-length, each_nil, each_cons, each_++, each_map, each_joined}
use Rattle.scope.proofs.PolygonRule.{listed_polygon}
use Rattle.scope.proofs.Directions.{by_kind}

pub length-joined : {A B : Type 0} (f : A → List B) (w : ℕ) (l : List A) → ((a : A) → a ∈ l → length (f a) ≡ w)
    → length (joined f l) ≡ length l * w
unfolding joined
length-joined f w [] h = sym (zero-mul w)
length-joined f w (a ∷ l) h =
    length-append (f a) (joined f l)
    ∙ omega (arith, h a (Memᴰ.head refl), length-joined f w l (λ b m. h b (Memᴰ.tail m)))

-- ---- equality rows

pub balance_count : (m : List ℤ) → length (balance_rows m) ≡ elements m * 2
unfolding balance_rows
balance_count m =
    length-joined (λ e. balance_x m e ∷ balance_y m e ∷ []) 2 (count_from 0 (elements m)) (λ a i. refl)
    ∙ ap (λ (k : ℕ). k * 2) (count-length 0 (elements m))

pub side_count : (m : List ℤ) → length (side_rows m) ≡ edges m * 4
unfolding side_rows
side_count m = length-joined _ 4 (count_from 0 (edges m)) (λ a i. refl)
    ∙ ap (λ (k : ℕ). k * 4) (count-length 0 (edges m))

pub jump_count : (m : List ℤ) → length (jump_rows m) ≡ jumps m * 4
unfolding jump_rows
jump_count m = length-joined _ 4 (count_from 0 (jumps m)) (λ a i. refl)
    ∙ ap (λ (k : ℕ). k * 4) (count-length 0 (jumps m))

pub equality_count_lem : (m : List ℤ) → length (equality_rows m) ≡ equality_count m
unfolding equality_rows
equality_count_lem m =
    omega (
      arith,
      length-append (balance_rows m) (side_rows m ++ jump_rows m),
      length-append (side_rows m) (jump_rows m),
      balance_count m,
      side_count m,
      jump_count m,
    )

-- no equality row is a strength row
other : {X : Type 0} {k : Kind} → k ≡ asked → k ≡ strength → X
other e f = let z : ◌≡◌ {A = ℕ} 0 1 = cc in absurd (omega arith)

fixed_or_not : (what fixed : ℤ) → ¬ (fixed_if what fixed ≡ strength)
unfolding fixed_if
fixed_or_not what fixed = by (eq_z fixed what || eq_z fixed (pos 3))
  where
    by : (b : Bool) → ¬ (cond b asked unfixed ≡ strength)
    by true e = let z : ◌≡◌ {A = ℕ} 0 1 = cc in omega arith
    by false e = let z : ◌≡◌ {A = ℕ} 0 1 = cc in omega arith

pub equality_kind : (m : List ℤ) (r : Row) → r ∈ equality_rows m → ¬ (r.kind ≡ strength)
unfolding equality_rows balance_rows side_rows jump_rows balance_x balance_y normal_row shear_row jump_normal
    jump_shear agree_row
equality_kind m =
    each_++ P
    (each_joined P _ (count_from 0 (elements m))
    (λ e i. each_cons P (λ h. other refl h) (each_cons P (λ h. other refl h) (each_nil P))))
    (each_++ P
    (each_joined P _ (count_from 0 (edges m))
    (λ g i.
    each_cons P (fixed_or_not (pos 1) (edge_entry m g 2))
    (each_cons P (fixed_or_not (pos 2) (edge_entry m g 2))
    (each_cons P (fixed_or_not (pos 1) (edge_entry m g 2))
    (each_cons P (fixed_or_not (pos 2) (edge_entry m g 2)) (each_nil P))))))
    (each_joined P _ (count_from 0 (jumps m))
    (λ j i. each_cons P (λ h. other refl h)
    (each_cons P (λ h. other refl h)
    (each_cons P (λ h. other refl h) (each_cons P (λ h. other refl h) (each_nil P)))))))
  where
    P : Row → Type 0
    P r = ¬ (r.kind ≡ strength)

-- ---- strength rows

sides_to_lem : (end : Point) (v : Point) (vs : List Point) → length (sides_to end (v ∷ vs)) ≡ suc (length vs)
unfolding sides_to
sides_to_lem end v [] = refl
sides_to_lem end v (w ∷ vs) = ap suc (sides_to_lem end w vs)

-- a polygon has a side for each corner
pub side_of_each : (vs : List Point) → length (polygon_sides vs) ≡ length vs
unfolding polygon_sides
side_of_each [] = refl
side_of_each (v ∷ vs) = sides_to_lem v v vs

-- a listed polygon has as many sides as it says
pub polygon_sides_lem : (k : ℕ) → SidesListed k → length (polygon_sides (polygon_of k).corners) ≡ k
polygon_sides_lem k h = side_of_each (polygon_of k).corners ∙ (listed_polygon k h).fits.rule.count

-- half of the corners
pub half_length : (vs : List Point) → length (half_turn vs) ≡ length vs / 2
unfolding half_turn
half_length vs = length-take-le (length vs / 2) vs (half_≤ (length vs))
  where
    half_≤ : (n : ℕ) → n / 2 ≤ n
    half_≤ n = omega (arith, div-add-mod' n 2)

-- as many rows as sides: one for each side, or two for each corner of the first half turn
module _ (k : ℕ) (listed : SidesListed k) (m : List ℤ) (a : Pair) where
  planes_count : length (rows_by_planes (polygon_of k) m a) ≡ k
  unfolding rows_by_planes
  planes_count =
      let fits = (listed_polygon k listed).fits in
      length-joined _ 2 (half_turn (polygon_of k).corners) (λ v i. refl)
      ∙ ap (λ (n : ℕ). n * 2) (half_length (polygon_of k).corners ∙ ap (λ (n : ℕ). n / 2) fits.rule.count)
      ∙ fits.even_sides

  sides_count : length (rows_by_sides (polygon_of k) m a) ≡ k
  unfolding rows_by_sides
  sides_count = length-map (polygon_sides (polygon_of k).corners) _ ∙ polygon_sides_lem k listed

  pub pair_rows_count : length (pair_rows (polygon_of k) m a) ≡ k
  pair_rows_count = by_kind (polygon_of k) m a (λ rs. length rs ≡ k) (λ e. planes_count) (λ e. sides_count)

pub strength_count : (m : List ℤ) → SidesListed (sides m) → length (strength_rows m) ≡ pair_count m * sides m
unfolding strength_rows pair_count
strength_count m h =
    length-joined (pair_rows (polygon_of (sides m)) m) (sides m) (strength_pairs m)
    (λ a i. pair_rows_count (sides m) h m a)

pub strength_kind : (m : List ℤ) (r : Row) → r ∈ strength_rows m → r.kind ≡ strength
unfolding strength_rows rows_by_sides rows_by_planes strength_row plane_row
strength_kind m =
    each_joined P _ (strength_pairs m) (λ a i.
    by_kind g m a (λ rs. (r : Row) → r ∈ rs → P r)
    (λ e. each_joined P _ (half_turn g.corners) (λ v j. each_cons P refl (each_cons P refl (each_nil P))))
    (λ e. each_map P _ (polygon_sides g.corners) (λ d j. refl)))
  where
    g : Polygon
    g = polygon_of (sides m)

    P : Row → Type 0
    P r = r.kind ≡ strength
