-- W fits 64 bits: each row's right side is bounded by the mesh's limits, each multiplier by the claim's, and the rows
-- are counted.
use mathlib.Core.Path.{◌≡◌, refl, sym, ◌∙◌, ap, subst, fun_ext}
use mathlib.Core.List.Memᴰ
use mathlib.Core.List.{List, [], ◌∷◌, ◌++◌}
use Prim.Native.Nat.{ℕ, suc, ◌+◌, ◌*◌, ◌%◌, ◌^◌, ◌<◌, ◌≤◌}
use native.Mathlib.Nat.{mod-lt, zero-add, suc-add, mul-le-mul, mul-le-mul_right}
use native.Mathlib.Omega.{arith}
use lib.IntN.{ℤ, pos, neg_ℤ, ◌+ℤ◌, ◌-ℤ◌, ◌*ℤ◌}
use lib.ListN.{length}
use Rattle.integer.specs.Bounds.{Within}
use Rattle.integer.proofs.BoundLaws.{Within-le, Within-pos, Within-neg_ℤ, Within-+ℤ, Within--ℤ, Within-*ℤ, ≤ℤ-Within}
use Rattle.integer.proofs.BoundLaws.{bounds}
use Rattle.integer.proofs.Linear.{linear, facts, ◌&◌}
use Rattle.integer.proofs.Ring.{ring, terms}
use Rattle.integer.specs.Sum.{sum_of}
use Rattle.integer.proofs.SumLaws.{sum_of_++}
use Rattle.integer.specs.Members.{◌∈◌}
use Rattle.scope.specs.Mesh.{strength_multiplier, nodes, elements, edges, sides, jumps, dead_x, dead_y, soil_entry, x}
use Rattle.scope.specs.Mesh.{y, corner, element_soil, edge_entry, from_node, to_node, equality_count, kind_with}
use Rattle.scope.specs.Mesh.{ByDirection}
use Rattle.scope.specs.Polygon.{Side, polygon_sides, polygon_of, Point, half_turn}
use Rattle.scope.specs.Rows.{Row, count_from, node, cross_at, rise_across, run_across, twice_area, balance_x}
use Rattle.scope.specs.Rows.{balance_y, balance_rows, step_x, step_y, step_square, normal_row, shear_row, side_rows}
use Rattle.scope.specs.Rows.{agree_row, jump_normal, jump_shear, jump_rows, strength_pairs, cross, strength_row}
use Rattle.scope.specs.Rows.{strength_rows, equality_rows, rows_of, Pair, plane_row, rows_by_sides, rows_by_planes}
use Rattle.scope.specs.Bounds.{most_area, balance_right}
use Rattle.scope.specs.Mesh.{most_coordinate, most_force, most_traction}
use Rattle.scope.specs.Claim.{most_multiplier}
use Rattle.scope.specs.Bounds.{most_balance_rows, most_square, side_right, most_side_rows, jump_right, most_jump_rows}
use Rattle.scope.specs.Bounds.{strength_sum, most_strength_rows, most_slack, most_limit, most_plane_radius}
use Rattle.scope.specs.Bounds.{strength_right_with}
use Rattle.scope.specs.PolygonRule.{ListedPolygon}
use Rattle.scope.specs.Sums.{weighted_sum, weighed, limit_sum}
use Rattle.scope.specs.Claim.{multiplier}
use Rattle.scope.specs.Statements.{MeshSound, HasMultipliers}
use Rattle.scope.specs.NumberRanges.{Between, MeshFacts, ClaimFacts}
use Rattle.scope.proofs.Lists.{of_count, each_nil, each_cons, each_map, each_joined}
use Rattle.scope.proofs.NumberRanges.{mesh_facts}
use Rattle.scope.proofs.Pairs.{pairs, few_pairs_lem}
use Rattle.scope.proofs.RowCounts.{balance_count, side_count, jump_count, equality_count_lem, strength_count}
use Rattle.scope.proofs.PolygonRule.{listed_polygon, legs_within}
use Rattle.scope.proofs.Directions.{kind_one, kind_sides, is_direction, by_kind}

-- ---- limits as bounds

pub between : {B : ℕ} {z : ℤ} → Between (neg_ℤ (pos B)) (pos B) z → Within B z
between b = ≤ℤ-Within b.least b.most

pub from_0 : {a B : ℕ} {z : ℤ} → Between (pos a) (pos B) z → Within B z
from_0 {a} {B} b = ≤ℤ-Within (linear b.least (search facts depth 40) (omega arith)) b.most

-- the difference of two numbers from 0 to B
pub apart : {B : ℕ} {a b : ℤ} → Between (pos 0) (pos B) a → Between (pos 0) (pos B) b → Within B (a -ℤ b)
apart h k = linear (h.least & h.most & k.least & k.most) (search bounds depth 40) (omega arith)

-- a cross product of two consecutive corners
pub cross_bound : {k : ℕ} (g : ListedPolygon k) (d : Side) → d ∈ polygon_sides (polygon_of k).corners
    → Within g.product (cross d.from d.to)
cross_bound g d m = record { within = g.fits.largest_cross.bounds d m }

-- the radius and the corners of a polygon whose soils may have kind 1
module _ {k : ℕ} (g : ListedPolygon k) (one : 1 ≤ kind_with k) where
  pub plane_radius : Within most_plane_radius (polygon_of k).radius
  plane_radius =
      subst (Within most_plane_radius) (sym g.fits.radius_is)
      (record {
        within = omega
            (arith, subst (λ (z : ℕ). z * g.radius ≤ most_plane_radius) (kind_one k one).0 g.fits.plane_radius);
      })

  pub plane_corner : (v : Point) → v ∈ (polygon_of k).corners
      → Within most_plane_radius v.px × Within most_plane_radius v.py
  plane_corner v m =
      let legs = legs_within (polygon_of k).radius v (g.fits.rule.on_circle v m) in (
        record { within = omega (arith, legs.0, plane_radius.within) },
        record { within = omega (arith, legs.1, plane_radius.within) },
      )

-- D by the lines across the element, from neighbour to neighbour
pub area_is : (m : List ℤ) (e : ℕ) → rise_across m e 0 *ℤ run_across m e 1 -ℤ rise_across m e 1 *ℤ run_across m e 0
    ≡ twice_area m e
unfolding rise_across run_across twice_area cross_at node
area_is m e =
    ring
    (x m (corner m e 0)
    ∷ x m (corner m e 1)
    ∷ x m (corner m e 2)
    ∷ x m (corner m e 3)
    ∷ y m (corner m e 0)
    ∷ y m (corner m e 1)
    ∷ y m (corner m e 2)
    ∷ y m (corner m e 3)
    ∷ [])
    (search terms depth 100)
    refl

module _ (m : List ℤ) (f : MeshFacts m) where
  node-there : (e i : ℕ) → e < elements m → node m e i < nodes m
  unfolding node
  node-there e i k = (f.element e k).corner_there (i % 4) (mod-lt i (omega arith))

  rise_bound : (e i : ℕ) → e < elements m → Within most_coordinate (rise_across m e i)
  unfolding rise_across
  rise_bound e i k = apart (f.node _ (node-there e (i + 1) k)).y_range (f.node _ (node-there e (i + 3) k)).y_range

  run_bound : (e i : ℕ) → e < elements m → Within most_coordinate (run_across m e i)
  unfolding run_across
  run_bound e i k = apart (f.node _ (node-there e (i + 3) k)).x_range (f.node _ (node-there e (i + 1) k)).x_range

  area_bound : (e : ℕ) → e < elements m → Within most_area (twice_area m e)
  area_bound e k =
      subst (Within most_area) (area_is m e)
      (Within--ℤ (Within-*ℤ (rise_bound e 0 k) (run_bound e 1 k)) (Within-*ℤ (rise_bound e 1 k) (run_bound e 0 k)))

  force_bound : (e c : ℕ) → e < elements m → c < 4 → Within most_force (soil_entry m (element_soil m e) (4 + c))
  force_bound e c k l = between ((f.soil (element_soil m e) (f.element e k).soil_there).force_range c l)

  square_bound : (g : ℕ) → g < edges m → Within most_square (step_square m g)
  unfolding step_square step_x step_y
  square_bound g k =
      let a = (f.edge g k).from_there in
      let b = (f.edge g k).to_there in
      let u = apart (f.node (to_node m g) b).x_range (f.node (from_node m g) a).x_range in
      let w = apart (f.node (to_node m g) b).y_range (f.node (from_node m g) a).y_range in
      Within-+ℤ (Within-*ℤ u u) (Within-*ℤ w w)

  load_bound : (g c : ℕ) → g < edges m → c < 4 → Within most_traction (edge_entry m g (3 + c))
  load_bound g c k l = between ((f.edge g k).load_range c l)

  -- ---- right sides, by kind of row

  abbrev Right : ℕ → Row → Type 0
  Right B r = Within B r.right

  balance_right_lem : (r : Row) → r ∈ balance_rows m → Right balance_right r
  unfolding balance_rows balance_x balance_y dead_x dead_y
  balance_right_lem = each_joined P _ (count_from 0 (elements m))
      (λ e i. by e (omega (arith, of_count 0 (elements m) i)))
    where
      P : Row → Type 0
      P r = Right balance_right r

      force : (e c : ℕ) → e < elements m → c < 4 → Within balance_right
          (neg_ℤ (twice_area m e *ℤ soil_entry m (element_soil m e) (4 + c)))
      force e c k l = Within-neg_ℤ (Within-*ℤ (area_bound e k) (force_bound e c k l))

      by : (e : ℕ) → e < elements m → (r : Row) → r ∈ (balance_x m e ∷ balance_y m e ∷ []) → P r
      by e k = each_cons P (force e 0 k (omega arith)) (each_cons P (force e 1 k (omega arith)) (each_nil P))

  side_right_lem : (r : Row) → r ∈ side_rows m → Right side_right r
  unfolding side_rows normal_row shear_row
  side_right_lem =
      each_joined P _ (count_from 0 (edges m)) (λ g i.
      let k : g < edges m = omega (arith, of_count 0 (edges m) i) in
      let a = Within-*ℤ (square_bound g k) (load_bound g 0 k (omega arith)) in
      let b = Within-*ℤ (square_bound g k) (load_bound g 1 k (omega arith)) in
      each_cons P a (each_cons P b (each_cons P a (each_cons P b (each_nil P)))))
    where
      P : Row → Type 0
      P r = Right side_right r

  jump_right_lem : (r : Row) → r ∈ jump_rows m → Right jump_right r
  unfolding jump_rows jump_normal jump_shear agree_row
  jump_right_lem =
      let zero : Within jump_right (pos 0) = Within-pos 0 in
      each_joined P _ (count_from 0 (jumps m))
      (λ j i. each_cons P zero (each_cons P zero (each_cons P zero (each_cons P zero (each_nil P)))))
    where
      P : Row → Type 0
      P r = Right jump_right r

  side_strength : (g : ListedPolygon (sides m)) (a : Pair) → a ∈ strength_pairs m → (r : Row)
      → r ∈ rows_by_sides (polygon_of (sides m)) m a → Right (strength_right_with (sides m)) r
  unfolding rows_by_sides strength_row
  side_strength g a i =
      each_map (Right (strength_right_with (sides m))) _ (polygon_sides (polygon_of (sides m)).corners) (λ d j.
      let s = f.soil a.soil (((pairs m).exactly a).0 i).1 in
      Within-le (Within-*ℤ (cross_bound g d j)
      (Within-*ℤ (Within-*ℤ (Within-pos 2) (from_0 s.q_range)) (from_0 s.cohesion_range))) g.fits.right_fits)

  plane_strength : (g : ListedPolygon (sides m)) (a : Pair) → a ∈ strength_pairs m → ByDirection m a.soil → (r : Row)
      → r ∈ rows_by_planes (polygon_of (sides m)) m a → Right (strength_right_with (sides m)) r
  unfolding rows_by_planes plane_row
  plane_strength g a i e =
      each_joined (Right (strength_right_with (sides m))) _ (half_turn (polygon_of (sides m)).corners) (λ v j.
      let s = f.soil a.soil (((pairs m).exactly a).0 i).1 in
      let one = kind_sides s e in
      let r = plane_radius g one in
      let x = (plane_corner g one v ((g.fits.rule.first_half v).0 j).0).0 in
      let right =
      Within-le
      (Within-*ℤ (from_0 s.q_range)
      (Within-+ℤ (Within-*ℤ (Within-*ℤ r r) (from_0 s.cohesion_range))
      (Within-*ℤ (apart s.across_range s.cohesion_range) (Within-*ℤ x x))))
      (omega (arith, (kind_one (sides m) one).1)) in
      each_cons (Right (strength_right_with (sides m))) right
      (each_cons (Right (strength_right_with (sides m))) right (each_nil (Right (strength_right_with (sides m))))))

  strength_right : (g : ListedPolygon (sides m)) → (r : Row) → r ∈ strength_rows m
      → Right (strength_right_with (sides m)) r
  unfolding strength_rows
  strength_right g =
      each_joined (Right (strength_right_with (sides m))) _ (strength_pairs m) (λ a i.
      by_kind (polygon_of (sides m)) m a (λ rs. (r : Row) → r ∈ rs → Right (strength_right_with (sides m)) r)
      (λ e. plane_strength g a i (is_direction m a.soil e)) (λ e. side_strength g a i))

-- ---- sums

pub weighed-++ : (w : ℕ → ℤ) (rs ss : List Row) → weighed w (rs ++ ss)
    ≡ weighed w rs ++ weighed (λ k. w (length rs + k)) ss
unfolding weighed
weighed-++ w [] ss = ap (λ (v : ℕ → ℤ). weighed v ss) (fun_ext (λ k. ap w (sym (zero-add k))))
weighed-++ w (r ∷ rs) ss =
    ap (λ (l : List (ℤ × Row)). (w 0, r) ∷ l)
    (weighed-++ (λ k. w (suc k)) rs ss
    ∙ ap (λ (v : ℕ → ℤ). weighed (λ k. w (suc k)) rs ++ weighed v ss)
    (fun_ext (λ k. ap w (sym (suc-add (length rs) k)))))

-- each row's multiplier within Y, its right side within B
rows_bound : (Y B : ℕ) (w : ℕ → ℤ) (rs : List Row) → ((k : ℕ) → k < length rs → Within Y (w k))
    → ((r : Row) → r ∈ rs → Within B r.right) → Within (length rs * (Y * B)) (limit_sum w rs)
unfolding limit_sum weighted_sum weighed
rows_bound Y B w [] a b = record { within = omega arith }
rows_bound Y B w (r ∷ rs) a b =
    Within-le
    (Within-+ℤ (Within-*ℤ (a 0 (omega arith)) (b r (Memᴰ.head refl)))
    (rows_bound Y B (λ k. w (suc k)) rs (λ k h. a (suc k) (omega arith)) (λ r i. b r (Memᴰ.tail i))))
    (omega arith)

limit-++ : (w : ℕ → ℤ) (rs ss : List Row) → limit_sum w (rs ++ ss)
    ≡ limit_sum w rs +ℤ limit_sum (λ k. w (length rs + k)) ss
unfolding limit_sum weighted_sum
limit-++ w rs ss = ap (sum_of (λ p. p.0 *ℤ p.1.right)) (weighed-++ w rs ss)
    ∙ sum_of_++ (λ p. p.0 *ℤ p.1.right) (weighed w rs) (weighed (λ k. w (length rs + k)) ss)

-- the right side of a strength row less its left, and W: both fit 64 bits
pub sums_fit : (most_slack < 14 * 10 ^ 17) × (most_limit < 52 * 10 ^ 17)
sums_fit = (omega arith, omega arith)

-- W of multipliers that are there: each kind of row by its count, its largest multiplier and its largest right side
pub limit_bound : (m c : List ℤ) → MeshSound m → ClaimFacts m c → HasMultipliers c
    → Within most_limit (limit_sum (multiplier m c) (rows_of m))
unfolding rows_of equality_rows
limit_bound m c s k t =
    Within-le
    (rw (← limit-++ w (equality_rows m) (strength_rows m)) at
    (Within-+ℤ
    (rw (← limit-++ w (balance_rows m) (side_rows m ++ jump_rows m)) at
    (Within-+ℤ balances (rw (← limit-++ (λ i. w (length (balance_rows m) + i)) (side_rows m) (jump_rows m)) at
    (Within-+ℤ edge_sides joints))))
    strengths))
    (omega arith)
  where
    w : ℕ → ℤ
    w = multiplier m c

    f : MeshFacts m
    f = mesh_facts m s.lines

    g : ListedPolygon (sides m)
    g = listed_polygon (sides m) f.counts.sides_listed

    equality : (i : ℕ) → i < equality_count m → Within most_multiplier (w i)
    equality i h = between (k.equality_range t i h)

    balances : Within (most_balance_rows * (most_multiplier * balance_right)) (limit_sum w (balance_rows m))
    balances =
        Within-le (rows_bound most_multiplier balance_right w (balance_rows m)
        (λ i h. equality i (omega (arith, balance_count m))) (balance_right_lem m f))
        (omega (arith, balance_count m, f.counts.elements_most))

    edge_sides : Within (most_side_rows * (most_multiplier * side_right))
        (limit_sum (λ i. w (length (balance_rows m) + i)) (side_rows m))
    edge_sides =
        Within-le
        (rows_bound most_multiplier side_right (λ i. w (length (balance_rows m) + i)) (side_rows m)
        (λ i h. equality (length (balance_rows m) + i) (omega (arith, balance_count m, side_count m)))
        (side_right_lem m f))
        (omega (arith, side_count m, f.counts.edges_most))

    joints : Within (most_jump_rows * (most_multiplier * jump_right))
        (limit_sum (λ i. w (length (balance_rows m) + (length (side_rows m) + i))) (jump_rows m))
    joints =
        Within-le
        (rows_bound most_multiplier jump_right (λ i. w (length (balance_rows m) + (length (side_rows m) + i)))
        (jump_rows m)
        (λ i h. equality (length (balance_rows m) + (length (side_rows m) + i))
        (omega (arith, balance_count m, side_count m, jump_count m)))
        (jump_right_lem m f))
        (omega (arith, jump_count m, f.counts.jumps_most))

    strength : (i : ℕ) → i < length (strength_rows m) → Within (strength_multiplier (sides m))
        (w (length (equality_rows m) + i))
    strength i h =
        subst (λ (j : ℕ). Within (strength_multiplier (sides m)) (w (j + i))) (sym (equality_count_lem m))
        (from_0 (k.strength_range t i (omega (arith, strength_count m f.counts.sides_listed))))

    few : length (strength_rows m) ≤ most_strength_rows
    few =
        omega
        (arith, strength_count m f.counts.sides_listed, mul-le-mul_right (sides m) (few_pairs_lem m s), g.fits.rows_fit)

    strengths : Within (most_strength_rows * strength_sum)
        (limit_sum (λ i. w (length (equality_rows m) + i)) (strength_rows m))
    strengths =
        Within-le
        (rows_bound (strength_multiplier (sides m)) (strength_right_with (sides m))
        (λ i. w (length (equality_rows m) + i)) (strength_rows m) strength (strength_right m f g))
        (mul-le-mul few g.fits.right_weighted)
