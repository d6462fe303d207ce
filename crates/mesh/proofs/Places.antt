-- Where each number of a mesh stands in its list, and the bound that sound lines give it: by unfolding the layout.
use mathlib.Core.Path.{◌≡◌, refl, sym, ◌∙◌, ap, subst}
use mathlib.Core.List.{List}
use Prim.Native.Nat.{ℕ, zero, suc, ◌+◌, ◌*◌, ◌-◌, ◌≤◌, ◌<◌}
use native.Mathlib.Omega.{arith}
use lib.IntN.{ℤ, pos, negsuc, nat_abs, neg_ℤ, ◌-ℤ◌}
use lib.ListN.{length}
use lib.Signed.{◌≤ℤ◌}
use mir.Syntax.{w64}
use mir.Val.{to_z, of_z}
use Rattle.integer.specs.Bounds.{Within, Is}
use Rattle.integer.proofs.BoundLaws.{bounds, Within-le}
use Rattle.integer.proofs.Linear.{linear, facts, ◌&◌, nothing}
use Rattle.integer.proofs.Machine.{Is-read}
use Rattle.integer.proofs.Order.{≤ℤ_pos}
use Rattle.mesh.specs.declared.sizes.Sizes.{Sizes}
use Rattle.scope.specs.Columns.{at}
use Rattle.scope.specs.Layout.{groups, numbers_before, count, entry}
use Rattle.scope.specs.Mesh.{most_nodes, most_elements, most_soils, most_edges, most_sides, most_jumps}
use Rattle.scope.specs.Mesh.{mesh_header_columns, soil_columns, node_columns, element_columns, edge_columns}
use Rattle.scope.specs.Mesh.{jump_columns, mesh_header, soil_lines, node_lines, element_lines, edge_lines, jump_lines}
use Rattle.scope.specs.Mesh.{layout_with, mesh_groups, nodes, elements, soils, edges, sides, jumps, p, q, h, cohesion}
use Rattle.scope.specs.Mesh.{soil_kind, cohesion_across, soil_entry, x, y, corner, element_soil, edge_entry}
use Rattle.scope.specs.Mesh.{from_node, to_node, jump_entry, jump_from, jump_to, facing_from, facing_to}
use Rattle.scope.specs.Filled.{soil_place}
use Rattle.scope.specs.NumberRanges.{Between, MeshFacts, SoilFacts, EdgeFacts, JumpFacts}
use Rattle.scope.proofs.NumberRanges.{some_sides_lem}
use Rattle.scope.proofs.PolygonRule.{listed_polygon}
use Rattle.scope.proofs.SumBounds.{apart, from_0}
use Rattle.scope.proofs.SideLimits.{kind_most}
use Rattle.mesh.specs.MeshContracts.{Sized, SizesAre, HeaderThere, NodeAt, nodes_from, elements_from, edges_from}
use Rattle.mesh.specs.MeshContracts.{jumps_from, jump_node}

-- ---- counts

-- a number that is not negative is its count
pub count_nat_abs : {z : ℤ} → pos 0 ≤ℤ z → nat_abs z ≡ count z
unfolding count
count_nat_abs {z = pos n} l = refl
count_nat_abs {z = negsuc n} l = absurd l.le

counted : (z : ℤ) → 0 < count z → pos 0 ≤ℤ z
unfolding count
counted (pos n) l = linear nothing (search facts depth 40) (omega arith)
counted (negsuc n) l = absurd (omega arith)

pub one_counted : {z : ℤ} → pos 1 ≤ℤ z → (pos 0 ≤ℤ z) × (1 ≤ count z)
unfolding count
one_counted {z = pos n} l = (linear nothing (search facts depth 40) (omega arith), ≤ℤ_pos l)
one_counted {z = negsuc n} l = absurd l.le

-- number k is there, and is at least a: 0 of a count, 1 of the number of a thing
abbrev pub There : ℕ → List ℤ → ℕ → Type 0
There a m k = (k < length m) × (pos a ≤ℤ at m k)

module _ {m : List ℤ} (f : HeaderThere m) where
  -- each of the header's counts is there
  pub count_there : (k : ℕ) → k < mesh_header_columns → There 0 m k
  unfolding nodes elements soils sides
  count_there zero l = (omega (arith, f.there), counted (at m 0) (omega (arith, f.counts.nodes_least)))
  count_there (suc zero) l = (omega (arith, f.there), counted (at m 1) (omega (arith, f.counts.elements_least)))
  count_there (suc (suc zero)) l = (omega (arith, f.there), counted (at m 2) (omega (arith, f.counts.soils_least)))
  count_there (suc (suc (suc zero))) l = (omega (arith, f.there), f.counts.edges_least)
  count_there (suc (suc (suc (suc zero)))) l = (omega (arith, f.there), counted (at m 4) (some_sides_lem f.counts))
  count_there (suc (suc (suc (suc (suc zero))))) l = (omega (arith, f.there), f.counts.jumps_least)
  count_there (suc (suc (suc (suc (suc (suc k)))))) l = absurd (omega arith)

  -- sizes with these counts
  pub sizes_are : {s : Sizes} → s.nodes ≡ count (at m 0) → s.elements ≡ count (at m 1) → s.soils ≡ count (at m 2)
      → s.edges ≡ count (at m 3) → s.sides ≡ count (at m 4) → s.jumps ≡ count (at m 5) → SizesAre m s
  unfolding nodes elements soils edges sides jumps
  sizes_are ea eb ec ed ee eg =
      record {
        counts = f.counts;
        nodes_are = ea;
        elements_are = eb;
        soils_are = ec;
        edges_are = ed;
        sides_are = ee;
        jumps_are = eg;
      }

  -- each count is within its limits
  pub counts_few : (count (at m 0) ≤ most_nodes) × (count (at m 1) ≤ most_elements) × (count (at m 2) ≤ most_soils)
      × (count (at m 3) ≤ most_edges) × (0 < count (at m 4)) × (count (at m 4) ≤ most_sides)
      × (count (at m 5) ≤ most_jumps)
  unfolding nodes elements soils edges sides jumps
  counts_few =
      let k = f.counts in
      let drawn = (listed_polygon (sides m) k.sides_listed).fits in
      (k.nodes_most, k.elements_most, k.soils_most, k.edges_most, drawn.some_sides, drawn.few_sides, k.jumps_most)

-- the lines of a mesh that are sound begin with a header
pub header_there : {m : List ℤ} → MeshFacts m → HeaderThere m
header_there f = record { there = omega (arith, f.size); counts = f.counts }

pub sized : {m : List ℤ} {s : Sizes} → MeshFacts m → SizesAre m s → Sized m s
sized f k = record {
  facts = f;
  nodes_are = k.nodes_are;
  elements_are = k.elements_are;
  soils_are = k.soils_are;
  edges_are = k.edges_are;
  sides_are = k.sides_are;
  jumps_are = k.jumps_are;
}

pub as_sizes : {m : List ℤ} {s : Sizes} → Sized m s → SizesAre m s
as_sizes k = record {
  counts = k.facts.counts;
  nodes_are = k.nodes_are;
  elements_are = k.elements_are;
  soils_are =
      k.soils_are;
  edges_are = k.edges_are;
  sides_are = k.sides_are;
  jumps_are = k.jumps_are;
}

-- ---- bounds

-- from lo to hi, both at most B in size
bounded : {lo hi z : ℤ} (B : ℕ) → neg_ℤ (pos B) ≤ℤ lo → hi ≤ℤ pos B → Between lo hi z → Within B z
bounded {lo} {hi} {z} B l u b =
    let k : lo ≤ℤ z = b.least in
    let j : z ≤ℤ hi = b.most in
    linear (l & u & k & j) (search bounds depth 40) (omega arith)

soil_bound : {m : List ℤ} {k : ℕ} → SoilFacts m k → (c : ℕ) → c < soil_columns → Within 10000 (soil_entry m k c)
unfolding p q h cohesion soil_kind cohesion_across
soil_bound f zero l = bounded 10000 (record { le = tt }) (record { le = tt }) f.p_range
soil_bound f (suc zero) l = bounded 10000 (record { le = tt }) (record { le = tt }) f.q_range
soil_bound f (suc (suc zero)) l = bounded 10000 (record { le = tt }) (record { le = tt }) f.h_range
soil_bound f (suc (suc (suc zero))) l = bounded 10000 (record { le = tt }) (record { le = tt }) f.cohesion_range
soil_bound {m} {k} f (suc (suc (suc (suc c)))) l =
    let e : 4 + c ≡ suc (suc (suc (suc c))) = omega arith in
    subst (λ (i : ℕ). Within 10000 (soil_entry m k i)) e (rest c (omega arith))
  where
    force : (c : ℕ) → c < 4 → Within 10000 (soil_entry m k (4 + c))
    force c l = bounded 10000 (record { le = tt }) (record { le = tt }) (f.force_range c l)

    rest : (c : ℕ) → c < 6 → Within 10000 (soil_entry m k (4 + c))
    rest zero l = force 0 (omega arith)
    rest (suc zero) l = force 1 (omega arith)
    rest (suc (suc zero)) l = force 2 (omega arith)
    rest (suc (suc (suc zero))) l = force 3 (omega arith)
    rest (suc (suc (suc (suc zero)))) l = Within-le (from_0 f.kind_range) (omega (arith, kind_most (sides m)))
    rest (suc (suc (suc (suc (suc zero))))) l = bounded 10000 (record { le = tt }) (record { le = tt }) f.across_range
    rest (suc (suc (suc (suc (suc (suc c)))))) l = absurd (omega arith)

edge_bound : {m : List ℤ} {g : ℕ} → EdgeFacts m g → (c : ℕ) → 2 ≤ c → c < edge_columns → Within 10000 (edge_entry m g c)
edge_bound f zero k l = absurd (omega arith)
edge_bound f (suc zero) k l = absurd (omega arith)
edge_bound f (suc (suc zero)) k l = bounded 10000 (record { le = tt }) (record { le = tt }) f.fixed_range
edge_bound {m} {g} f (suc (suc (suc c))) k l =
    let e : 3 + c ≡ suc (suc (suc c)) = omega arith in
    subst (λ (i : ℕ). Within 10000 (edge_entry m g i)) e
    (bounded 10000 (record { le = tt }) (record { le = tt }) (f.load_range c (omega arith)))

-- each of a jump's four nodes is there
pub jump_node_lem : {m : List ℤ} {j : ℕ} → JumpFacts m j → (c : ℕ) → c < jump_columns → jump_node m j c < nodes m
unfolding jump_from jump_to facing_from facing_to
jump_node_lem f zero l = f.from_there
jump_node_lem f (suc zero) l = f.to_there
jump_node_lem f (suc (suc zero)) l = f.facing_from_there
jump_node_lem f (suc (suc (suc zero))) l = f.facing_to_there
jump_node_lem f (suc (suc (suc (suc c)))) l = absurd (omega arith)

-- ---- where a group's numbers stand

module _ {m : List ℤ} {s : Sizes} (k : Sized m s) where
  soil-at : (i c : ℕ) → entry (mesh_groups m) m 1 i c ≡ at m (mesh_header_columns + i * soil_columns + c)
  unfolding entry numbers_before mesh_groups groups layout_with mesh_header soil_lines node_lines element_lines
      edge_lines
  soil-at i c = ap (at m) (omega arith)

  node_at : {from : ℕ} → from ≡ nodes_from s → (i c : ℕ) → entry (mesh_groups m) m 2 i c
      ≡ at m (from + i * node_columns + c)
  unfolding entry numbers_before mesh_groups groups layout_with mesh_header soil_lines node_lines element_lines
      edge_lines
  node_at b i c = ap (at m) (omega (arith, k.soils_are))

  element_at : {from : ℕ} → from ≡ elements_from s → (i c : ℕ)
      → entry (mesh_groups m) m 3 i c ≡ at m (from + i * element_columns + c)
  unfolding entry numbers_before mesh_groups groups layout_with mesh_header soil_lines node_lines element_lines
      edge_lines
  element_at b i c = ap (at m) (omega (arith, k.soils_are, k.nodes_are))

  edge_at : {from : ℕ} → from ≡ edges_from s → (i c : ℕ) → entry (mesh_groups m) m 4 i c
      ≡ at m (from + i * edge_columns + c)
  unfolding entry numbers_before mesh_groups groups layout_with mesh_header soil_lines node_lines element_lines
      edge_lines
  edge_at b i c = ap (at m) (omega (arith, k.soils_are, k.nodes_are, k.elements_are))

  jump_at : {from : ℕ} → from ≡ jumps_from s → (i c : ℕ) → entry (mesh_groups m) m 5 i c
      ≡ at m (from + i * jump_columns + c)
  unfolding entry numbers_before mesh_groups groups layout_with mesh_header soil_lines node_lines element_lines
      edge_lines jump_lines
  jump_at b i c = ap (at m) (omega (arith, k.soils_are, k.nodes_are, k.elements_are, k.edges_are))

  -- ---- what is read there

  pub soil_number : {r : ℤ} {i c : ℕ} → i < soils m → c < soil_columns
      → r ≡ at m (mesh_header_columns + i * soil_columns + c) → Is r (soil_entry m i c) 10000
  unfolding soil_entry
  soil_number {i = i} {c = c} l j e =
      record { same = e ∙ sym (soil-at i c); inside = soil_bound (k.facts.soil i l) c j }

  pub soil_read : {r : ℤ} {i c : ℕ} → i < soils m → c < soil_columns
      → r ≡ at m (mesh_header_columns + i * soil_columns + c) → Is (to_z w64 (of_z w64 r)) (soil_entry m i c) 10000
  soil_read l j e = Is-read (soil_number l j e) (omega arith)

  pub x_read : {r : ℤ} {v from : ℕ} → v < nodes m → from ≡ nodes_from s → r ≡ at m (from + v * node_columns + 0)
      → Is r (x m v) 1000
  unfolding x
  x_read {v = v} l b e =
      record {
        same = e ∙ sym (node_at b v 0);
        inside = bounded 1000 (record { le = tt }) (record { le = tt })
            (k.facts.node v l).x_range;
      }

  pub y_read : {r : ℤ} {v from : ℕ} → v < nodes m → from ≡ nodes_from s → r ≡ at m (from + v * node_columns + 1)
      → Is r (y m v) 1000
  unfolding y
  y_read {v = v} l b e =
      record {
        same = e ∙ sym (node_at b v 1);
        inside = bounded 1000 (record { le = tt }) (record { le = tt })
            (k.facts.node v l).y_range;
      }

  pub edge_read : {r : ℤ} {g c from : ℕ} → g < edges m → 2 ≤ c → c < edge_columns → from ≡ edges_from s
      → r ≡ at m (from + g * edge_columns + c) → Is (to_z w64 (of_z w64 r)) (edge_entry m g c) 10000
  unfolding edge_entry
  edge_read {g = g} {c = c} l i j b e =
      Is-read (record { same = e ∙ sym (edge_at b g c); inside = edge_bound (k.facts.edge g l) c i j }) (omega arith)

  pub element_there : {e c from : ℕ} → e < elements m → c < element_columns → from ≡ elements_from s
      → There 1 m (from + e * element_columns + c)
  element_there {e} {c} l i b =
      (omega (arith, k), subst (λ (z : ℤ). pos 1 ≤ℤ z) (element_at b e c) ((k.facts.element e l).from_one c i))

  pub edge_there : {g c from : ℕ} → g < edges m → c < 2 → from ≡ edges_from s → There 1 m (from + g * edge_columns + c)
  unfolding edge_entry
  edge_there {g} {c} l i b =
      (omega (arith, k), subst (λ (z : ℤ). pos 1 ≤ℤ z) (edge_at b g c) ((k.facts.edge g l).from_one c i))

  pub corner_read : {r from : ℕ} {e i : ℕ} → e < elements m → i < 4 → from ≡ elements_from s
      → r ≡ count (at m (from + e * element_columns + i)) - 1 → NodeAt r m (corner m e i)
  unfolding corner
  corner_read {r} {e = e} {i = i} l j b d =
      let same : r ≡ corner m e i = rw (element_at b e i) d in
      record {
        same = same;
        there = omega (arith, same, (k.facts.element e l).corner_there i j);
        few =
            k.facts.counts.nodes_most;
      }

  pub element_soil_read : {r from : ℕ} (e : ℕ) → from ≡ elements_from s
      → r ≡ count (at m (from + e * element_columns + 4)) - 1 → r ≡ element_soil m e
  unfolding element_soil
  element_soil_read e b d = rw (element_at b e 4) d

  pub from_read : {r from : ℕ} (g : ℕ) → from ≡ edges_from s → r ≡ count (at m (from + g * edge_columns + 0)) - 1
      → r ≡ from_node m g
  unfolding from_node edge_entry
  from_read g b d = rw (edge_at b g 0) d

  pub to_read : {r from : ℕ} (g : ℕ) → from ≡ edges_from s → r ≡ count (at m (from + g * edge_columns + 1)) - 1
      → r ≡ to_node m g
  unfolding to_node edge_entry
  to_read g b d = rw (edge_at b g 1) d

  pub jump_there : {j c from : ℕ} → j < jumps m → c < jump_columns → from ≡ jumps_from s
      → There 1 m (from + j * jump_columns + c)
  unfolding jump_entry
  jump_there {j} {c} l i b =
      (omega (arith, k), subst (λ (z : ℤ). pos 1 ≤ℤ z) (jump_at b j c) ((k.facts.jump j l).from_one c i))

  pub jump_read : {r from : ℕ} {j c : ℕ} → j < jumps m → c < jump_columns → from ≡ jumps_from s
      → r ≡ count (at m (from + j * jump_columns + c)) - 1 → NodeAt r m (jump_node m j c)
  unfolding jump_entry
  jump_read {r} {j = j} {c = c} l i b d =
      let same : r ≡ jump_node m j c = rw (jump_at b j c) d in
      record {
        same = same;
        there = omega (arith, same, jump_node_lem (k.facts.jump j l) c i);
        few =
            k.facts.counts.nodes_most;
      }

-- where an element's soil stands
pub soil_place_is : {s : Sizes} {r from : ℕ} (e : ℕ) → from ≡ elements_from s → r ≡ from + e * element_columns + 4
    → (m : List ℤ) → SizesAre m s → r ≡ soil_place m e
unfolding soil_place numbers_before mesh_groups groups layout_with mesh_header soil_lines node_lines element_lines
    edge_lines jump_lines
soil_place_is e b d m k = omega (arith, b, d, k.soils_are, k.nodes_are)

-- ---- differences of coordinates

pub run-within : {m : List ℤ} → MeshFacts m → {a b : ℕ} → a < nodes m → b < nodes m → Within 1000 (x m a -ℤ x m b)
run-within f {a} {b} h k = apart (f.node a h).x_range (f.node b k).x_range

pub rise_within : {m : List ℤ} → MeshFacts m → {a b : ℕ} → a < nodes m → b < nodes m → Within 1000 (y m a -ℤ y m b)
rise_within f {a} {b} h k = apart (f.node a h).y_range (f.node b k).y_range
