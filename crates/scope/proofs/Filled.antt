-- A mesh whose elements with soil 0 were given soils stays what it was but for these (`Given`): so all that sound lines
-- say stays, and each element's height is in one layer.
use mathlib.Core.Path.{◌≡◌, refl, sym, ◌∙◌, ap, ap₂, subst, subst₂, subst₃}
use mathlib.Core.Bool.{Bool, true, false}
use mathlib.Core.List.{List}
use Prim.Native.Nat.{ℕ, ◌+◌, ◌*◌, ◌-◌, ◌≤◌, ◌<◌}
use native.Mathlib.Decide.{dec_lt}
use native.Mathlib.Omega.{arith}
use lib.IntN.{ℤ, pos, neg_ℤ, ◌+ℤ◌, ◌*ℤ◌}
use lib.Signed.{◌≤ℤ◌}
use lib.ListN.{length}
use Rattle.integer.specs.Tests.{eq_z}
use Rattle.scope.specs.Columns.{at}
use Rattle.scope.specs.Layout.{Group, width, groups, numbers_before, count, entry}
use Rattle.scope.specs.Polygon.{SidesListed}
use Rattle.scope.specs.Mesh.{nodes_with, kind_with, mesh_header_columns, soil_columns, element_columns, mesh_header}
use Rattle.scope.specs.Mesh.{soil_lines, node_lines, element_lines, edge_lines, jump_lines, layout_with, mesh_groups}
use Rattle.scope.specs.Mesh.{nodes, elements, soils, edges, sides, jumps, p, q, h, cohesion, soil_kind}
use Rattle.scope.specs.Mesh.{cohesion_across, soil_entry, x, y, corner, element_soil, edge_entry, from_node, to_node}
use Rattle.scope.specs.Mesh.{jump_entry, jump_from, jump_to, facing_from, facing_to}
use Rattle.scope.specs.NumberRanges.{Between, Counts, SoilFacts, NodeFacts, ElementFacts, EdgeFacts, JumpFacts}
use Rattle.scope.specs.NumberRanges.{MeshFacts}
use Rattle.scope.specs.Mesh.{most_coordinate}
use Rattle.scope.specs.Layers.{layers, soil, soil_at, lowest, highest}
use Rattle.scope.specs.Filled.{height_of, soil_place, given, filled, with_soils}
use Rattle.scope.specs.LayerRefusals.{NodeHeights, OneLayer, TableSound, Reordered}
use Rattle.scope.specs.LayerRefusals.{soil_number, FilledFrom, RepeatTwice}
use Rattle.scope.proofs.Decides.{Decides, equalℤ}
use Rattle.scope.proofs.Layers.{soil-at, same_heights, heights_of, node_heights}
use Rattle.scope.proofs.Lines.{group}
use Rattle.scope.proofs.NumberRanges.{count_range}
use Rattle.scope.proofs.LayerOrder.{reordered_soil}
use Rattle.scope.proofs.Given.{NoSoil, given-length, given_other, given_own, given_zero, given_cong}

-- a height is by the corners, the repeated one twice
pub repeat_twice : (m : List ℤ) (e : ℕ) → RepeatTwice m e
unfolding height_of
repeat_twice m e s = omega (arith, ap (λ (v : ℕ). count (y m v)) s)

-- ---- the mesh stays what it was

module _ (f : ℕ → ℤ) (m : List ℤ) where
  header_kept : (k : ℕ) → k < mesh_header_columns → at (given f m) k ≡ at m k
  unfolding soil_place numbers_before mesh_groups groups layout_with mesh_header
  header_kept k l = given_other f m k (λ e d s. absurd (omega arith))

  pub nodes_kept : nodes (given f m) ≡ nodes m
  unfolding nodes
  nodes_kept = ap count (header_kept 0 (omega arith))

  pub elements_kept : elements (given f m) ≡ elements m
  unfolding elements
  elements_kept = ap count (header_kept 1 (omega arith))

  pub soils_kept : soils (given f m) ≡ soils m
  unfolding soils
  soils_kept = ap count (header_kept 2 (omega arith))

  pub edges_kept : edges (given f m) ≡ edges m
  unfolding edges
  edges_kept = ap count (header_kept 3 (omega arith))

  pub sides_kept : sides (given f m) ≡ sides m
  unfolding sides
  sides_kept = ap count (header_kept 4 (omega arith))

  pub jumps_kept : jumps (given f m) ≡ jumps m
  unfolding jumps
  jumps_kept = ap count (header_kept 5 (omega arith))

  pub groups_kept : mesh_groups (given f m) ≡ mesh_groups m
  unfolding mesh_groups groups layout_with
  groups_kept = rw (nodes_kept, elements_kept, soils_kept, edges_kept, sides_kept, jumps_kept)

  pub place_kept : (e : ℕ) → soil_place (given f m) e ≡ soil_place m e
  unfolding soil_place
  place_kept e = ap (λ (gs : List Group). numbers_before gs 3 + e * element_columns + 4) groups_kept

  -- a number that is no soil, by its line
  abbrev place : ℕ → ℕ → ℕ → ℕ
  place j i c = numbers_before (mesh_groups m) j + i * width (group (mesh_groups m) j) + c

  entry_kept : (j i c : ℕ) → NoSoil m (place j i c) → entry (mesh_groups (given f m)) (given f m) j i c
      ≡ entry (mesh_groups m) m j i c
  unfolding entry
  entry_kept j i c none =
      ap (λ (gs : List Group). at (given f m) (numbers_before gs j + i * width (group gs j) + c)) groups_kept
      ∙ given_other f m (place j i c) none

  soil_kept : (s c : ℕ) → s < soils m → c < soil_columns → soil_entry (given f m) s c ≡ soil_entry m s c
  unfolding soil_entry soil_place numbers_before mesh_groups groups layout_with mesh_header soil_lines node_lines
      element_lines edge_lines jump_lines
  soil_kept s c l k = entry_kept 1 s c (λ e d z. absurd (omega arith))

  x_kept : (v : ℕ) → v < nodes m → x (given f m) v ≡ x m v
  unfolding x soil_place numbers_before mesh_groups groups layout_with mesh_header soil_lines node_lines element_lines
      edge_lines jump_lines
  x_kept v l = entry_kept 2 v 0 (λ e d z. absurd (omega arith))

  pub y_kept : (v : ℕ) → v < nodes m → y (given f m) v ≡ y m v
  unfolding y soil_place numbers_before mesh_groups groups layout_with mesh_header soil_lines node_lines element_lines
      edge_lines jump_lines
  y_kept v l = entry_kept 2 v 1 (λ e d z. absurd (omega arith))

  pub element_kept : (e c : ℕ) → c < 4 → entry (mesh_groups (given f m)) (given f m) 3 e c
      ≡ entry (mesh_groups m) m 3 e c
  unfolding soil_place numbers_before mesh_groups groups layout_with mesh_header soil_lines node_lines element_lines
      edge_lines jump_lines
  element_kept e c l = entry_kept 3 e c (λ d k z. absurd (omega arith))

  pub corner_kept : (e i : ℕ) → i < 4 → corner (given f m) e i ≡ corner m e i
  unfolding corner
  corner_kept e i l = ap (λ (z : ℤ). count z - 1) (element_kept e i l)

  edge_kept : (g c : ℕ) → edge_entry (given f m) g c ≡ edge_entry m g c
  unfolding edge_entry soil_place numbers_before mesh_groups groups layout_with mesh_header soil_lines node_lines
      element_lines edge_lines jump_lines
  edge_kept g c = entry_kept 4 g c (λ e d z. absurd (omega arith))

  jump_kept : (j c : ℕ) → jump_entry (given f m) j c ≡ jump_entry m j c
  unfolding jump_entry soil_place numbers_before mesh_groups groups layout_with mesh_header soil_lines node_lines
      element_lines edge_lines jump_lines
  jump_kept j c = entry_kept 5 j c (λ e d z. absurd (omega arith))

  pub soil_number_lem : (e : ℕ) → soil_number (given f m) e ≡ at (given f m) (soil_place m e)
  unfolding entry soil_place numbers_before mesh_groups groups layout_with mesh_header soil_lines node_lines
      element_lines edge_lines jump_lines
  soil_number_lem e = ap (λ (gs : List Group). at (given f m) (numbers_before gs 3 + e * width (group gs 3) + 4))
      groups_kept

pub soil_stands : (m : List ℤ) (e : ℕ) → soil_number m e ≡ at m (soil_place m e)
unfolding entry soil_place numbers_before mesh_groups groups layout_with mesh_header soil_lines node_lines
    element_lines edge_lines jump_lines
soil_stands m e = refl

-- ---- what sound lines say

module _ (f : ℕ → ℤ) (m : List ℤ) (k : MeshFacts (given f m)) where
  pub soil-there : (e : ℕ) → e < elements m → soil_place m e < length m
  unfolding soil_place numbers_before mesh_groups groups layout_with mesh_header soil_lines node_lines element_lines
      edge_lines jump_lines
  soil-there e l = omega (arith, k.size, given-length f m, soils_kept f m, nodes_kept f m, elements_kept f m)

  corner-there : (e i : ℕ) → e < elements m → i < 4 → corner m e i < nodes m
  corner-there e i l h =
      omega (
        arith,
        (k.element e (omega (arith, elements_kept f m))).corner_there i h,
        corner_kept f m e i h,
        nodes_kept f m,
      )

  pub height_kept : (e : ℕ) → e < elements m → height_of (given f m) e ≡ height_of m e
  unfolding height_of
  height_kept e l = ap₂ ◌+◌
      (ap₂ ◌+◌ (ap₂ ◌+◌ (at-corner 0 (omega arith)) (at-corner 1 (omega arith))) (at-corner 2 (omega arith)))
      (at-corner 3 (omega arith))
    where
      at-corner : (i : ℕ) → i < 4 → count (y (given f m) (corner (given f m) e i)) ≡ count (y m (corner m e i))
      at-corner i h = ap (λ (v : ℕ). count (y (given f m) v)) (corner_kept f m e i h)
          ∙ ap count (y_kept f m (corner m e i) (corner-there e i l h))

  node_most : (v : ℕ) → v < nodes m → count (y m v) ≤ most_coordinate
  node_most v l =
      let r = (k.node v (omega (arith, nodes_kept f m))).y_range in
      omega (arith, (count_range (y (given f m) v) r.least r.most).1, ap count (y_kept f m v l))

  pub heights : NodeHeights m (lowest m) (highest m)
  heights = heights_of m (omega (arith, k.counts.nodes_least, nodes_kept f m)) node_most

  -- the lowest node and the highest stand where they stood
  pub heights_kept : (lowest (given f m) ≡ lowest m) × (highest (given f m) ≡ highest m)
  heights_kept = same_heights {m = m} moved heights
    where
      old : NodeHeights (given f m) (lowest (given f m)) (highest (given f m))
      old = node_heights k

      moved : NodeHeights m (lowest (given f m)) (highest (given f m))
      moved = record {
        not_below = λ v l. omega (arith, old.not_below v (omega (arith, nodes_kept f m)), ap count (y_kept f m v l));
        not_above = λ v l. omega (arith, old.not_above v (omega (arith, nodes_kept f m)), ap count (y_kept f m v l));
        some_lowest = let (v, l, e) = old.some_lowest in let b : v < nodes m =
            omega (arith, l, nodes_kept f m) in (v, b, omega (arith, e, ap count (y_kept f m v b)));
        some_highest = let (v, l, e) = old.some_highest in let b : v < nodes m =
            omega (arith, l, nodes_kept f m) in (v, b, omega (arith, e, ap count (y_kept f m v b)));
      }

  -- where the table passes, each element's height is in exactly one layer
  pub element_layer : (t : List ℤ) → TableSound t (lowest m) (highest m) → (e : ℕ) → e < elements m
      → OneLayer t (height_of m e)
  unfolding height_of
  element_layer t s e l =
      s.once (height_of m e)
      (omega (arith, low 0 (omega arith), low 1 (omega arith), low 2 (omega arith), low 3 (omega arith)))
      (omega (arith, high 0 (omega arith), high 1 (omega arith), high 2 (omega arith), high 3 (omega arith)))
    where
      low : (i : ℕ) → i < 4 → lowest m ≤ count (y m (corner m e i))
      low i h = heights.not_below (corner m e i) (corner-there e i l h)

      high : (i : ℕ) → i < 4 → count (y m (corner m e i)) ≤ highest m
      high i h = heights.not_above (corner m e i) (corner-there e i l h)

  -- other soils of the mesh can be given as well
  module _ (g : ℕ → ℤ) (ok : (e : ℕ) → e < elements m → at m (soil_place m e) ≡ pos 0
      → Between (pos 1) (pos (soils m)) (g e)) where
    counts_kept : Counts (given g m)
    counts_kept =
        let c = k.counts in
        record {
          nodes_least = omega (arith, c.nodes_least, nodes_kept f m, nodes_kept g m);
          nodes_most = omega (arith, c.nodes_most, nodes_kept f m, nodes_kept g m);
          elements_least = omega (arith, c.elements_least, elements_kept f m, elements_kept g m);
          elements_most = omega (arith, c.elements_most, elements_kept f m, elements_kept g m);
          soils_least = omega (arith, c.soils_least, soils_kept f m, soils_kept g m);
          soils_most = omega (arith, c.soils_most, soils_kept f m, soils_kept g m);
          edges_least = subst (λ (z : ℤ). pos 0 ≤ℤ z)
              (header_kept f m 3 (omega arith) ∙ sym (header_kept g m 3 (omega arith))) c.edges_least;
          edges_most = omega (arith, c.edges_most, edges_kept f m, edges_kept g m);
          sides_listed = subst SidesListed (sides_kept f m ∙ sym (sides_kept g m)) c.sides_listed;
          nodes_fit = subst (λ (n : ℕ). nodes (given g m) ≤ nodes_with n) (sides_kept f m ∙ sym (sides_kept g m))
              (omega (arith, c.nodes_fit, nodes_kept f m, nodes_kept g m));
          jumps_least = subst (λ (z : ℤ). pos 0 ≤ℤ z)
              (header_kept f m 5 (omega arith) ∙ sym (header_kept g m 5 (omega arith))) c.jumps_least;
          jumps_most = omega (arith, c.jumps_most, jumps_kept f m, jumps_kept g m);
        }

    soil_facts : (s : ℕ) → s < soils (given g m) → SoilFacts (given g m) s
    unfolding p q h cohesion soil_kind cohesion_across
    soil_facts s l = record {
      p_range = subst (Between (pos 0) (pos 1000)) (same 0 (omega arith)) old.p_range;
      q_range = subst (Between (pos 1) (pos 1000)) (same 1 (omega arith)) old.q_range;
      h_range = subst (Between (pos 1) (pos 1000)) (same 2 (omega arith)) old.h_range;
      cohesion_range = subst (Between (pos 0) (pos 10000)) (same 3 (omega arith)) old.cohesion_range;
      force_range = λ c b. subst (Between (neg_ℤ (pos 1000)) (pos 1000)) (same (4 + c) (omega arith))
          (old.force_range c b);
      kind_range = subst₂ (λ (n : ℕ) (z : ℤ). Between (pos 0) (pos (kind_with n)) z)
          (sides_kept f m ∙ sym (sides_kept g m)) (same 8 (omega arith)) old.kind_range;
      across_range = subst (Between (pos 0) (pos 10000)) (same 9 (omega arith)) old.across_range;
      right_angle = subst₃ (λ (a b c : ℤ). a *ℤ a +ℤ b *ℤ b ≡ c *ℤ c) (same 0 (omega arith)) (same 1 (omega arith))
          (same 2 (omega arith)) old.right_angle;
    }
      where
        old : SoilFacts (given f m) s
        old = k.soil s (omega (arith, l, soils_kept f m, soils_kept g m))

        same : (c : ℕ) → c < soil_columns → soil_entry (given f m) s c ≡ soil_entry (given g m) s c
        same c b = soil_kept f m s c (omega (arith, l, soils_kept g m)) b
            ∙ sym (soil_kept g m s c (omega (arith, l, soils_kept g m)) b)

    node_facts : (v : ℕ) → v < nodes (given g m) → NodeFacts (given g m) v
    node_facts v l =
        let b : v < nodes m = omega (arith, nodes_kept g m) in
        let old = k.node v (omega (arith, nodes_kept f m)) in
        record {
          x_range = subst (Between (pos 0) (pos 1000)) (x_kept f m v b ∙ sym (x_kept g m v b)) old.x_range;
          y_range = subst (Between (pos 0) (pos 1000)) (y_kept f m v b ∙ sym (y_kept g m v b)) old.y_range;
        }

    -- the soil that an element has: what it had, or what it is given
    has-soil : (e : ℕ) → e < elements m → (pos 1 ≤ℤ soil_number (given g m) e)
        × (count (soil_number (given g m) e) - 1 < soils m)
    unfolding element_soil
    has-soil e l = subst (λ (z : ℤ). (pos 1 ≤ℤ z) × (count z - 1 < soils m)) (sym (soil_number_lem g m e))
        (by (eq_z (at m (soil_place m e)) (pos 0)) (equalℤ (at m (soil_place m e)) (pos 0)))
      where
        old : ElementFacts (given f m) e
        old = k.element e (omega (arith, elements_kept f m))

        by : (b : Bool) → Decides b (at m (soil_place m e) ≡ pos 0)
            → (pos 1 ≤ℤ at (given g m) (soil_place m e)) × (count (at (given g m) (soil_place m e)) - 1 < soils m)
        by true d =
            let z : at m (soil_place m e) ≡ pos 0 = d.holds tt in
            let r = ok e l z in
            let c = count_range (g e) r.least r.most in
            let gives : g e ≡ at (given g m) (soil_place m e) = sym (given_zero g m e l (soil-there e l) z) in (
              subst (λ (a : ℤ). pos 1 ≤ℤ a) gives r.least,
              subst (λ (a : ℤ). count a - 1 < soils m) gives
                  (omega (arith, c.0, c.1)),
            )
        by false d =
            let n : ¬ (at m (soil_place m e) ≡ pos 0) = λ z. d.passes z in
            let same : soil_number (given f m) e ≡ at (given g m) (soil_place m e) = soil_number_lem f m e
            ∙ given_own f m (soil_place m e) n ∙ sym (given_own g m (soil_place m e) n) in (
              subst (λ (a : ℤ). pos 1 ≤ℤ a) same (old.from_one 4 (omega arith)),
              subst (λ (a : ℤ). count a - 1 < soils m) same (omega (arith, old.soil_there, soils_kept f m)),
            )

    element_facts : (e : ℕ) → e < elements (given g m) → ElementFacts (given g m) e
    unfolding element_soil
    element_facts e l = record {
      from_one = λ c b. by c (dec_lt c 4) b;
      corner_there = λ i b. omega (arith, corner-there e i here b, corner_kept g m e i b, nodes_kept g m);
      soil_there = omega (arith, (has-soil e here).1, soils_kept g m);
    }
      where
        here : e < elements m
        here = omega (arith, elements_kept g m)

        by : (c : ℕ) → Dec (c < 4) → c < element_columns → pos 1 ≤ℤ entry (mesh_groups (given g m)) (given g m) 3 e c
        by c (yes d) b = subst (λ (z : ℤ). pos 1 ≤ℤ z) (element_kept f m e c d ∙ sym (element_kept g m e c d))
            ((k.element e (omega (arith, here, elements_kept f m))).from_one c b)
        by c (no d) b = let four : 4 ≡ c = omega arith in subst
            (λ (i : ℕ). pos 1 ≤ℤ entry (mesh_groups (given g m)) (given g m) 3 e i) four (has-soil e here).0

    edge_facts : (i : ℕ) → i < edges (given g m) → EdgeFacts (given g m) i
    unfolding from_node to_node
    edge_facts i l = record {
      from_one = λ c b. subst (λ (z : ℤ). pos 1 ≤ℤ z) (same c) (old.from_one c b);
      from_there = omega (arith, old.from_there, ap (λ (z : ℤ). count z - 1) (same 0), nodes_kept f m, nodes_kept g m);
      to_there = omega (arith, old.to_there, ap (λ (z : ℤ). count z - 1) (same 1), nodes_kept f m, nodes_kept g m);
      fixed_range = subst (Between (pos 1) (pos 3)) (same 2) old.fixed_range;
      load_range = λ c b. subst (Between (neg_ℤ (pos 10000)) (pos 10000)) (same (3 + c)) (old.load_range c b);
    }
      where
        old : EdgeFacts (given f m) i
        old = k.edge i (omega (arith, l, edges_kept f m, edges_kept g m))

        same : (c : ℕ) → edge_entry (given f m) i c ≡ edge_entry (given g m) i c
        same c = edge_kept f m i c ∙ sym (edge_kept g m i c)

    jump_facts : (j : ℕ) → j < jumps (given g m) → JumpFacts (given g m) j
    unfolding jump_from jump_to facing_from facing_to
    jump_facts j l = record {
      from_one = λ c b. subst (λ (z : ℤ). pos 1 ≤ℤ z) (same c) (old.from_one c b);
      from_there = there 0 old.from_there;
      to_there = there 1 old.to_there;
      facing_from_there = there 2 old.facing_from_there;
      facing_to_there = there 3 old.facing_to_there;
    }
      where
        old : JumpFacts (given f m) j
        old = k.jump j (omega (arith, l, jumps_kept f m, jumps_kept g m))

        same : (c : ℕ) → jump_entry (given f m) j c ≡ jump_entry (given g m) j c
        same c = jump_kept f m j c ∙ sym (jump_kept g m j c)

        there : (c : ℕ) → count (jump_entry (given f m) j c) - 1 < nodes (given f m)
            → count (jump_entry (given g m) j c) - 1 < nodes (given g m)
        there c h = omega (arith, h, ap (λ (z : ℤ). count z - 1) (same c), nodes_kept f m, nodes_kept g m)

    pub given_facts : MeshFacts (given g m)
    given_facts = record {
      counts = counts_kept;
      size = omega (
        arith,
        k.size,
        given-length f m,
        given-length g m,
        soils_kept f m,
        soils_kept g m,
        nodes_kept f m,
        nodes_kept g m,
        elements_kept f m,
        elements_kept g m,
        edges_kept f m,
        edges_kept g m,
        jumps_kept f m,
        jumps_kept g m,
      );
      soil = soil_facts;
      node = node_facts;
      element = element_facts;
      edge = edge_facts;
      jump = jump_facts;
    }

-- ---- filled from a table

module _ (t m : List ℤ) where
  pub filled_from_lem : FilledFrom t m (filled t m)
  unfolding filled
  filled_from_lem = record {
    size = given-length soils-at m;
    kept = given_other soils-at m;
    own = λ e l n. soil_number_lem soils-at m e ∙ given_own soils-at m (soil_place m e) (λ z. n (soil_stands m e ∙ z))
        ∙ sym (soil_stands m e);
    layered = λ e l b z o. soil_number_lem soils-at m e ∙ given_zero soils-at m e l b (sym (soil_stands m e) ∙ z)
        ∙ soil-at t (height_of m e) o;
  }
    where
      soils-at : ℕ → ℤ
      soils-at e = soil_at t (height_of m e)

  module _ (k : MeshFacts (with_soils m)) (s : TableSound t (lowest m) (highest m)) where
    -- all that sound lines say holds of the filled mesh, where the table names soils of the mesh
    pub filled_facts : ((i : ℕ) → i < layers t → Between (pos 1) (pos (soils m)) (soil t i)) → MeshFacts (filled t m)
    unfolding filled with_soils
    filled_facts named = given_facts (λ e. pos 1) m k (λ e. soil_at t (height_of m e))
        (λ e l z. let o = element_layer (λ e. pos 1) m k t s e l in subst (Between (pos 1) (pos (soils m)))
        (sym (soil-at t (height_of m e) o)) (named o.layer o.there))

    -- the lines in another order fill the mesh the same way
    pub reordered_filled : {u : List ℤ} → Reordered t u → filled t m ≡ filled u m
    unfolding filled with_soils
    reordered_filled {u} r = given_cong (λ e. soil_at t (height_of m e)) (λ e. soil_at u (height_of m e)) m
        (λ e l. reordered_soil r (height_of m e) (element_layer (λ e. pos 1) m k t s e l))
