-- Sound lines say what each number of a mesh is: each group's lines, by the law of a layout's lines.
use mathlib.Core.Path.{◌≡◌, ap, subst, subst₂, subst₃}
use mathlib.Core.Logic.{inl, inr}
use mathlib.Core.Bool.{Bool, true, false, cond}
use mathlib.Core.List.{List}
use Prim.Native.Nat.{ℕ, zero, suc, ◌+◌, ◌*◌, ◌-◌, ◌≤◌, ◌<◌}
use native.Mathlib.Decide.{dec_lt}
use native.Mathlib.Omega.{arith}
use lib.Dec.{T, eqb, eqb→eq}
use lib.IntN.{ℤ, pos, negsuc, ◌+ℤ◌, ◌*ℤ◌, neg_ℤ}
use lib.Signed.{◌≤ℤ◌}
use lib.ListN.{length, get_or}
use Rattle.integer.proofs.Order.{≤ℤ_pos}
use Rattle.scope.specs.Columns.{one_of, free, up_to, at}
use Rattle.scope.specs.Layout.{width, groups, line_count, number_count, lines_before, numbers_before, count, entry}
use Rattle.scope.specs.Polygon.{SidesListed}
use Rattle.scope.specs.Mesh.{most_nodes, most_sides, listed_sides, nodes_for_108, nodes_with, mesh_header, soil_lines}
use Rattle.scope.specs.Mesh.{node_lines, element_lines, edge_lines, jump_lines, mesh_layout, layout_with, mesh_groups, nodes}
use Rattle.scope.specs.Mesh.{elements, soils, edges, sides, jumps, p, q, h, cohesion, soil_entry, x, y, corner}
use Rattle.scope.specs.Mesh.{element_soil, edge_entry, from_node, to_node, jump_entry, jump_from, jump_to}
use Rattle.scope.specs.Mesh.{facing_from, facing_to, soil_kind, cohesion_across}
use Rattle.scope.specs.Statements.{Within, LineSound, LinesSound}
use Rattle.scope.specs.NumberRanges.{Between, Counts, SoilFacts, NodeFacts, ElementFacts, EdgeFacts, JumpFacts}
use Rattle.scope.specs.NumberRanges.{MeshFacts}
use Rattle.scope.proofs.PolygonRule.{listed_polygon}
use Rattle.scope.proofs.Lines.{group, line_in, LineFacts, line_facts_of, line_facts, at_line_in}

-- ---- counts

pub count_range : (z : ℤ) {a b : ℕ} → pos a ≤ℤ z → z ≤ℤ pos b → (a ≤ count z) × (count z ≤ b)
unfolding count
count_range (pos k) l h = (≤ℤ_pos l, ≤ℤ_pos h)
count_range (negsuc k) l h = absurd l.le

-- a number that names one of k things, counted from 0
named : (z : ℤ) (k : ℕ) → pos 1 ≤ℤ z → z ≤ℤ pos k → count z - 1 < k
named z k l h = let r : (1 ≤ count z) × (count z ≤ k) = count_range z l h in omega (arith, r.0, r.1)

-- a count above 0 is the number itself
pub count_is : (z : ℤ) {k : ℕ} → count z ≡ suc k → z ≡ pos (suc k)
unfolding count
count_is (pos n) e = ap pos e
count_is (negsuc n) e = absurd (omega arith)

-- v nodes with z sides
nodes_fit : (v z : ℤ) → pos 4 ≤ℤ v → v ≤ℤ pos most_nodes → (z ≡ pos most_sides → v ≤ℤ pos nodes_for_108)
    → count v ≤ nodes_with (count z)
unfolding nodes_with
nodes_fit v z least most few = by (eqb (count z) most_sides) (eqb→eq (count z) most_sides)
  where
    by : (b : Bool) → (T b → count z ≡ most_sides) → count v ≤ cond b nodes_for_108 most_nodes
    by true e = (count_range v least (few (count_is z (e tt)))).1
    by false e = (count_range v least most).1

-- a sound header is enough for the counts
pub header_counts : (m : List ℤ) → LineSound mesh_layout m 0 → Counts m
unfolding layout_with groups mesh_header entry lines_before numbers_before nodes elements soils edges sides jumps count
header_counts m s =
    let facts = line_facts_of mesh_layout m 0 0 s (omega arith) (omega arith) in
    let w = facts.within in
    let few : at m 4 ≡ pos most_sides → at m 0 ≤ℤ pos nodes_for_108 =
    subst₂ (λ (z v : ℤ). z ≡ pos most_sides → v ≤ℤ pos nodes_for_108)
    (at_line_in (groups mesh_layout m) m 0 0 4 (omega arith))
    (at_line_in (groups mesh_layout m) m 0 0 0 (omega arith)) facts.rules.0 in
    let ns : (4 ≤ nodes m) × (nodes m ≤ 100) = count_range (at m 0) (w 0 (omega arith)).0 (w 0 (omega arith)).1 in
    let es : (1 ≤ elements m) × (elements m ≤ 100) = count_range (at m 1) (w 1 (omega arith)).0 (w 1 (omega arith)).1 in
    let ss : (1 ≤ soils m) × (soils m ≤ 16) = count_range (at m 2) (w 2 (omega arith)).0 (w 2 (omega arith)).1 in
    let gs : (0 ≤ edges m) × (edges m ≤ 60) = count_range (at m 3) (w 3 (omega arith)).0 (w 3 (omega arith)).1 in
    let js : (0 ≤ jumps m) × (jumps m ≤ 60) = count_range (at m 5) (w 5 (omega arith)).0 (w 5 (omega arith)).1 in
    record {
      nodes_least = ns.0;
      nodes_most = ns.1;
      elements_least = es.0;
      elements_most = es.1;
      soils_least = ss.0;
      soils_most = ss.1;
      edges_least = (w 3 (omega arith)).0;
      edges_most = gs.1;
      sides_listed = listed (at m 4) (w 4 (omega arith));
      nodes_fit = nodes_fit (at m 0) (at m 4) (w 0 (omega arith)).0 (w 0 (omega arith)).1 few;
      jumps_least = (w 5 (omega arith)).0;
      jumps_most = js.1;
    }
  where
    listed : (z : ℤ) → Within (one_of listed_sides) z → SidesListed (count z)
    listed z (inl e) = inl (ap count e)
    listed z (inr (inl e)) = inr (inl (ap count e))
    listed z (inr (inr (inl e))) = inr (inr (inl (ap count e)))
    listed z (inr (inr (inr (inl e)))) = inr (inr (inr (ap count e)))
    listed z (inr (inr (inr (inr e)))) = absurd e

-- a polygon has sides
pub some_sides_lem : {m : List ℤ} → Counts m → 0 < sides m
some_sides_lem {m} c = (listed_polygon (sides m) c.sides_listed).fits.some_sides

module _ (m : List ℤ) (s : LinesSound mesh_layout m) where
  pub counts : Counts m
  unfolding layout_with groups mesh_header line_count
  counts = header_counts m (s.lines 0 (omega arith))

  soil_facts : (k : ℕ) → k < soils m → SoilFacts m k
  unfolding layout_with groups mesh_groups mesh_header soil_lines up_to soil_entry p q h cohesion soil_kind
      cohesion_across
  soil_facts k l =
      let f : LineFacts (groups mesh_layout m) m 1 k = line_facts mesh_layout m s 1 k l (omega arith) in
      let w = f.within in
      record {
        p_range = record { least = (w 0 (omega arith)).0; most = (w 0 (omega arith)).1 };
        q_range = record { least = (w 1 (omega arith)).0; most = (w 1 (omega arith)).1 };
        h_range = record { least = (w 2 (omega arith)).0; most = (w 2 (omega arith)).1 };
        cohesion_range = record { least = (w 3 (omega arith)).0; most = (w 3 (omega arith)).1 };
        force_range = λ c h. force c h (w (4 + c) (omega arith));
        kind_range = record { least = (w 8 (omega arith)).0; most = (w 8 (omega arith)).1 };
        across_range = record { least = (w 9 (omega arith)).0; most = (w 9 (omega arith)).1 };
        right_angle =
            subst₃ (λ (a b c : ℤ). a *ℤ a +ℤ b *ℤ b ≡ c *ℤ c)
            (at_line_in (groups mesh_layout m) m 1 k 0 (omega arith))
            (at_line_in (groups mesh_layout m) m 1 k 1 (omega arith))
            (at_line_in (groups mesh_layout m) m 1 k 2 (omega arith))
            f.rules.0;
      }
    where
      force : (c : ℕ) → c < 4 → Within (get_or (soil_lines (soils m) (sides m)).limits (4 + c) free)
          (soil_entry m k (4 + c)) → Between (neg_ℤ (pos 1000)) (pos 1000) (soil_entry m k (4 + c))
      force zero h w = record { least = w.0; most = w.1 }
      force (suc zero) h w = record { least = w.0; most = w.1 }
      force (suc (suc zero)) h w = record { least = w.0; most = w.1 }
      force (suc (suc (suc zero))) h w = record { least = w.0; most = w.1 }
      force (suc (suc (suc (suc c)))) h w = absurd (omega arith)

  node_facts : (v : ℕ) → v < nodes m → NodeFacts m v
  unfolding layout_with groups mesh_groups mesh_header soil_lines node_lines x y
  node_facts v l =
      let w = (line_facts mesh_layout m s 2 v l (omega arith)).within in
      record {
        x_range = record { least = (w 0 (omega arith)).0; most = (w 0 (omega arith)).1 };
        y_range = record { least = (w 1 (omega arith)).0; most = (w 1 (omega arith)).1 };
      }

  -- column c of line i of group j names one of k things
  abbrev Names : ℕ → ℕ → ℕ → ℕ → Type 0
  Names j i c k = count (entry (groups mesh_layout m) m j i c) - 1 < k

  names : (j i c k : ℕ) → c < width (group (groups mesh_layout m) j)
      → (pos 1 ≤ℤ at (line_in (groups mesh_layout m) m j i) c) × (at (line_in (groups mesh_layout m) m j i) c ≤ℤ pos k)
      → Names j i c k
  names j i c k l r =
      subst (λ (z : ℤ). count z - 1 < k) (at_line_in (groups mesh_layout m) m j i c l)
      (named (at (line_in (groups mesh_layout m) m j i) c) k r.0 r.1)

  -- column c of line i of group j counts from 1
  abbrev FromOne : ℕ → ℕ → ℕ → Type 0
  FromOne j i c = pos 1 ≤ℤ entry (groups mesh_layout m) m j i c

  from_one_lem : (j i c : ℕ) → c < width (group (groups mesh_layout m) j)
      → pos 1 ≤ℤ at (line_in (groups mesh_layout m) m j i) c → FromOne j i c
  from_one_lem j i c l h = subst (λ (z : ℤ). pos 1 ≤ℤ z) (at_line_in (groups mesh_layout m) m j i c l) h

  element_facts : (e : ℕ) → e < elements m → ElementFacts m e
  unfolding layout_with groups mesh_groups mesh_header soil_lines node_lines element_lines corner element_soil
  element_facts e l =
      let r = (line_facts mesh_layout m s 3 e l (omega arith)).rules.0 in
      record {
        from_one = λ c h. five c h (from_one_lem 3 e 0 (omega arith) r.0.0) (from_one_lem 3 e 1 (omega arith) r.1.0.0)
            (from_one_lem 3 e 2 (omega arith) r.1.1.0.0) (from_one_lem 3 e 3 (omega arith) r.1.1.1.0.0)
            (from_one_lem 3 e 4 (omega arith) r.1.1.1.1.0.0);
        corner_there = λ i h. four i h (names 3 e 0 (nodes m) (omega arith) r.0)
            (names 3 e 1 (nodes m) (omega arith) r.1.0) (names 3 e 2 (nodes m) (omega arith) r.1.1.0)
            (names 3 e 3 (nodes m) (omega arith) r.1.1.1.0);
        soil_there = names 3 e 4 (soils m) (omega arith) r.1.1.1.1.0;
      }
    where
      five : (c : ℕ) → c < 5 → FromOne 3 e 0 → FromOne 3 e 1 → FromOne 3 e 2 → FromOne 3 e 3 → FromOne 3 e 4
          → FromOne 3 e c
      five zero h a b c d f = a
      five (suc zero) h a b c d f = b
      five (suc (suc zero)) h a b c d f = c
      five (suc (suc (suc zero))) h a b c d f = d
      five (suc (suc (suc (suc zero)))) h a b c d f = f
      five (suc (suc (suc (suc (suc k))))) h a b c d f = absurd (omega arith)

      four : (i : ℕ) → i < 4 → corner m e 0 < nodes m → corner m e 1 < nodes m → corner m e 2 < nodes m
          → corner m e 3 < nodes m → corner m e i < nodes m
      four zero h a b c d = a
      four (suc zero) h a b c d = b
      four (suc (suc zero)) h a b c d = c
      four (suc (suc (suc zero))) h a b c d = d
      four (suc (suc (suc (suc i)))) h a b c d = absurd (omega arith)

  edge_facts : (g : ℕ) → g < edges m → EdgeFacts m g
  unfolding layout_with groups mesh_groups mesh_header soil_lines node_lines element_lines edge_lines up_to edge_entry
      from_node to_node
  edge_facts g l =
      let f : LineFacts (groups mesh_layout m) m 4 g = line_facts mesh_layout m s 4 g l (omega arith) in
      let w = f.within in
      record {
        from_one = λ c h. two c h (from_one_lem 4 g 0 (omega arith) f.rules.0.0.0)
            (from_one_lem 4 g 1 (omega arith) f.rules.0.1.0.0);
        from_there = names 4 g 0 (nodes m) (omega arith) f.rules.0.0;
        to_there = names 4 g 1 (nodes m) (omega arith) f.rules.0.1.0;
        fixed_range = record { least = (w 2 (omega arith)).0; most = (w 2 (omega arith)).1 };
        load_range = λ c h. load c h (w (3 + c) (omega arith));
      }
    where
      two : (c : ℕ) → c < 2 → FromOne 4 g 0 → FromOne 4 g 1 → FromOne 4 g c
      two zero h a b = a
      two (suc zero) h a b = b
      two (suc (suc c)) h a b = absurd (omega arith)

      load : (c : ℕ) → c < 4 → Within (get_or (edge_lines (edges m) (nodes m)).limits (3 + c) free)
          (edge_entry m g (3 + c)) → Between (neg_ℤ (pos 10000)) (pos 10000) (edge_entry m g (3 + c))
      load zero h w = record { least = w.0; most = w.1 }
      load (suc zero) h w = record { least = w.0; most = w.1 }
      load (suc (suc zero)) h w = record { least = w.0; most = w.1 }
      load (suc (suc (suc zero))) h w = record { least = w.0; most = w.1 }
      load (suc (suc (suc (suc c)))) h w = absurd (omega arith)

  jump_facts : (j : ℕ) → j < jumps m → JumpFacts m j
  unfolding layout_with groups mesh_groups mesh_header soil_lines node_lines element_lines edge_lines jump_lines
      jump_entry jump_from jump_to facing_from facing_to
  jump_facts j l =
      let r = (line_facts mesh_layout m s 5 j l (omega arith)).rules.0 in
      record {
        from_one = λ c h. four c h (from_one_lem 5 j 0 (omega arith) r.0.0) (from_one_lem 5 j 1 (omega arith) r.1.0.0)
            (from_one_lem 5 j 2 (omega arith) r.1.1.0.0) (from_one_lem 5 j 3 (omega arith) r.1.1.1.0.0);
        from_there = names 5 j 0 (nodes m) (omega arith) r.0;
        to_there = names 5 j 1 (nodes m) (omega arith) r.1.0;
        facing_from_there = names 5 j 2 (nodes m) (omega arith) r.1.1.0;
        facing_to_there = names 5 j 3 (nodes m) (omega arith) r.1.1.1.0;
      }
    where
      four : (c : ℕ) → c < 4 → FromOne 5 j 0 → FromOne 5 j 1 → FromOne 5 j 2 → FromOne 5 j 3 → FromOne 5 j c
      four zero h a b c d = a
      four (suc zero) h a b c d = b
      four (suc (suc zero)) h a b c d = c
      four (suc (suc (suc zero))) h a b c d = d
      four (suc (suc (suc (suc k)))) h a b c d = absurd (omega arith)

  -- the last line is there, whether it is an element's, an edge's or a jump's
  last_element : 6 + soils m * 10 + nodes m * 2 + elements m * 5 ≤ length m
  unfolding layout_with groups mesh_header soil_lines node_lines element_lines numbers_before
  last_element =
      let c : Counts m = counts in
      omega (
        arith,
        c.elements_least,
        (line_facts mesh_layout m s 3 (elements m - 1) (omega (arith, c.elements_least)) (omega arith)).there,
      )

  last_edge : 0 < edges m → 6 + soils m * 10 + nodes m * 2 + elements m * 5 + edges m * 7 ≤ length m
  unfolding layout_with groups mesh_header soil_lines node_lines element_lines edge_lines numbers_before
  last_edge h = omega (arith, (line_facts mesh_layout m s 4 (edges m - 1) (omega arith) (omega arith)).there)

  last_jump : 0 < jumps m → 6 + soils m * 10 + nodes m * 2 + elements m * 5 + edges m * 7 + jumps m * 4 ≤ length m
  unfolding layout_with groups mesh_header soil_lines node_lines element_lines edge_lines jump_lines numbers_before
  last_jump h = omega (arith, (line_facts mesh_layout m s 5 (jumps m - 1) (omega arith) (omega arith)).there)

  size : length m ≡ 6 + soils m * 10 + nodes m * 2 + elements m * 5 + edges m * 7 + jumps m * 4
  unfolding layout_with groups mesh_header soil_lines node_lines element_lines edge_lines jump_lines number_count
  size = by (dec_lt 0 (edges m)) (dec_lt 0 (jumps m))
    where
      by : Dec (0 < edges m) → Dec (0 < jumps m)
          → length m ≡ 6 + soils m * 10 + nodes m * 2 + elements m * 5 + edges m * 7 + jumps m * 4
      by h (yes j) = omega (arith, s.none_left, last_jump j)
      by (yes h) (no j) = omega (arith, s.none_left, last_edge h)
      by (no h) (no j) = omega (arith, s.none_left, last_element)

  pub mesh_facts : MeshFacts m
  mesh_facts = record {
    counts = counts;
    size = size;
    soil = soil_facts;
    node = node_facts;
    element = element_facts;
    edge = edge_facts;
    jump = jump_facts;
  }
