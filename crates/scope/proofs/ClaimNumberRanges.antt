-- Sound lines say what each number of a claim is: a number of a group whose columns have one limit is within it, by its
-- line and its column.
use mathlib.Core.Path.{◌≡◌, refl, sym, ◌∙◌, ap, subst, subst₂, subst₃}
use mathlib.Core.Logic.{◌⊎◌, inl, inr}
use mathlib.Core.List.{List}
use Prim.Native.Nat.{ℕ, zero, suc, ◌+◌, ◌*◌, ◌-◌, ◌/◌, ◌%◌, ◌≤◌, ◌<◌}
use native.Mathlib.Nat.{div-add-mod', mod-lt, div-lt_iff_lt-mul}
use native.Mathlib.Decide.{dec_lt}
use native.Mathlib.Omega.{arith}
use lib.IntN.{ℤ, pos, negsuc, neg_ℤ}
use lib.Signed.{◌≤ℤ◌}
use lib.Ieee.Bits.{is_true, is_false}
use lib.ListN.{length, get_or, replicate, length-replicate, get_or-replicate}
use Rattle.integer.proofs.Order.{≤ℤ_pos}
use Rattle.integer.specs.Tests.{eq_z}
use Rattle.integer.proofs.TestLaws.{yes_eq_z, no_eq_z}
use Rattle.scope.specs.Columns.{Limit, between, free, up_to, at, has_field, has_multipliers, n, l}
use Rattle.scope.specs.Layout.{Group, Layout, width, groups, number_count, numbers_before, entry}
use Rattle.scope.specs.Mesh.{strength_multiplier, nodes, elements, edges, sides, jumps, equality_count}
use Rattle.scope.specs.Rows.{pair_count}
use Rattle.scope.specs.Claim.{claim_header, if_there, stress_lines, element_multipliers, edge_multipliers}
use Rattle.scope.specs.Claim.{jump_multipliers, strength_multipliers, claim_layout, stress, multiplier}
use Rattle.scope.specs.Statements.{Within, PartsFit, LinesSound}
use Rattle.scope.specs.NumberRanges.{Between, MeshFacts, ClaimFacts}
use Rattle.scope.proofs.NumberRanges.{some_sides_lem}
use Rattle.scope.proofs.Pairs.{some_pairs}
use Rattle.scope.proofs.Lines.{group, line_in, LineFacts, line_facts, at_line_in}

-- number k of group j, counted from the group's first number
pub flat_within : (f : Layout) (ns : List ℤ) → LinesSound f ns → (j w k : ℕ) (a : Limit)
    → (group (groups f ns) j).limits ≡ replicate w a → 0 < w → k < (group (groups f ns) j).lines * w
    → Within a (at ns (numbers_before (groups f ns) j + k))
unfolding entry
flat_within f ns s j w k a e p l =
    let gs : List Group = groups f ns in
    let same : width (group gs j) ≡ w = ap length e ∙ length-replicate w a in
    let few : k % w < width (group gs j) = subst (λ (b : ℕ). k % w < b) (sym same) (mod-lt k p) in
    let facts : LineFacts gs ns j (k / w) = line_facts f ns s j (k / w) ((div-lt_iff_lt-mul p).1 l)
    (subst (λ (b : ℕ). 0 < b) (sym same) p) in
    let limit : get_or (group gs j).limits (k % w) free ≡ a = ap (λ (as' : List Limit). get_or as' (k % w) free) e
    ∙ get_or-replicate w (k % w) a free (mod-lt k p) in
    let place : numbers_before gs j + k / w * width (group gs j) + k % w ≡ numbers_before gs j + k =
    ap (λ (b : ℕ). numbers_before gs j + k / w * b + k % w) same ∙ omega (arith, div-add-mod' k w) in
    subst₂ (λ (b : Limit) (z : ℕ). Within b (at ns z)) limit place (facts.within (k % w) few)

-- the numbers of a group that has a line are there
pub group_there : (f : Layout) (ns : List ℤ) → LinesSound f ns → (j : ℕ) → 0 < (group (groups f ns) j).lines
    → 0 < width (group (groups f ns) j) → numbers_before (groups f ns) j + (group (groups f ns) j).lines * width
    (group (groups f ns) j) ≤ length ns
group_there f ns s j h w =
    let k : ℕ = (group (groups f ns) j).lines - 1 in
    let e : (group (groups f ns) j).lines ≡ suc k = omega arith in
    subst (λ (i : ℕ). numbers_before (groups f ns) j + i * width (group (groups f ns) j) ≤ length ns) (sym e)
    (omega (arith, (line_facts f ns s j k (omega arith) w).there))

-- ---- a claim

flag : (z : ℤ) → pos 0 ≤ℤ z → z ≤ℤ pos 1 → (z ≡ pos 0) ⊎ (z ≡ pos 1)
flag (pos zero) l h = inl refl
flag (pos (suc zero)) l h = inr refl
flag (pos (suc (suc k))) l h = absurd (omega (arith, ≤ℤ_pos h))
flag (negsuc k) l h = absurd l.le

module _ (m c : List ℤ) (s : LinesSound (claim_layout m) c) where
  header : LineFacts (groups (claim_layout m) c) c 0 0
  unfolding claim_layout groups claim_header
  header = line_facts (claim_layout m) c s 0 0 (omega arith) (omega arith)

  stresses : (j : ℕ) → j < if_there (has_field c) (nodes m) * 3
      → Between (neg_ℤ (pos 1000000000)) (pos 1000000000) (stress m c j)
  unfolding claim_layout groups stress_lines up_to stress
  stresses j h =
      let w = flat_within (claim_layout m) c s 1 3 j (up_to 1000000000) refl (omega arith) h in
      record { least = w.0; most = w.1 }

  element_part : (k : ℕ) → k < if_there (has_multipliers c) (elements m) * 2
      → Between (neg_ℤ (pos 100000)) (pos 100000) (multiplier m c k)
  unfolding claim_layout groups element_multipliers up_to multiplier
  element_part k h =
      let w = flat_within (claim_layout m) c s 2 2 k (up_to 100000) refl (omega arith) h in
      record { least = w.0; most = w.1 }

  edge_part : (k : ℕ) → k < if_there (has_multipliers c) (edges m) * 4
      → Between (neg_ℤ (pos 100000)) (pos 100000) (multiplier m c (if_there (has_multipliers c) (elements m) * 2 + k))
  unfolding claim_layout groups element_multipliers edge_multipliers up_to multiplier numbers_before
  edge_part k h =
      let w = flat_within (claim_layout m) c s 3 4 k (up_to 100000) refl (omega arith) h in
      let e : numbers_before (groups (claim_layout m) c) 3 + k
      ≡ numbers_before (groups (claim_layout m) c) 2 + (if_there (has_multipliers c) (elements m) * 2 + k) =
      omega arith in
      subst (λ (i : ℕ). Between (neg_ℤ (pos 100000)) (pos 100000) (at c i)) e (record { least = w.0; most = w.1 })

  jump_part : (k : ℕ) → k < if_there (has_multipliers c) (jumps m) * 4
      → Between (neg_ℤ (pos 100000)) (pos 100000)
      (multiplier m c (if_there (has_multipliers c) (elements m) * 2 + if_there (has_multipliers c) (edges m) * 4 + k))
  unfolding claim_layout groups element_multipliers edge_multipliers jump_multipliers up_to multiplier numbers_before
  jump_part k h =
      let w = flat_within (claim_layout m) c s 4 4 k (up_to 100000) refl (omega arith) h in
      let e : numbers_before (groups (claim_layout m) c) 4 + k
      ≡ numbers_before (groups (claim_layout m) c)
      2 + (if_there (has_multipliers c) (elements m) * 2 + if_there (has_multipliers c) (edges m) * 4 + k) =
      omega arith in
      subst (λ (i : ℕ). Between (neg_ℤ (pos 100000)) (pos 100000) (at c i)) e (record { least = w.0; most = w.1 })

  strength_part : 0 < sides m → (k : ℕ) → k < if_there (has_multipliers c) (pair_count m) * sides m
      → Between (pos 0) (pos (strength_multiplier (sides m)))
      (multiplier m c (if_there (has_multipliers c) (elements m) * 2 + if_there (has_multipliers c)
      (edges m) * 4 + if_there (has_multipliers c) (jumps m) * 4 + k))
  unfolding claim_layout groups element_multipliers edge_multipliers jump_multipliers strength_multipliers up_to
      multiplier numbers_before
  strength_part p k h =
      let w = flat_within (claim_layout m) c s 5 (sides m) k (between (pos 0) (pos (strength_multiplier (sides m))))
      refl p h in
      let e : numbers_before (groups (claim_layout m) c) 5 + k
      ≡ numbers_before (groups (claim_layout m) c)
      2 + (if_there (has_multipliers c) (elements m) * 2 + if_there (has_multipliers c) (edges m) * 4 + if_there
      (has_multipliers c) (jumps m) * 4 + k) = omega arith in
      subst (λ (i : ℕ). Between (pos 0) (pos (strength_multiplier (sides m))) (at c i)) e
      (record { least = w.0; most = w.1 })

  field_is : at c 0 ≡ pos 1 → if_there (has_field c) (nodes m) ≡ nodes m
  unfolding if_there has_field
  field_is e = rw (is_true (eq_z (at c 0) (pos 1)) (yes_eq_z e))

  part_is : at c 1 ≡ pos 1 → (k : ℕ) → if_there (has_multipliers c) k ≡ k
  unfolding if_there has_multipliers
  part_is e k = rw (is_true (eq_z (at c 1) (pos 1)) (yes_eq_z e))

  part_is_not : ¬ (at c 1 ≡ pos 1) → (k : ℕ) → if_there (has_multipliers c) k ≡ 0
  unfolding if_there has_multipliers
  part_is_not f k = rw (is_false (eq_z (at c 1) (pos 1)) (no_eq_z f))

  parts_fit_lem : PartsFit c
  unfolding claim_layout groups claim_header entry numbers_before n l
  parts_fit_lem =
      let line : List ℤ = line_in (groups (claim_layout m) c) c 0 0 in
      let same : (k : ℕ) → k < 4 → at line k ≡ at c (0 + 0 * 4 + k) =
      λ k h. at_line_in (groups (claim_layout m) c) c 0 0 k h in
      let h : PartsFit line = header.rules.0 in
      record {
        some_part = subst₂ (λ (a b : ℤ). (a ≡ pos 1) ⊎ (b ≡ pos 1)) (same 0 (omega arith))
            (same 1 (omega arith)) h.some_part;
        with_field = subst₂ (λ (a b : ℤ). a ≡ pos 1 → ¬ (b ≡ pos 0)) (same 0 (omega arith))
            (same 2 (omega arith)) h.with_field;
        without_field = subst₃ (λ (a b d : ℤ). ¬ (a ≡ pos 1) → (b ≡ pos 0) × (d ≡ pos 0)) (same 0 (omega arith))
            (same 2 (omega arith)) (same 3 (omega arith)) h.without_field;
      }

  -- all numbers are there: the last group with a line is the multipliers', or else the field's
  abbrev Size : Type 0
  Size = length c ≡ 4 + if_there (has_field c) (nodes m) * 3 + if_there (has_multipliers c) (elements m) * 2 + if_there
      (has_multipliers c) (edges m) * 4 + if_there (has_multipliers c) (jumps m) * 4 + if_there (has_multipliers c)
      (pair_count m) * sides m

  size_with : MeshFacts m → at c 1 ≡ pos 1 → Size
  unfolding claim_layout groups claim_header stress_lines element_multipliers edge_multipliers jump_multipliers
      strength_multipliers numbers_before number_count
  size_with f e =
      let k : numbers_before (groups (claim_layout m) c) 5 + if_there (has_multipliers c) (pair_count m) * width
      (group (groups (claim_layout m) c) 5) ≤ length c =
      group_there (claim_layout m) c s 5 (omega (arith, part_is e (pair_count m), some_pairs m f))
      (omega (
        arith,
        length-replicate (sides m) (between (pos 0) (pos (strength_multiplier (sides m)))),
        some_sides_lem f.counts,
      )) in
      omega (arith, simp length-replicate at k, simp length-replicate at s.none_left)

  size_without : MeshFacts m → ¬ (at c 1 ≡ pos 1) → Size
  unfolding claim_layout groups claim_header stress_lines element_multipliers edge_multipliers jump_multipliers
      strength_multipliers numbers_before number_count
  size_without f e =
      let k : numbers_before (groups (claim_layout m) c) 1 + if_there (has_field c) (nodes m) * 3 ≤ length c =
      group_there (claim_layout m) c s 1 (omega (arith, field_is (only parts_fit_lem), f.counts.nodes_least))
      (omega arith) in
      omega (
        arith,
        k,
        simp length-replicate at s.none_left,
        part_is_not e (elements m),
        part_is_not e (edges m),
        part_is_not e (jumps m),
        ap (λ (i : ℕ). i * sides m) (part_is_not e (pair_count m)),
      )
    where
      only : PartsFit c → at c 0 ≡ pos 1
      only h = by h.some_part
        where
          by : (at c 0 ≡ pos 1) ⊎ (at c 1 ≡ pos 1) → at c 0 ≡ pos 1
          by (inl d) = d
          by (inr d) = absurd (e d)

  pub claim_facts : MeshFacts m → ClaimFacts m c
  unfolding claim_layout groups claim_header entry numbers_before n l up_to
  claim_facts f =
      let w = header.within in
      record {
        field_flag = flag (at c 0) (w 0 (omega arith)).0 (w 0 (omega arith)).1;
        multipliers_flag = flag (at c 1) (w 1 (omega arith)).0 (w 1 (omega arith)).1;
        n_range = record { least = (w 2 (omega arith)).0; most = (w 2 (omega arith)).1 };
        l_range = record { least = (w 3 (omega arith)).0; most = (w 3 (omega arith)).1 };
        parts_fit = parts_fit_lem;
        size = by_flag (flag (at c 1) (w 1 (omega arith)).0 (w 1 (omega arith)).1);
        stress_range = λ e j h. stresses j (omega (arith, field_is e));
        equality_range = λ e k h. equality e k h (dec_lt k (elements m * 2)) (dec_lt k (elements m * 2 + edges m * 4));
        strength_range = λ e k h. strength e k h;
      }
    where
      by_flag : (at c 1 ≡ pos 0) ⊎ (at c 1 ≡ pos 1) → Size
      by_flag (inl e) = size_without f (λ d. let z : ◌≡◌ {A = ℕ} 0 1 = cc in omega arith)
      by_flag (inr e) = size_with f e

      equality : at c 1 ≡ pos 1 → (k : ℕ) → k < equality_count m → Dec (k < elements m * 2)
          → Dec (k < elements m * 2 + edges m * 4) → Between (neg_ℤ (pos 100000)) (pos 100000) (multiplier m c k)
      equality e k h (yes d) b = element_part k (omega (arith, part_is e (elements m)))
      equality e k h (no d) (yes b) =
          subst (λ (i : ℕ). Between (neg_ℤ (pos 100000)) (pos 100000) (multiplier m c i))
          (omega (arith, part_is e (elements m)))
          (edge_part (k - elements m * 2) (omega (arith, part_is e (edges m))))
      equality e k h (no d) (no b) =
          subst (λ (i : ℕ). Between (neg_ℤ (pos 100000)) (pos 100000) (multiplier m c i))
          (omega (arith, part_is e (elements m), part_is e (edges m)))
          (jump_part (k - (elements m * 2 + edges m * 4)) (omega (arith, part_is e (jumps m))))

      strength : at c 1 ≡ pos 1 → (k : ℕ) → k < pair_count m * sides m
          → Between (pos 0) (pos (strength_multiplier (sides m))) (multiplier m c (equality_count m + k))
      strength e k h =
          subst (λ (i : ℕ). Between (pos 0) (pos (strength_multiplier (sides m))) (multiplier m c i))
          (omega (arith, part_is e (elements m), part_is e (edges m), part_is e (jumps m)))
          (strength_part (some_sides_lem f.counts) k
          (subst (λ (i : ℕ). k < i * sides m) (sym (part_is e (pair_count m))) h))
