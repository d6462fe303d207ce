-- A number beyond its column's limit refuses its line, once the lines before it are sound and it has all its numbers;
-- the strength multipliers and the kinds of soils by their groups.
use mathlib.Core.Path.{◌≡◌, ap, subst, subst₂}
use mathlib.Core.Logic.{inl}
use mathlib.Core.List.{List}
use Prim.Native.Nat.{ℕ, suc, ◌+◌, ◌*◌, ◌<◌}
use native.Mathlib.Nat.{mul-le-mul_right}
use native.Mathlib.Omega.{arith}
use lib.IntN.{ℤ, pos}
use lib.Signed.{◌≤ℤ◌, ◌<ℤ◌, <ℤ_irrefl}
use lib.Ieee.Bits.{is_true}
use lib.ListN.{get_or, length-replicate, get_or-replicate}
use Rattle.integer.specs.Tests.{eq_z}
use Rattle.integer.proofs.TestLaws.{yes_eq_z}
use Rattle.integer.proofs.Order.{≤ℤ-<ℤ_trans}
use Rattle.scope.specs.declared.Place.TheVariants.{Line}
use Rattle.scope.specs.Columns.{Limit, between, free, at, has_multipliers}
use Rattle.scope.specs.Layout.{Layout, width, groups, lines_before, numbers_before, entry}
use Rattle.scope.specs.Mesh.{strength_multiplier, kind_with, mesh_header, soil_lines, mesh_layout, layout_with, mesh_groups}
use Rattle.scope.specs.Mesh.{elements, soils, edges, sides, jumps, soil_entry, soil_kind}
use Rattle.scope.specs.Claim.{claim_header, if_there, stress_lines, element_multipliers, edge_multipliers}
use Rattle.scope.specs.Claim.{jump_multipliers, strength_multipliers, claim_layout, multiplier}
use Rattle.scope.specs.Rows.{pair_count}
use Rattle.scope.specs.NumberRanges.{Between}
use Rattle.scope.specs.Statements.{Within, Complete, LinesSound, MeshSound, HasMultipliers}
use Rattle.scope.specs.Refusals.{line_phases, shape_phases, SoundTo, LimitFails, MeshRefusal, Refusal}
use Rattle.scope.specs.SideLimits.{strength_at, strength_line}
use Rattle.scope.proofs.Lines.{group, line_below, line_within}
use Rattle.scope.proofs.Phases.{join_refused}
use Rattle.scope.proofs.RefusalNumbers.{mesh_line_numbers, claim_line_numbers}
use Rattle.scope.proofs.LineRefusals.{line_of_claim}
use Rattle.scope.proofs.NumberRanges.{mesh_facts}
use Rattle.scope.proofs.ClaimNumberRanges.{claim_facts}

pub over_limit : {B : ℕ} {z : ℤ} → pos B <ℤ z → z ≤ℤ pos B → ⊥
over_limit h k = <ℤ_irrefl (≤ℤ-<ℤ_trans k h)

in_limit : {B : ℕ} {z : ℤ} → Within (between (pos 0) (pos B)) z → Between (pos 0) (pos B) z
in_limit w = record { least = w.0; most = w.1 }

-- column c of line i of group j is beyond its limit
limit_fails : (f : Layout) (ns : List ℤ) (j i c : ℕ) → i < (group (groups f ns) j).lines
    → c < width (group (groups f ns) j)
    → ¬ Within (get_or (group (groups f ns) j).limits c free) (entry (groups f ns) ns j i c)
    → SoundTo f ns (lines_before (groups f ns) j + i) → Complete f ns (lines_before (groups f ns) j + i)
    → LimitFails f ns (lines_before (groups f ns) j + i)
limit_fails f ns j i c h l out before whole = record {
  there = line_below (groups f ns) j i h;
  before = before;
  complete = whole;
  fails = λ within. out (line_within f ns j i h whole within c l);
}

module _ (m : List ℤ) where
  -- ---- a soil's kind

  soil_line_is : (s : ℕ) → lines_before (groups mesh_layout m) 1 + s ≡ suc s
  unfolding layout_with groups mesh_header lines_before
  soil_line_is s = omega arith

  pub kind_refused_lem : {most : ℕ} → kind_with (sides m) ≡ most → (s : ℕ) → s < soils m
      → ¬ Between (pos 0) (pos most) (soil_kind m s) → SoundTo mesh_layout m (suc s)
      → Complete mesh_layout m (suc s) → MeshRefusal m 2 (Line (suc (suc s)))
  unfolding layout_with groups mesh_groups soil_lines soil_entry soil_kind
  kind_refused_lem e s h out before whole =
      let fails : LimitFails mesh_layout m (lines_before (groups mesh_layout m) 1 + s) =
      limit_fails mesh_layout m 1 s 8 h (omega arith)
      (λ w. out (subst (λ (k : ℕ). Between (pos 0) (pos k) (soil_kind m s)) e (in_limit w)))
      (rw (soil_line_is s) before) (rw (soil_line_is s) whole) in
      record {
        by = join_refused (line_phases mesh_layout m) (shape_phases m) 2 (Line (suc (suc s)))
            (inl (((mesh_line_numbers m).two (suc s)).1 (inl (rw (soil_line_is s) at fails))).by);
      }

  -- ---- a strength multiplier

  module _ (c : List ℤ) (there : HasMultipliers c) where
    part_is : (k : ℕ) → if_there (has_multipliers c) k ≡ k
    unfolding if_there has_multipliers
    part_is k = rw (is_true (eq_z (at c 1) (pos 1)) (yes_eq_z there))

    line_is : (a : ℕ) → lines_before (groups (claim_layout m) c) 5 + a ≡ strength_line m c a
    unfolding claim_layout groups claim_header stress_lines element_multipliers edge_multipliers jump_multipliers
        lines_before
    line_is a = omega (arith, part_is (elements m), part_is (edges m), part_is (jumps m))

    number_is : (a i : ℕ) → entry (groups (claim_layout m) c) c 5 a i ≡ strength_at m c a i
    unfolding claim_layout groups claim_header stress_lines element_multipliers edge_multipliers jump_multipliers
        strength_multipliers numbers_before entry multiplier
    number_is a i = ap (at c) (omega (
      arith,
      part_is (elements m),
      part_is (edges m),
      part_is (jumps m),
      ap (λ (w : ℕ). a * w) (length-replicate (sides m) (between (pos 0) (pos (strength_multiplier (sides m))))),
    ))

    pub strength_refused_lem : {most : ℕ} → strength_multiplier (sides m) ≡ most → MeshSound m → (a i : ℕ)
        → a < pair_count m → i < sides m → ¬ Between (pos 0) (pos most) (strength_at m c a i)
        → SoundTo (claim_layout m) c (strength_line m c a) → Complete (claim_layout m) c (strength_line m c a)
        → Refusal m c 12 (Line (suc (strength_line m c a)))
    unfolding claim_layout groups strength_multipliers
    strength_refused_lem {most} e sound a i h l out before whole =
        let limit : get_or (group (groups (claim_layout m) c) 5).limits i free ≡ between (pos 0) (pos most) =
        subst (λ (z : ℕ). get_or (group (groups (claim_layout m) c) 5).limits i free ≡ between (pos 0) (pos z)) e
        (get_or-replicate (sides m) i (between (pos 0) (pos (strength_multiplier (sides m)))) free l) in
        let beyond : ¬ Within (get_or (group (groups (claim_layout m) c) 5).limits i free)
        (entry (groups (claim_layout m) c) c 5 a i) =
        λ w. out (in_limit (subst₂ (λ (b : Limit) (z : ℤ). Within b z) limit (number_is a i) w)) in
        let fails : LimitFails (claim_layout m) c (lines_before (groups (claim_layout m) c) 5 + a) =
        limit_fails (claim_layout m) c 5 a i (omega (arith, h, part_is (pair_count m)))
        (omega (arith, l, length-replicate (sides m) (between (pos 0) (pos (strength_multiplier (sides m))))))
        beyond (rw (line_is a) before) (rw (line_is a) whole) in
        line_of_claim sound (((claim_line_numbers m c).twelve (strength_line m c a)).1 (rw (line_is a) at fails))

    pub strength_few_lem : {most : ℕ} → strength_multiplier (sides m) ≡ most → MeshSound m
        → LinesSound (claim_layout m) c → (a i : ℕ) → a < pair_count m → i < sides m
        → Between (pos 0) (pos most) (strength_at m c a i)
    strength_few_lem e sound lines a i h l =
        let facts = claim_facts m c lines (mesh_facts m sound.lines) in
        subst (λ (z : ℕ). Between (pos 0) (pos z) (strength_at m c a i)) e
        (facts.strength_range there (a * sides m + i) (omega (arith, l, mul-le-mul_right (sides m) h)))
