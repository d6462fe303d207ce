-- The limits by number of sides are those of the definitions, by whether there are 108; a header over its limit of
-- nodes fails its limits or its rule.
use mathlib.Core.Path.{◌≡◌, refl, subst}
use mathlib.Core.Logic.{◌↔◌, ◌⊎◌, inl, inr}
use mathlib.Core.Bool.{Bool, true, false, cond}
use mathlib.Core.List.{List, [], ◌∷◌}
use Prim.Native.Nat.{ℕ, suc, ◌≤◌}
use native.Mathlib.Omega.{arith}
use lib.IntN.{ℤ, pos}
use lib.Signed.{◌≤ℤ◌, ◌<ℤ◌}
use lib.Dec.{eqb}
use lib.ListN.{length}
use lib.Seq.{length-take-le}
use borrow.Author.Tests.{ne_eqb}
use Rattle.scope.specs.declared.Place.TheVariants.{Line}
use Rattle.scope.specs.Columns.{Rule, at_most_where, at}
use Rattle.scope.specs.Layout.{groups, line_of, line_numbers, line_count, numbers_at}
use Rattle.scope.specs.Mesh.{most_pairs, most_sides, most_strength, nodes_for_108, pairs_for_108, strength_for_108}
use Rattle.scope.specs.Mesh.{nodes_with, pairs_with, strength_multiplier, mesh_header_columns, mesh_header}
use Rattle.scope.specs.Mesh.{mesh_layout, layout_with, nodes, sides, kind_with, soil_kind}
use Rattle.scope.specs.Rows.{pair_count}
use Rattle.scope.specs.Pairs.{PairsFail}
use Rattle.scope.specs.Statements.{Says, InLimits, RulesHold, PairsFit}
use Rattle.scope.specs.Refusals.{rule_number, line_phases, shape_phases, MeshRefusal}
use Rattle.scope.specs.RefusalTable.{LowestFails}
use Rattle.scope.specs.SideLimits.{SideLimits, LimitsBySides}
use Rattle.scope.proofs.Decides.{Decides}
use Rattle.scope.proofs.Statements.{all_within_lem}
use Rattle.scope.proofs.Phases.{join_refused}
use Rattle.scope.proofs.NumberRanges.{count_is, mesh_facts}
use Rattle.scope.proofs.Pairs.{few_pairs_lem, brings_one_more}
use Rattle.scope.proofs.LimitsRefused.{over_limit, kind_refused_lem, strength_refused_lem, strength_few_lem}

-- ---- the most, whatever the number of sides

at_most_if : {a b : ℕ} → a ≤ b → (is : Bool) → cond is a b ≤ b
at_most_if l true = l
at_most_if l false = omega arith

pub few_most : (k : ℕ) {n : ℕ} → n ≤ pairs_with k → n ≤ most_pairs
unfolding pairs_with
few_most k h = omega (arith, at_most_if {a = pairs_for_108} {b = most_pairs} (omega arith) (eqb k most_sides))

pub strength_most : (k : ℕ) → strength_multiplier k ≤ most_strength
unfolding strength_multiplier
strength_most k = at_most_if {a = strength_for_108} {b = most_strength} (omega arith) (eqb k most_sides)

pub kind_most : (k : ℕ) → kind_with k ≤ 1
unfolding kind_with
kind_most k = at_most_if {a = 0} {b = 1} (omega arith) (eqb k most_sides)

-- ---- refusals and limits, by whether there are 108 sides

-- a header that is there and can't meet both its limits and its rule
header_refused : (m : List ℤ) → mesh_header_columns ≤ length m
    → (InLimits mesh_layout m 0 → RulesHold mesh_layout m 0 → ⊥) → MeshRefusal m 2 (Line 1)
unfolding layout_with groups mesh_header line_of line_numbers line_count rule_number
header_refused m there over = record {
  by = join_refused (line_phases mesh_layout m) (shape_phases m) 2 (Line 1)
      (inl (inl (record {
        here = 0;
        there = omega arith;
        lower = λ j l. absurd (omega arith);
        fails = inr (
          length-take-le mesh_header_columns m there,
          by (all_within_lem mesh_header.limits (numbers_at mesh_layout m 0)),
        );
        called = refl;
      })));
}
  where
    few : Rule
    few = at_most_where 0 nodes_for_108 4 most_sides

    by : {b : Bool} → Decides b (InLimits mesh_layout m 0)
        → ((¬ InLimits mesh_layout m 0) × (◌≡◌ {A = ℕ} 2 2))
        ⊎ (InLimits mesh_layout m 0
        × (((¬ Says few (numbers_at mesh_layout m 0)) × (◌≡◌ {A = ℕ} 2 2))
        ⊎ (Says few (numbers_at mesh_layout m 0) × ⊥)))
    by {b = true} d = inr (d.holds tt, inl (λ s. over (d.holds tt) (s, tt), refl))
    by {b = false} d = inl (λ w. d.passes w, refl)

nodes_over : (m : List ℤ) → at m 4 ≡ pos 108 → mesh_header_columns ≤ length m → pos 40 <ℤ at m 0
    → MeshRefusal m 2 (Line 1)
unfolding layout_with groups mesh_header line_of line_numbers at
nodes_over [] e l h = absurd (omega arith)
nodes_over (a ∷ []) e l h = absurd (omega arith)
nodes_over (a ∷ b ∷ []) e l h = absurd (omega arith)
nodes_over (a ∷ b ∷ c ∷ []) e l h = absurd (omega arith)
nodes_over (a ∷ b ∷ c ∷ d ∷ []) e l h = absurd (omega arith)
nodes_over (a ∷ b ∷ c ∷ d ∷ z ∷ m) e l h = header_refused (a ∷ b ∷ c ∷ d ∷ z ∷ m) l (λ w s. over_limit h (s.0 e))

nodes_over_100 : (m : List ℤ) → mesh_header_columns ≤ length m → pos 100 <ℤ at m 0 → MeshRefusal m 2 (Line 1)
unfolding layout_with groups mesh_header line_of line_numbers at
nodes_over_100 [] l h = absurd (omega arith)
nodes_over_100 (a ∷ m) l h = header_refused (a ∷ m) l (λ w s. over_limit h w.0.1)

module _ (m : List ℤ) {node_most pair_most strength_most kind_most : ℕ} (a : nodes_with (sides m) ≡ node_most)
    (b : pairs_with (sides m) ≡ pair_most) (c : strength_multiplier (sides m) ≡ strength_most)
    (d : kind_with (sides m) ≡ kind_most) where
  limits_are : (mesh_header_columns ≤ length m → pos node_most <ℤ at m 0 → MeshRefusal m 2 (Line 1))
      → SideLimits m node_most pair_most strength_most kind_most
  limits_are refused = record {
    nodes_refused = refused;
    nodes_few = λ s. subst (λ (k : ℕ). nodes m ≤ k) a (mesh_facts m s.lines).counts.nodes_fit;
    brings_one_more = λ v. subst (λ (k : ℕ). LowestFails (nodes m) (PairsFit m) v ↔ PairsFail m k (suc v)) b
        (brings_one_more m v);
    pairs_few = λ s. subst (λ (k : ℕ). pair_count m ≤ k) b (few_pairs_lem m s);
    strength_refused = λ k s h. strength_refused_lem m k h c s;
    strength_few = λ k s lines h. strength_few_lem m k h c s lines;
    kind_refused = kind_refused_lem m d;
    kinds_fit = λ s k l. subst (λ (z : ℕ). soil_kind m k ≤ℤ pos z) d ((mesh_facts m s.lines).soil k l).kind_range.most;
  }

pub limits_by_sides : (m : List ℤ) → LimitsBySides m
unfolding nodes_with pairs_with strength_multiplier kind_with sides
limits_by_sides m = record {
  with_108 = λ e. limits_are m (rw e) (rw e) (rw e) (rw e) (nodes_over m (count_is (at m 4) e));
  with_fewer = λ f. limits_are m (rw (ne_eqb (sides m) 108 f)) (rw (ne_eqb (sides m) 108 f))
      (rw (ne_eqb (sides m) 108 f)) (rw (ne_eqb (sides m) 108 f)) (nodes_over_100 m);
}
