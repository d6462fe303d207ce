-- Each test decides its plain statement, by one law for each way of building a test.
use mathlib.Core.Path.{◌≡◌}
use mathlib.Core.Logic.{◌⊎◌, inl, inr}
use mathlib.Core.Bool.{Bool, true, false, cond}
use mathlib.Core.List.{List, [], ◌∷◌}
use Prim.Native.Nat.{ℕ, zero, suc, ◌+◌, ◌-◌, ◌<◌}
use native.Mathlib.Omega.{arith}
use lib.IntN.{ℤ, pos, ◌+ℤ◌, ◌*ℤ◌}
use Rattle.integer.specs.Tests.{eq_z}
use Rattle.scope.specs.Checks.{some_below}
use Rattle.scope.specs.Columns.{Limit, between, one_of, free, is_one_of, within, all_within, Rule, right_angle}
use Rattle.scope.specs.Columns.{naming, parts, at_most_where, names, all_named, at, has_field, has_multipliers, n, l}
use Rattle.scope.specs.Columns.{rule_test}
use Rattle.scope.specs.Mesh.{elements, edges, x, y, corner, corner_count, around, element_soil, from_node, to_node}
use Rattle.scope.specs.Mesh.{jump_from, jump_to, facing_from, facing_to}
use Rattle.scope.specs.Rows as R
use Rattle.scope.specs.Rows.{has_corner, has_soil}
use Rattle.scope.specs.Sums.{row_holds, zero_if_unfixed}
use Rattle.scope.specs.Statements.{OneOf, Within, AllWithin, AllNamed, PartsFit, Says, LeftTurns, SideAt, OwnSides}
use Rattle.scope.specs.Statements.{InElement, IsSide, OuterSide, OuterEdge, FreeSide, SamePoint, Joint, PairsFit}
use Rattle.scope.specs.Statements.{NoneOnUnfixed}
use Rattle.scope.specs.Pairs.{SoilAround}
use Rattle.scope.specs.Meets.{RowMet}
use Rattle.scope.proofs.Meets.{row_holds_lem}
use Rattle.scope.proofs.Decides.{Decides, both, either, opposite, said_as, equal, at_most, equalℤ, at_mostℤ, belowℤ}
use Rattle.scope.proofs.Decides.{some_below_lem, all_below_lem}
use Rattle.scope.specs.Tests.{turn, left_turn_at, left_turns, has_side, own_side_at, own_sides, in_element}
use Rattle.scope.specs.Tests.{outer_side, has_ends, outer_edge, used_by_jump, free_side, same_point, is_joint}
use Rattle.scope.specs.Tests.{pairs_fit}

-- ---- lines

always : Decides true (Unit {0})
always = record { holds = λ t. tt; passes = λ h. tt }

one_of_lem : (zs : List ℤ) (z : ℤ) → Decides (is_one_of zs z) (OneOf zs z)
unfolding is_one_of
one_of_lem [] z = record { holds = λ t. absurd t; passes = λ h. absurd h }
one_of_lem (a ∷ rest) z = either (equalℤ z a) (one_of_lem rest z)

within-limit : (a : Limit) (z : ℤ) → Decides (within a z) (Within a z)
unfolding within
within-limit (between lo hi) z = both (at_mostℤ lo z) (at_mostℤ z hi)
within-limit (one_of zs) z = one_of_lem zs z
within-limit free z = always

pub all_within_lem : (limits : List Limit) (zs : List ℤ) → Decides (all_within limits zs) (AllWithin limits zs)
unfolding all_within
all_within_lem [] zs = always
all_within_lem (a ∷ rest) [] = always
all_within_lem (a ∷ rest) (z ∷ zs) = both (within-limit a z) (all_within_lem rest zs)

all_named_lem : (cs : List (ℕ × ℕ × ℕ)) (line : List ℤ) → Decides (all_named cs line) (AllNamed cs line)
unfolding all_named names
all_named_lem [] line = always
all_named_lem (c ∷ cs) line =
    both (both (at_mostℤ (pos c.1) (at line c.0)) (at_mostℤ (at line c.0) (pos c.2))) (all_named_lem cs line)

choice : {a b c : Bool} {A B C : Type 0} → Decides a A → Decides b B → Decides c C
    → Decides (cond a b c) ((A → B) × (¬ A → C))
choice {a = true} d e f =
    record { holds = λ t. (λ h. e.holds t, λ g. absurd (g (d.holds tt))); passes = λ h. e.passes (h.0 (d.holds tt)) }
choice {a = false} d e f =
    record { holds = λ t. (λ h. absurd (d.passes h), λ g. f.holds t); passes = λ h. f.passes (h.1 (λ a. d.passes a)) }

parts_fit_lem : (line : List ℤ) → Decides (rule_test parts line) (PartsFit line)
unfolding rule_test has_field has_multipliers
parts_fit_lem line =
    said_as
    (both
    (either (equalℤ (at line 0) (pos 1)) (equalℤ (at line 1) (pos 1)))
    (choice (equalℤ (at line 0) (pos 1)) (opposite (equalℤ (n line) (pos 0)))
    (both (equalℤ (n line) (pos 0)) (equalℤ (l line) (pos 0)))))
    (λ h. record { some_part = h.0; with_field = h.1.0; without_field = h.1.1 })
    (λ h. (h.some_part, (h.with_field, h.without_field)))

pub rule_says : (r : Rule) (line : List ℤ) → Decides (rule_test r line) (Says r line)
unfolding rule_test
rule_says right_angle line = equalℤ (at line 0 *ℤ at line 0 +ℤ at line 1 *ℤ at line 1) (at line 2 *ℤ at line 2)
rule_says (naming cs) line = all_named_lem cs line
rule_says parts line = parts_fit_lem line
rule_says (at_most_where c k d z) line =
    said_as (choice (equalℤ (at line d) (pos z)) (at_mostℤ (at line c) (pos k)) always) (λ h. h.0) (λ h. (h, λ g. tt))

-- ---- the mesh

pub left_turns_lem : (m : List ℤ) (e : ℕ) → Decides (left_turns m e) (LeftTurns m e)
unfolding left_turns left_turn_at
left_turns_lem m e = all_below_lem
    (λ i. belowℤ (pos 0) (turn m (around m e (i + (corner_count m e - 1))) (around m e i) (around m e (i + 1))))
    (corner_count m e)

side_of : (m : List ℤ) (a b e : ℕ) → Decides (has_side m a b e) ((i : ℕ) × (i < corner_count m e) × SideAt m a b e i)
unfolding has_side
side_of m a b e = some_below_lem (λ i. both (equal (around m e i) a) (equal (around m e (i + 1)) b)) (corner_count m e)

pub own_sides_lem : (m : List ℤ) (e : ℕ) → Decides (own_sides m e) (OwnSides m e)
unfolding own_sides own_side_at
own_sides_lem m e =
    said_as (all_below_lem (λ i. opposite (some_below_lem (side_of m (around m e i) (around m e (i + 1))) e))
    (corner_count m e))
    (λ h i l d k j r s. h i l (d, k, (j, r, s)))
    (λ h i l s. h i l s.0 s.1 s.2.0 s.2.1 s.2.2)

pub corner_of : (m : List ℤ) (v e : ℕ) → Decides (has_corner m v e) ((i : ℕ) × (i < 4) × (corner m e i ≡ v))
unfolding has_corner
corner_of m v e =
    said_as (either (either (either (equal (corner m e 0) v) (equal (corner m e 1) v)) (equal (corner m e 2) v))
    (equal (corner m e 3) v)) to (λ h. from h.0 h.1 h.2)
  where
    to : (((corner m e 0 ≡ v) ⊎ (corner m e 1 ≡ v)) ⊎ (corner m e 2 ≡ v)) ⊎ (corner m e 3 ≡ v)
        → (i : ℕ) × (i < 4) × (corner m e i ≡ v)
    to (inl (inl (inl h))) = (0, omega arith, h)
    to (inl (inl (inr h))) = (1, omega arith, h)
    to (inl (inr h)) = (2, omega arith, h)
    to (inr h) = (3, omega arith, h)

    from : (i : ℕ) → i < 4 → corner m e i ≡ v → (((corner m e 0 ≡ v) ⊎ (corner m e 1 ≡ v)) ⊎ (corner m e 2 ≡ v))
        ⊎ (corner m e 3 ≡ v)
    from zero l h = inl (inl (inl h))
    from (suc zero) l h = inl (inl (inr h))
    from (suc (suc zero)) l h = inl (inr h)
    from (suc (suc (suc zero))) l h = inr h
    from (suc (suc (suc (suc i)))) l h = absurd (omega arith)

pub in_element_lem : (m : List ℤ) (v : ℕ) → Decides (in_element m v) (InElement m v)
unfolding in_element
in_element_lem m v =
    said_as (some_below_lem (corner_of m v) (elements m))
    (λ h. record { element = h.0; there = h.1; place = h.2.0; four = h.2.1; same = h.2.2 })
    (λ h. (h.element, h.there, (h.place, h.four, h.same)))

is_side_lem : (m : List ℤ) (a b : ℕ) → Decides (some_below (has_side m a b) (elements m)) (IsSide m a b)
is_side_lem m a b =
    said_as (some_below_lem (side_of m a b) (elements m))
    (λ h. record { element = h.0; there = h.1; place = h.2.0; inside = h.2.1; same = h.2.2 })
    (λ h. (h.element, h.there, (h.place, h.inside, h.same)))

pub outer_side_lem : (m : List ℤ) (a b : ℕ) → Decides (outer_side m a b) (OuterSide m a b)
unfolding outer_side
outer_side_lem m a b =
    said_as (both (is_side_lem m a b) (opposite (is_side_lem m b a)))
    (λ h. record { is_side = h.0; reverse_is_none = h.1 })
    (λ h. (h.is_side, h.reverse_is_none))

-- some edge below n has the side from a to b
some_edge : (m : List ℤ) (a b n : ℕ) → Decides (some_below (has_ends m a b) n)
    ((k : ℕ) × (k < n) × ((from_node m k ≡ a) × (to_node m k ≡ b)))
unfolding has_ends
some_edge m a b n = some_below_lem (λ k. both (equal (from_node m k) a) (equal (to_node m k) b)) n

pub outer_edge_lem : (m : List ℤ) (g : ℕ) → Decides (outer_edge m g) (OuterEdge m g)
unfolding outer_edge
outer_edge_lem m g =
    said_as
    (both (outer_side_lem m (from_node m g) (to_node m g)) (opposite (some_edge m (from_node m g) (to_node m g) g)))
    (λ h. record { outer = h.0; is_first = λ k l s. h.1 (k, l, s) })
    (λ h. (h.outer, λ s. h.is_first s.0 s.1 s.2))

free_side_lem : (m : List ℤ) (j a b : ℕ) → Decides (free_side m j a b) (FreeSide m j a b)
unfolding free_side used_by_jump
free_side_lem m j a b =
    said_as
    (both
    (both (outer_side_lem m a b) (opposite (some_edge m a b (edges m))))
    (opposite (some_below_lem (λ k. either (both (equal _ _) (equal _ _)) (both (equal _ _) (equal _ _))) j)))
    (λ h. record { outer = h.0.0; no_edge = λ k l s. h.0.1 (k, l, s); no_earlier_jump = λ k l s. h.1 (k, l, s) })
    (λ h. ((h.outer, λ s. h.no_edge s.0 s.1 s.2), λ s. h.no_earlier_jump s.0 s.1 s.2))

same_point_lem : (m : List ℤ) (a b : ℕ) → Decides (same_point m a b) (SamePoint m a b)
unfolding same_point
same_point_lem m a b = both (equalℤ (x m a) (x m b)) (equalℤ (y m a) (y m b))

pub is_joint_lem : (m : List ℤ) (j : ℕ) → Decides (is_joint m j) (Joint m j)
unfolding is_joint
is_joint_lem m j =
    said_as
    (both
    (both
    (both (free_side_lem m j (jump_from m j) (jump_to m j)) (free_side_lem m j (facing_to m j) (facing_from m j)))
    (same_point_lem m (jump_from m j) (facing_from m j)))
    (same_point_lem m (jump_to m j) (facing_to m j)))
    (λ h. record { side = h.0.0.0; facing = h.0.0.1; at_from = h.0.1; at_to = h.1 })
    (λ h. (((h.side, h.facing), h.at_from), h.at_to))

pub soil-around : (m : List ℤ) (v s : ℕ) → Decides (has_soil m v s) (SoilAround m v s)
unfolding has_soil
soil-around m v s =
    said_as (some_below_lem (λ e. both (corner_of m v e) (equal (element_soil m e) s)) (elements m))
    (λ h. record { element = h.0; there = h.1; has-corner = h.2.0; same = h.2.1 })
    (λ h. (h.element, h.there, (h.has-corner, h.same)))

pub pairs_fit_lem : (m : List ℤ) (v : ℕ) → Decides (pairs_fit m v) (PairsFit m v)
unfolding pairs_fit
pairs_fit_lem m v = at_most _ _

-- ---- the parts

pub row_meets : (s : ℕ → ℤ) (l n : ℤ) (r : R.Row) → Decides (row_holds s l n r) (RowMet s l n r)
row_meets s l n r = record { holds = (row_holds_lem s l n r).0; passes = (row_holds_lem s l n r).1 }

pub none_on_unfixed : (w : ℤ) (r : R.Row) → Decides (zero_if_unfixed w r) (NoneOnUnfixed w r)
unfolding zero_if_unfixed
none_on_unfixed w r = by r.kind
  where
    by : (k : R.Kind) → Decides (elim k [ R.asked ↦ true | R.unfixed ↦ eq_z w (pos 0) | R.strength ↦ true ])
        (elim k [ R.asked ↦ Unit {0} | R.unfixed ↦ w ≡ pos 0 | R.strength ↦ Unit {0} ])
    by R.asked = always
    by R.unfixed = equalℤ w (pos 0)
    by R.strength = always
