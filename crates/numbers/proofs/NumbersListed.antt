-- A refusal's number is in the table, and 13 and 33 have one place each: phase by phase. Only a claim's header has the
-- rule of 13, and it is line 1.
use mathlib.Core.Path.{◌≡◌, refl, subst}
use mathlib.Core.Logic.{◌⊎◌, inl, inr}
use mathlib.Core.Bool.{Bool, true, false}
use mathlib.Core.List.Memᴰ
use mathlib.Core.List.{List, [], ◌∷◌, ◌++◌}
use Prim.Native.Nat.{ℕ, zero, suc, ◌-◌, ◌+◌, ◌*◌}
use native.Mathlib.Omega.{arith}
use lib.Dec.{ltb}
use lib.IntN.{ℤ}
use borrow.Author.Tests.{ltb-true}
use Rattle.scope.specs.declared.Place.{Place}
use Rattle.scope.specs.declared.Place.TheVariants.{Line, Row, Column, Node, Element}
use Rattle.integer.specs.Members.{◌∈◌}
use Rattle.scope.specs.Answer.{place_number}
use Rattle.scope.specs.Columns.{Rule, right_angle, naming, at_most_where, has_field, has_multipliers}
use Rattle.scope.specs.Layout.{Group, Layout, Placed, width, groups, line_count, line_of, numbers_at, group_at}
use Rattle.scope.specs.Mesh.{most_sides, nodes_for_108, edge_line, jump_line, mesh_header, mesh_layout, layout_with, soil_lines}
use Rattle.scope.specs.Mesh.{node_lines, element_lines, edge_lines, jump_lines}
use Rattle.scope.specs.Claim.{claim_header, claim_layout, stress_lines, element_multipliers, edge_multipliers}
use Rattle.scope.specs.Claim.{jump_multipliers, strength_multipliers}
use Rattle.scope.specs.Phases.{FirstFails}
use Rattle.scope.specs.Refusals.{rule_number, rule_steps, line_steps, line_phases, shape_phases, mesh_phases}
use Rattle.scope.specs.Refusals.{field_part, multiplier_part, part_phases, claim_phases, Refusal}
use Rattle.scope.proofs.Phases.{EachIn, each_refusal, each_join, each_part, own_number}
use Rattle.scope.proofs.RefusalNumbers.{number_listed}
use Rattle.numbers.specs.Promises.{returned_numbers}

-- ---- one number

-- "13, line 1"; "33, column 0"
abbrev InItsPlace : ℕ → Place → Type 0
InItsPlace k p = (k ≡ 13 → place_number p ≡ 1) × (k ≡ 33 → place_number p ≡ 0)

-- a number that is neither 13 nor 33 has any place
plain : (k : ℕ) (p : Place) → ¬ (k ≡ 13) → ¬ (k ≡ 33) → InItsPlace k p
plain k p a b = (λ e. absurd (a e), λ e. absurd (b e))

-- a phase of one step refuses with its own number
own : {number c : ℕ} (p : Place) {H : Type 0} → InItsPlace number p → ((¬ H) × (number ≡ c)) ⊎ (H × ⊥) → InItsPlace c p
own p q r = subst (λ i. InItsPlace i p) (own_number refl r) q

-- ---- lines

abbrev RulesInPlace : List Rule → Place → Type 0
RulesInPlace [] p = Unit {0}
RulesInPlace (r ∷ rs) p = InItsPlace (rule_number r) p × RulesInPlace rs p

rule_placed : (rs : List Rule) (line : List ℤ) (c : ℕ) (p : Place) → RulesInPlace rs p
    → FirstFails (rule_steps rs line) c → InItsPlace c p
rule_placed [] line c p q h = absurd h
rule_placed (r ∷ rs) line c p q (inl h) = subst (λ i. InItsPlace i p) h.1 q.0
rule_placed (r ∷ rs) line c p q (inr h) = rule_placed rs line c p q.1 h.1

line_placed : (f : Layout) (ns : List ℤ) → ((p : Place) → InItsPlace f.form_number p)
    → ((p : Place) → InItsPlace f.limit_number p)
    → ((k : ℕ) → RulesInPlace (group_at f ns k).rules (Line (suc k))) → EachIn InItsPlace (line_phases f ns)
line_placed f ns a b rules = (
  λ k c h l r. step k c r,
  λ e. (
    λ k c h l r. own (Line (suc (line_count (groups f ns)))) (a (Line (suc (line_count (groups f ns))))) r,
    λ i. tt,
  ),
)
  where
    step : (k c : ℕ) → FirstFails (line_steps f (group_at f ns k) (numbers_at f ns k)) c → InItsPlace c (Line (suc k))
    step k c (inl h) = subst (λ i. InItsPlace i (Line (suc k))) h.1 (a (Line (suc k)))
    step k c (inr (x, inl h)) = subst (λ i. InItsPlace i (Line (suc k))) h.1 (b (Line (suc k)))
    step k c (inr (x, inr (y, h))) = rule_placed (group_at f ns k).rules (numbers_at f ns k) c (Line (suc k))
        (rules k) h

-- what holds of the rules of each group, and of none, holds of the rules of each line
abbrev EachGroup : (List Rule → Type 0) → List Group → Type 0
EachGroup P [] = Unit {0}
EachGroup P (g ∷ gs) = P g.rules × EachGroup P gs

abbrev placed : Group → ℕ → Placed
placed g first = record { group = g; first = first }

abbrev chosen : Bool → Placed → Placed → Placed
chosen b x y = elim b [ true ↦ x | false ↦ y ]

each_line : (P : List Rule → Type 0) (gs : List Group) → P [] → EachGroup P gs → (from k : ℕ)
    → P (line_of from gs k).group.rules
unfolding line_of
each_line P [] none all from k = none
each_line P (g ∷ gs) none all from k =
    by (ltb k g.lines) (each_line P gs none all.1 (from + g.lines * width g) (k - g.lines))
  where
    by : (b : Bool) → P (line_of (from + g.lines * width g) gs (k - g.lines)).group.rules
        → P (chosen b (placed g (from + k * width g)) (line_of (from + g.lines * width g) gs (k - g.lines))).group.rules
    by true rest = all.0
    by false rest = rest

mesh_rules : (m : List ℤ) (k : ℕ) → RulesInPlace (group_at mesh_layout m k).rules (Line (suc k))
unfolding groups layout_with mesh_header soil_lines node_lines element_lines edge_lines jump_lines rule_number
mesh_rules m k =
    let two : RulesInPlace (at_most_where 0 nodes_for_108 4 most_sides ∷ []) (Line (suc k)) =
    (plain 2 (Line (suc k)) (λ e. omega arith) (λ e. omega arith), tt) in
    let three : RulesInPlace (right_angle ∷ []) (Line (suc k)) =
    (plain 3 (Line (suc k)) (λ e. omega arith) (λ e. omega arith), tt) in
    let four : (cs : List (ℕ × ℕ × ℕ)) → RulesInPlace (naming cs ∷ []) (Line (suc k)) =
    λ cs. (plain 4 (Line (suc k)) (λ e. omega arith) (λ e. omega arith), tt) in
    each_line (λ rs. RulesInPlace rs (Line (suc k))) (groups mesh_layout m) tt
    (two, (three, (tt, (four [], (four [], (four [], tt)))))) 0 k

claim_rules : (m c : List ℤ) (k : ℕ) → RulesInPlace (group_at (claim_layout m) c k).rules (Line (suc k))
unfolding groups line_of claim_layout claim_header stress_lines element_multipliers edge_multipliers jump_multipliers
    strength_multipliers rule_number
claim_rules m c zero = ((λ e. refl, λ e. absurd (omega arith)), tt)
claim_rules m c (suc k) = by (ltb (suc k) 1) refl
  where
    by : (b : Bool) → ltb (suc k) 1 ≡ b
        → RulesInPlace (chosen b (placed claim_header (0 + suc k * width claim_header))
        (line_of (0 + 1 * width claim_header) ((claim_layout m).body c) (suc k - 1))).group.rules
        (Line (suc (suc k)))
    by true e = absurd (omega (arith, ltb-true (suc k) 1 e))
    by false e = each_line (λ rs. RulesInPlace rs (Line (suc (suc k)))) ((claim_layout m).body c) tt
        (tt, (tt, (tt, (tt, (tt, tt))))) (0 + 1 * width claim_header) (suc k - 1)

-- ---- all phases

mesh_placed : (m : List ℤ) → EachIn InItsPlace (mesh_phases m)
unfolding layout_with
mesh_placed m =
    each_join InItsPlace (line_phases mesh_layout m) (shape_phases m)
    (line_placed mesh_layout m (λ p. plain 1 p (λ e. omega arith) (λ e. omega arith))
    (λ p. plain 2 p (λ e. omega arith) (λ e. omega arith)) (mesh_rules m))
    (λ a. (
      λ k c h l r. own (Element (suc k)) (plain 5 (Element (suc k)) (λ e. omega arith) (λ e. omega arith)) r,
      λ e. (
        λ k c h l r. own (Element (suc k)) (plain 6 (Element (suc k)) (λ e. omega arith) (λ e. omega arith)) r,
        λ e. (
          λ k c h l r. own (Node (suc k)) (plain 7 (Node (suc k)) (λ e. omega arith) (λ e. omega arith)) r,
          λ e. (
            λ k c h l r. own (Element (suc k)) (plain 47 (Element (suc k)) (λ e. omega arith) (λ e. omega arith)) r,
            λ e. (
              λ k c h l r. own (Line (suc (edge_line m k)))
                  (plain 8 (Line (suc (edge_line m k))) (λ e. omega arith) (λ e. omega arith)) r,
              λ e. (
                λ k c h l r. own (Line (suc (jump_line m k)))
                    (plain 44 (Line (suc (jump_line m k))) (λ e. omega arith) (λ e. omega arith)) r,
                λ e. (
                  λ k c h l r. own (Node (suc k)) (plain 42 (Node (suc k)) (λ e. omega arith) (λ e. omega arith))
                      r,
                  λ i. tt,
                ),
              ),
            ),
          ),
        ),
      ),
    ))

field_placed : (m c : List ℤ) → EachIn InItsPlace (field_part m c)
field_placed m c = each_part InItsPlace (has_field c) _ (
  λ k c h l r. own (Row (suc k)) (plain 21 (Row (suc k)) (λ e. omega arith) (λ e. omega arith)) r,
  λ e. (λ k c h l r. own (Row (suc k)) (plain 22 (Row (suc k)) (λ e. omega arith) (λ e. omega arith)) r, λ i. tt),
)

multipliers_placed : (m c : List ℤ) → EachIn InItsPlace (multiplier_part m c)
multipliers_placed m c = each_part InItsPlace (has_multipliers c) _ (
  λ k c h l r. own (Row (suc k)) (plain 31 (Row (suc k)) (λ e. omega arith) (λ e. omega arith)) r,
  λ e. (
    λ k c h l r. own (Column (suc k)) (plain 32 (Column (suc k)) (λ e. omega arith) (λ e. omega arith)) r,
    λ e. (λ k c h l r. own (Column 0) (λ e. absurd (omega arith), λ e. refl) r, λ i. tt),
  ),
)

-- the number is in the table by scope's theorem, and 13 and 33 have their places
pub refusal_listed : {m c : List ℤ} {k : ℕ} {p : Place} → Refusal m c k p → (k ∈ returned_numbers) × InItsPlace k p
unfolding claim_layout
refusal_listed {m} {c} {k} {p} r = (
  Memᴰ.tail (number_listed m c k p r),
  each_refusal InItsPlace (mesh_phases m ++ claim_phases m c) all r.by,
)
  where
    all : EachIn InItsPlace (mesh_phases m ++ claim_phases m c)
    all =
        each_join InItsPlace (mesh_phases m) (claim_phases m c) (mesh_placed m) (λ a.
        each_join InItsPlace (line_phases (claim_layout m) c) (part_phases m c)
        (line_placed (claim_layout m) c (λ p. plain 11 p (λ e. omega arith) (λ e. omega arith))
        (λ p. plain 12 p (λ e. omega arith) (λ e. omega arith)) (claim_rules m c))
        (λ b. each_join InItsPlace (field_part m c) (multiplier_part m c) (field_placed m c)
        (λ d. multipliers_placed m c)))
