-- Which kind of place a refusal's number has: phase by phase. And so the number and the place, as two numbers, say
-- which refusal it is.
use mathlib.Core.Path.{◌≡◌, refl, sym, ◌∙◌, ap, subst, subst₂}
use mathlib.Core.Logic.{◌⊎◌, inl, inr}
use mathlib.Core.Bool.{Bool, true, false, cond, ◌||◌}
use mathlib.Core.List.{List, [], ◌∷◌, ◌++◌}
use Prim.Native.Nat.{ℕ, suc, ◌*◌}
use native.Mathlib.Omega.{arith}
use lib.Dec.{eqb}
use lib.IntN.{ℤ}
use Rattle.scope.specs.declared.Place.{Place}
use Rattle.scope.specs.declared.Place.TheVariants.{Line, Row, Column, Node, Element, Height}
use Rattle.scope.specs.Cases.Outcome.{Outcome}
use Rattle.scope.specs.Cases.Outcome.{Passed, Refused}
use Rattle.scope.specs.Answer.{place_number, place_for, mesh_number_of, mesh_place_of}
use Rattle.scope.specs.Columns.{Rule, right_angle, naming, parts, at_most_where, has_field, has_multipliers, n, l}
use Rattle.scope.specs.Layout.{Layout, numbers_at, group_at}
use Rattle.scope.specs.Mesh.{mesh_layout, layout_with, nodes}
use Rattle.scope.specs.Claim.{claim_layout, stress, multiplier}
use Rattle.scope.specs.Rows.{equality_rows, strength_rows, rows_of}
use Rattle.scope.specs.Verdict.{mesh_check}
use Rattle.scope.specs.Statements.{MeshSound}
use Rattle.scope.specs.Phases.{FirstFails}
use Rattle.scope.specs.Refusals.{rule_number, rule_steps, line_steps, line_phases, shape_phases, mesh_phases}
use Rattle.scope.specs.Refusals.{field_phases, multiplier_phases, field_part, multiplier_part, part_phases}
use Rattle.scope.specs.Refusals.{claim_phases, MeshRefusal, Refusal}
use Rattle.scope.specs.AnsweredMesh.{MeshExactly}
use Rattle.scope.proofs.Checks.{passed_is_not_refused}
use Rattle.scope.proofs.Phases.{EachIn, each_refusal, each_join, each_part, own_number}
use Rattle.scope.proofs.Refusals.{mesh_exact}
use Rattle.scope.proofs.Exactly.{OfMesh, mesh_numbers_lem}

-- the place is the one for this number
abbrev pub Kind : ℕ → Place → Type 0
Kind k p = p ≡ place_for k (place_number p)

abbrev pub OfLine : ℕ → Type 0
OfLine k = (j : ℕ) → Line j ≡ place_for k j

rule_of_line : (rs : List Rule) (line : List ℤ) (c : ℕ) → FirstFails (rule_steps rs line) c → OfLine c
unfolding rule_number place_for
rule_of_line [] line c h = absurd h
rule_of_line (right_angle ∷ rs) line c (inl h) = subst OfLine h.1 (λ j. refl)
rule_of_line (at_most_where a k d z ∷ rs) line c (inl h) = subst OfLine h.1 (λ j. refl)
rule_of_line (naming cs ∷ rs) line c (inl h) = subst OfLine h.1 (λ j. refl)
rule_of_line (parts ∷ rs) line c (inl h) = subst OfLine h.1 (λ j. refl)
rule_of_line (r ∷ rs) line c (inr h) = rule_of_line rs line c h.1

pub step_of_line : (f : Layout) (ns : List ℤ) (k c : ℕ) → OfLine f.form_number → OfLine f.limit_number
    → FirstFails (line_steps f (group_at f ns k) (numbers_at f ns k)) c → OfLine c
step_of_line f ns k c a b (inl h) = subst OfLine h.1 a
step_of_line f ns k c a b (inr (x, inl h)) = subst OfLine h.1 b
step_of_line f ns k c a b (inr (x, inr (y, h))) = rule_of_line (group_at f ns k).rules (numbers_at f ns k) c h

pub line_kinds : (f : Layout) (ns : List ℤ) → OfLine f.form_number → OfLine f.limit_number
    → EachIn Kind (line_phases f ns)
line_kinds f ns a b = (
  λ k c h l r. step_of_line f ns k c a b r (suc k),
  λ e. (λ k c h l r. subst OfLine (own_number refl r) a _, λ i. tt),
)

-- a phase of one step, whose places are those for its number
pub one_kind : {number c : ℕ} {p : Place} {H : Type 0} → Kind number p → ((¬ H) × (number ≡ c)) ⊎ (H × ⊥) → Kind c p
one_kind {p} k r = subst (λ i. Kind i p) (own_number refl r) k

pub mesh_kinds : (m : List ℤ) → EachIn Kind (mesh_phases m)
unfolding place_for layout_with
mesh_kinds m =
    each_join Kind (line_phases mesh_layout m) (shape_phases m) (line_kinds mesh_layout m (λ j. refl) (λ j. refl))
    (λ a. (
      λ k c h l r. one_kind refl r,
      λ e. (
        λ k c h l r. one_kind refl r,
        λ e. (
          λ k c h l r. one_kind refl r,
          λ e. (
            λ k c h l r. one_kind refl r,
            λ e. (
              λ k c h l r. one_kind refl r,
              λ e. (λ k c h l r. one_kind refl r, λ e. (λ k c h l r. one_kind refl r, λ i. tt)),
            ),
          ),
        ),
      ),
    ))

pub all_kinds : (m c : List ℤ) → EachIn Kind (mesh_phases m ++ claim_phases m c)
unfolding place_for claim_layout
all_kinds m c =
    each_join Kind (mesh_phases m) (claim_phases m c) (mesh_kinds m) (λ a.
    each_join Kind (line_phases (claim_layout m) c) (part_phases m c)
    (line_kinds (claim_layout m) c (λ j. refl) (λ j. refl)) (λ b.
    each_join Kind (field_part m c) (multiplier_part m c)
    (each_part Kind (has_field c) (field_phases (equality_rows m) (strength_rows m) (stress m c) (l c) (n c)) (
      λ k c h l r. one_kind refl r,
      λ e. (λ k c h l r. one_kind refl r, λ i. tt),
    ))
    (λ d. each_part Kind (has_multipliers c)
    (multiplier_phases (equality_rows m) (rows_of m) (3 * nodes m) (multiplier m c)) (
      λ k c h l r. one_kind refl r,
      λ e. (λ k c h l r. one_kind refl r, λ e. (λ k c h l r. one_kind refl r, λ i. tt)),
    ))))

pub place_kind : {m c : List ℤ} {k : ℕ} {p : Place} → Refusal m c k p → p ≡ place_for k (place_number p)
place_kind {m} {c} r = each_refusal Kind (mesh_phases m ++ claim_phases m c) (all_kinds m c) r.by

pub mesh_place_kind : {m : List ℤ} {k : ℕ} {p : Place} → MeshRefusal m k p → p ≡ place_for k (place_number p)
mesh_place_kind {m} r = each_refusal Kind (mesh_phases m) (mesh_kinds m) r.by

pub place_number_lem : (k j : ℕ) → place_number (place_for k j) ≡ j
unfolding place_for
place_number_lem k j = by (eqb k 5 || eqb k 6 || eqb k 47) (eqb k 7 || eqb k 42) (eqb k 21 || eqb k 22 || eqb k 31)
    (eqb k 32 || eqb k 33) (eqb k 45)
  where
    by : (a b c d e : Bool)
        → place_number (cond a (Element j)
        (cond b (Node j) (cond c (Row j) (cond d (Column j) (cond e (Height j) (Line j)))))) ≡ j
    by true b c d e = refl
    by false true c d e = refl
    by false false true d e = refl
    by false false false true e = refl
    by false false false false true = refl
    by false false false false false = refl

-- ---- a mesh alone

of_mesh : {m : List ℤ} {k : ℕ} {p : Place} → MeshRefusal m k p → OfMesh k
of_mesh {m} r = each_refusal (λ k p. OfMesh k) (mesh_phases m) (mesh_numbers_lem (λ k p. OfMesh k) m (λ k p e. e)) r.by

pub mesh_exactly : (m : List ℤ) (o : Outcome) → o ≡ mesh_check m → MeshExactly m o
mesh_exactly m Passed e =
    let sound : MeshSound m = (mesh_exact m).passes.says (sym e) in
    record {
      passes = (λ z. sound, λ s. refl);
      place_zero = λ z. refl;
      refuses = λ k j nonzero. (
        λ h. absurd (nonzero (sym h.0)),
        λ r. passed_is_not_refused
            (e ∙ (mesh_exact m).refuses.refused k (place_for k j) r),
      );
    }
mesh_exactly m (Refused n p) e =
    let r : MeshRefusal m n p = (mesh_exact m).refuses.why n p (sym e) in
    record {
      passes = (
        λ z. absurd (omega (arith, (of_mesh r).0)),
        λ s. passed_is_not_refused
            (sym ((mesh_exact m).passes.passed s) ∙ sym e),
      );
      place_zero = λ z. absurd (omega (arith, (of_mesh r).0));
      refuses = λ k j nonzero. (
        λ h. subst₂ (MeshRefusal m) h.0
            (mesh_place_kind r ∙ ap (λ i. place_for i (place_number p)) h.0 ∙ ap (place_for k) h.1) r,
        λ r. let same : Refused n p ≡ Refused k (place_for k j) = e
            ∙ (mesh_exact m).refuses.refused k (place_for k j) r in
            (ap mesh_number_of same, ap mesh_place_of same ∙ place_number_lem k j),
      );
    }
