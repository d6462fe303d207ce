-- Refusals of a line among all refusals: those of the mesh's lines, those of the claim's lines on a mesh that passes,
-- and all others by their number.
use mathlib.Core.Path.{refl, sym, ◌∙◌}
use mathlib.Core.Logic.{◌⊎◌, inl, inr, ◌≢◌}
use mathlib.Core.List.{List}
use Prim.Native.Nat.{ℕ, ◌*◌, ◌≤◌}
use native.Mathlib.Omega.{arith}
use lib.IntN.{ℤ}
use Rattle.scope.specs.declared.Place.{Place}
use Rattle.scope.specs.Columns.{Rule, right_angle, naming, parts, at_most_where, has_field, has_multipliers, n, l}
use Rattle.scope.specs.Layout.{Layout, numbers_at, group_at}
use Rattle.scope.specs.Mesh.{mesh_layout, layout_with, nodes}
use Rattle.scope.specs.Claim.{claim_layout, stress, multiplier}
use Rattle.scope.specs.Rows.{equality_rows, strength_rows, rows_of}
use Rattle.scope.specs.Statements.{MeshSound}
use Rattle.scope.specs.Phases.{FirstFails, AllPass, RefusedBy}
use Rattle.scope.specs.Refusals.{rule_number, line_steps, line_phases, shape_phases, mesh_phases, field_phases}
use Rattle.scope.specs.Refusals.{multiplier_phases, field_part, multiplier_part, part_phases, claim_phases}
use Rattle.scope.specs.Refusals.{LineRefusal, Refusal}
use Rattle.scope.proofs.Phases.{EachIn, each_refusal, each_join, each_part, refused_join, join_refused, own_number}
use Rattle.scope.proofs.Refusals.{mesh_sound, sound_mesh, rule_number_lem}

-- ---- among all

pub line_of_mesh : {m c : List ℤ} {k : ℕ} {p : Place} → LineRefusal mesh_layout m k p → Refusal m c k p
line_of_mesh {m} {c} {k} {p} r =
    record {
      by = join_refused (mesh_phases m) (claim_phases m c) k p
          (inl (join_refused (line_phases mesh_layout m) (shape_phases m) k p (inl r.by)));
    }

pub line_of_claim : {m c : List ℤ} {k : ℕ} {p : Place} → MeshSound m → LineRefusal (claim_layout m) c k p
    → Refusal m c k p
line_of_claim {m} {c} {k} {p} s r =
    record {
      by = join_refused (mesh_phases m) (claim_phases m c) k p
          (inr (sound_mesh m s, join_refused (line_phases (claim_layout m) c) (part_phases m c) k p (inl r.by)));
    }

-- ---- the others, by their number

-- 5 to 8, or from 21 on: no number of a file's lines
abbrev pub NotOfLines : ℕ → Type 0
NotOfLines k = ((5 ≤ k) × (k ≤ 8)) ⊎ (21 ≤ k)

shape_number : (m : List ℤ) (k : ℕ) (p : Place) → RefusedBy (shape_phases m) k p → NotOfLines k
shape_number m k p r = each_refusal (λ k p. NotOfLines k) (shape_phases m) all r
  where
    all : EachIn (λ k p. NotOfLines k) (shape_phases m)
    all = (
      λ k c h l r. inl (omega (arith, own_number {k = 5} refl r)),
      λ e. (
        λ k c h l r. inl (omega (arith, own_number {k = 6} refl r)),
        λ e. (
          λ k c h l r. inl (omega (arith, own_number {k = 7} refl r)),
          λ e. (
            λ k c h l r. inr (omega (arith, own_number {k = 47} refl r)),
            λ e. (
              λ k c h l r. inl (omega (arith, own_number {k = 8} refl r)),
              λ e. (
                λ k c h l r. inr (omega (arith, own_number {k = 44} refl r)),
                λ e. (λ k c h l r. inr (omega (arith, own_number {k = 42} refl r)), λ i. tt),
              ),
            ),
          ),
        ),
      ),
    )

part_number : (m c : List ℤ) (k : ℕ) (p : Place) → RefusedBy (part_phases m c) k p → 21 ≤ k
part_number m c k p r = each_refusal Q (part_phases m c) all r
  where
    Q : ℕ → Place → Type 0
    Q k p = 21 ≤ k

    all : EachIn Q (part_phases m c)
    all =
        each_join Q (field_part m c) (multiplier_part m c)
        (each_part Q (has_field c) (field_phases (equality_rows m) (strength_rows m) (stress m c) (l c) (n c)) (
          λ k n h l r. omega (arith, own_number {k = 21} refl r),
          λ e. (λ k n h l r. omega (arith, own_number {k = 22} refl r), λ i. tt),
        ))
        (λ a. each_part Q (has_multipliers c)
        (multiplier_phases (equality_rows m) (rows_of m) (3 * nodes m) (multiplier m c)) (
          λ k n h l r. omega (arith, own_number {k = 31} refl r),
          λ e. (
            λ k n h l r. omega (arith, own_number {k = 32} refl r),
            λ e. (λ k n h l r. omega (arith, own_number {k = 33} refl r), λ i. tt),
          ),
        ))

abbrev pub ByLines : List ℤ → List ℤ → ℕ → Place → Type 0
ByLines m c k p = LineRefusal mesh_layout m k p ⊎ ((MeshSound m × LineRefusal (claim_layout m) c k p) ⊎ NotOfLines k)

pub by_lines : {m c : List ℤ} {k : ℕ} {p : Place} → Refusal m c k p → ByLines m c k p
by_lines {m} {c} {k} {p} r = by (refused_join (mesh_phases m) (claim_phases m c) k p r.by)
  where
    of_mesh : RefusedBy (line_phases mesh_layout m) k p
        ⊎ (AllPass (line_phases mesh_layout m) × RefusedBy (shape_phases m) k p) → ByLines m c k p
    of_mesh (inl x) = inl (record { by = x })
    of_mesh (inr x) = inr (inr (shape_number m k p x.1))

    of_claim : MeshSound m → RefusedBy (line_phases (claim_layout m) c) k p
        ⊎ (AllPass (line_phases (claim_layout m) c) × RefusedBy (part_phases m c) k p) → ByLines m c k p
    of_claim s (inl x) = inr (inl (s, record { by = x }))
    of_claim s (inr x) = inr (inr (inr (part_number m c k p x.1)))

    by : RefusedBy (mesh_phases m) k p ⊎ (AllPass (mesh_phases m) × RefusedBy (claim_phases m c) k p) → ByLines m c k p
    by (inl x) = of_mesh (refused_join (line_phases mesh_layout m) (shape_phases m) k p x)
    by (inr x) = of_claim (mesh_sound m x.0) (refused_join (line_phases (claim_layout m) c) (part_phases m c) k p x.1)

-- ---- a number that a file's lines don't have

pub other_number : {f : Layout} {ns : List ℤ} {c : ℕ} {p : Place} (k : ℕ) → k ≢ f.form_number → k ≢ f.limit_number
    → ((r : Rule) → k ≢ rule_number r) → LineRefusal f ns c p → c ≢ k
other_number {f} {ns} k a b d r = each_refusal (λ c p. c ≢ k) (line_phases f ns)
    (λ i c h l r. step i c r, λ e. (λ i c h l r z. a (sym (own_number refl r ∙ z)), λ i. tt)) r.by
  where
    step : (i c : ℕ) → FirstFails (line_steps f (group_at f ns i) (numbers_at f ns i)) c → c ≢ k
    step i c (inl h) z = a (sym (h.1 ∙ z))
    step i c (inr (x, inl h)) z = b (sym (h.1 ∙ z))
    step i c (inr (x, inr (y, h))) z = let (r, s) = rule_number_lem (group_at f ns i).rules
        (numbers_at f ns i) c h in d r (sym z ∙ s)

-- the lines of a mesh and of a claim have no number above 13
module _ (f : Layout) (ns : List ℤ) (a : f.form_number ≤ 13) (b : f.limit_number ≤ 13) where
  line_number : {k : ℕ} {p : Place} → LineRefusal f ns k p → k ≤ 13
  unfolding rule_number
  line_number r = each_refusal (λ k p. k ≤ 13) (line_phases f ns) (
    λ i k h l x. step i k x,
    λ e. (λ i k h l x. omega (arith, own_number refl x), λ i. tt),
  ) r.by
    where
      rule : (r : Rule) → rule_number r ≤ 13
      rule right_angle = omega arith
      rule (naming cs) = omega arith
      rule parts = omega arith
      rule (at_most_where c k d z) = omega arith

      step : (i k : ℕ) → FirstFails (line_steps f (group_at f ns i) (numbers_at f ns i)) k → k ≤ 13
      step i k (inl h) = omega (arith, h.1)
      step i k (inr (x, inl h)) = omega (arith, h.1)
      step i k (inr (x, inr (y, h))) =
          let (r, s) = rule_number_lem (group_at f ns i).rules (numbers_at f ns i) k h in omega (arith, s, rule r)

pub mesh_line_number : (m : List ℤ) {k : ℕ} {p : Place} → LineRefusal mesh_layout m k p → k ≤ 13
unfolding layout_with
mesh_line_number m r = line_number mesh_layout m (omega arith) (omega arith) r

pub claim_line_number : (m c : List ℤ) {k : ℕ} {p : Place} → LineRefusal (claim_layout m) c k p → k ≤ 13
unfolding claim_layout
claim_line_number m c r = line_number (claim_layout m) c (omega arith) (omega arith) r
