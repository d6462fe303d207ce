-- "its lines are numbered from 1,001, above any of the mesh's": no other 1, 2 or 4 has such a place, so each of these
-- at line 1,001 + i tells what is not so of line i of the table.
use mathlib.Core.Path.{◌≡◌, refl, ap, subst}
use mathlib.Core.Logic.{◌↔◌, ◌⊎◌, inl, inr}
use mathlib.Core.Bool.{true}
use mathlib.Core.List.{List}
use Prim.Native.Nat.{ℕ, ◌+◌, ◌≤◌}
use native.Mathlib.Omega.{arith}
use lib.IntN.{ℤ}
use Rattle.scope.specs.declared.Place.{Place}
use Rattle.scope.specs.declared.Place.TheVariants.{Line}
use Rattle.scope.specs.Answer.{place_number}
use Rattle.scope.specs.Columns.{right_angle, naming, at_most_where}
use Rattle.scope.specs.Mesh.{mesh_layout, layout_with}
use Rattle.scope.specs.Claim.{claim_layout}
use Rattle.scope.specs.Refusals.{rule_number, line_phases, LineRefusal, Refusal}
use Rattle.scope.specs.RefusalTable.{RefusalRow}
use Rattle.scope.specs.LayerRefusals.{LayerRefusalRow, forty_six, forty_six_else, forty_five}
use Rattle.scope.specs.TabledRefusals.{OwnFormFails, OwnLimitsFail, OwnSoilFails, EarlyRefusalRow, mesh_one, mesh_two}
use Rattle.scope.specs.TabledRefusals.{mesh_three, mesh_four, mesh_two_with, own_one, own_two, own_four, of_layers}
use Rattle.scope.specs.TabledRefusals.{TabledRefusalRow, of_alone, of_early, of_filled}
use Rattle.scope.proofs.Phases.{each_refusal}
use Rattle.scope.proofs.NumberRanges.{header_counts}
use Rattle.scope.proofs.LineRefusals.{NotOfLines, ByLines, by_lines}
use Rattle.scope.proofs.AnswerBounds.{line_places, mesh_lines_lem, claim_lines_lem}
use Rattle.scope.proofs.GivenLines.{lines_as_many}
use Rattle.scope.proofs.Table.{tabled_header}
use Rattle.scope.proofs.RefusalNumbers.{count_refused, limit_refused, rule_refused}
use Rattle.scope.proofs.RefusalTable.{refusal_rows_exact}

-- ---- the places of all others

-- 5 or above, or at a line below 1,001
abbrev Below1001 : ℕ → Place → Type 0
Below1001 k p = (5 ≤ k) ⊎ (place_number p ≤ 1000)

low : {m c : List ℤ} {k : ℕ} {p : Place} → Refusal m c k p → Below1001 k p
low {m} {c} {k} {p} r = of (by_lines r)
  where
    high : NotOfLines k → 5 ≤ k
    high (inl h) = h.0
    high (inr h) = omega arith

    of : ByLines m c k p → Below1001 k p
    of (inl x) = inr (each_refusal (λ k p. place_number p ≤ 1000) (line_phases mesh_layout m)
        (line_places {B = 337} (omega arith) (omega arith) (λ s. mesh_lines_lem m (header_counts m s))) x.by)
    of (inr (inl (s, x))) = inr (each_refusal (λ k p. place_number p ≤ 1000) (line_phases (claim_layout m) c)
        (line_places {B = 421} (omega arith) (omega arith) (λ z. claim_lines_lem m c s)) x.by)
    of (inr (inr h)) = inl (high h)

low_row : {m c : List ℤ} {k : ℕ} {p : Place} → RefusalRow m c k p → Below1001 k p
low_row {m} {c} {k} {p} r = low ((refusal_rows_exact m c k p).1 r)

low_line : {m : List ℤ} {k : ℕ} {p : Place} → LineRefusal (layout_with true) m k p → place_number p ≤ 1000
low_line {m} r = each_refusal (λ k p. place_number p ≤ 1000) (line_phases (layout_with true) m)
    (line_places {B = 337} (omega arith) (omega arith)
    (λ s. omega (arith, mesh_lines_lem m (tabled_header m s), lines_as_many m))) r.by

layer_number : {t : List ℤ} {lo hi k : ℕ} {p : Place} → LayerRefusalRow t lo hi k p → 45 ≤ k
layer_number (forty_six i h) = omega arith
layer_number (forty_six_else i a h) = omega arith
layer_number (forty_five q a b g) = omega arith

-- ---- by number

-- what 1, 2 and 4 say of line i
abbrev OfLine : List ℤ → List ℤ → ℕ → ℕ → Type 0
OfLine t m k i =
    (OwnFormFails t m i × (k ≡ 1)) ⊎ ((OwnLimitsFail t m i × (k ≡ 2)) ⊎ (OwnSoilFails t m i × (k ≡ 4)))

module _ (t m c : List ℤ) (i : ℕ) where
  far : {k : ℕ} {p : Place} → Below1001 k p → k ≤ 4 → p ≡ Line (1001 + i) → ⊥
  far (inl h) l e = omega arith
  far (inr h) l e = omega (arith, h, ap place_number e)

  far_line : {k : ℕ} {p : Place} → LineRefusal (layout_with true) m k p → p ≡ Line (1001 + i) → ⊥
  far_line r e = omega (arith, low_line r, ap place_number e)

  same : {j : ℕ} → Line (1001 + j) ≡ Line (1001 + i) → j ≡ i
  same e = omega (arith, ap place_number e)

  of_line : {k : ℕ} {p : Place} → EarlyRefusalRow t m k p → k ≤ 4 → p ≡ Line (1001 + i) → OfLine t m k i
  unfolding layout_with rule_number
  of_line (mesh_one k some h) l e = absurd (far_line (count_refused (layout_with true) m k h) e)
  of_line (mesh_two k some h) l e = absurd (far_line (limit_refused (layout_with true) m k h) e)
  of_line (mesh_three k some h) l e = absurd (far_line (rule_refused (layout_with true) m right_angle k h) e)
  of_line (mesh_four cs k some h) l e = absurd (far_line (rule_refused (layout_with true) m (naming cs) k h) e)
  of_line (mesh_two_with a b d z k some h) l e =
      absurd (far_line (rule_refused (layout_with true) m (at_most_where a b d z) k h) e)
  of_line (own_one j h) l e = inl (subst (OwnFormFails t m) (same e) h, refl)
  of_line (own_two j h) l e = inr (inl (subst (OwnLimitsFail t m) (same e) h, refl))
  of_line (own_four j h) l e = inr (inr (subst (OwnSoilFails t m) (same e) h, refl))
  of_line (of_layers r) l e = absurd (omega (arith, l, layer_number r.row))

  told : {k : ℕ} → k ≤ 4 → TabledRefusalRow t m c k (Line (1001 + i)) → OfLine t m k i
  told l (of_alone z r) = absurd (far (low_row r) l refl)
  told l (of_early r) = of_line r l refl
  told l (of_filled h r) = absurd (far (low_row r) l refl)

  pub one_of_line : TabledRefusalRow t m c 1 (Line (1001 + i)) ↔ OwnFormFails t m i
  one_of_line = (λ r. by (told (omega arith) r), λ h. of_early (own_one i h))
    where
      by : OfLine t m 1 i → OwnFormFails t m i
      by (inl h) = h.0
      by (inr (inl h)) = absurd (omega (arith, h.1))
      by (inr (inr h)) = absurd (omega (arith, h.1))

  pub two_of_line : TabledRefusalRow t m c 2 (Line (1001 + i)) ↔ OwnLimitsFail t m i
  two_of_line = (λ r. by (told (omega arith) r), λ h. of_early (own_two i h))
    where
      by : OfLine t m 2 i → OwnLimitsFail t m i
      by (inl h) = absurd (omega (arith, h.1))
      by (inr (inl h)) = h.0
      by (inr (inr h)) = absurd (omega (arith, h.1))

  pub four_of_line : TabledRefusalRow t m c 4 (Line (1001 + i)) ↔ OwnSoilFails t m i
  four_of_line = (λ r. by (told (omega arith) r), λ h. of_early (own_four i h))
    where
      by : OfLine t m 4 i → OwnSoilFails t m i
      by (inl h) = absurd (omega (arith, h.1))
      by (inr (inl h)) = absurd (omega (arith, h.1))
      by (inr (inr h)) = h.0
