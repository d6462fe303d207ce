-- The verdict on numbers: accepted exactly when the claim is, and refused with a number and a place exactly when
-- document 01's table says. The parts' laws joined in its order.
use mathlib.Core.Path.{◌≡◌, refl, sym, ◌∙◌, ap, subst}
use mathlib.Core.Logic.{◌↔◌, ◌⊎◌, inl, inr}
use mathlib.Core.Bool.{Bool, true, false}
use mathlib.Core.List.{List, [], ◌∷◌, ◌++◌}
use Prim.Native.Nat.{ℕ, suc, ◌*◌, ◌≤◌, ◌<◌}
use native.Mathlib.Omega.{arith}
use lib.IntN.{ℤ}
use Rattle.scope.specs.declared.Place.{Place}
use Rattle.scope.specs.declared.Place.TheVariants.{Line}
use Rattle.scope.specs.Cases.Outcome.{Outcome}
use Rattle.scope.specs.Cases.Outcome.{Passed, Refused as Fails}
use Rattle.scope.specs.Cases.Load.{Load}
use Rattle.scope.specs.Cases.OpenRows.{OpenRows}
use Rattle.scope.specs.Cases.Verdict.{Verdict}
use Rattle.scope.specs.Cases.Verdict.{Accepted, Refused}
use Rattle.scope.specs.Answer.{number_of}
use Rattle.scope.specs.Checks.{◌then◌}
use Rattle.scope.specs.Columns.{Rule, right_angle, naming, parts, at_most_where, has_field, has_multipliers, n, l}
use Rattle.scope.specs.Layout.{Layout, numbers_at, group_at}
use Rattle.scope.specs.Mesh.{mesh_layout, layout_with, nodes}
use Rattle.scope.specs.Claim.{claim_layout, if_there, stress, multiplier}
use Rattle.scope.specs.Rows.{equality_rows, strength_rows, rows_of}
use Rattle.scope.specs.Verdict.{claim_check, lower_load, upper_load, open_count, answer, claim_verdict, verdict}
use Rattle.scope.specs.Verdict.{mesh_check}
use Rattle.scope.specs.Statements.{LinesSound, MeshSound, HasField, HasMultipliers, RowsMet, ColumnsMet}
use Rattle.scope.specs.Phases.{FirstFails, AllPass, RefusedBy}
use Rattle.scope.specs.Refusals.{rule_number, rule_steps, line_steps, line_phases, shape_phases, mesh_phases}
use Rattle.scope.specs.Refusals.{field_phases, multiplier_phases, field_part, multiplier_part, part_phases}
use Rattle.scope.specs.Refusals.{claim_phases, Refusal}
use Rattle.scope.specs.AnsweredClaim.{AcceptedExactly, RefusedExactly, ZeroExactly, ByParts}
use Rattle.scope.specs.Accepted.{FieldAccepted, ClaimAccepted}
use Rattle.scope.proofs.Checks.{passed_is_not_refused}
use Rattle.scope.proofs.Phases.{EachIn, each_refusal, each_join, each_passed, each_part, own_number, refused_join}
use Rattle.scope.proofs.Refusals.{lines_sound, sound_lines, mesh_sound, sound_mesh, field_part_sound}
use Rattle.scope.proofs.Refusals.{sound_field_part, claim_passed, all_exact, mesh_passed}

-- ---- a refusal or what is accepted

never_both : {X : Type 0} {k : ℕ} {p : Place} {o : OpenRows} {a b : Load} → Refused k p ≡ Accepted o a b → X
never_both e = let z : ◌≡◌ {A = ℕ} 0 1 = cc in absurd (omega arith)

-- refused by the one, or by the other where the one has passed
pub answer_refused : (a b : Outcome) (o : OpenRows) (lower upper : Load) {k : ℕ} {p : Place}
    → (answer a (answer b (Accepted o lower upper)) ≡ Refused k p) ↔ (a then b ≡ Fails k p)
unfolding answer
answer_refused Passed Passed o lower upper = (λ e. never_both (sym e), λ e. passed_is_not_refused e)
answer_refused Passed (Fails c q) o lower upper = (λ e. cc, λ e. cc)
answer_refused (Fails c q) b o lower upper = (λ e. cc, λ e. cc)

answer_accepted : (c : Outcome) (v : Verdict) (o : OpenRows) (a b : Load)
    → (answer c v ≡ Accepted o a b) ↔ ((c ≡ Passed) × (v ≡ Accepted o a b))
unfolding answer
answer_accepted Passed v o a b = (λ e. (refl, e), λ h. h.1)
answer_accepted (Fails k p) v o a b = (λ e. never_both e, λ h. passed_is_not_refused (sym h.0))

module _ (m c : List ℤ) where
  -- a claim is accepted, with its open rows and its exact loads, exactly when each part that it has is
  pub accepted_exactly : AcceptedExactly m c
  unfolding verdict claim_verdict
  accepted_exactly = (to, from)
    where
      good : Verdict
      good = Accepted (open_count m c) (lower_load m c) (upper_load m c)

      to : verdict m c ≡ good → ClaimAccepted m c
      to e =
          let h : (mesh_check m ≡ Passed) × (claim_verdict m c ≡ good) =
          (answer_accepted (mesh_check m) (claim_verdict m c) (open_count m c) (lower_load m c) (upper_load m c)).0
          e in
          let r : LinesSound (claim_layout m) c × ((HasField c → RowsMet m c) × (HasMultipliers c → ColumnsMet m c)) =
          (claim_passed m c).says
          ((answer_accepted (claim_check m c) good (open_count m c) (lower_load m c) (upper_load m c)).0 h.1).0 in
          record { mesh = (mesh_passed m).says h.0; lines = r.0; field_meets = r.1.0; multipliers_meet = r.1.1 }

      from : ClaimAccepted m c → verdict m c ≡ good
      from a =
          (answer_accepted (mesh_check m) (claim_verdict m c) (open_count m c) (lower_load m c) (upper_load m c)).1 (
            (mesh_passed m).passed a.mesh,
            (answer_accepted (claim_check m c) good (open_count m c) (lower_load m c) (upper_load m c)).1
                ((claim_passed m c).passed (a.lines, (a.field_meets, a.multipliers_meet)), refl),
          )

  -- a mesh and a claim are refused with a number and a place exactly when document 01's table says so
  pub refused_exactly : RefusedExactly m c
  unfolding verdict claim_verdict
  refused_exactly k p =
      let checks : (verdict m c ≡ Refused k p) ↔ (mesh_check m then claim_check m c ≡ Fails k p) =
      answer_refused (mesh_check m) (claim_check m c) (open_count m c) (lower_load m c) (upper_load m c) in
      (λ e. (all_exact m c).refuses.why k p (checks.0 e), λ r. checks.1 ((all_exact m c).refuses.refused k p r))

-- ---- what is returned

-- the numbers of lines, 1 to 13; of a mesh and of lines, with those from 42 to 47 besides; of a claim's parts; of its
-- multipliers
abbrev pub OfLines : ℕ → Type 0
OfLines c = (0 < c) × (c ≤ 13)

abbrev pub OfMesh : ℕ → Type 0
OfMesh c = (0 < c) × ((c ≤ 13) ⊎ ((42 ≤ c) × (c ≤ 47)))

abbrev pub OfParts : ℕ → Type 0
OfParts c = (21 ≤ c) × (c ≤ 33)

abbrev pub OfMultipliers : ℕ → Type 0
OfMultipliers c = (31 ≤ c) × (c ≤ 33)

pub not_of_parts : {X : Type 0} {c : ℕ} → OfMesh c → OfParts c → X
not_of_parts {X} {c} e h = by e.1
  where
    by : (c ≤ 13) ⊎ ((42 ≤ c) × (c ≤ 47)) → X
    by (inl l) = absurd (omega arith)
    by (inr l) = absurd (omega (arith, l.0))

rule_number_lem : (rs : List Rule) (line : List ℤ) (c : ℕ) → FirstFails (rule_steps rs line) c → OfLines c
unfolding rule_number
rule_number_lem [] line c h = absurd h
rule_number_lem (right_angle ∷ rs) line c (inl h) = omega (arith, h.1)
rule_number_lem (at_most_where a k d z ∷ rs) line c (inl h) = omega (arith, h.1)
rule_number_lem (naming cs ∷ rs) line c (inl h) = omega (arith, h.1)
rule_number_lem (parts ∷ rs) line c (inl h) = omega (arith, h.1)
rule_number_lem (r ∷ rs) line c (inr h) = rule_number_lem rs line c h.1

step_number : (f : Layout) (ns : List ℤ) (k c : ℕ) → OfLines f.form_number → OfLines f.limit_number
    → FirstFails (line_steps f (group_at f ns k) (numbers_at f ns k)) c → OfLines c
step_number f ns k c a b (inl h) = omega (arith, h.1, a)
step_number f ns k c a b (inr (x, inl h)) = omega (arith, h.1, b)
step_number f ns k c a b (inr (x, inr (y, h))) = rule_number_lem (group_at f ns k).rules (numbers_at f ns k) c h

line_numbers_lem : (Q : ℕ → Place → Type 0) (f : Layout) (ns : List ℤ) → OfLines f.form_number → OfLines f.limit_number
    → ((c : ℕ) (p : Place) → OfMesh c → Q c p) → EachIn Q (line_phases f ns)
line_numbers_lem Q f ns a b q = (
  λ k c h l r. let s = step_number f ns k c a b r in q c (Line (suc k)) (s.0, inl s.1),
  λ e. (λ k c h l r. let s = subst OfLines (own_number refl r) a in q c _ (s.0, inl s.1), λ i. tt),
)

pub mesh_numbers_lem : (Q : ℕ → Place → Type 0) (m : List ℤ) → ((c : ℕ) (p : Place) → OfMesh c → Q c p)
    → EachIn Q (mesh_phases m)
unfolding layout_with
mesh_numbers_lem Q m q =
    each_join Q (line_phases mesh_layout m) (shape_phases m)
    (line_numbers_lem Q mesh_layout m (omega arith) (omega arith) q) (λ a. (
      λ k c h l r. q c _ (subst OfMesh (own_number refl r) (omega arith, inl (omega arith))),
      λ t. (
        λ k c h l r. q c _ (subst OfMesh (own_number refl r) (omega arith, inl (omega arith))),
        λ s. (
          λ k c h l r. q c _ (subst OfMesh (own_number refl r) (omega arith, inl (omega arith))),
          λ v. (
            λ k c h l r. q c _ (subst OfMesh (own_number refl r) (omega arith, inr (omega arith, omega arith))),
            λ d. (
              λ k c h l r. q c _ (subst OfMesh (own_number refl r) (omega arith, inl (omega arith))),
              λ g. (
                λ k c h l r. q c _ (subst OfMesh (own_number refl r) (omega arith, inr (omega arith, omega arith))),
                λ j. (
                  λ k c h l r. q c _
                      (subst OfMesh (own_number refl r) (omega arith, inr (omega arith, omega arith))),
                  λ i. tt,
                ),
              ),
            ),
          ),
        ),
      ),
    ))

pub claim_line_numbers : (Q : ℕ → Place → Type 0) (m c : List ℤ) → ((k : ℕ) (p : Place) → OfMesh k → Q k p)
    → EachIn Q (line_phases (claim_layout m) c)
unfolding claim_layout
claim_line_numbers Q m c q = line_numbers_lem Q (claim_layout m) c (omega arith) (omega arith) q

-- what holds of each number of a mesh or of lines, of 21 and 22, and of 31 to 33 after them, holds of every refusal
pub each_number : (Q : ℕ → Place → Type 0) (m c : List ℤ) → ((k : ℕ) (p : Place) → OfMesh k → Q k p)
    → EachIn Q (field_phases (equality_rows m) (strength_rows m) (stress m c) (l c) (n c))
    → (AllPass (mesh_phases m) → AllPass (line_phases (claim_layout m) c) → AllPass (field_part m c)
    → EachIn Q (multiplier_phases (equality_rows m) (rows_of m) (3 * nodes m) (multiplier m c)))
    → EachIn Q (mesh_phases m ++ claim_phases m c)
each_number Q m c early field after =
    each_join Q (mesh_phases m) (claim_phases m c) (mesh_numbers_lem Q m early) (λ a.
    each_join Q (line_phases (claim_layout m) c) (part_phases m c) (claim_line_numbers Q m c early) (λ b.
    each_join Q (field_part m c) (multiplier_part m c)
    (each_part Q (has_field c) (field_phases (equality_rows m) (strength_rows m) (stress m c) (l c) (n c)) field)
    (λ d.
    each_part Q (has_multipliers c) (multiplier_phases (equality_rows m) (rows_of m) (3 * nodes m) (multiplier m c))
    (after a b d))))

refusal_number : {m c : List ℤ} {k : ℕ} {p : Place} → Refusal m c k p → 0 < k
refusal_number {m} {c} r =
    each_refusal (λ k p. 0 < k) (mesh_phases m ++ claim_phases m c)
    (each_number (λ k p. 0 < k) m c (λ k p e. e.0) (
      λ k n h l r. subst (λ n. 0 < n) (own_number refl r) (omega arith),
      λ e. (λ k n h l r. subst (λ n. 0 < n) (own_number refl r) (omega arith), λ i. tt),
    )
    (λ a b d. (
      λ k n h l r. subst (λ n. 0 < n) (own_number refl r) (omega arith),
      λ e. (
        λ k n h l r. subst (λ n. 0 < n) (own_number refl r) (omega arith),
        λ e. (λ k n h l r. subst (λ n. 0 < n) (own_number refl r) (omega arith), λ i. tt),
      ),
    )))
    r.by

-- a verdict is a refusal, or accepts with the claim's own open rows and loads
pub verdict_cases : (m c : List ℤ) → ((k : ℕ) × (p : Place) × (verdict m c ≡ Refused k p))
    ⊎ (verdict m c ≡ Accepted (open_count m c) (lower_load m c) (upper_load m c))
unfolding verdict claim_verdict answer
verdict_cases m c = of_mesh' (mesh_check m)
  where
    good : Verdict
    good = Accepted (open_count m c) (lower_load m c) (upper_load m c)

    of_claim' : (o : Outcome) → ((k : ℕ) × (p : Place) × (answer o good ≡ Refused k p)) ⊎ (answer o good ≡ good)
    of_claim' Passed = inr refl
    of_claim' (Fails k p) = inl (k, p, refl)

    of_mesh' : (o : Outcome) → ((k : ℕ) × (p : Place) × (answer o (claim_verdict m c) ≡ Refused k p))
        ⊎ (answer o (claim_verdict m c) ≡ good)
    of_mesh' Passed = of_claim' (claim_check m c)
    of_mesh' (Fails k p) = inl (k, p, refl)

-- 0 is returned exactly when the claim is accepted
pub returns_zero : (m c : List ℤ) → ZeroExactly m c
returns_zero m c = (λ e. to (verdict_cases m c) e, λ a. ap number_of ((accepted_exactly m c).1 a))
  where
    to : ((k : ℕ) × (p : Place) × (verdict m c ≡ Refused k p))
        ⊎ (verdict m c ≡ Accepted (open_count m c) (lower_load m c) (upper_load m c)) → number_of (verdict m c) ≡ 0
        → ClaimAccepted m c
    to (inl (k, p, d)) e =
        absurd (omega (arith, refusal_number ((refused_exactly m c k p).0 d), sym (ap number_of d) ∙ e))
    to (inr d) e = (accepted_exactly m c).0 d

-- ---- parts and claims

-- a claim is accepted exactly when each part that it has is
pub claim_by_parts : (m c : List ℤ) → ByParts m c
claim_by_parts m c = (
  λ a. (
    a.mesh,
    a.lines,
    λ h. record { mesh = a.mesh; lines = a.lines; there = h; meets = a.field_meets h },
    λ h. record { mesh = a.mesh; lines = a.lines; there = h; meet = a.multipliers_meet h },
  ),
  λ h. record { mesh = h.0; lines = h.1; field_meets = λ t. (h.2 t).meets; multipliers_meet = λ t. (h.3 t).meet },
)

-- a claim that has a field and is refused with 31, 32 or 33 has an accepted field
pub field_before_multipliers : {m c : List ℤ} {k : ℕ} {p : Place} → Refusal m c k p → OfMultipliers k → HasField c
    → FieldAccepted m c
field_before_multipliers {m} {c} r = each_refusal Q (mesh_phases m ++ claim_phases m c) all r.by
  where
    Q : ℕ → Place → Type 0
    Q k p = OfMultipliers k → HasField c → FieldAccepted m c

    all : EachIn Q (mesh_phases m ++ claim_phases m c)
    all =
        each_number Q m c (λ k p e h f. not_of_parts e (omega (arith, h))) (
          λ k n h l r g f. absurd (omega (arith, own_number {k = 21} refl r)),
          λ e. (λ k n h l r g f. absurd (omega (arith, own_number {k = 22} refl r)), λ i. tt),
        )
        (λ a b d.
        let accepted : HasField c → FieldAccepted m c = λ f. record {
          mesh = mesh_sound m a;
          lines = lines_sound (claim_layout m) c b;
          there = f;
          meets =
              field_part_sound m c d f;
        } in (
          λ k n h l r g f. accepted f,
          λ e. (λ k n h l r g f. accepted f, λ e. (λ k n h l r g f. accepted f, λ i. tt)),
        ))

-- a part that may be absent has at most its places
pub there_most : (b : Bool) (k : ℕ) → if_there b k ≤ k
unfolding if_there
there_most true k = omega arith
there_most false k = omega arith

-- the phases of an accepted field pass, so a refusal is one of the multipliers
pub refused_after_field : {m c : List ℤ} {k : ℕ} {p : Place} → FieldAccepted m c → Refusal m c k p → OfMultipliers k
refused_after_field {m} {c} a r = each_refusal Q (mesh_phases m ++ claim_phases m c) all r.by
  where
    Q : ℕ → Place → Type 0
    Q k p = OfMultipliers k

    all : EachIn Q (mesh_phases m ++ claim_phases m c)
    all =
        each_join Q (mesh_phases m) (claim_phases m c) (each_passed Q (mesh_phases m) (sound_mesh m a.mesh)) (λ h.
        each_join Q (line_phases (claim_layout m) c) (part_phases m c)
        (each_passed Q (line_phases (claim_layout m) c) (sound_lines (claim_layout m) c a.lines)) (λ h.
        each_join Q (field_part m c) (multiplier_part m c)
        (each_passed Q (field_part m c) (sound_field_part m c (λ t. a.meets)))
        (λ h. each_part Q (has_multipliers c)
        (multiplier_phases (equality_rows m) (rows_of m) (3 * nodes m) (multiplier m c)) (
          λ k n h l r. omega (arith, own_number {k = 31} refl r),
          λ e. (
            λ k n h l r. omega (arith, own_number {k = 32} refl r),
            λ e. (λ k n h l r. omega (arith, own_number {k = 33} refl r), λ i. tt),
          ),
        ))))

-- a refusal with 21 to 33 is one of a claim on a mesh that passes
pub refused_on_mesh : {m c : List ℤ} {k : ℕ} {p : Place} → Refusal m c k p → OfParts k → MeshSound m
refused_on_mesh {m} {c} {k} {p} r h = by (refused_join (mesh_phases m) (claim_phases m c) k p r.by)
  where
    by : RefusedBy (mesh_phases m) k p ⊎ (AllPass (mesh_phases m) × RefusedBy (claim_phases m c) k p) → MeshSound m
    by (inl x) = not_of_parts
        (each_refusal (λ k p. OfMesh k) (mesh_phases m) (mesh_numbers_lem (λ k p. OfMesh k) m (λ k p e. e)) x) h
    by (inr x) = mesh_sound m x.0
