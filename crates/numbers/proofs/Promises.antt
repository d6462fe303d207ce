-- The promises of what the call on numbers answers hold of every answer: each is a theorem about the verdict, read off
-- the number and the place that are returned.
use mathlib.Core.Path.{◌≡◌, refl, sym, ◌∙◌, ap, subst₂}
use mathlib.Core.Logic.{◌⊎◌, inl, inr, ◌≢◌}
use mathlib.Core.Bool.{Bool}
use mathlib.Core.List.Memᴰ
use mathlib.Core.List.{List}
use Prim.Native.Nat.{ℕ, suc, ◌≤◌}
use native.Mathlib.Omega.{arith}
use lib.IntN.{ℤ, pos}
use lib.Signed.{◌<ℤ◌, lt_z_yes}
use Rattle.scope.specs.declared.Place.{Place}
use Rattle.scope.specs.declared.Place.TheVariants.{Element}
use Rattle.scope.specs.Cases.Verdict.{Verdict}
use Rattle.scope.specs.Cases.Verdict.{Accepted, Refused}
use Rattle.std.specs.Prelude.{Result}
use Rattle.scope.specs.declared.Refusal as Answered
use Rattle.scope.specs.Answer.{outcome_of, place_number, place_for, number_of, place_of}
use Rattle.scope.specs.Columns.{at, has_field, n, l}
use Rattle.scope.specs.Mesh.{sides}
use Rattle.scope.specs.Claim.{stress}
use Rattle.scope.specs.Verdict.{verdict, lower_load, upper_load, open_count}
use Rattle.scope.specs.Refusals.{mesh_phases, claim_phases, MeshRefusal, Refusal}
use Rattle.scope.specs.SideLimits.{strength_line}
use Rattle.scope.specs.RefusalTable.{RefusalRow}
use Rattle.scope.specs.Accepted.{FieldAccepted}
use Rattle.scope.proofs.PlaceKinds.{place_kind, place_number_lem, mesh_exactly}
use Rattle.scope.proofs.RefusalTable.{refusal_row}
use Rattle.scope.proofs.RefusedRows.{refused_equality, refused_strength}
use Rattle.scope.proofs.RefusedColumns.{refused_unfixed, refused_column}
use Rattle.scope.proofs.PairsRefused.{pairs_fail}
use Rattle.scope.proofs.Exactly.{accepted_exactly, refused_exactly, verdict_cases, returns_zero, claim_by_parts}
use Rattle.scope.proofs.Exactly.{field_before_multipliers, refused_after_field}
use Rattle.scope.proofs.Printed.{field-printed}
use Rattle.scope.proofs.AcceptedField.{accepted_criterion, criterion_around, planes_everywhere, tractions_agree}
use Rattle.scope.proofs.Planes.{plane_meaning, cohesion_meaning}
use Rattle.scope.proofs.Jumps.{sound_jumps, tip_asks_nothing, no_jumps}
use Rattle.scope.proofs.Pairs.{pairs, sound_pairs}
use Rattle.scope.proofs.Phases.{join_refused}
use Rattle.scope.proofs.NumberRanges.{mesh_facts}
use Rattle.scope.proofs.PolygonRule.{polygon_asked}
use Rattle.scope.proofs.LimitsRefused.{over_limit}
use Rattle.scope.proofs.SideLimits.{limits_by_sides}
use Rattle.scope.proofs.Overlaps.{sound_mesh_apart}
use Rattle.scope.proofs.OverlapRefused.{overlap_named, never_for_this}
use Rattle.scope.proofs.AcceptedMultipliers.{multipliers_as_printed}
use Rattle.scope.proofs.Meaning.{area, outward_normal}
use Rattle.scope.proofs.Triangles.{only_repeat, read_as_triangle, passed_before, without_triangles}
use Rattle.numbers.proofs.NumbersListed.{refusal_listed}
use Rattle.numbers.specs.declared.numbers_answer.NumbersAnswer.{NumbersAnswer}
use Rattle.numbers.specs.NumbersAnswer.{there, answer_of}
use Rattle.numbers.specs.Promises.{Answers, Returned, ReturnsZero, RefusesExactly, NumbersListed, RowsRefused}
use Rattle.numbers.specs.Promises.{TellsField, FieldExactly, MultipliersExactly}
use Rattle.numbers.specs.Promises.{CriterionForEachPair, DirectionsAsked, PairsAsked, SidesAsked, OverlapsAsked}
use Rattle.numbers.specs.Promises.{JumpsAsked, TractionsOnJoints}
use Rattle.numbers.specs.Promises.{MeshAnsweredExactly, TrianglesAsked}

-- an answer has the number and the place of the verdict that it is made of
pub of_verdict : (field : Bool) (v : Verdict) {r : NumbersAnswer} → r ≡ answer_of field v
    → (r.number ≡ number_of v) × (r.place ≡ place_of v)
of_verdict field (Accepted o lower upper) e =
    (ap (λ (x : NumbersAnswer). x.number) e, ap (λ (x : NumbersAnswer). x.place) e)
of_verdict field (Refused k p) e = (ap (λ (x : NumbersAnswer). x.number) e, ap (λ (x : NumbersAnswer). x.place) e)

-- so every answer returns those of the definition's verdict
pub returned : {m c : List ℤ} {r : NumbersAnswer} → Answers m c r → Returned m c r.number r.place
returned {m} {c} e = let b = of_verdict (has_field c) (verdict m c) e in record { number_is = b.0; place_is = b.1 }

-- ---- what is returned

-- a verdict with its reason
abbrev pub VerdictCases : List ℤ → List ℤ → Type 0
VerdictCases m c = ((k : ℕ) × (p : Place) × (verdict m c ≡ Refused k p))
    ⊎ (verdict m c ≡ Accepted (open_count m c) (lower_load m c) (upper_load m c))

pub refused_not_zero : (m c : List ℤ) {k : ℕ} {p : Place} → verdict m c ≡ Refused k p → k ≢ 0
refused_not_zero m c e z =
    let a = (accepted_exactly m c).1 ((returns_zero m c).0 (ap number_of e ∙ z)) in
    let y : ◌≡◌ {A = ℕ} 0 1 = cc in
    omega arith

module _ (m c : List ℤ) (number place : ℕ) (h : Returned m c number place) where
  -- a refusal's number and place, or 0
  is_refused : {k : ℕ} {p : Place} → verdict m c ≡ Refused k p → (number ≡ k) × (place ≡ place_number p)
  is_refused e = (h.number_is ∙ ap number_of e, h.place_is ∙ ap place_of e)

  is_zero : verdict m c ≡ Accepted (open_count m c) (lower_load m c) (upper_load m c) → (number ≡ 0) × (place ≡ 0)
  is_zero e = (h.number_is ∙ ap number_of e, h.place_is ∙ ap place_of e)

  -- ==== Demand 2

  pub returns_zero_exactly : ReturnsZero m c number place
  returns_zero_exactly = record {
    exactly = (λ e. (returns_zero m c).0 (sym h.number_is ∙ e), λ a. h.number_is ∙ (returns_zero m c).1 a);
    place_zero = λ e. (is_zero ((accepted_exactly m c).1 ((returns_zero m c).0 (sym h.number_is ∙ e)))).1;
  }

  pub refuses_exactly : RefusesExactly m c number place
  refuses_exactly = record {
    exactly = λ k j nonzero. (
      λ e. to (verdict_cases m c) nonzero e.0 e.1,
      λ r. from ((refused_exactly m c k (place_for k j)).1 r),
    );
  }
    where
      to : {k j : ℕ} → VerdictCases m c → k ≢ 0 → number ≡ k → place ≡ j → Refusal m c k (place_for k j)
      to {k} {j} (inl (i, p, e)) nonzero a b =
          let r : Refusal m c i p = (refused_exactly m c i p).0 e in
          let same : i ≡ k = sym (is_refused e).0 ∙ a in
          let there : place_number p ≡ j = sym (is_refused e).1 ∙ b in
          subst₂ (λ i q. Refusal m c i q) same
          (place_kind r ∙ ap (λ x. place_for x (place_number p)) same ∙ ap (place_for k) there) r
      to (inr e) nonzero a b = absurd (nonzero (sym a ∙ (is_zero e).0))

      from : {k j : ℕ} → verdict m c ≡ Refused k (place_for k j) → (number ≡ k) × (place ≡ j)
      from {k} {j} e = ((is_refused e).0, (is_refused e).1 ∙ place_number_lem k j)

  pub numbers_listed : NumbersListed number place
  numbers_listed = by (verdict_cases m c)
    where
      by : VerdictCases m c → NumbersListed number place
      by (inl (k, p, e)) =
          let (there, (line_one, column_zero)) = refusal_listed ((refused_exactly m c k p).0 e) in
          let (same, at) = is_refused e in
          record {
            listed = rw same there;
            line_one = λ z. at ∙ line_one (sym same ∙ z);
            column_zero = λ z. at ∙ column_zero (sym same ∙ z);
          }
      by (inr e) =
          let (same, at) = is_zero e in
          record { listed = rw same (Memᴰ.head refl); line_one = λ z. absurd (omega arith); column_zero = λ z. at }

  pub rows_refused : RowsRefused m c number place
  unfolding place_for
  rows_refused = record {
    equality = λ e. refused_equality m c (row 21 (λ z. omega arith) e);
    strength = λ e. refused_strength m c (row 22 (λ z. omega arith) e);
    unfixed = λ e. refused_unfixed m c (row 31 (λ z. omega arith) e);
    column = λ e. refused_column m c (row 32 (λ z. omega arith) e);
  }
    where
      row : (k : ℕ) → k ≢ 0 → number ≡ k → RefusalRow m c k (place_for k place)
      row k nonzero e = refusal_row m c k (place_for k place) ((refuses_exactly.exactly k place nonzero).0 (e, refl))

  tells_field : FieldAccepted m c → TellsField c number
  tells_field a = (a.there, by (verdict_cases m c))
    where
      by : VerdictCases m c → (number ≡ 0) ⊎ ((31 ≤ number) × (number ≤ 33))
      by (inl (k, p, e)) =
          let r : Refusal m c k p = (refused_exactly m c k p).0 e in
          let of = refused_after_field a r in
          inr (omega (arith, (is_refused e).0, of.0), omega (arith, (is_refused e).0, of.1))
      by (inr e) = inl (is_zero e).0

  field_told : TellsField c number → FieldAccepted m c
  field_told (f, inl z) = ((claim_by_parts m c).0 (returns_zero_exactly.exactly.0 z)).2 f
  field_told (f, inr b) = by (verdict_cases m c)
    where
      by : VerdictCases m c → FieldAccepted m c
      by (inl (k, p, e)) = field_before_multipliers ((refused_exactly m c k p).0 e)
          (omega (arith, (is_refused e).0, b.0), omega (arith, (is_refused e).0, b.1)) f
      by (inr e) = absurd (omega (arith, (is_zero e).0, b.0))

  pub field_exactly : FieldExactly m c number
  field_exactly = record {
    exactly = (
      λ a. (a.mesh, a.lines, a.there, (field-printed m (stress m c) (l c) (n c)).0 a.meets),
      λ p. record { mesh = p.0; lines = p.1; there = p.2; meets = (field-printed m (stress m c) (l c) (n c)).1 p.3 },
    );
    told = (tells_field, field_told);
  }

  pub multipliers_exactly : MultipliersExactly m c number
  multipliers_exactly = record {
    exactly = (multipliers_as_printed m c).exactly;
    told = (
      λ t. let by = (claim_by_parts m c).0 (returns_zero_exactly.exactly.0 t.1) in (by.3 t.0, by.2),
      λ a. (
        a.0.there,
        returns_zero_exactly.exactly.1 ((claim_by_parts m c).1 (a.0.mesh, a.0.lines, a.1, λ t. a.0)),
      ),
    );
  }

  -- an accepted field meets the criterion for each pair
  pub criterion_for_each_pair : TellsField c number → CriterionForEachPair m c
  criterion_for_each_pair t = record {
    pairs = accepted_criterion m c (field_told t);
    around = criterion_around m c (field_told t);
  }

  pub directions_asked : DirectionsAsked m c number
  directions_asked = record {
    planes = plane_meaning;
    cohesion = cohesion_meaning;
    accepted = λ t. planes_everywhere m c (field_told t);
  }

  pub tractions_on_joints : TractionsOnJoints m c number
  tractions_on_joints t = tractions_agree m c (field_told t)

  pub pairs_asked : PairsAsked m number place
  unfolding place_for
  pairs_asked = record {
    listed = pairs m;
    sound = sound_pairs m;
    refused = λ e. pairs_fail m c place ((refuses_exactly.exactly 42 place (λ z. omega arith)).0 (e, refl));
  }

  pub sides_asked : SidesAsked m c number place
  unfolding place_for
  sides_asked = record {
    limits = limits_by_sides m;
    many_nodes = λ l e h. (refuses_exactly.exactly 2 1 (λ z. omega arith)).1
        (of_mesh (((limits_by_sides m).with_108 e).nodes_refused l h));
    small_multipliers = λ z there e.
        let a = returns_zero_exactly.exactly.0 z in
        λ p i h l. (((limits_by_sides m).with_108 e).strength_few c a.mesh a.lines there p i h l).most;
    large_multiplier = λ sound there e a i h l large before whole.
        (refuses_exactly.exactly 12 (suc (strength_line m c a)) (λ z. omega arith)).1
        (((limits_by_sides m).with_108 e).strength_refused c sound there a i h l (λ b. over_limit large b.most) before
        whole);
    bedded_soil = λ e s h kind before whole.
        (refuses_exactly.exactly 2 (suc (suc s)) (λ z. omega arith)).1
        (of_mesh (((limits_by_sides m).with_108 e).kind_refused s h (λ b. over_limit (above_0 kind) b.most) before
        whole));
    polygon = λ s. polygon_asked (sides m) (mesh_facts m s.lines).counts.sides_listed;
  }
    where
      of_mesh : {p : Place} → MeshRefusal m 2 p → Refusal m c 2 p
      of_mesh {p} r = record { by = join_refused (mesh_phases m) (claim_phases m c) 2 p (inl r.by) }

      above_0 : {z : ℤ} → z ≡ pos 1 → pos 0 <ℤ z
      above_0 e = rw e (lt_z_yes tt)

  pub overlaps_asked : OverlapsAsked m number place
  unfolding place_for
  overlaps_asked = record {
    sound = sound_mesh_apart m;
    refused = λ e. overlap_named m c (Element place) (named e);
    never = λ none e. never_for_this m c none (Element place) (named e);
  }
    where
      named : number ≡ 47 → Refusal m c 47 (Element place)
      named e = (refuses_exactly.exactly 47 place (λ z. omega arith)).0 (e, refl)

pub jumps_asked : (m : List ℤ) → JumpsAsked m
jumps_asked m = record { sound = sound_jumps m; tip = tip_asks_nothing m; none = no_jumps m }

-- ---- a mesh alone

-- what `judge_mesh` answers, by document 01's number and place for each case of its outcome
pub mesh_answered_exactly : {A : Type 0} (m : List ℤ) (r : Result A Answered.Refusal) → MeshAnsweredExactly m r
mesh_answered_exactly m r h = mesh_exactly m (outcome_of r) h

-- ---- triangles

pub triangles_asked : (m : List ℤ) → TrianglesAsked m
triangles_asked m = record {
  read = λ sound e there. record {
    triangle = read_as_triangle m e;
    only_repeat = only_repeat m e (sound.left_turns e there);
    area = area m e;
    area_above_0 = (area m e).above_0 (sound.left_turns e there);
    outward = λ g. outward_normal m g e;
    passed_before = passed_before m e;
  };
  before = without_triangles m;
}
