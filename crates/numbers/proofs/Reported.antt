-- The promises of what an answer reports, and of loads compared, hold of every answer: a part is reported exactly where
-- the verdict accepts it, and then the theorems about accepted parts are read off its numbers.
use mathlib.Core.Path.{◌≡◌, refl, sym, ◌∙◌, ap, ap₂, subst}
use mathlib.Core.Bool.{Bool, true, false, cond, not, ◌&&◌}
use mathlib.Core.Logic.{◌↔◌, ◌⊎◌, inl, inr, ◌≢◌}
use mathlib.Core.List.{List}
use Prim.Native.Nat.{ℕ}
use native.Mathlib.Omega.{arith}
use lib.Dec.{T}
use lib.IntN.{ℤ, pos}
use lib.Signed.{◌<ℤ◌, <ℤ_irrefl}
use borrow.Table.Steps.{cases}
use Rattle.scope.proofs.SameRows.{same_mesh}
use Rattle.integer.specs.Fraction.{◌over◌, Positive}
use Rattle.integer.proofs.FractionLaws.{≈ᶠ_sym, ≈ᶠ_trans}
use Rattle.integer.specs.Tests.{eq_z}
use Rattle.integer.proofs.TestLaws.{eq_z_yes, eq_z_no}
use Rattle.scope.specs.Cases.Load.{Load}
use Rattle.scope.specs.Cases.Load.{Absent, Exact}
use Rattle.scope.specs.Cases.OpenRows.{Absent as NoCount}
use Rattle.scope.specs.Cases.Verdict.{Verdict}
use Rattle.scope.specs.Cases.Verdict.{Accepted}
use Rattle.scope.specs.Columns.{at, has_field, has_multipliers, n, l}
use Rattle.scope.specs.Mesh.{some_by_direction, ListsDirection}
use Rattle.scope.specs.Rows.{rows_of}
use Rattle.scope.specs.Sums.{live_sum, limit_sum, open_rows}
use Rattle.scope.specs.Claim.{stress, multiplier}
use Rattle.scope.specs.Verdict.{verdict, lower_load, upper_load, open_count}
use Rattle.scope.specs.Statements.{MeshSound, HasField, HasMultipliers}
use Rattle.scope.specs.Accepted.{FieldAccepted, MultipliersAccepted}
use Rattle.scope.specs.Bracket.{Bracket}
use Rattle.scope.specs.Parts.{carried, allowed, SameRows, PartsBracket}
use Rattle.scope.proofs.Exactly.{accepted_exactly, verdict_cases}
use Rattle.scope.proofs.Printed.{field-printed}
use Rattle.scope.proofs.Directions.{lists_direction}
use Rattle.scope.proofs.Decides.{Decides, equalℤ}
use Rattle.scope.proofs.Parts.{field-n, whole_bracket, parts_bracket, open_rows_count}
use Rattle.scope.proofs.AcceptedFractions.{mesh_fractions, fraction_at_most}
use Rattle.scope.proofs.AcceptedMultipliers.{sums_printed}
use Rattle.numbers.specs.declared.numbers_answer.NumbersAnswer.{NumbersAnswer}
use Rattle.numbers.specs.NumbersAnswer.{there, numerator, denominator, counted, answer_of}
use Rattle.numbers.specs.Promises.{Answers}
use Rattle.numbers.specs.Promises.{FieldReported, MultipliersReported}
use Rattle.numbers.specs.Promises.{CallsBracket}
use Rattle.numbers.specs.Promises.{TwoAnswers, AnswerAndMultipliers, OpenRowsReported, FractionsBracket}
use Rattle.numbers.specs.Promises.{FractionsAndAnswer, FieldInFractions}
use Rattle.numbers.proofs.Promises.{VerdictCases, refused_not_zero, returned, returns_zero_exactly, field_exactly}
use Rattle.numbers.proofs.Promises.{multipliers_exactly}

-- ---- what is reported: a part with its two numbers, or none of them

data PartReported (There : Type 0) (number part : ℕ) (top bottom a b : ℤ) : Type 0 where
  with_numbers : There → number ≡ 0 → part ≡ 1 → top ≡ a → bottom ≡ b → PartReported There number part top bottom a b
  with_none : ¬ (There × (number ≡ 0)) → part ≡ 0 → top ≡ pos 0 → bottom ≡ pos 0
      → PartReported There number part top bottom a b

module _ {There : Type 0} {number part : ℕ} {top bottom a b : ℤ} where
  reported_exactly : PartReported There number part top bottom a b → (part ≡ 1) ↔ (There × (number ≡ 0))
  reported_exactly (with_numbers t z e f g) = (λ d. (t, z), λ d. e)
  reported_exactly (with_none x e f g) = (λ d. absurd (omega arith), λ d. absurd (x d))

  reported-numbers : PartReported There number part top bottom a b → part ≡ 1 → (top ≡ a) × (bottom ≡ b)
  reported-numbers (with_numbers t z e f g) d = (f, g)
  reported-numbers (with_none x e f g) d = absurd (omega arith)

  reported_none : PartReported There number part top bottom a b → part ≢ 1
      → (part ≡ 0) × (top ≡ pos 0) × (bottom ≡ pos 0)
  reported_none (with_numbers t z e f g) d = absurd (d e)
  reported_none (with_none x e f g) d = (e, f, g)

-- a field with its load: no accepted one is there, its load is not told, or it is
data FieldCases (m c : List ℤ) (r : NumbersAnswer) : Type 0 where
  not_there : ¬ (HasField c × (r.number ≡ 0)) → r.field ≡ 0 → r.l ≡ pos 0 → r.n ≡ pos 0 → FieldCases m c r
  not_told : HasField c → ListsDirection m → r.number ≡ 0 → r.field ≡ 1 → r.l ≡ pos 0 → r.n ≡ pos 0 → FieldCases m c r
  told : HasField c → ¬ ListsDirection m → r.number ≡ 0 → r.field ≡ 1 → r.l ≡ l c → r.n ≡ n c → FieldCases m c r

no_load : {X : Type 0} {z : ℤ} → z ≡ pos 0 → pos 0 <ℤ z → X
no_load e h = absurd (<ℤ_irrefl (rw e at h))

module _ {m c : List ℤ} {r : NumbersAnswer} where
  cases_exactly : FieldCases m c r → (r.field ≡ 1) ↔ (HasField c × (r.number ≡ 0))
  cases_exactly (not_there x e f g) = (λ d. absurd (omega arith), λ d. absurd (x d))
  cases_exactly (not_told t y z e f g) = (λ d. (t, z), λ d. e)
  cases_exactly (told t y z e f g) = (λ d. (t, z), λ d. e)

  cases_told : FieldCases m c r → (r.field ≡ 1 → pos 0 <ℤ n c) → (pos 0 <ℤ r.n) ↔ ((r.field ≡ 1) × (¬ ListsDirection m))
  cases_told (not_there x e f g) above = (λ d. no_load g d, λ d. absurd (omega (arith, d.0)))
  cases_told (not_told t y z e f g) above = (λ d. no_load g d, λ d. absurd (d.1 y))
  cases_told (told t y z e f g) above = (λ d. (e, y), λ d. rw g (above e))

  cases_load : FieldCases m c r → r.field ≡ 1 → ¬ ListsDirection m → (r.l ≡ l c) × (r.n ≡ n c)
  cases_load (not_there x e f g) d plain = absurd (omega arith)
  cases_load (not_told t y z e f g) d plain = absurd (plain y)
  cases_load (told t y z e f g) d plain = (f, g)

  cases_untold : FieldCases m c r → ListsDirection m → (r.l ≡ pos 0) × (r.n ≡ pos 0)
  cases_untold (not_there x e f g) d = (f, g)
  cases_untold (not_told t y z e f g) d = (f, g)
  cases_untold (told t y z e f g) d = absurd (y d)

  cases_none : FieldCases m c r → r.field ≢ 1 → (r.field ≡ 0) × (r.l ≡ pos 0) × (r.n ≡ pos 0)
  cases_none (not_there x e f g) d = (e, f, g)
  cases_none (not_told t y z e f g) d = absurd (d e)
  cases_none (told t y z e f g) d = absurd (d e)

-- a load that is there where a part is, a over b, and else absent
abbrev LoadOf : Type 0 → Load → ℤ → ℤ → Type 0
LoadOf There x a b = (There × (x ≡ Exact a b)) ⊎ ((¬ There) × (x ≡ Absent))

upper_load_lem : (m c : List ℤ)
    → LoadOf (HasMultipliers c) (upper_load m c) (limit_sum (multiplier m c) (rows_of m))
    (live_sum (multiplier m c) (rows_of m))
unfolding upper_load has_multipliers
upper_load_lem m c =
    cases (eq_z (at c 1) (pos 1))
    (λ t. inl (eq_z_yes (subst T (sym t) tt), rw t))
    (λ t. inr (eq_z_no (rw t tt), rw t))

-- an accepted claim's part
part_of : {There : Type 0} {number part : ℕ} {x : Load} {top bottom a b : ℤ} → number ≡ 0 → LoadOf There x a b
    → part ≡ there x → top ≡ numerator x → bottom ≡ denominator x → PartReported There number part top bottom a b
part_of z (inl (t, d)) e f g = with_numbers t z (e ∙ ap there d) (f ∙ ap numerator d) (g ∙ ap denominator d)
part_of z (inr (t, d)) e f g = with_none (λ s. t s.0) (e ∙ ap there d) (f ∙ ap numerator d) (g ∙ ap denominator d)

-- a claim that lacks a part has no count of open rows
not_both : (m c : List ℤ) → (¬ HasField c) ⊎ (¬ HasMultipliers c) → open_count m c ≡ NoCount
unfolding open_count has_field has_multipliers
not_both m c x =
    cases (eq_z (at c 0) (pos 1))
    (λ t. cases (eq_z (at c 1) (pos 1)) (λ u. both x (eq_z_yes (subst T (sym t) tt)) (eq_z_yes (subst T (sym u) tt)))
    (λ u. rw (t, u)))
    (λ t. rw t)
  where
    both : {X : Type 0} → (¬ HasField c) ⊎ (¬ HasMultipliers c) → HasField c → HasMultipliers c → X
    both (inl f) a b = absurd (f a)
    both (inr f) a b = absurd (f b)

module _ (m c : List ℤ) (r : NumbersAnswer) (h : Answers m c r) where
  is_answer : {v : Verdict} → verdict m c ≡ v → r ≡ answer_of (has_field c) v
  is_answer e = h ∙ ap (answer_of (has_field c)) e

  field_cases : FieldCases m c r
  unfolding lower_load has_field
  field_cases = of (verdict_cases m c)
    where
      by : (b d : Bool) → Decides b (HasField c) → Decides d (ListsDirection m)
          → r ≡ answer_of b (Accepted (open_count m c) (cond (b && not d) (Exact (l c) (n c)) Absent) (upper_load m c))
          → FieldCases m c r
      by true true f g a =
          not_told (f.holds tt) (g.holds tt) (ap (λ (x : NumbersAnswer). x.number) a)
          (ap (λ (x : NumbersAnswer). x.field) a) (ap (λ (x : NumbersAnswer). x.l) a)
          (ap (λ (x : NumbersAnswer). x.n) a)
      by true false f g a =
          told (f.holds tt) (λ h. g.passes h) (ap (λ (x : NumbersAnswer). x.number) a)
          (ap (λ (x : NumbersAnswer). x.field) a) (ap (λ (x : NumbersAnswer). x.l) a)
          (ap (λ (x : NumbersAnswer). x.n) a)
      by false d f g a =
          not_there (λ h. f.passes h.0) (ap (λ (x : NumbersAnswer). x.field) a)
          (ap (λ (x : NumbersAnswer). x.l) a) (ap (λ (x : NumbersAnswer). x.n) a)

      of : VerdictCases m c → FieldCases m c r
      of (inl (k, p, e)) =
          let a = is_answer e in
          not_there (λ h. refused_not_zero m c e (sym (ap (λ (x : NumbersAnswer). x.number) a) ∙ h.1))
          (ap (λ (x : NumbersAnswer). x.field) a) (ap (λ (x : NumbersAnswer). x.l) a)
          (ap (λ (x : NumbersAnswer). x.n) a)
      of (inr e) = by (has_field c) (some_by_direction m) (equalℤ (at c 0) (pos 1)) (lists_direction m) (is_answer e)

  multiplier_part_lem : PartReported (HasMultipliers c) r.number r.multipliers r.w r.m
      (limit_sum (multiplier m c) (rows_of m)) (live_sum (multiplier m c) (rows_of m))
  multiplier_part_lem = by (verdict_cases m c)
    where
      by : VerdictCases m c → PartReported (HasMultipliers c) r.number r.multipliers r.w r.m
          (limit_sum (multiplier m c) (rows_of m)) (live_sum (multiplier m c) (rows_of m))
      by (inl (k, p, e)) =
          let a = is_answer e in
          with_none (λ t. refused_not_zero m c e (sym (ap (λ (x : NumbersAnswer). x.number) a) ∙ t.1))
          (ap (λ (x : NumbersAnswer). x.multipliers) a) (ap (λ (x : NumbersAnswer). x.w) a)
          (ap (λ (x : NumbersAnswer). x.m) a)
      by (inr e) =
          let a = is_answer e in
          part_of (ap (λ (x : NumbersAnswer). x.number) a) (upper_load_lem m c)
          (ap (λ (x : NumbersAnswer). x.multipliers) a) (ap (λ (x : NumbersAnswer). x.w) a)
          (ap (λ (x : NumbersAnswer). x.m) a)

  -- the parts that are reported are accepted
  field_of : r.field ≡ 1 → FieldAccepted m c
  field_of e = let t = (cases_exactly field_cases).0 e in (field_exactly m c r.number r.place (returned h)).told.1
      (t.0, inl t.1)

  multipliers_of : r.multipliers ≡ 1 → MultipliersAccepted m c
  multipliers_of e = ((multipliers_exactly m c r.number r.place (returned h)).told.0
      ((reported_exactly multiplier_part_lem).0 e)).0

  pub field-reported : FieldReported m c r
  field-reported = record {
    exactly = cases_exactly field_cases;
    carries = λ e. (field-n m c (field_of e), (field-printed m (stress m c) (l c) (n c)).0 (field_of e).meets);
    told = cases_told field_cases (λ e. field-n m c (field_of e));
    load = cases_load field_cases;
    untold = cases_untold field_cases;
    none = cases_none field_cases;
  }

  pub multipliers_reported : MultipliersReported m c r
  multipliers_reported = record {
    exactly = reported_exactly multiplier_part_lem;
    limit = reported-numbers multiplier_part_lem;
    printed = λ e. let sums = sums_printed m c (multipliers_of e).mesh in
        let i = reported-numbers multiplier_part_lem e in (i.0 ∙ sums.limit, i.1 ∙ sums.live);
    m_above_0 = λ e. rw (reported-numbers multiplier_part_lem e).1 (multipliers_of e).meet.live;
    none = reported_none multiplier_part_lem;
  }

  -- ---- open rows

  open_count_lem : r.field ≡ 1 → r.multipliers ≡ 1
      → r.open_rows ≡ open_rows (stress m c) (l c) (n c) (multiplier m c) (rows_of m)
  open_count_lem e f =
      let z = ((cases_exactly field_cases).0 e).1 in
      let a = (accepted_exactly m c).1 ((returns_zero_exactly m c r.number r.place (returned h)).exactly.0 z) in
      ap (λ (x : NumbersAnswer). x.open_rows) (is_answer a)
      ∙ ap counted (open_rows_count m c (field_of e) (multipliers_of f)).both

  none_counted : (r.field ≢ 1) ⊎ (r.multipliers ≢ 1) → r.open_rows ≡ 0
  none_counted x = by (verdict_cases m c)
    where
      lacks : r.number ≡ 0 → (r.field ≢ 1) ⊎ (r.multipliers ≢ 1) → (¬ HasField c) ⊎ (¬ HasMultipliers c)
      lacks z (inl e) = inl (λ f. e ((cases_exactly field_cases).1 (f, z)))
      lacks z (inr e) = inr (λ f. e ((reported_exactly multiplier_part_lem).1 (f, z)))

      by : VerdictCases m c → r.open_rows ≡ 0
      by (inl (k, p, e)) = ap (λ (x : NumbersAnswer). x.open_rows) (is_answer e)
      by (inr e) =
          let a = is_answer e in
          ap (λ (x : NumbersAnswer). x.open_rows) a
          ∙ ap counted (not_both m c (lacks (ap (λ (x : NumbersAnswer). x.number) a) x))

  -- ==== Demand 3

  pub open_rows_reported : OpenRowsReported m c r
  unfolding carried allowed
  open_rows_reported = record {
    count = λ e f. rw (open_count_lem e f) (open_rows_count m c (field_of e) (multipliers_of f)).number;
    closed = λ e f.
        let j = reported-numbers multiplier_part_lem f in
        rw (j.0, j.1, open_count_lem e f) (open_rows_count m c (field_of e) (multipliers_of f)).none;
    one_part = none_counted;
  }

  pub field_in_fractions : r.field ≡ 1 → FieldInFractions m c
  field_in_fractions e =
      let above = field-n m c (field_of e) in
      record {
        above_0 = above;
        meets = (mesh_fractions m (field_of e).mesh).laws.whole_numbers (n c) above (stress m c) (l c)
            (field_of e).meets;
      }

-- the field of one call and the multipliers of another, or of the same, on meshes with the same rows
pub calls_bracket : {m c d k : List ℤ} {r s : NumbersAnswer} → TwoAnswers m c d k r s
unfolding carried allowed
calls_bracket {m} {c} {d} {k} {r} {s} h g same e f =
    let j = reported-numbers (multiplier_part_lem d k s g) f in
    let b : PartsBracket m c d k = parts_bracket m c d k same (field_of m c r h e) (multipliers_of d k s g f) in
    record {
      n_above_0 = b.n_above_0;
      m_above_0 = rw j.1 b.m_above_0;
      told = λ no. let i = cases_load (field_cases m c r h) e no in ap₂ ◌over◌ i.0 i.1;
      at_most = rw (j.0, j.1) b.at_most;
      equal = rw (j.0, j.1) b.equal;
    }

pub call_bracket : {m c : List ℤ} {r : NumbersAnswer} → Answers m c r → r.field ≡ 1 → r.multipliers ≡ 1
    → CallsBracket m c m c r r
call_bracket h e f = calls_bracket h h (same_mesh refl) e f

-- parts of claims that may be refused for their other part
pub accepted_parts : {m c d k : List ℤ} {r : NumbersAnswer} → AnswerAndMultipliers m c d k r
accepted_parts {m} {c} {d} {k} {r} h same t w = parts_bracket m c d k same
    ((field_exactly m c r.number r.place (returned h)).told.1 t) w

-- ---- fractions

pub fractions_allowed : (m d k : List ℤ) → MeshSound m → SameRows m d → MultipliersAccepted d k
    → FractionsBracket m d k (allowed d k)
unfolding allowed
fractions_allowed m d k sound same w =
    let proper : Positive (allowed d k) = record { positive = w.meet.live } in
    record {
      laws = (mesh_fractions m sound).laws;
      at_most = fraction_at_most m d k same w;
      equal = λ f met b t a written.
          let whole : Bracket t a b (multiplier d k) (rows_of d) = whole_bracket m d k same w t a b
          (((mesh_fractions m sound).laws.same_for_each f).0 met b t a written) in
          let over_b : Positive (a over b) = record { positive = written.above_0 } in (
            λ x. whole.equal.0 (≈ᶠ_trans over_b f.load.proper proper written.load x).cross-≡,
            λ x. ≈ᶠ_trans f.load.proper over_b proper (≈ᶠ_sym written.load) (record { cross-≡ = whole.equal.1 x }),
          );
    }

pub fractions_bracket : {d k : List ℤ} {s : NumbersAnswer} → FractionsAndAnswer d k s
unfolding allowed
fractions_bracket {d} {k} {s} g e m sound same =
    let j = reported-numbers (multiplier_part_lem d k s g) e in
    rw (j.0, j.1) (fractions_allowed m d k sound same (multipliers_of d k s g e))
