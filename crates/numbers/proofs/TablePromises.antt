-- The promises with a table hold of every answer: the verdict came early, by the table, or is the one on the filled
-- mesh.
use mathlib.Core.Path.{◌≡◌, refl, sym, ◌∙◌, ap, subst, subst₂}
use mathlib.Core.Logic.{◌↔◌, ◌⊎◌, inl, inr, ◌≢◌}
use mathlib.Core.List.{List}
use Prim.Native.Nat.{ℕ, ◌+◌, ◌≤◌}
use native.Mathlib.Omega.{arith}
use lib.IntN.{ℤ}
use Rattle.scope.specs.declared.Place.{Place}
use Rattle.scope.specs.Cases.Verdict.{Verdict}
use Rattle.scope.specs.Cases.Verdict.{Accepted, Refused}
use Rattle.scope.specs.Columns.{has_field}
use Rattle.scope.specs.Answer.{place_number, place_for, number_of, place_of}
use Rattle.scope.specs.Table.{mesh_read}
use Rattle.scope.specs.TableVerdict.{tabled_verdict, TabledRefusal, TablePasses, TableFits}
use Rattle.scope.specs.LayerRefusals.{LowestGap, LayerRefusalRow, forty_six, forty_six_else, forty_five}
use Rattle.scope.specs.TabledRefusals.{LayersRefused, TabledRefusalRow}
use Rattle.scope.specs.Filled.{with_soils}
use Rattle.scope.proofs.Exactly.{refused_exactly}
use Rattle.scope.proofs.PlaceKinds.{place_kind, place_number_lem}
use Rattle.scope.proofs.Filled.{element_layer, filled_from_lem, reordered_filled}
use Rattle.scope.proofs.Table.{named_facts}
use Rattle.scope.proofs.TableVerdict.{Came, early, late, came, fits_late, tabled_refused, early_number, early_kind}
use Rattle.scope.proofs.TableVerdict.{tabled_zero, read_lines_lem, no_table_verdict}
use Rattle.scope.proofs.TabledRefusals.{tabled_exactly, layers_exactly}
use Rattle.scope.proofs.TabledPlaces.{one_of_line, two_of_line, four_of_line}
use Rattle.numbers.proofs.Promises.{of_verdict, refused_not_zero}
use Rattle.numbers.specs.declared.numbers_answer.NumbersAnswer.{NumbersAnswer}
use Rattle.numbers.specs.NumbersAnswer.{answer_of}
use Rattle.numbers.specs.TablePromises.{TableAnswers, TableReturned, OwnLinesAsked, FirstLayerFails, LayersAsked}
use Rattle.numbers.specs.TablePromises.{TableExactly}
use Rattle.numbers.specs.TablePromises.{AsFilled, FilledMesh}

pub table_returned : {t m c : List ℤ} {r : NumbersAnswer} → TableAnswers t m c r → TableReturned t m c r.number r.place
table_returned {t} {m} {c} e =
    let b = of_verdict (has_field c) (tabled_verdict t m c) e in record { number_is = b.0; place_is = b.1 }

-- the place of a refusal is the one for its number
refused_kind : (t m c : List ℤ) {k : ℕ} {p : Place} → tabled_verdict t m c ≡ Refused k p
    → p ≡ place_for k (place_number p)
refused_kind t m c {k} {p} e = by (came t m c)
  where
    number_of_lem : {i j : ℕ} {q s : Place} → Refused i q ≡ Refused j s → i ≡ j
    number_of_lem d = cc

    place_of_lem : {i j : ℕ} {q s : Place} → Refused i q ≡ Refused j s → q ≡ s
    place_of_lem d = cc

    by : Came t m c → p ≡ place_for k (place_number p)
    by (early i q r d) =
        let same = sym d ∙ e in
        subst₂ (λ (n : ℕ) (s : Place). s ≡ place_for n (place_number s)) (number_of_lem same) (place_of_lem same)
        (early_kind t m i q r)
    by (late f d) = place_kind ((refused_exactly (mesh_read t m) c k p).0 (sym d ∙ e))

-- what a row of 46 or 45 says of its place
line_row : {t : List ℤ} {lo hi k : ℕ} {p : Place} → LayerRefusalRow t lo hi k p → k ≡ 46
    → (i : ℕ) × FirstLayerFails t lo hi i × (place_number p ≡ 1001 + i)
line_row (forty_six i h) e = (i, inl h, refl)
line_row (forty_six_else i a h) e = (i, inr (a, h), refl)
line_row (forty_five q a b g) e = absurd (omega (arith, e))

gap_row : {t : List ℤ} {lo hi k : ℕ} {p : Place} → LayerRefusalRow t lo hi k p → k ≡ 45 → LowestGap t lo hi (place_number p)
gap_row (forty_six i h) e = absurd (omega (arith, e))
gap_row (forty_six_else i a h) e = absurd (omega (arith, e))
gap_row (forty_five q a b g) e = g

module _ (t m c : List ℤ) (number place : ℕ) (h : TableReturned t m c number place) where
  is_refused : {k : ℕ} {p : Place} → tabled_verdict t m c ≡ Refused k p → (number ≡ k) × (place ≡ place_number p)
  is_refused e = (h.number_is ∙ ap number_of e, h.place_is ∙ ap place_of e)

  -- a refusal, or 0 with place 0
  cases_of : ((k : ℕ) × (p : Place) × (tabled_verdict t m c ≡ Refused k p)) ⊎ ((number ≡ 0) × (place ≡ 0))
  cases_of = by (tabled_verdict t m c) refl
    where
      by : (v : Verdict) → tabled_verdict t m c ≡ v → ((k : ℕ) × (p : Place) × (tabled_verdict t m c ≡ Refused k p))
          ⊎ ((number ≡ 0) × (place ≡ 0))
      by (Accepted o a b) e = inr (h.number_is ∙ ap number_of e, h.place_is ∙ ap place_of e)
      by (Refused k p) e = inl (k, p, e)

  not_zero : {k : ℕ} {p : Place} → tabled_verdict t m c ≡ Refused k p → k ≢ 0
  not_zero {k} {p} e z = of (came t m c)
    where
      of : Came t m c → ⊥
      of (early i q r d) = absurd (omega (arith, (early_number t m i q r).0, ap number_of (sym d ∙ e)))
      of (late f d) = refused_not_zero (mesh_read t m) c (sym d ∙ e) z

  zero_place : number ≡ 0 → ((k : ℕ) × (p : Place) × (tabled_verdict t m c ≡ Refused k p))
      ⊎ ((number ≡ 0) × (place ≡ 0)) → place ≡ 0
  zero_place z (inl (k, p, e)) = absurd (not_zero e (sym (is_refused e).0 ∙ z))
  zero_place z (inr e) = e.1

  to : {k j : ℕ} → k ≢ 0 → number ≡ k → place ≡ j → ((i : ℕ) × (p : Place) × (tabled_verdict t m c ≡ Refused i p))
      ⊎ ((number ≡ 0) × (place ≡ 0)) → TabledRefusal t m c k (place_for k j)
  to {k} {j} nonzero a b (inl (i, p, e)) =
      let same : i ≡ k = sym (is_refused e).0 ∙ a in
      let there : place_number p ≡ j = sym (is_refused e).1 ∙ b in
      subst₂ (λ (n : ℕ) (q : Place). TabledRefusal t m c n q) same
      (refused_kind t m c e ∙ ap (λ (x : ℕ). place_for x (place_number p)) same ∙ ap (place_for k) there)
      ((tabled_refused t m c i p).0 e)
  to nonzero a b (inr e) = absurd (nonzero (sym a ∙ e.0))

  unfit : ¬ TableFits t m → Came t m c → (number ≤ 4) ⊎ ((number ≡ 45) ⊎ (number ≡ 46))
  unfit f (late g e) = absurd (f g)
  unfit f (early k p r e) = subst (λ (n : ℕ). (n ≤ 4) ⊎ ((n ≡ 45) ⊎ (n ≡ 46))) (sym (is_refused e).0)
      (early_number t m k p r).1

  refuses : (k j : ℕ) → k ≢ 0 → ((number ≡ k) × (place ≡ j)) ↔ TabledRefusal t m c k (place_for k j)
  refuses k j nonzero = (
    λ e. to nonzero e.0 e.1 cases_of,
    λ r. let e = (tabled_refused t m c k (place_for k j)).1 r in
        ((is_refused e).0, (is_refused e).1 ∙ place_number_lem k j),
  )

  row : (k j : ℕ) → k ≢ 0 → ((number ≡ k) × (place ≡ j)) ↔ TabledRefusalRow t m c k (place_for k j)
  row k j nonzero = (
    λ e. (tabled_exactly t m c k (place_for k j)).0 ((refuses k j nonzero).0 e),
    λ r. (refuses k j nonzero).1 ((tabled_exactly t m c k (place_for k j)).1 r),
  )

  -- the same in other words
  told_as : {k j : ℕ} {A : Type 0} → k ≢ 0 → TabledRefusalRow t m c k (place_for k j) ↔ A
      → ((number ≡ k) × (place ≡ j)) ↔ A
  told_as {k} {j} nonzero e = (λ h. e.0 ((row k j nonzero).0 h), λ a. (row k j nonzero).1 (e.1 a))

  own_lines_asked : OwnLinesAsked t m number place
  unfolding place_for
  own_lines_asked = record {
    form = λ i. told_as (λ e. omega arith) (one_of_line t m c i);
    limits = λ i. told_as (λ e. omega arith) (two_of_line t m c i);
    soil = λ i. told_as (λ e. omega arith) (four_of_line t m c i);
  }

  layers_exactly_lem : (k j : ℕ) → (k ≡ 45) ⊎ (k ≡ 46)
      → ((number ≡ k) × (place ≡ j)) ↔ LayersRefused t m k (place_for k j)
  layers_exactly_lem k j o = told_as (some o) (layers_exactly t m c k (place_for k j) o)
    where
      some : {k : ℕ} → (k ≡ 45) ⊎ (k ≡ 46) → k ≢ 0
      some (inl e) z = omega arith
      some (inr e) z = omega arith

  layers_asked : LayersAsked t m number place
  layers_asked = record {
    exactly = layers_exactly_lem;
    line = λ e.
        let r = (layers_exactly_lem 46 place (inr refl)).0 (e, refl) in
        let (i, f, a) = line_row r.row refl in
        (r.lowest, r.highest, i, r.before, f, sym (place_number_lem 46 place) ∙ a);
    gap = λ e.
        let r = (layers_exactly_lem 45 place (inl refl)).0 (e, refl) in (
          r.lowest,
          r.highest,
          r.before,
          subst (LowestGap _ r.lowest r.highest) (place_number_lem 45 place) (gap_row r.row refl),
        );
  }

  pub table_exactly : TableExactly t m c number place
  table_exactly = record {
    zero = (λ e. (tabled_zero t m c).0 (sym h.number_is ∙ e), λ a. h.number_is ∙ (tabled_zero t m c).1 a);
    place_zero = λ e. zero_place e cases_of;
    refuses = refuses;
    row = row;
    own_lines_asked = own_lines_asked;
    layers_asked = layers_asked;
    unfit = λ f. unfit f (came t m c);
  }

pub as_filled : {t m c : List ℤ} {r : NumbersAnswer} → TableAnswers t m c r → AsFilled t m c r
as_filled {t} {m} {c} h = record {
  fits = λ f. h ∙ ap (answer_of (has_field c)) (fits_late t m c f);
  none = λ e. h ∙ ap (λ (u : List ℤ). answer_of (has_field c) (tabled_verdict u m c)) e
      ∙ ap (answer_of (has_field c)) (no_table_verdict m c);
}

pub filled_mesh : (t m : List ℤ) → TablePasses t m → FilledMesh t m
unfolding with_soils
filled_mesh t m p =
    let k = named_facts m p.mesh_lines in
    record {
      lines = read_lines_lem t m p;
      one_layer = element_layer (λ e. _) m k t p.sound;
      filled_from = filled_from_lem t m;
      order = λ u r. reordered_filled t m k p.sound r;
    }
