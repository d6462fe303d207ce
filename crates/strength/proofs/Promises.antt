-- Each promise of specs/Promises.antt holds of every answer: an answer is one of two, by the test `accepted`.
use mathlib.Core.Path.{◌≡◌, sym, ap, ◌∙◌, subst}
use mathlib.Core.Logic.{inl}
use mathlib.Core.Bool.{not, cond}
use Prim.Native.Nat.{ℕ}
use native.Mathlib.Omega.{arith}
use lib.Dec.{T}
use lib.Ieee.Bits.{is_true, is_false}
use borrow.Table.Steps.{cases}
use Rattle.strength.specs.declared.Trial.{Trial}
use Rattle.std.specs.Prelude.{Ok, Err}
use Rattle.strength.specs.declared.StrengthError.TheVariants.{NoStrength}
use Rattle.strength.specs.declared.NextAnswer.{NextAnswer}
use Rattle.strength.specs.Next.{zero, hyperbola, accepted, next_strength, next_answer}
use Rattle.strength.specs.Rounded.{Rounded}
use Rattle.strength.specs.Exact.{exact_strength, in64ths, Trial64ths}
use Rattle.strength.specs.Promises.{Answers, GivesOrRefuses, ExactOn64ths}
use Rattle.strength.proofs.EachRounded.{each_rounded}
use Rattle.strength.proofs.OnlyRounding.{division_is_the_only_rounding}
use Rattle.strength.proofs.Refusals.{refuses_by_exact_values}
use Rattle.strength.proofs.Values.{says_positive, accepted_says}

clash : {n : ℕ} → n ≡ 0 → n ≡ 49 → ⊥
clash e f = omega arith

module _ (a b : Trial) (r : NextAnswer) (h : Answers a b r) where
  given : T (accepted a b) → r ≡ record { number = 0; place = 0; strength = hyperbola a b }
  unfolding next_strength next_answer
  given t = h ∙ ap (λ x. next_answer (cond x (Ok (hyperbola a b)) (Err NoStrength))) (is_true (accepted a b) t)

  is_refused : T (not (accepted a b)) → next_strength a b ≡ Err NoStrength
  unfolding next_strength
  is_refused t = ap (λ x. cond x (Ok (hyperbola a b)) (Err NoStrength)) (is_false (accepted a b) t)

  refused : next_strength a b ≡ Err NoStrength → r ≡ record { number = 49; place = 0; strength = zero }
  unfolding next_answer
  refused e = h ∙ ap next_answer e

  either : {C : Type 0} → (T (accepted a b) → C) → (next_strength a b ≡ Err NoStrength → C) → C
  either f g =
      cases (accepted a b) (λ e. f (subst T (sym e) tt)) (λ e. g (is_refused (subst (λ x. T (not x)) (sym e) tt)))

  given_number : T (accepted a b) → r.number ≡ 0
  given_number t = ap (λ (r : NextAnswer). r.number) (given t)

  refused_number : next_strength a b ≡ Err NoStrength → r.number ≡ 49
  refused_number e = ap (λ (r : NextAnswer). r.number) (refused e)

  -- what a number tells
  at_0 : {C : Type 0} → (T (accepted a b) → C) → r.number ≡ 0 → C
  at_0 f e = either f (λ n. absurd (clash e (refused_number n)))

  at_49 : {C : Type 0} → (next_strength a b ≡ Err NoStrength → C) → r.number ≡ 49 → C
  at_49 g e = either (λ t. absurd (clash (given_number t) e)) g

  pub gives_or_refuses : GivesOrRefuses a b r
  gives_or_refuses =
      record {
        gives = (at_0 ((accepted_says a b).0), λ c. given_number ((accepted_says a b).1 c));
        refuses = (
          λ e c. clash (given_number ((accepted_says a b).1 c)) e,
          λ n. either (λ t. absurd (n ((accepted_says a b).0 t))) refused_number,
        );
        place = either (λ t. ap (λ (r : NextAnswer). r.place) (given t))
            (λ e. ap (λ (r : NextAnswer). r.place) (refused e));
        strength = at_0
            (λ t. (
              ap (λ (r : NextAnswer). r.strength) (given t),
              each_rounded a b (says_positive (hyperbola a b) (((accepted_says a b).0 t).result)),
            ));
        nothing = at_49 (λ n. ap (λ (r : NextAnswer). r.strength) (refused n));
      }

  pub exact_on_64ths : (k₁ l₁ k₂ l₂ : ℕ) → Trial64ths a k₁ l₁ → Trial64ths b k₂ l₂ → ExactOn64ths k₁ l₁ k₂ l₂ r
  exact_on_64ths k₁ l₁ k₂ l₂ A B =
      let exactly = refuses_by_exact_values a b k₁ l₁ k₂ l₂ A B in
      record {
        refuses = (at_49 (exactly.0), λ v. refused_number (exactly.1 v));
        strength = λ e.
            subst (λ x. Rounded x (exact_strength (in64ths k₁ l₁) (in64ths k₂ l₂)))
            (sym ((gives_or_refuses.strength e).0))
            ((division_is_the_only_rounding a b k₁ l₁ k₂ l₂ A B
            (λ l. clash e (refused_number (exactly.1 (inl l))))).quotient);
      }
