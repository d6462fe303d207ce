-- Eq. 23 is the strength at which eq. 22's hyperbola has the load factor 1: equal cross products, by `ring`, where the
-- divisor's size is its sign times itself.
use mathlib.Core.Path.{◌≡◌, refl}
use mathlib.Core.List.{[], ◌∷◌}
use lib.Dec.{lit<}
use lib.IntN.{ℤ, pos, nat_abs, ◌-ℤ◌, ◌*ℤ◌}
use Rattle.integer.specs.Fraction.{Positive}
use Rattle.integer.proofs.Ring.{ring, ring_from, sides, terms}
use Rattle.strength.specs.Rounded.{◌-ᶠ◌, ◌*ᶠ◌, oneᶠ, sign}
use Rattle.strength.specs.Exact.{ExactTrial, exact_term, exact_strength}
use Rattle.strength.specs.Hyperbola.{asymptote, scale, at_one, OnHyperbola, InFractions, ThroughTwoTrials}
use Rattle.strength.proofs.Fractions.{over_pos, -ᶠ_positive, *ᶠ_positive, /ᶠ_positive, sign_*ℤ}

-- an equation of undivided numbers, each side divided by s·z = n and written over its denominators
divided : (N M X Y W z s n p q u v : ℤ)
    → (N *ℤ W *ℤ Y -ℤ X *ℤ W *ℤ M) *ℤ (v *ℤ q) ≡ u *ℤ (p *ℤ Y *ℤ z -ℤ X *ℤ W *ℤ q) *ℤ M
    → s *ℤ z ≡ n
    → (s *ℤ (N *ℤ W) *ℤ (Y *ℤ n) -ℤ s *ℤ (X *ℤ W) *ℤ (M *ℤ n)) *ℤ pos 1 *ℤ (v *ℤ (q *ℤ (Y *ℤ n)))
    ≡ u *ℤ (p *ℤ (Y *ℤ n) -ℤ s *ℤ (X *ℤ W) *ℤ q) *ℤ (M *ℤ n *ℤ (Y *ℤ n) *ℤ pos 1)
divided N M X Y W z s n p q u v e f =
    ring_from (s *ℤ Y *ℤ n *ℤ n) e
    (ring_from (u *ℤ p *ℤ M *ℤ Y *ℤ Y *ℤ n *ℤ n) f
    (ring (N ∷ M ∷ X ∷ Y ∷ W ∷ z ∷ s ∷ n ∷ p ∷ q ∷ u ∷ v ∷ [])
    (sides (search terms depth 100 fits 10000) (search terms depth 100 fits 10000)) refl))

module _ (A B : ExactTrial) where
  on_first : OnHyperbola (asymptote A B) (scale A B) A
  on_first =
      record {
        on =
            record {
              cross-≡ =
                  ring
                  (A.K.num ∷ A.K.den ∷ A.L.num ∷ A.L.den ∷ (asymptote A B).num ∷ (asymptote A B).den ∷ [])
                  (search terms depth 100 fits 10000)
                  refl;
            };
      }

  -- λ1 - λ2, its sign and its size
  abbrev z : ℤ
  z = (A.L -ᶠ B.L).num

  abbrev s : ℤ
  s = sign z

  abbrev n : ℤ
  n = pos (nat_abs z)

  -- the denominator of λ1·K1 - λ2·K2
  abbrev Y : ℤ
  Y = (A.L *ᶠ A.K -ᶠ B.L *ᶠ B.K).den

  on_second : OnHyperbola (asymptote A B) (scale A B) B
  on_second =
      record {
        on =
            record {
              cross-≡ =
                  ring_from
                  (Y *ℤ n *ℤ Y
                  *ℤ (A.L.num *ℤ A.K.num *ℤ B.L.den *ℤ B.K.den -ℤ B.L.num *ℤ B.K.num *ℤ A.L.den *ℤ A.K.den))
                  (sign_*ℤ z)
                  (ring
                  (A.K.num ∷ A.K.den ∷ A.L.num ∷ A.L.den ∷ B.K.num ∷ B.K.den ∷ B.L.num ∷ B.L.den ∷ s ∷ n ∷ [])
                  (search terms depth 100 fits 10000)
                  refl);
            };
      }

  -- eq. 23's dividend N/M, eq. 22's X/Y, and the denominator of λ1 - λ2
  abbrev N : ℤ
  N = (exact_term A B -ᶠ exact_term B A).num

  abbrev M : ℤ
  M = (exact_term A B -ᶠ exact_term B A).den

  abbrev X : ℤ
  X = (A.L *ᶠ A.K -ᶠ B.L *ᶠ B.K).num

  abbrev W : ℤ
  W = (A.L -ᶠ B.L).den

  -- N/M - X/Y = λ1·(K1·(λ1 - λ2) - X/Y), over one denominator
  undivided :
      (N *ℤ W *ℤ Y -ℤ X *ℤ W *ℤ M) *ℤ (A.L.den *ℤ A.K.den)
      ≡ A.L.num *ℤ (A.K.num *ℤ Y *ℤ z -ℤ X *ℤ W *ℤ A.K.den) *ℤ M
  undivided =
      ring (A.K.num ∷ A.K.den ∷ A.L.num ∷ A.L.den ∷ B.K.num ∷ B.K.den ∷ B.L.num ∷ B.L.den ∷ [])
      (sides (search terms depth 100 fits 10000) (search terms depth 100 fits 10000))
      refl

  on_next : OnHyperbola (asymptote A B) (scale A B) (at_one A B)
  unfolding exact_strength
  on_next = record {
    on =
        record {
          cross-≡ = divided N M X Y W z s n A.K.num A.K.den A.L.num A.L.den undivided (sign_*ℤ z);
        };
  }

pub through_two_trials : ThroughTwoTrials
unfolding exact_strength
through_two_trials A B P Q nonzero =
    let term_is : (S T : ExactTrial) → InFractions S → InFractions T → Positive (exact_term S T) =
    λ S T p q. *ᶠ_positive (*ᶠ_positive (-ᶠ_positive one_is (q.L_is)) (p.L_is)) (p.K_is) in
    let products = -ᶠ_positive (*ᶠ_positive P.L_is P.K_is) (*ᶠ_positive Q.L_is Q.K_is) in
    let a_is = /ᶠ_positive (A.L -ᶠ B.L) products nonzero in
    record {
      a_is = a_is;
      b_is = *ᶠ_positive (P.L_is) (-ᶠ_positive (P.K_is) a_is);
      next_is =
          record {
            K_is = /ᶠ_positive (A.L -ᶠ B.L) (-ᶠ_positive (term_is A B P Q) (term_is B A Q P)) nonzero;
            L_is = one_is;
          };
      first = on_first A B;
      second = on_second A B;
      next = on_next A B;
    }
  where
    one_is : Positive oneᶠ
    one_is = over_pos (pos 1) (lit< tt)
