-- The tests of floats in exact fractions: `positive` is finite and above 0, and two numbers above 0 are equal where
-- their values are. So `accepted` is `Accepted`.
use mathlib.Core.Path.{ap}
use mathlib.Core.Logic.{◌↔◌}
use mathlib.Core.Bool.{Bool, true, false, not, ◌&&◌, ◌||◌}
use Prim.Native.Nat.{ℕ, zero, suc, ◌*◌}
use native.Mathlib.Nat.{mul-pos}
use lib.Dec.{T, eqb, lt→ltb, ltb→lt, eqb→eq, T_not, not_T}
use lib.IntN.{pos, neg_ℤ}
use lib.Signed.{◌<ℤ◌, <ℤ_irrefl, lt_z_yes}
use lib.Ieee.{Float, nan, inf, fin, up, down, eq}
use lib.Ieee.Fits.{up_pos, and_l, and_r, and_i, eq→eqb}
use lib.Ieee.Positive.{positive, first_pos}
use Rattle.integer.specs.Fraction.{◌≈ᶠ◌}
use Rattle.integer.proofs.RingLaws.{pos_injective}
use Rattle.strength.specs.declared.Trial.{Trial}
use Rattle.strength.specs.Next.{hyperbola, usable, accepted}
use Rattle.strength.specs.Rounded.{value_of}
use Rattle.strength.specs.Promises.{FiniteAboveZero, Accepted}

-- ---- finite and above 0

pub positive_says : (x : Float) → T (positive x) → FiniteAboveZero x
positive_says nan p = absurd p
positive_says (inf s) p = absurd p
positive_says (fin true m e) p = absurd p
positive_says (fin false m e) p =
    record { is_finite = tt; above = lt_z_yes (lt→ltb 0 (m * up e) (mul-pos (ltb→lt 0 m p) (up_pos e))) }

pub says_positive : (x : Float) → FiniteAboveZero x → T (positive x)
says_positive nan v = absurd v.is_finite
says_positive (inf s) v = absurd v.is_finite
says_positive (fin true m e) v = below (m * up e) v.above
  where
    below : (k : ℕ) → pos 0 <ℤ neg_ℤ (pos k) → ⊥
    below zero h = <ℤ_irrefl h
    below (suc k) h = h.lt
says_positive (fin false m e) v = lt→ltb 0 m (first_pos m (up e) (ltb→lt 0 (m * up e) v.above.lt))

-- ---- equal

pub eq_says : (x y : Float) → T (positive x) → T (positive y) → T (eq x y) ↔ value_of x ≈ᶠ value_of y
unfolding eq
eq_says nan y p q = absurd p
eq_says (inf s) y p q = absurd p
eq_says (fin true m e) y p q = absurd p
eq_says (fin false m e) nan p q = absurd q
eq_says (fin false m e) (inf t) p q = absurd q
eq_says (fin false m e) (fin true n d) p q = absurd q
eq_says (fin false m e) (fin false n d) p q =
    let A = m * up e * down d in
    let B = n * up d * down e in (
      λ t. record { cross-≡ = ap pos (eqb→eq A B (and_l (eqb A B) (true || eqb A 0) t)) },
      λ v. and_i (eqb A B)
          (true || eqb A 0) (eq→eqb (pos_injective (v.cross-≡))) tt,
    )

-- ---- accepted

usable_says : (t : Trial) → T (usable t) → T (positive t.k) × T (positive t.l)
unfolding usable
usable_says t u = (and_l (positive t.k) (positive t.l) u, and_r (positive t.k) (positive t.l) u)

pub says_usable : (t : Trial) → FiniteAboveZero t.k → FiniteAboveZero t.l → T (usable t)
unfolding usable
says_usable t v w = and_i (positive t.k) (positive t.l) (says_positive t.k v) (says_positive t.l w)

pub accepted_says : (a b : Trial) → T (accepted a b) ↔ Accepted a b
unfolding accepted
accepted_says a b = (to, from)
  where
    level : Bool
    level = eq a.l b.l

    both : Bool
    both = usable a && usable b

    to : T (accepted a b) → Accepted a b
    to t =
        let r = and_r (both && not level) (positive (hyperbola a b)) t in
        let s = and_l (both && not level) (positive (hyperbola a b)) t in
        let u = and_l both (not level) s in
        let v = usable_says a (and_l (usable a) (usable b) u) in
        let w = usable_says b (and_r (usable a) (usable b) u) in
        record {
          k₁ = positive_says a.k v.0;
          l₁ = positive_says a.l v.1;
          k₂ = positive_says b.k w.0;
          l₂ = positive_says b.l w.1;
          apart = λ e. T_not level (and_r both (not level) s) ((eq_says a.l b.l v.1 w.1).1 e);
          result = positive_says (hyperbola a b) r;
        }

    from : Accepted a b → T (accepted a b)
    from c =
        let e = eq_says a.l b.l (says_positive a.l c.l₁) (says_positive b.l c.l₂) in
        and_i (both && not level) (positive (hyperbola a b))
        (and_i both (not level)
        (and_i (usable a) (usable b) (says_usable a c.k₁ c.l₁) (says_usable b c.k₂ c.l₂))
        (not_T level (λ t. c.apart (e.0 t))))
        (says_positive (hyperbola a b) c.result)
