-- Of a strength that is given every operation is rounded once: its result is finite, so all before it were, and each
-- rounds its exact result (`proofs/Operations.antt`).
use mathlib.Core.Path.{◌≡◌, sym, ap, ◌∙◌}
use mathlib.Core.Logic.{◌≢◌}
use mathlib.Core.Bool.{Bool, true, false, cond}
use Prim.Native.Nat.{ℕ, zero, suc, ◌*◌, ◌<◌}
use native.Mathlib.Nat.{mul-pos}
use native.Mathlib.Omega.{arith}
use lib.Dec.{T, eqb}
use lib.IntN.{pos, nat_abs}
use lib.Ieee.{Float, nan, inf, fin, up, add, neg, sub, mul, div, unlike}
use lib.Ieee.Fits.{up_pos}
use lib.Ieee.Positive.{positive, positive-finite}
use lib.Ieee.Scale.{finite}
use Rattle.strength.specs.declared.Trial.{Trial}
use Rattle.strength.specs.Next.{one, ◌⊖◌, ◌⊗◌, ◌⊘◌, term, hyperbola}
use Rattle.strength.specs.Rounded.{◌-ᶠ◌, ◌*ᶠ◌, ◌/ᶠ◌, value_of, Rounded}
use Rattle.strength.specs.Exact.{TermRounded, EachRounded}
use Rattle.strength.proofs.Rounding.{nat_abs_signed}
use Rattle.strength.proofs.Fractions.{value_positive, -ᶠ_positive, *ᶠ_positive, /ᶠ_positive}
use Rattle.strength.proofs.Operations.{⊖_rounds, ⊗_rounds, ⊘_rounds, rounded_of}

-- ---- a finite result has finite operands

pub record BothFinite (x y : Float) : Type 0 where
  pub left : T (finite x)
  pub right : T (finite y)

⊖_finite : (x y : Float) → T (finite (x ⊖ y)) → BothFinite x y
unfolding sub add neg
⊖_finite nan y f = absurd f
⊖_finite (inf s) nan f = absurd f
⊖_finite (inf true) (inf true) f = absurd f
⊖_finite (inf true) (inf false) f = absurd f
⊖_finite (inf false) (inf true) f = absurd f
⊖_finite (inf false) (inf false) f = absurd f
⊖_finite (inf s) (fin t n d) f = absurd f
⊖_finite (fin s m e) nan f = absurd f
⊖_finite (fin s m e) (inf t) f = absurd f
⊖_finite (fin s m e) (fin t n d) f = record { left = tt; right = tt }

neither : (b : Bool) (s : Bool) → T (finite (cond b nan (inf s))) → ⊥
neither true s f = f
neither false s f = f

⊗_finite : (x y : Float) → T (finite (x ⊗ y)) → BothFinite x y
unfolding mul
⊗_finite nan y f = absurd f
⊗_finite (inf s) nan f = absurd f
⊗_finite (inf s) (inf t) f = absurd f
⊗_finite (inf s) (fin t n d) f = absurd (neither (eqb n 0) (unlike s t) f)
⊗_finite (fin s m e) nan f = absurd f
⊗_finite (fin s m e) (inf t) f = absurd (neither (eqb m 0) (unlike s t) f)
⊗_finite (fin s m e) (fin t n d) f = record { left = tt; right = tt }

-- a quotient above 0 also has a divisor that is not 0
record Divides (x y : Float) : Type 0 where
  pub both : BothFinite x y
  pub nonzero : (value_of y).num ≢ pos 0

zero_quotient : (b : Bool) → T (positive (fin b 0 (pos 0))) → ⊥
zero_quotient true p = p
zero_quotient false p = p

by_zero : (b s : Bool) → T (positive (cond b nan (inf s))) → ⊥
by_zero true s p = p
by_zero false s p = p

⊘_positive : (x y : Float) → T (positive (x ⊘ y)) → Divides x y
unfolding div
⊘_positive nan y p = absurd p
⊘_positive (inf s) nan p = absurd p
⊘_positive (inf s) (inf t) p = absurd p
⊘_positive (inf s) (fin t n d) p = absurd p
⊘_positive (fin s m e) nan p = absurd p
⊘_positive (fin s m e) (inf t) p = absurd (zero_quotient (unlike s t) p)
⊘_positive (fin s m e) (fin t zero d) p = absurd (by_zero (eqb m 0) (unlike s t) p)
⊘_positive (fin s m e) (fin t (suc n) d) p =
    record {
      both = record { left = tt; right = tt };
      nonzero = λ z. none (sym (nat_abs_signed t (suc n * up d)) ∙ ap nat_abs z) (mul-pos (omega arith) (up_pos d));
    }
  where
    none : {k : ℕ} → k ≡ 0 → 0 < k → ⊥
    none e h = omega arith

-- ---- an operation with a finite result is rounded once

⊖_rounded : (x y : Float) → T (finite (x ⊖ y)) → Rounded (x ⊖ y) (value_of x -ᶠ value_of y)
⊖_rounded x y f =
    let o = ⊖_finite x y f in
    rounded_of (-ᶠ_positive (value_positive x) (value_positive y)) (⊖_rounds x y o.left o.right) f

⊗_rounded : (x y : Float) → T (finite (x ⊗ y)) → Rounded (x ⊗ y) (value_of x *ᶠ value_of y)
⊗_rounded x y f =
    let o = ⊗_finite x y f in
    rounded_of (*ᶠ_positive (value_positive x) (value_positive y)) (⊗_rounds x y o.left o.right) f

⊘_rounded : (x y : Float) → T (positive (x ⊘ y)) → Rounded (x ⊘ y) (value_of x /ᶠ value_of y)
⊘_rounded x y p =
    let o = ⊘_positive x y p in
    rounded_of (/ᶠ_positive (value_of y) (value_positive x) o.nonzero)
    (⊘_rounds x y o.both.left o.both.right o.nonzero)
    (positive-finite (x ⊘ y) p)

-- ---- eq. 23

term_rounded : (a b : Trial) → T (finite (term a b)) → TermRounded a b
unfolding term
term_rounded a b f =
    let part_finite = (⊗_finite ((one ⊖ b.l) ⊗ a.l) a.k f).left in
    record {
      rest = ⊖_rounded one b.l ((⊗_finite (one ⊖ b.l) a.l part_finite).left);
      part = ⊗_rounded (one ⊖ b.l) a.l part_finite;
      whole = ⊗_rounded ((one ⊖ b.l) ⊗ a.l) a.k f;
    }

pub each_rounded : (a b : Trial) → T (positive (hyperbola a b)) → EachRounded a b
unfolding hyperbola
each_rounded a b p =
    let o = ⊘_positive (term a b ⊖ term b a) (a.l ⊖ b.l) p in
    let terms = ⊖_finite (term a b) (term b a) o.both.left in
    record {
      first = term_rounded a b terms.left;
      second = term_rounded b a terms.right;
      difference = ⊖_rounded (term a b) (term b a) o.both.left;
      divisor = ⊖_rounded a.l b.l o.both.right;
      nonzero = o.nonzero;
      quotient = ⊘_rounded (term a b ⊖ term b a) (a.l ⊖ b.l) p;
    }
