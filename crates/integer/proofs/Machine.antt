-- Signed 64-bit arithmetic in a function's proof: that an operation fits, the exact value of its result, its bound, and
-- what a test says.
--
-- How numbers stand there. In a contract and in an invariant an `i64` is a ℤ. In a goal it may stand as the machine
-- reads it back from bits: a parameter is `to_z w64 (of_z w64 a)`, a sum `to_z w64 (of_z w64 (x +ℤ y))`, an element
-- `to_z w64 (of_z w64 (get_or l i (pos 0)))`, a variable that a loop changes `s` itself, and -x is `pos 0 -ℤ x`.
--
-- How a function is proved. Its `requires` bounds the numbers, `Within B a` and `AllWithin B s.now`. Its `ensures` says
-- `Is r z B`: r is the number z, within B. An invariant says `Is l.s z B`, where B may name a counter, as
-- `l.i * 1000000`. Then each goal is one line. With S for `(search machine depth 30)`, which reads the machine's terms
-- from the facts in reach, and `(omega arith)` for what is left of the bounds:
--     an operation fits          fits S (omega arith)
--     `Is v z B`                 is S (omega arith) e, where e : (the value as it was computed) ≡ z, often `refl`
--     `v ≡ z`                    exact S (omega arith), or that ∙ e
--     `Within B v`               bounded S (omega arith)
--     `P v`                      by_value P S (omega arith) p, where p : P (the value)
--     `b ≡ test`                 decides S (omega arith)
--     a branch's fact told c.if-a-b.true S (omega arith), of type p <ℤ q, p ≤ℤ q or p ≡ q; also with `.false`
--     `a == b` that failed       apart c.if-a-b.false S (omega arith), of type ¬ (p ≡ q)
--     a division                 (meets S (omega arith) n, fits S (omega arith)), where n : ¬ (divisor ≡ pos 0)
--     a cast to unsigned (meets S (omega arith) p, meets S (omega arith) (omega arith)), where p : pos 0 ≤ℤ value
--     what a callee requires     search limits, or record { fact_1 = search limits; .. } for several clauses
-- For a number with no bound S is `(search (machine, unbounded) depth 30)`, and for an unsigned number that was cast to
-- `i64` it is `(search (machine, casts) depth 30)`.
-- A callee's `ensures` speaks of its arguments as the machine read them: there e is `search unread`.
-- Where z is a definition of `specs/` the answer says `unfolding` of it. Where `search` stops at its count, it wants
-- `fits 10000` after `depth 30`; where it breaks off, among many calls, bind its facts first:
-- `let h = c.f.ensures in fits S (omega arith)`.
--
-- Example (`example_fits`, checked after `fits`): the difference of a·b and c, as the machine has it, fits 64 bits,
-- from bounds of a, b and c:
--     fits (search machine depth 30) (omega arith)
use mathlib.Core.Path.{◌≡◌, refl, sym, ◌∙◌, ap, ap₂, subst}
use mathlib.Core.List.{List}
use mathlib.Core.Bool.{Bool, true, false, not}
use Prim.Native.Nat.{ℕ, zero, suc, ◌+◌, ◌*◌, ◌^◌, ◌≤◌, ◌<◌, max, suc-le-suc}
use native.Mathlib.Nat.{le_refl, lt_of_lt_of_le}
use native.Mathlib.Omega.{arith}
use lib.Dec.{T, leb, ltb, eqb, leb→le, ltb→lt, eqb→eq}
use lib.ListN.{get_or, set, length}
use lib.Seq.{get_or-set_same}
use lib.IntN.{ℤ, pos, negsuc, ◌+ℤ◌, ◌-ℤ◌, ◌*ℤ◌, neg_ℤ, nat_abs, +ℤ_idl}
use lib.Signed.{mag, lt_z, le_z, quot_z, rem_z, non_neg, ◌≤ℤ◌, ◌<ℤ◌, nat_abs-le, yes_non_neg, le_z_yes, lt_z_yes}
use lib.Signed.{lt_z_no}
use mir.Syntax.{Width, w64}
use mir.Val.{SFits, Fits, to_z, of_z, hbits}
use mir.Facts.{to_z-of_z, of_z-to_z, to_z_pos, sfits_to_z, yes_eqb}
use Rattle.integer.specs.Tests.{eq_z}
use Rattle.integer.proofs.TestLaws.{same_test, eq_z_yes, eq_z_no, yes_eq_z, le_z_no}
use Rattle.integer.specs.Bounds.{Within, AllWithin, Is}
use Rattle.integer.proofs.BoundLaws.{Within-le, Within-pos, Within-negsuc, Within-neg_ℤ, Within-+ℤ, Within-*ℤ}
use Rattle.integer.proofs.BoundLaws.{Within-quot_z, Within-rem_z}

-- ---- what 64 bits hold

pub Within-SFits : {B : ℕ} {z : ℤ} → Within B z → B < 2 ^ 63 → SFits w64 z
Within-SFits {z = pos n} h l = record { sfits = omega (arith, h.within) }
Within-SFits {z = negsuc n} h l = record { sfits = omega (arith, h.within) }

pub SFits-Within : {z : ℤ} → SFits w64 z → Within (2 ^ 63) z
SFits-Within {z} f = record { within = nat_abs-le z f.sfits }

-- ---- v, as the machine has it, is the number p, within B

pub Is-SFits : {v p : ℤ} {B : ℕ} → Is v p B → B < 2 ^ 63 → SFits w64 v
Is-SFits h l = subst (SFits w64) (sym h.same) (Within-SFits h.inside l)

pub Is-Within : {v p : ℤ} {B C : ℕ} → Is v p B → B ≤ C → Within C v
Is-Within {C = C} h l = subst (Within C) (sym h.same) (Within-le h.inside l)

pub Is-as : {v p q : ℤ} {B C : ℕ} → Is v p B → B ≤ C → p ≡ q → Is v q C
Is-as {C = C} h l e = record { same = h.same ∙ e; inside = subst (Within C) e (Within-le h.inside l) }

pub Is-within : {B : ℕ} {x : ℤ} → Within B x → Is x x B
Is-within h = record { same = refl; inside = h }

pub Is-read : {v p : ℤ} {B : ℕ} → Is v p B → B < 2 ^ 63 → Is (to_z w64 (of_z w64 v)) p B
Is-read h l = record { same = to_z-of_z (Is-SFits h l) ∙ h.same; inside = h.inside }

pub Is-stored : {v p : ℤ} {B : ℕ} (l : List ℤ) (i : ℕ) → i < length l → Is v p B → Is (get_or (set l i v) i (pos 0)) p B
Is-stored {v} l i p h = record { same = get_or-set_same l i v (pos 0) p ∙ h.same; inside = h.inside }

pub Is-any : {x : ℤ} → SFits w64 x → Is (to_z w64 (of_z w64 x)) x (2 ^ 63)
Is-any f = record { same = to_z-of_z f; inside = SFits-Within f }

pub Is-cast : (n : ℕ) → n < 2 ^ 63 → Is (to_z w64 n) (pos n) n
Is-cast n h = record { same = to_z_pos w64 h; inside = Within-pos n }

pub Is-neg_ℤ : {v p : ℤ} {B : ℕ} → Is v p B → Is (neg_ℤ v) (neg_ℤ p) B
Is-neg_ℤ h = record { same = ap neg_ℤ h.same; inside = Within-neg_ℤ h.inside }

pub Is-minus : {v p : ℤ} {B : ℕ} → Is v p B → Is (pos 0 -ℤ v) (neg_ℤ p) B
Is-minus {v} h = record { same = +ℤ_idl (neg_ℤ v) ∙ ap neg_ℤ h.same; inside = Within-neg_ℤ h.inside }

module _ {v w p q : ℤ} {A B : ℕ} (h : Is v p A) (k : Is w q B) where
  pub Is-+ℤ : Is (v +ℤ w) (p +ℤ q) (A + B)
  Is-+ℤ = record { same = ap₂ ◌+ℤ◌ h.same k.same; inside = Within-+ℤ h.inside k.inside }

  pub Is-*ℤ : Is (v *ℤ w) (p *ℤ q) (A * B)
  Is-*ℤ = record { same = ap₂ ◌*ℤ◌ h.same k.same; inside = Within-*ℤ h.inside k.inside }

  pub Is-quot_z : Is (quot_z v w) (quot_z p q) A
  Is-quot_z = record { same = ap₂ quot_z h.same k.same; inside = Within-quot_z q h.inside }

  pub Is-rem_z : Is (rem_z v w) (rem_z p q) A
  Is-rem_z = record { same = ap₂ rem_z h.same k.same; inside = Within-rem_z q h.inside }

-- ---- the reading of what the machine has, which `search` finds. `peak` is the largest number that has to stay below
-- 2 ^ 63 for it

pub record Machine (v : ℤ) : Type 0 where
  pub plain : ℤ
  pub bound : ℕ
  pub peak : ℕ
  pub says : peak < 2 ^ 63 → Is v plain bound

pub left_below : (m n : ℕ) → max m n < 2 ^ 63 → m < 2 ^ 63
left_below m n h = omega arith

pub right_below : (m n : ℕ) → max m n < 2 ^ 63 → n < 2 ^ 63
right_below m n h = omega arith

abbrev pub of_is : {v p : ℤ} {B : ℕ} → Is v p B → Machine v
of_is {p = p} {B = B} h = record { plain = p; bound = B; peak = 0; says = λ o. h }

abbrev pub of_within : {B : ℕ} {x : ℤ} → Within B x → Machine x
of_within h = of_is (Is-within h)

abbrev pub of_element_lem : {B : ℕ} {l : List ℤ} (i : ℕ) → AllWithin B l → Machine (get_or l i (pos 0))
of_element_lem i h = of_is (Is-within (h.each i))

-- an element that was just stored
abbrev pub of_stored : {v : ℤ} (l : List ℤ) (i : ℕ) → i < length l → Machine v → Machine (get_or (set l i v) i (pos 0))
of_stored {v} l i p h =
    record { plain = h.plain; bound = h.bound; peak = h.peak; says = λ o. Is-stored l i p (h.says o) }

abbrev pub of_pos : (k : ℕ) → Machine (pos k)
of_pos k = of_is (Is-within (Within-pos k))

abbrev pub of_negsuc : (k : ℕ) → Machine (negsuc k)
of_negsuc k = of_is (Is-within (Within-negsuc k))

abbrev pub of_read : {v : ℤ} → Machine v → Machine (to_z w64 (of_z w64 v))
of_read h =
    record {
      plain = h.plain;
      bound = h.bound;
      peak = max h.peak h.bound;
      says = λ o. Is-read (h.says (left_below h.peak h.bound o)) (right_below h.peak h.bound o);
    }

abbrev pub of_neg_ℤ : {v : ℤ} → Machine v → Machine (neg_ℤ v)
of_neg_ℤ h = record { plain = neg_ℤ h.plain; bound = h.bound; peak = h.peak; says = λ o. Is-neg_ℤ (h.says o) }

-- the machine's sign is a difference from 0
abbrev pub of_minus : {v : ℤ} → Machine v → Machine (pos 0 -ℤ v)
of_minus h = record { plain = neg_ℤ h.plain; bound = h.bound; peak = h.peak; says = λ o. Is-minus (h.says o) }

-- what two numbers say together
pub record Two (v w p q : ℤ) (A B : ℕ) : Type 0 where
  pub one : Is v p A
  pub two : Is w q B

abbrev pub peaks : {v w : ℤ} → Machine v → Machine w → ℕ
peaks h k = max h.peak k.peak

pub both_say : {v w : ℤ} (h : Machine v) (k : Machine w) → peaks h k < 2 ^ 63 → Two v w h.plain k.plain h.bound k.bound
both_say h k o = record { one = h.says (left_below h.peak k.peak o); two = k.says (right_below h.peak k.peak o) }

abbrev pub of_+ℤ : {v w : ℤ} → Machine v → Machine w → Machine (v +ℤ w)
of_+ℤ h k = record {
  plain = h.plain +ℤ k.plain;
  bound = h.bound + k.bound;
  peak = peaks h k;
  says =
      λ o. Is-+ℤ (both_say h k o).one (both_say h k o).two;
}

abbrev pub of_*ℤ : {v w : ℤ} → Machine v → Machine w → Machine (v *ℤ w)
of_*ℤ h k = record {
  plain = h.plain *ℤ k.plain;
  bound = h.bound * k.bound;
  peak = peaks h k;
  says =
      λ o. Is-*ℤ (both_say h k o).one (both_say h k o).two;
}

abbrev pub of_quot_z : {v w : ℤ} → Machine v → Machine w → Machine (quot_z v w)
of_quot_z h k = record {
  plain = quot_z h.plain k.plain;
  bound = h.bound;
  peak = peaks h k;
  says =
      λ o. Is-quot_z (both_say h k o).one (both_say h k o).two;
}

abbrev pub of_rem_z : {v w : ℤ} → Machine v → Machine w → Machine (rem_z v w)
of_rem_z h k = record {
  plain = rem_z h.plain k.plain;
  bound = h.bound;
  peak = peaks h k;
  says =
      λ o. Is-rem_z (both_say h k o).one (both_say h k o).two;
}

-- a parameter, or an element of a slice, of which no bound is known. `search` takes first what needs no number that the
-- goal does not show, then the shallowest way, then the rule of fewer premises: m and `Fallback` put these behind
-- `of_read` of a bounded number
pub data Fallback : Type 0 where
  fallback : Unit {0} → Fallback

pub mag_SFits : (x : ℤ) (m : ℕ) → mag x < m → T (leb m (2 ^ 63)) → SFits w64 x
mag_SFits x m h t = record { sfits = lt_of_lt_of_le h (leb→le m (2 ^ 63) t) }

pub width-SFits : (x : ℤ) (w : Width) → SFits w x → T (leb (2 ^ hbits w) (2 ^ 63)) → SFits w64 x
width-SFits x w f t = mag_SFits x (2 ^ hbits w) f.sfits t

abbrev pub of_sfits : (x : ℤ) (w : Width) → SFits w x → T (leb (2 ^ hbits w) (2 ^ 63)) → Fallback
    → Machine (to_z w64 (of_z w64 x))
of_sfits x w f t l = of_is (Is-any (width-SFits x w f t))

abbrev pub of_mag : (x : ℤ) (m : ℕ) → mag x < m → T (leb m (2 ^ 63)) → Fallback → Machine (to_z w64 (of_z w64 x))
of_mag x m h t l = of_is (Is-any (mag_SFits x m h t))

-- an unsigned number that was cast, of which some bound is known
abbrev pub of_cast_< : (n m : ℕ) → n < m → Machine (to_z w64 n)
of_cast_< n m h = record { plain = pos n; bound = n; peak = n; says = λ o. Is-cast n o }

abbrev pub of_cast_≤ : (n m : ℕ) → n ≤ m → Machine (to_z w64 n)
of_cast_≤ n m h = of_cast_< n (suc m) (suc-le-suc h)

-- ---- the reading of bits, by which signed numbers are tested for equality

pub record HasBits (n : ℕ) (p : ℤ) : Type 0 where
  pub bits : n ≡ of_z w64 p
  pub holds : SFits w64 p

pub Is-bits : {v p : ℤ} {B : ℕ} → Is v p B → B < 2 ^ 63 → HasBits (of_z w64 v) p
Is-bits h l = record { bits = ap (of_z w64) h.same; holds = Within-SFits h.inside l }

pub SFits-bits : {x : ℤ} → SFits w64 x → HasBits (of_z w64 x) x
SFits-bits f = record { bits = refl; holds = f }

pub to_z_bits : (n : ℕ) {p : ℤ} → to_z w64 n ≡ p → n < 2 ^ 64 → HasBits n p
to_z_bits n e h =
    let f : Fits w64 n = record { fits = h } in
    record { bits = sym (of_z-to_z f) ∙ ap (of_z w64) e; holds = subst (SFits w64) e (sfits_to_z f) }

module _ {m n : ℕ} {p q : ℤ} (h : HasBits m p) (k : HasBits n q) where
  pub bits_eq : m ≡ n → p ≡ q
  bits_eq e = sym (to_z-of_z h.holds) ∙ ap (to_z w64) (sym h.bits ∙ e ∙ k.bits) ∙ to_z-of_z k.holds

  pub eq_bits : p ≡ q → m ≡ n
  eq_bits e = h.bits ∙ ap (of_z w64) e ∙ sym k.bits

  pub eqb_bits : eqb m n ≡ eq_z p q
  eqb_bits = same_test (λ t. yes_eq_z (bits_eq (eqb→eq m n t))) (λ t. yes_eqb (eq_bits (eq_z_yes t)))

pub bits_nonzero : {n : ℕ} {p : ℤ} → HasBits n p → ¬ (p ≡ pos 0) → 0 < n
bits_nonzero {n = zero} h f = absurd (f (sym (to_z-of_z h.holds) ∙ ap (to_z w64) (sym h.bits)))
bits_nonzero {n = suc n} h f = omega arith

pub record Bits (n : ℕ) : Type 0 where
  pub plain : ℤ
  pub peak : ℕ
  pub says : peak < 2 ^ 63 → HasBits n plain

abbrev pub bits_of : {v : ℤ} → Machine v → Bits (of_z w64 v)
bits_of h =
    record {
      plain = h.plain;
      peak = max h.peak h.bound;
      says = λ o. Is-bits (h.says (left_below h.peak h.bound o)) (right_below h.peak h.bound o);
    }

abbrev pub bits_sfits : (x : ℤ) (w : Width) → SFits w x → T (leb (2 ^ hbits w) (2 ^ 63)) → Fallback → Bits (of_z w64 x)
bits_sfits x w f t l = record { plain = x; peak = 0; says = λ o. SFits-bits (width-SFits x w f t) }

abbrev pub bits_mag : (x : ℤ) (m : ℕ) → mag x < m → T (leb m (2 ^ 63)) → Fallback → Bits (of_z w64 x)
bits_mag x m h t l = record { plain = x; peak = 0; says = λ o. SFits-bits (mag_SFits x m h t) }

-- a variable that a loop changes, with an invariant that says that it has 64 bits
abbrev pub bits_is : {p : ℤ} {B : ℕ} (n : ℕ) → Is (to_z w64 n) p B → n < 2 ^ 64 → Bits n
bits_is {p} n h l = record { plain = p; peak = 0; says = λ o. to_z_bits n h.same l }

-- a literal: only there does the test compute
abbrev pub bits_literal : (n : ℕ) → T (ltb n (2 ^ 64)) → Bits n
bits_literal n t = record { plain = to_z w64 n; peak = 0; says = λ o. to_z_bits n refl (ltb→lt n (2 ^ 64) t) }

pub record TwoBits (m n : ℕ) : Type 0 where
  pub one : Bits m
  pub two : Bits n

abbrev pub two_bits : {m n : ℕ} → Bits m → Bits n → TwoBits m n
two_bits h k = record { one = h; two = k }

-- ---- the reading of a test

pub record Flag (b : Bool) : Type 0 where
  pub plain : Bool
  pub peak : ℕ
  pub says : peak < 2 ^ 63 → b ≡ plain

abbrev pub flag_lt_z : {v w : ℤ} → Machine v → Machine w → Flag (lt_z v w)
flag_lt_z h k = record {
  plain = lt_z h.plain k.plain;
  peak = peaks h k;
  says = λ o. ap₂ lt_z (both_say h k o).one.same
      (both_say h k o).two.same;
}

abbrev pub flag_le_z : {v w : ℤ} → Machine v → Machine w → Flag (le_z v w)
flag_le_z h k = record {
  plain = le_z h.plain k.plain;
  peak = peaks h k;
  says = λ o. ap₂ le_z (both_say h k o).one.same
      (both_say h k o).two.same;
}

abbrev pub flag_eqb : {m n : ℕ} → Bits m → Bits n → Flag (eqb m n)
flag_eqb h k =
    record {
      plain = eq_z h.plain k.plain;
      peak = max h.peak k.peak;
      says = λ o. eqb_bits (h.says (left_below h.peak k.peak o)) (k.says (right_below h.peak k.peak o));
    }

abbrev pub flag_not : {b : Bool} → Flag b → Flag (not b)
flag_not f = record { plain = not f.plain; peak = f.peak; says = λ o. ap not (f.says o) }

-- ---- what a test tells a branch

pub is_true : {a b : Bool} → a ≡ b → a ≡ true → T b
is_true e h = subst T (sym (sym e ∙ h)) tt

pub is_false : {a b : Bool} → a ≡ b → a ≡ false → T (not b)
is_false e h = subst (λ x. T (not x)) (sym (sym e ∙ h)) tt

pub record Told (A : Type 0) : Type 1 where
  pub plain : Type 0
  pub peak : ℕ
  pub says : peak < 2 ^ 63 → A → plain

module _ {v w : ℤ} (h : Machine v) (k : Machine w) where
  abbrev pub told_lt : Told (lt_z v w ≡ true)
  told_lt = record {
    plain = h.plain <ℤ k.plain;
    peak = peaks h k;
    says =
        λ o e. lt_z_yes (is_true ((flag_lt_z h k).says o) e);
  }

  abbrev pub told_not_lt : Told (lt_z v w ≡ false)
  told_not_lt = record {
    plain = k.plain ≤ℤ h.plain;
    peak = peaks h k;
    says =
        λ o e. lt_z_no (is_false ((flag_lt_z h k).says o) e);
  }

  abbrev pub told_le : Told (le_z v w ≡ true)
  told_le = record {
    plain = h.plain ≤ℤ k.plain;
    peak = peaks h k;
    says =
        λ o e. le_z_yes (is_true ((flag_le_z h k).says o) e);
  }

  abbrev pub told_not_le : Told (le_z v w ≡ false)
  told_not_le = record {
    plain = k.plain <ℤ h.plain;
    peak = peaks h k;
    says =
        λ o e. le_z_no (is_false ((flag_le_z h k).says o) e);
  }

module _ {m n : ℕ} (h : Bits m) (k : Bits n) where
  abbrev pub told_eq : Told (m ≡ n)
  told_eq =
      record {
        plain = h.plain ≡ k.plain;
        peak = max h.peak k.peak;
        says = λ o e. bits_eq (h.says (left_below h.peak k.peak o)) (k.says (right_below h.peak k.peak o)) e;
      }

  abbrev pub told_eqb : Told (eqb m n ≡ true)
  told_eqb = record {
    plain = h.plain ≡ k.plain;
    peak = max h.peak k.peak;
    says =
        λ o e. eq_z_yes (is_true ((flag_eqb h k).says o) e);
  }

  abbrev pub told_not_eqb : Told (eqb m n ≡ false)
  told_not_eqb = record {
    plain = ¬ (h.plain ≡ k.plain);
    peak = max h.peak k.peak;
    says =
        λ o e. eq_z_no (is_false ((flag_eqb h k).says o) e);
  }

-- ---- what a division and a cast ask besides

pub record Asks (A : Type 0) : Type 1 where
  pub more : Type 0
  pub peak : ℕ
  pub says : peak < 2 ^ 63 → more → A

abbrev pub asks_nonzero : {n : ℕ} → Bits n → Asks (0 < n)
asks_nonzero h = record { more = ¬ (h.plain ≡ pos 0); peak = h.peak; says = λ o f. bits_nonzero (h.says o) f }

pub Is-non_neg : {v p : ℤ} {B : ℕ} → Is v p B → pos 0 ≤ℤ p → T (non_neg v)
Is-non_neg h p = subst (λ x. T (non_neg x)) (sym h.same) (yes_non_neg p)

abbrev pub asks_non_neg : {v : ℤ} → Machine v → Asks (T (non_neg v))
asks_non_neg h = record { more = pos 0 ≤ℤ h.plain; peak = h.peak; says = λ o m. Is-non_neg (h.says o) m }

pub Is-Fits : {v p : ℤ} {B : ℕ} → Is v p B → B < 2 ^ 64 → Fits w64 (nat_abs v)
Is-Fits h l = subst (λ x. Fits w64 (nat_abs x)) (sym h.same) (record { fits = omega (arith, h.inside.within) })

abbrev pub asks_nat_abs : {v : ℤ} → Machine v → Asks (Fits w64 (nat_abs v))
asks_nat_abs h = record { more = h.bound < 2 ^ 64; peak = h.peak; says = λ o l. Is-Fits (h.says o) l }

-- ---- the sets for `search`

pub ruleset machine = (
  of_is,
  of_within,
  of_element_lem,
  of_stored,
  of_pos,
  of_negsuc,
  of_read,
  of_+ℤ,
  of_*ℤ,
  of_neg_ℤ,
  of_minus,
  of_quot_z,
  of_rem_z,
  bits_of,
  bits_is,
  bits_literal,
  two_bits,
  flag_lt_z,
  flag_le_z,
  flag_eqb,
  flag_not,
  told_lt,
  told_not_lt,
  told_le,
  told_not_le,
  told_eq,
  told_eqb,
  told_not_eqb,
  asks_nonzero,
  asks_non_neg,
  asks_nat_abs,
)

-- for numbers of which no bound is known, and for unsigned numbers that were cast
pub ruleset unbounded = (of_sfits, of_mag, bits_sfits, bits_mag, fallback)

pub ruleset casts = (of_cast_<, of_cast_≤)

-- what the machine read back from bits, in a callee's contract, as the number that it is
pub within-SFits : {B : ℕ} {x : ℤ} → Within B x → T (ltb B (2 ^ 63)) → SFits w64 x
within-SFits {B} h t = Within-SFits h (ltb→lt B (2 ^ 63) t)

pub element_SFits : {B : ℕ} {l : List ℤ} (i : ℕ) → AllWithin B l → T (ltb B (2 ^ 63)) → SFits w64 (get_or l i (pos 0))
element_SFits i h t = within-SFits (h.each i) t

pub ruleset unread = (to_z-of_z, within-SFits, element_SFits, mag_SFits)

-- what a callee requires of its arguments: bounds of literals, of parameters, of elements and of results, as they stand
-- or wider
pub within_literal : {B : ℕ} {z : ℤ} → T (leb (nat_abs z) B) → Within B z
within_literal {B} {z} t = record { within = leb→le (nat_abs z) B t }

pub within_wider : {A B : ℕ} {z : ℤ} → Within A z → T (leb A B) → Within B z
within_wider {A} {B} h t = Within-le h (leb→le A B t)

pub within_element : {A B : ℕ} {l : List ℤ} (i : ℕ) → AllWithin A l → T (leb A B) → Within B (get_or l i (pos 0))
within_element i h t = within_wider (h.each i) t

pub within_result : {v p : ℤ} {A B : ℕ} → Is v p A → T (leb A B) → Within B v
within_result {A = A} {B = B} h t = Is-Within h (leb→le A B t)

pub within_read : {B : ℕ} {x : ℤ} → Within B x → T (ltb B (2 ^ 63)) → Within B (to_z w64 (of_z w64 x))
within_read {B} h t = Is-Within (Is-read (Is-within h) (ltb→lt B (2 ^ 63) t)) (le_refl B)

pub ruleset limits = (within_literal, within_wider, within_element, within_result, within_read)

-- ---- the answers

-- the result of an operation fits
pub fits : {v : ℤ} (h : Machine v) → max h.peak h.bound < 2 ^ 63 → SFits w64 v
fits h o = Is-SFits (h.says (left_below h.peak h.bound o)) (right_below h.peak h.bound o)

-- example: a product of parameters less a parameter
example_fits : (a b c : ℤ) → Within 1000 a → Within 1000 b → Within 1000000 c
    → SFits w64 (to_z w64 (of_z w64 (to_z w64 (of_z w64 a) *ℤ to_z w64 (of_z w64 b))) -ℤ to_z w64 (of_z w64 c))
example_fits a b c h k l = fits (search machine depth 30) (omega arith)

-- its value
pub exact : {v : ℤ} (h : Machine v) → h.peak < 2 ^ 63 → v ≡ h.plain
exact h o = (h.says o).same

-- its bound
pub bounded : {v : ℤ} {B : ℕ} (h : Machine v) → (h.peak < 2 ^ 63) × (h.bound ≤ B) → Within B v
bounded h o = Is-Within (h.says o.0) o.1

-- both, where its value is z
pub is : {v z : ℤ} {B : ℕ} (h : Machine v) → (h.peak < 2 ^ 63) × (h.bound ≤ B) → h.plain ≡ z → Is v z B
is h o e = Is-as (h.says o.0) o.1 e

-- any statement of it, from the statement of its value
pub by_value : (P : ℤ → Type 0) {v : ℤ} (h : Machine v) → h.peak < 2 ^ 63 → P h.plain → P v
by_value P h o p = subst P (sym (exact h o)) p

-- the value of a test
pub decides : {b : Bool} (f : Flag b) → f.peak < 2 ^ 63 → b ≡ f.plain
decides f o = f.says o

-- what a branch learns from its test, and from a test for equality that failed
pub told : {A : Type 0} → A → (t : Told A) → t.peak < 2 ^ 63 → t.plain
told a t o = t.says o a

pub apart : {m n : ℕ} → (m ≡ n → ⊥) → (t : TwoBits m n) → (t.one.peak < 2 ^ 63) × (t.two.peak < 2 ^ 63)
    → ¬ (t.one.plain ≡ t.two.plain)
apart f t o e = f (eq_bits (t.one.says o.0) (t.two.says o.1) e)

-- a divisor is not 0; a number that is cast is not negative, and fits
pub meets : {A : Type 0} (a : Asks A) → a.peak < 2 ^ 63 → a.more → A
meets a o m = a.says o m
