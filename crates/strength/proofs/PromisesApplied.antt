-- Each promise applied to two trials with a strength and to two that are refused; and N13 computed at other inputs.
use mathlib.Core.Path.{◌≡◌, refl}
use mathlib.Core.Logic.{◌⊎◌, ◌≢◌}
use mathlib.Core.Bool.{true, false}
use Prim.Native.Nat.{ℕ, ◌*◌, ◌≤◌, ◌<◌}
use native.Mathlib.Omega.{arith}
use lib.Dec.{T, lit<, lit≤}
use lib.IntN.{pos, negsuc, ◌*ℤ◌}
use lib.Ieee.{Float, inf, fin, binary64, sub, mul, div, eq, to_bits, of_bits}
use lib.Ieee.Scale.{finite}
use Rattle.integer.specs.Fraction.{◌over◌, ◌≤ᶠ◌, ◌≈ᶠ◌}
use Rattle.strength.specs.declared.Trial.{Trial}
use Rattle.strength.specs.declared.NextAnswer.{NextAnswer}
use Rattle.strength.specs.Next.{zero, trial, term, hyperbola, usable, accepted, next_strength, next_answer}
use Rattle.strength.specs.Rounded.{zeroᶠ, value_of, Rounded}
use Rattle.strength.specs.Exact.{exact_strength, in64ths, Whole64ths, Trial64ths}
use Rattle.strength.specs.Hyperbola.{InFractions, OneHyperbola}
use Rattle.strength.specs.Promises.{Answers, Accepted}
use Rattle.strength.proofs.Fractions.{over_pos}
use Rattle.strength.proofs.Hyperbola.{through_two_trials}
use Rattle.strength.proofs.OnlyRounding.{divisor_nonzero}
use Rattle.strength.proofs.Promises.{gives_or_refuses, exact_on_64ths}

abbrev pub refusal : NextAnswer
refusal = record { number = 49; place = 0; strength = zero }

whole : {x : Float} {n : ℕ} → 0 < n → n ≤ 16 * 64 → T (finite x)
    → (value_of x).num *ℤ pos 64 ≡ pos n *ℤ (value_of x).den → Whole64ths x n
whole a u f e = record { above = a; up_to = u; is = record { is_finite = f; is_value = record { cross-≡ = e } } }

-- ---- K 1.5 at L 2 and K 1 at L 0.5: the exact quotient is 4/3, which binary64 does not hold

abbrev pub high : Trial
high = trial (fin false 3 (negsuc 0)) (fin false 1 (pos 1))

abbrev pub low : Trial
low = trial (fin false 1 (pos 0)) (fin false 1 (negsuc 0))

-- 4/3, rounded: 0x15555555555555 · 2 ^ -52
abbrev pub four_thirds : Float
four_thirds = fin false 0x15555555555555 (negsuc 51)

abbrev pub strength : NextAnswer
strength = record { number = 0; place = 0; strength = four_thirds }

pub high_64ths : Trial64ths high 96 128
high_64ths = record { k_is = whole (lit< tt) (lit≤ tt) tt refl; l_is = whole (lit< tt) (lit≤ tt) tt refl }

pub low_64ths : Trial64ths low 64 32
low_64ths = record { k_is = whole (lit< tt) (lit≤ tt) tt refl; l_is = whole (lit< tt) (lit≤ tt) tt refl }

pub strength_answered : Answers high low strength
unfolding next_answer next_strength accepted usable hyperbola term eq sub mul div
strength_answered = refl

pub strength_accepted : Accepted high low
strength_accepted = (gives_or_refuses high low strength strength_answered).gives.0 refl

exact_four_thirds : exact_strength (in64ths 96 128) (in64ths 64 32) ≈ᶠ pos 4 over pos 3
unfolding exact_strength
exact_four_thirds = record { cross-≡ = refl }

pub strength_rounded_once : Rounded four_thirds (exact_strength (in64ths 96 128) (in64ths 64 32))
strength_rounded_once =
    (exact_on_64ths high low strength strength_answered 96 128 64 32 high_64ths low_64ths).strength refl

-- the hyperbola through the two trials has the load factor 1 at 4/3
pub strength_on_the_hyperbola : OneHyperbola (in64ths 96 128) (in64ths 64 32)
strength_on_the_hyperbola = through_two_trials (in64ths 96 128) (in64ths 64 32) (parts 96 128) (parts 64 32)
    (divisor_nonzero apart)
  where
    parts : (k l : ℕ) → InFractions (in64ths k l)
    parts k l = record { K_is = over_pos (pos k) (lit< tt); L_is = over_pos (pos l) (lit< tt) }

    apart : ◌≢◌ {A = ℕ} 128 32
    apart e = omega arith

-- ---- K 4 at L 3 and K 1 at L 2: the exact quotient is -8

abbrev pub steep : Trial
steep = trial (fin false 1 (pos 2)) (fin false 3 (pos 0))

abbrev pub flat : Trial
flat = trial (fin false 1 (pos 0)) (fin false 1 (pos 1))

pub steep_64ths : Trial64ths steep 256 192
steep_64ths = record { k_is = whole (lit< tt) (lit≤ tt) tt refl; l_is = whole (lit< tt) (lit≤ tt) tt refl }

pub flat_64ths : Trial64ths flat 64 128
flat_64ths = record { k_is = whole (lit< tt) (lit≤ tt) tt refl; l_is = whole (lit< tt) (lit≤ tt) tt refl }

pub refusal_answered : Answers steep flat refusal
unfolding next_answer next_strength accepted usable hyperbola term eq sub mul div
refusal_answered = refl

pub refused_not_accepted : ¬ Accepted steep flat
refused_not_accepted = (gives_or_refuses steep flat refusal refusal_answered).refuses.0 refl

pub refused_by_exact_values : ◌≡◌ {A = ℕ} 192 128 ⊎ (exact_strength (in64ths 256 192) (in64ths 64 128) ≤ᶠ zeroᶠ)
refused_by_exact_values =
    (exact_on_64ths steep flat refusal refusal_answered 256 192 64 128 steep_64ths flat_64ths).refuses.0 refl

-- ---- refused: L1 = L2, an infinity, -0, 0

same_load : Answers high (trial low.k high.l) refusal
unfolding next_answer next_strength accepted usable hyperbola term eq sub mul div
same_load = refl

infinite : Answers (trial (inf false) high.l) low refusal
unfolding next_answer next_strength accepted usable hyperbola term eq sub mul div
infinite = refl

minus_zero : Answers high (trial low.k (fin true 0 (pos 0))) refusal
unfolding next_answer next_strength accepted usable hyperbola term eq sub mul div
minus_zero = refl

-- K 0 at L 2 and K 1 at L 0.5: eq. 23 alone would give 1/3
no_strength : Answers (trial zero high.l) low refusal
unfolding next_answer next_strength accepted usable hyperbola term eq sub mul div
no_strength = refl

-- the strength of a refusal is 0, with no sign
no_bits : to_bits binary64 refusal.strength ≡ 0
unfolding to_bits
no_bits = refl

-- ---- K 1.1 at L 1.3 and K 0.9 at L 0.7, none of them 64ths: every operation is rounded

rounded_each :
    to_bits binary64
    ((next_answer
    (next_strength
    (trial (of_bits binary64 0x3ff199999999999a) (of_bits binary64 0x3ff4cccccccccccd))
    (trial (of_bits binary64 0x3feccccccccccccd) (of_bits binary64 0x3fe6666666666666)))).strength)
    ≡ 0x3ff07ae147ae147b
unfolding next_answer next_strength accepted usable hyperbola term eq sub mul div to_bits of_bits
rounded_each = refl

-- K 0.1 at L 0.2 and K 0.1 at L 0.3: with K before L the last digit would be f, with L·K first a, with two quotients
-- and then their difference c
order_told :
    to_bits binary64
    ((next_answer
    (next_strength
    (trial (of_bits binary64 0x3fb999999999999a) (of_bits binary64 0x3fc999999999999a))
    (trial (of_bits binary64 0x3fb999999999999a) (of_bits binary64 0x3fd3333333333333)))).strength)
    ≡ 0x3fb999999999999d
unfolding next_answer next_strength accepted usable hyperbola term eq sub mul div to_bits of_bits
order_told = refl
