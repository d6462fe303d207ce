-- A load's text: the decimals behind a one that keeps their zeros, the whole part and the minus, each put before what
-- stands already.
use mathlib.Core.Path.{◌≡◌, refl, sym, ap, ap₂, subst, ◌∙◌}
use mathlib.Core.Bool.{Bool, true, false, not}
use mathlib.Core.Logic.{◌⊎◌, inl, inr}
use mathlib.Core.List.{List, [], ◌∷◌, ◌++◌, append-nil}
use Prim.Native.Nat.{ℕ, zero, suc, ◌+◌, ◌*◌, ◌-◌, ◌/◌, ◌%◌, ◌^◌, ◌≤◌, ◌<◌}
use native.Mathlib.Nat.{pow-suc, one-le-pow, div-add-mod'}
use native.Mathlib.Omega.{arith}
use lib.Arith.{digits_div, digits_mod}
use lib.Dec.{T}
use lib.IntN.{ℤ, pos, negsuc, neg_ℤ, nat_abs, ◌*ℤ◌, neg_ℤ-neg_ℤ}
use lib.ListN.{length, take, drop, set, length-append, length-replicate}
use lib.Seq.{set_at}
use lib.Signed.{◌≤ℤ◌, ◌<ℤ◌, lt_z, lt_z_yes, lt_z_no, clash_ℤ}
use mir.Syntax.{w64}
use mir.Val.{SFits}
use mir.Facts.{to_z-of_z}
use Rattle.std.specs.Fmt.{decimal}
use Rattle.integer.proofs.Machine.{is_true, is_false}
use Rattle.integer.proofs.Order.{nonneg, ≤ℤ_pos}
use Rattle.integer.specs.Decimal.{digits, last_digits, right_justified}
use Rattle.integer.proofs.DecimalLaws.{digits_one, digits_more, last_digits-length}
use Rattle.scope.specs.Cases.Load.{Exact}
use Rattle.report.specs.Text.{pointed, fixed, none_text}
use Rattle.report.specs.Report.{load_text}
use Rattle.report.specs.Spelled.{decimals_text, signed, round_to}
use Rattle.integer.proofs.Wide.{read}
use Rattle.integer.specs.Round.{floor_div}
use Rattle.report.proofs.DivisionLaws.{power_small}
use Rattle.report.proofs.ColumnLaws.{decimal_digits, decimal_short, spaces, put_before, byte_before, justified}

-- ---- the decimals: after a one, each of the last d digits is written, and the point takes the one's place

after_one : (d k : ℕ) → k < 10 ^ d → digits (10 ^ d + k) ≡ 49 ∷ last_digits d k
unfolding last_digits
after_one zero k h = let e : 10 ^ 0 + k ≡ 1 = omega arith in ap digits e ∙ digits_one 1 (omega arith)
after_one (suc d) k h =
    let n = 10 ^ suc d + k in
    let p : 10 ^ suc d ≡ 10 ^ d * 10 = pow-suc 10 d in
    let some : 1 ≤ 10 ^ d = one-le-pow d 10 (omega arith) in
    let q : n / 10 ≡ 10 ^ d + k / 10 = omega arith in
    let r : n % 10 ≡ k % 10 = omega arith in
    let small : k / 10 < 10 ^ d = omega arith in
    digits_more n (omega arith)
    ∙ ap₂ (λ x y. x ++ ((48 + y) ∷ [])) (ap digits q ∙ after_one d (k / 10) small) r

after_point : (d k : ℕ) → (d ≡ 0 → ⊥) → decimals_text d k ≡ 46 ∷ last_digits d k
unfolding decimals_text
after_point zero k z = absurd (z refl)
after_point (suc d) k z = refl

module _ (d k : ℕ) (few : d ≤ 7) (h : k < 10 ^ d) {power : ℕ} (p : power ≡ 10 ^ d) where
  after_one_fits : power + k < 2 ^ 64
  after_one_fits = omega (arith, power_small d few)

  after_one_is : decimal (power + k) ≡ 49 ∷ last_digits d k
  after_one_is = decimal_digits (power + k) after_one_fits ∙ ap (λ n. digits (n + k)) p ∙ after_one d k h

  pub after_one_short : length (decimal (power + k)) ≤ 28
  after_one_short = omega (arith, ap length after_one_is, last_digits-length d k)

  module _ (from : ℕ) (e : from + length (decimal (power + k)) ≡ 28) where
    pub point_room : from < 28
    point_room = omega (arith, ap length after_one_is)

    module _ (z : d ≡ 0 → ⊥) where
      pub point_place : from + length (decimals_text d k) ≡ 28
      point_place = ap (λ t. from + length t) (after_point d k z) ∙ ap (λ t. from + length t) (sym after_one_is) ∙ e

      pub with_point : (before after : List ℕ) → before ≡ spaces 28
          → drop from after ≡ decimal (power + k) ++ drop 28 before → take from after ≡ take from before
          → set after from 46 ≡ spaces from ++ decimals_text d k
      with_point before after b u t =
          let y : after ≡ spaces from ++ (49 ∷ last_digits d k) =
          put_before 28 from (decimal (power + k)) [] b e u t
          ∙ ap (λ x. spaces from ++ x) (append-nil (decimal (power + k)) ∙ after_one_is) in
          ap (λ x. set x from 46) y
          ∙ set_at (spaces from) 49 (last_digits d k) 46 from (length-replicate from 32)
          ∙ ap (λ x. spaces from ++ x) (sym (after_point d k z))

-- the point is in its column, or at its end
pub point_there : (point : ℕ) (text column : List ℕ) → column ≡ spaces point ++ text → point ≤ length column
point_there point text column e =
    omega (arith, ap length e, length-append (spaces point) text, length-replicate {A = ℕ} point 32)

decimals_short : (d k : ℕ) → d ≤ 7 → length (decimals_text d k) ≤ 8
unfolding decimals_text
decimals_short zero k h = omega arith
decimals_short (suc d) k h = omega (arith, last_digits-length (suc d) k)

pub no_place : (d k : ℕ) → d ≡ 0 → 28 + length (decimals_text d k) ≡ 28
unfolding decimals_text
no_place zero k h = refl
no_place (suc d) k h = absurd (omega arith)

pub no_decimals : (d k : ℕ) {column : List ℕ} → d ≡ 0 → column ≡ spaces 28 → column ≡ spaces 28 ++ decimals_text d k
unfolding decimals_text
no_decimals zero k h e = e
no_decimals (suc d) k h e = absurd (omega arith)

-- ---- the pieces together

-- the last d digits look at no digit before them
last_of : (d x y : ℕ) → last_digits d (x * 10 ^ d + y) ≡ last_digits d y
unfolding last_digits
last_of zero x y = refl
last_of (suc d) x y =
    let e : x * 10 ^ suc d + y ≡ x * 10 ^ d * 10 + y = rw pow-suc (omega arith) in
    let q : (x * 10 ^ suc d + y) / 10 ≡ x * 10 ^ d + y / 10 = omega arith in
    let r : (x * 10 ^ suc d + y) % 10 ≡ y % 10 = omega arith in
    rw (q, r) (ap (λ l. l ++ ((48 + y % 10) ∷ [])) (last_of d x (y / 10)))

pieces : (d k : ℕ) → digits (k / 10 ^ d) ++ decimals_text d (k % 10 ^ d) ≡ pointed d k
unfolding pointed decimals_text
pieces zero k = let e : k / 1 ≡ k = omega arith in append-nil (digits (k / 1)) ∙ ap digits e
pieces (suc d) k =
    let n = 10 ^ suc d in
    ap (λ l. digits (k / n) ++ (46 ∷ l))
    (sym (last_of (suc d) (k / n) (k % n)) ∙ ap (last_digits (suc d)) (div-add-mod' k n))

-- "a zero has no minus"
none_signed : (d n : ℕ) (minus : Bool) → (minus ≡ false) ⊎ ((minus ≡ true) × (n ≡ 0))
    → fixed d (signed minus n) ≡ pointed d n
unfolding fixed signed
none_signed d n false h = refl
none_signed d zero true h = refl
none_signed d (suc n) true (inl h) = absurd (subst T h tt)
none_signed d (suc n) true (inr h) = absurd (omega (arith, h.1))

some_signed : (d n : ℕ) (minus : Bool) → minus ≡ true → 0 < n → fixed d (signed minus n) ≡ 45 ∷ pointed d n
unfolding fixed signed
some_signed d n false h k = absurd (subst T (sym h) tt)
some_signed d zero true h k = absurd (omega arith)
some_signed d (suc n) true h k = refl

-- units are none where whole and part are
no_units : (d whole part : ℕ) → whole + part ≤ 0 → whole * 10 ^ d + part ≡ 0
no_units d zero part h = omega arith
no_units d (suc whole) part h = absurd (omega arith)

some_units : (d whole part : ℕ) → 0 < whole + part → 0 < whole * 10 ^ d + part
some_units d zero part h = omega arith
some_units d (suc whole) part h = omega (arith, one-le-pow d 10 (omega arith))

module _ (d whole part : ℕ) (few : d ≤ 7) (w : whole ≤ 2 ^ 63) (p : part < 10 ^ d) where
  abbrev units : ℕ
  units = whole * 10 ^ d + part

  whole_short : length (decimal whole) ≤ 19
  whole_short = decimal_short 19 whole (omega (arith, w)) (omega (arith, w)) (omega arith)

  body_is : decimal whole ++ decimals_text d part ≡ pointed d units
  body_is =
      ap (λ x. x ++ decimals_text d part) (decimal_digits whole (omega (arith, w)))
      ∙ sym (ap₂ (λ n k. digits n ++ decimals_text d k) (digits_div whole p) (digits_mod whole p))
      ∙ pieces d units

  module _ {point : ℕ} (place : point + length (decimals_text d part) ≡ 28) where
    pub whole_room : length (decimal whole) ≤ point
    whole_room = omega (arith, whole_short, decimals_short d part few)

    module _ (from : ℕ) (e : from + length (decimal whole) ≡ point) where
      pub minus_room : 1 ≤ from
      minus_room = omega (arith, whole_short, decimals_short d part few)

      body_ends : from + length (pointed d units) ≡ 28
      body_ends = omega (arith, ap length body_is, length-append (decimal whole) (decimals_text d part))

      module _ (now : List ℕ) {dec : List ℕ} (b : dec ≡ spaces point ++ decimals_text d part)
          (t : drop from now ≡ decimal whole ++ drop point dec) (k : take from now ≡ take from dec) where
        body_put : now ≡ spaces from ++ pointed d units
        body_put =
            put_before point from (decimal whole) (decimals_text d part) b e t k ∙ ap (λ x. spaces from ++ x) body_is

        without : {minus : Bool} → (minus ≡ false) ⊎ ((minus ≡ true) × (whole + part ≤ 0))
            → (minus ≡ false) ⊎ ((minus ≡ true) × (units ≡ 0))
        without (inl h) = inl h
        without (inr h) = inr (h.0, no_units d whole part h.1)

        pub plain_put : (minus : Bool) → (minus ≡ false) ⊎ ((minus ≡ true) × (whole + part ≤ 0))
            → now ≡ right_justified 28 (fixed d (signed minus units))
        plain_put minus h =
            body_put ∙ justified 28 from (pointed d units) body_ends
            ∙ ap (right_justified 28) (sym (none_signed d units minus (without h)))

        pub minus_put : (minus : Bool) → minus ≡ true → 0 < whole + part
            → set now (from - 1) 45 ≡ right_justified 28 (fixed d (signed minus units))
        minus_put minus h s =
            byte_before from 45 (pointed d units) body_put (omega (arith, minus_room))
            ∙ justified 28 (from - 1) (45 ∷ pointed d units) (omega (arith, body_ends, minus_room))
            ∙ ap (right_justified 28) (sym (some_signed d units minus h (some_units d whole part s)))

-- ---- below 0 the size goes the other way

round_opposite : (up : Bool) (z : ℤ) (den : ℕ) → round_to up (neg_ℤ z) den ≡ neg_ℤ (round_to (not up) z den)
round_opposite false z den = sym (neg_ℤ-neg_ℤ (floor_div (neg_ℤ z) den))
round_opposite true z den = ap (λ x. neg_ℤ (floor_div x den)) (neg_ℤ-neg_ℤ z)

module _ (num : ℤ) (f : SFits w64 num) (d m n den : ℕ) (up : Bool) (k : m ≡ nat_abs (read num)) where
  size_is : m ≡ nat_abs num
  size_is = k ∙ ap nat_abs (to_z-of_z f)

  pub exact_above : {now : List ℕ} → lt_z (read num) (pos 0) ≡ false → pos n ≡ round_to up (pos (m * 10 ^ d)) den
      → now ≡ right_justified 28 (fixed d (signed false n))
      → now ≡ right_justified 28 (fixed d (round_to up (num *ℤ pos (10 ^ d)) den))
  unfolding signed
  exact_above l e g =
      let h = lt_z_no (is_false (ap (λ z. lt_z z (pos 0)) (to_z-of_z f)) l) in
      let s : pos (m * 10 ^ d) ≡ num *ℤ pos (10 ^ d) = above num h size_is in
      g ∙ ap (λ z. right_justified 28 (fixed d z)) (e ∙ ap (λ z. round_to up z den) s)
    where
      above : (num : ℤ) → pos 0 ≤ℤ num → m ≡ nat_abs num → pos (m * 10 ^ d) ≡ num *ℤ pos (10 ^ d)
      above (pos x) h e = ap (λ x. pos (x * 10 ^ d)) e
      above (negsuc x) h e = absurd h.le

  pub exact_below : {now : List ℕ} → lt_z (read num) (pos 0) ≡ true → pos n ≡ round_to (not up) (pos (m * 10 ^ d)) den
      → now ≡ right_justified 28 (fixed d (signed true n))
      → now ≡ right_justified 28 (fixed d (round_to up (num *ℤ pos (10 ^ d)) den))
  unfolding signed
  exact_below l e g =
      let h = lt_z_yes (is_true (ap (λ z. lt_z z (pos 0)) (to_z-of_z f)) l) in
      let s : neg_ℤ (pos (m * 10 ^ d)) ≡ num *ℤ pos (10 ^ d) = below num h size_is in
      g ∙ ap (λ z. right_justified 28 (fixed d z))
      (ap neg_ℤ e ∙ sym (round_opposite up (pos (m * 10 ^ d)) den) ∙ ap (λ z. round_to up z den) s)
    where
      below : (num : ℤ) → num <ℤ pos 0 → m ≡ nat_abs num → neg_ℤ (pos (m * 10 ^ d)) ≡ num *ℤ pos (10 ^ d)
      below (pos x) h e = clash_ℤ h (nonneg x)
      below (negsuc x) h e = ap (λ x. neg_ℤ (pos (x * 10 ^ d))) e

-- ---- any load

exact_text : (round : ℤ → ℕ → ℤ) (d : ℕ) (num den : ℤ) → pos 0 <ℤ den
    → load_text round d (Exact num den) ≡ fixed d (round (num *ℤ pos (10 ^ d)) (nat_abs den))
unfolding load_text
exact_text round d num (pos zero) h = absurd h.lt
exact_text round d num (pos (suc k)) h = refl
exact_text round d num (negsuc k) h = absurd h.lt

none_text_of : (round : ℤ → ℕ → ℤ) (d : ℕ) (num den : ℤ) → den ≤ℤ pos 0 → load_text round d (Exact num den) ≡ none_text
unfolding load_text
none_text_of round d num (pos zero) h = refl
none_text_of round d num (pos (suc k)) h = absurd (omega (arith, ≤ℤ_pos h))
none_text_of round d num (negsuc k) h = refl

module _ (num den : ℤ) (g : SFits w64 den) where
  pub no_load_column : (round : ℤ → ℕ → ℤ) (d : ℕ) {now : List ℕ} → lt_z (pos 0) (read den) ≡ false
      → now ≡ right_justified 28 none_text → now ≡ right_justified 28 (load_text round d (Exact num den))
  no_load_column round d l n =
      let h = lt_z_no (is_false (ap (λ z. lt_z (pos 0) z) (to_z-of_z g)) l) in
      n ∙ ap (right_justified 28) (sym (none_text_of round d num den h))

  den_above : lt_z (pos 0) (read den) ≡ true → pos 0 <ℤ den
  den_above l = lt_z_yes (is_true (ap (λ z. lt_z (pos 0) z) (to_z-of_z g)) l)

  pub load_column : (f : SFits w64 num) (up : Bool) (d by : ℕ) {now : List ℕ} → lt_z (pos 0) (read den) ≡ true
      → by ≡ nat_abs (read den) → now ≡ right_justified 28 (fixed d (round_to up (read num *ℤ pos (10 ^ d)) by))
      → now ≡ right_justified 28 (load_text (round_to up) d (Exact num den))
  load_column f up d by l b n =
      n ∙ ap₂ (λ z k. right_justified 28 (fixed d (round_to up (z *ℤ pos (10 ^ d)) k)))
      (to_z-of_z f) (b ∙ ap nat_abs (to_z-of_z g))
      ∙ ap (right_justified 28) (sym (exact_text (round_to up) d num den (den_above l)))
