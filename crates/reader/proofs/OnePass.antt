-- After a column's bytes what is kept says exactly what the column spells: by induction on the bytes that follow, from
-- each phase.
use mathlib.Core.Path.{◌≡◌, refl, sym, ap, subst, ◌∙◌}
use mathlib.Core.Bool.{Bool, true, false, cond}
use mathlib.Core.List.{List, [], ◌∷◌, ◌++◌}
use mathlib.Core.Option.{none, some, map}
use Prim.Native.Nat.{ℕ, zero, suc, ◌+◌, ◌*◌, ◌-◌, ◌/◌, ◌%◌, ◌^◌, ◌≤◌, ◌<◌}
use native.Mathlib.Nat.{mod-lt, add-zero, add-suc, suc-add, pow-suc, pow-le-pow_right, lt_of_lt_of_le}
use native.Mathlib.Numerals.{add-one}
use native.Mathlib.Omega.{arith}
use lib.Dec.{eqb, leb}
use lib.IntN.{ℤ, pos, neg_ℤ}
use lib.ListN.{length, take, get_or, length-take}
use lib.Seq.{take-suc, take_all}
use borrow.Author.Tests.{eqb-true, eqb-false, leb-true, le-leb}
use borrow.Table.Steps.{cases}
use Rattle.integer.specs.Decimal.{is_digit, all_digits, value_after, proper_digits}
use Rattle.integer.proofs.DecimalLaws.{digit_bounds}
use Rattle.reader.specs.declared.column.Kept.{Kept}
use Rattle.std.specs.Prelude.{Some, None}
use Rattle.std.specs.Prelude.{Option as Answer}
use Rattle.reader.specs.Spelling.{unsigned, negated, signed, read_column}
use Rattle.reader.specs.File.{file_width}
use Rattle.reader.specs.OnePass.{Phase, bad, blank, sign, nought, up, down, turn, digit_of, phase_after, value_over}
use Rattle.reader.specs.OnePass.{meant}
use Rattle.reader.specs.ColumnState.{shift, Table, Stepped, Said, After, Partway, OnlySpaces, StandAt, reading_of}
use Rattle.reader.specs.OnePass.{value_bound, InOnePass}

-- ---- from each phase, the bytes that follow

digit_of_lem : (b : ℕ) → is_digit b ≡ true → digit_of b ≡ b - 48
unfolding digit_of
digit_of_lem b e = rw (e, digit_of)

stays_bad : (bs : List ℕ) (v : ℕ) → meant (phase_after bad bs) v ≡ none
unfolding phase_after turn meant
stays_bad [] v = refl
stays_bad (b ∷ bs) v = stays_bad bs v

from_up : (a : ℕ) (bs : List ℕ)
    → meant (phase_after up bs) (value_over a bs) ≡ cond (all_digits bs) (some (pos (value_after a bs))) none
unfolding phase_after turn meant value_over all_digits value_after
from_up a [] = refl
from_up a (b ∷ bs) =
    cases (is_digit b)
    (λ d. rw (d, digit_of_lem b d) (from_up (a * 10 + (b - 48)) bs))
    (λ d. rw d (stays_bad bs (value_over (a * 10 + digit_of b) bs)))

negated_above : (a : ℕ) → 0 < a → some (neg_ℤ (pos a)) ≡ negated (some a)
unfolding negated
negated_above zero h = absurd (omega arith)
negated_above (suc k) h = refl

from_down : (a : ℕ) (bs : List ℕ) → 0 < a
    → meant (phase_after down bs) (value_over a bs) ≡ cond (all_digits bs) (negated (some (value_after a bs))) none
unfolding phase_after turn meant value_over all_digits value_after
from_down a [] h = negated_above a h
from_down a (b ∷ bs) h =
    cases (is_digit b)
    (λ d. rw (d, digit_of_lem b d) (from_down (a * 10 + (b - 48)) bs (omega arith)))
    (λ d. rw d (stays_bad bs (value_over (a * 10 + digit_of b) bs)))

-- ---- digits with no leading zero, by their first byte

proper_digit : (b : ℕ) (bs : List ℕ) → eqb b 48 ≡ false → is_digit b ≡ true → proper_digits (b ∷ bs) ≡ all_digits bs
unfolding proper_digits all_digits
proper_digit b [] n d = d
proper_digit b (c ∷ bs) n d =
    let r = digit_bounds b (rw d tt) in
    let l : leb 49 b ≡ true = le-leb 49 b (omega (arith, eqb-false b 48 n)) in
    let m : leb b 57 ≡ true = le-leb b 57 r.1 in
    rw (l, m)

proper_other : (b : ℕ) (bs : List ℕ) → is_digit b ≡ false → proper_digits (b ∷ bs) ≡ false
unfolding proper_digits is_digit
proper_other b [] d = d
proper_other b (c ∷ bs) d =
    cases (leb 49 b)
    (λ l.
    let u : leb 48 b ≡ true = le-leb 48 b (omega (arith, leb-true 49 b l)) in
    let m : leb b 57 ≡ false = rw u at d in
    rw (l, m))
    (λ l. rw l)

unsigned_digit : (b : ℕ) (bs : List ℕ) → eqb b 48 ≡ false → is_digit b ≡ true
    → unsigned (b ∷ bs) ≡ cond (all_digits bs) (some (value_after (0 * 10 + (b - 48)) bs)) none
unfolding unsigned value_after
unsigned_digit b bs n d = rw (proper_digit b bs n d)

unsigned_other : (b : ℕ) (bs : List ℕ) → is_digit b ≡ false → unsigned (b ∷ bs) ≡ none
unfolding unsigned
unsigned_other b bs d = rw (proper_other b bs d)

-- ---- from the sign, and from the column's first byte

abbrev SignRead : List ℕ → Type 0
SignRead bs = meant (phase_after sign bs) (value_over 0 bs) ≡ negated (unsigned bs)

sign_zero : (bs : List ℕ) → SignRead (48 ∷ bs)
unfolding phase_after turn meant value_over digit_of is_digit unsigned negated proper_digits value_after
sign_zero [] = refl
sign_zero (c ∷ bs) = stays_bad (c ∷ bs) (value_over 0 (c ∷ bs))

negated_cond : (t : Bool) (v : ℕ) → cond t (negated (some v)) none ≡ negated (cond t (some v) none)
unfolding negated
negated_cond true v = refl
negated_cond false v = refl

from_sign : (bs : List ℕ) → SignRead bs
unfolding phase_after turn meant value_over unsigned negated proper_digits
from_sign [] = refl
from_sign (b ∷ bs) =
    cases (eqb b 48)
    (λ z. subst (λ x. SignRead (x ∷ bs)) (sym (eqb-true b 48 z)) (sign_zero bs))
    (λ n.
    cases (is_digit b)
    (λ d.
    let v = 0 * 10 + (b - 48) in
    let r = digit_bounds b (rw d tt) in
    let t : turn sign b ≡ down = rw (n, turn) (rw d) in
    rw (t, digit_of_lem b d, unsigned_digit b bs n d)
    (from_down v bs (omega (arith, eqb-false b 48 n)) ∙ negated_cond (all_digits bs) (value_after v bs)))
    (λ d.
    let t : turn sign b ≡ bad = rw (n, turn) (rw d) in
    rw (t, unsigned_other b bs d) (stays_bad bs (value_over (0 * 10 + digit_of b) bs))))

abbrev Read : List ℕ → Type 0
Read bs = meant (phase_after blank bs) (value_over 0 bs) ≡ read_column bs

zero_first : (bs : List ℕ) → Read (48 ∷ bs)
unfolding phase_after turn meant value_over digit_of is_digit read_column signed unsigned proper_digits value_after
zero_first [] = refl
zero_first (c ∷ bs) = stays_bad bs (value_over 0 (c ∷ bs))

map_cond : (t : Bool) (v : ℕ) → cond t (some (pos v)) none ≡ map pos (cond t (some v) none)
map_cond true v = refl
map_cond false v = refl

digit_first : (b : ℕ) (bs : List ℕ) → eqb b 32 ≡ false → eqb b 45 ≡ false → eqb b 48 ≡ false → Read (b ∷ bs)
unfolding phase_after turn value_over read_column signed
digit_first b bs s m n =
    let r : read_column (b ∷ bs) ≡ map pos (unsigned (b ∷ bs)) = rw (s, read_column) (rw (m, signed)) in
    let t : turn blank b ≡ cond (is_digit b) up bad = rw (s, turn) (rw m (rw n)) in
    rw (t, r)
    (cases (is_digit b)
    (λ d.
    let v = 0 * 10 + (b - 48) in
    rw (d, digit_of_lem b d, unsigned_digit b bs n d) (from_up v bs ∙ map_cond (all_digits bs) (value_after v bs)))
    (λ d. rw (d, unsigned_other b bs d) (stays_bad bs (value_over (0 * 10 + digit_of b) bs))))

space_first : (bs : List ℕ) → Read bs → Read (32 ∷ bs)
unfolding phase_after turn value_over digit_of is_digit read_column
space_first bs h = h

minus_first : (bs : List ℕ) → Read (45 ∷ bs)
unfolding phase_after turn value_over digit_of is_digit read_column signed
minus_first bs = from_sign bs

-- for all bytes: what is kept after them says what the column that they are spells
pub one_pass : (bs : List ℕ) → meant (phase_after blank bs) (value_over 0 bs) ≡ read_column bs
unfolding phase_after value_over meant read_column
one_pass [] = refl
one_pass (b ∷ bs) =
    let h = one_pass bs in
    cases (eqb b 32)
    (λ s. subst (λ x. Read (x ∷ bs)) (sym (eqb-true b 32 s)) (space_first bs h))
    (λ s.
    cases (eqb b 45)
    (λ m. subst (λ x. Read (x ∷ bs)) (sym (eqb-true b 45 m)) (minus_first bs))
    (λ m.
    cases (eqb b 48)
    (λ z. subst (λ x. Read (x ∷ bs)) (sym (eqb-true b 48 z)) (zero_first bs))
    (λ n. digit_first b bs s m n)))

-- ---- one byte more

phase_more : (p : Phase) (bs : List ℕ) (b : ℕ) → phase_after p (bs ++ (b ∷ [])) ≡ turn (phase_after p bs) b
unfolding phase_after
phase_more p [] b = refl
phase_more p (c ∷ bs) b = phase_more (turn p c) bs b

value_more : (a : ℕ) (bs : List ℕ) (b : ℕ) → value_over a (bs ++ (b ∷ [])) ≡ value_over a bs * 10 + digit_of b
unfolding value_over
value_more a [] b = refl
value_more a (c ∷ bs) b = value_more (a * 10 + digit_of c) bs b

-- ---- the value fits

digit_small : (b : ℕ) → digit_of b ≤ 9
unfolding digit_of
digit_small b =
    cases (is_digit b)
    (λ d. let r = digit_bounds b (rw d tt) in rw d (omega arith)) (λ d. rw d (omega arith))

value_fits : (a k : ℕ) (bs : List ℕ) → a < 10 ^ k → value_over a bs < 10 ^ (k + length bs)
unfolding value_over
value_fits a k [] h = rw (add-zero k) h
value_fits a k (b ∷ bs) h =
    rw (add-suc k (length bs), ← suc-add k (length bs))
    (value_fits (a * 10 + digit_of b) (suc k) bs (omega (arith, pow-suc 10 k, digit_small b)))

value_below : (bs : List ℕ) → length bs ≤ file_width → value_over 0 bs < value_bound
value_below bs l =
    lt_of_lt_of_le (value_fits 0 0 bs (omega arith))
    (pow-le-pow_right {n = 10} (omega arith) {j = file_width} (omega arith))

-- ---- the program's state after some bytes

after_none : After [] (record { phase = 6; value = 0 })
unfolding phase_after value_over shift
after_none = record { phase = refl; value = refl }

after_more : (bs : List ℕ) (b : ℕ) (c r : Kept) → After bs c → Stepped c b r → After (bs ++ (b ∷ [])) r
after_more bs b c r a s = record {
  phase = rw (phase_more blank bs b) (s.phase (phase_after blank bs) a.phase);
  value = s.value ∙ rw (a.value, value_more 0 bs b);
}

-- a phase is a place in 64 bits
shift_below : (p : Phase) → shift p < 64
unfolding shift
shift_below bad = omega arith
shift_below blank = omega arith
shift_below sign = omega arith
shift_below nought = omega arith
shift_below up = omega arith
shift_below down = omega arith

phase_below : (bs : List ℕ) (c : Kept) → After bs c → c.phase < 64
phase_below bs c a = rw a.phase (shift_below (phase_after blank bs))

read_all : (bs : List ℕ) (c : Kept) (r : Answer ℤ) → After bs c → Said c r → r ≡ reading_of (read_column bs)
read_all bs c r a s = s.says (phase_after blank bs) a.phase ∙ ap reading_of (rw a.value (one_pass bs))

-- ---- one step by the table

module _ (t : List ℕ) (h : Table t) (b : ℕ) (l : b < 256) where
  pub entry_digit : get_or t b 0 / 2 ^ 60 ≤ 9
  entry_digit = rw (h.entry b l).digit (digit_small b)

  pub stepped : (c : Kept)
      → Stepped c b (record { phase = get_or t b 0 / 2 ^ c.phase % 64; value = c.value * 10 + get_or t b 0 / 2 ^ 60 })
  stepped c = record {
    phase = λ p e. rw e ((h.entry b l).turns p);
    below = mod-lt (get_or t b 0 / 2 ^ c.phase) (omega arith);
    value = rw (h.entry b l).digit;
  }

-- ---- what the state says

module _ (c : Kept) where
  -- 18, 24 and 30 are the phases of a zero alone, of digits, and of a minus and digits
  pub said_none : (c.phase ≡ 18 → ⊥) → (c.phase ≡ 24 → ⊥) → (c.phase ≡ 30 → ⊥) → Said c None
  unfolding shift meant reading_of
  said_none l m n = record { says = by }
    where
      by : (p : Phase) → c.phase ≡ shift p → None ≡ reading_of (meant p c.value)
      by bad e = refl
      by blank e = refl
      by sign e = refl
      by nought e = absurd (l e)
      by up e = absurd (m e)
      by down e = absurd (n e)

  pub said_down : (z : ℤ) → c.phase ≡ 30 → z ≡ neg_ℤ (pos c.value) → Said c (Some z)
  unfolding shift meant reading_of
  said_down z l v = record { says = by }
    where
      by : (p : Phase) → c.phase ≡ shift p → Some z ≡ reading_of (meant p c.value)
      by bad e = absurd (omega arith)
      by blank e = absurd (omega arith)
      by sign e = absurd (omega arith)
      by nought e = absurd (omega arith)
      by up e = absurd (omega arith)
      by down e = ap Some v

  pub said_up : (z : ℤ) → 18 ≤ c.phase → (c.phase ≡ 30 → ⊥) → z ≡ pos c.value → Said c (Some z)
  unfolding shift meant reading_of
  said_up z l n v = record { says = by }
    where
      by : (p : Phase) → c.phase ≡ shift p → Some z ≡ reading_of (meant p c.value)
      by bad e = absurd (omega arith)
      by blank e = absurd (omega arith)
      by sign e = absurd (omega arith)
      by nought e = ap Some v
      by up e = ap Some v
      by down e = absurd (n e)

-- ---- the state after i bytes of a column

pub part_first : (bs : List ℕ) → Partway bs 0 (record { phase = 6; value = 0 })
part_first bs = record { most = omega arith; state = after_none }

module _ {bs : List ℕ} {i : ℕ} {c : Kept} (h : Partway bs i c) where
  pub part_phase : c.phase < 64
  part_phase = phase_below (take i bs) c h.state

  pub part_value : c.value < value_bound
  part_value = rw h.state.value (value_below (take i bs) (omega (arith, length-take i bs, h.most)))

  pub part_next : {b : ℕ} {r : Kept} → i < file_width → i < length bs → b ≡ get_or bs i 0 → Stepped c b r
      → Partway bs (i + 1) r
  part_next {b} {r} m l e s = record {
    most = omega arith;
    state = rw (add-one i, take-suc bs i 0 l, ← e) (after_more (take i bs) b c r h.state s);
  }

  pub part_last : {r : Answer ℤ} → length bs ≤ i → Said c r → r ≡ reading_of (read_column bs)
  part_last {r} l s = read_all bs c r (rw take_all at h.state) s

-- one byte after spaces
after_spaces : {b : ℕ} {r : Kept} → r.phase ≡ shift (turn blank b) → r.value ≡ digit_of b
    → Stepped (record { phase = 6; value = 0 }) b r
unfolding shift
after_spaces {b} {r} p v = record { phase = by; below = rw p (shift_below (turn blank b)); value = omega arith }
  where
    by : (q : Phase) → 6 ≡ shift q → r.phase ≡ shift (turn q b)
    by bad e = absurd (omega arith)
    by blank e = p
    by sign e = absurd (omega arith)
    by nought e = absurd (omega arith)
    by up e = absurd (omega arith)
    by down e = absurd (omega arith)

space_stepped : Stepped (record { phase = 6; value = 0 }) 32 (record { phase = 6; value = 0 })
unfolding turn digit_of shift is_digit
space_stepped = after_spaces refl refl

zero_stepped : Stepped (record { phase = 6; value = 0 }) 48 (record { phase = 18; value = 0 })
unfolding turn digit_of shift is_digit
zero_stepped = after_spaces refl refl

-- ---- a block after spaces

module _ {bs : List ℕ} {i : ℕ} (h : OnlySpaces bs i) (l : length bs ≡ file_width) where
  spaces_more : (n : ℕ) → i + n ≤ file_width → ((k : ℕ) → k < n → get_or bs (i + k) 0 ≡ 32) → OnlySpaces bs (i + n)
  spaces_more zero m e = rw add-zero h
  spaces_more (suc n) m e =
      let s = spaces_more n (omega arith) (λ k lt. e k (omega arith)) in
      rw (add-suc i n, ← add-one (i + n))
      (part_next s (omega arith) (omega arith) (sym (e n (omega arith))) space_stepped)

  module _ {b : ℕ} (m : i + 4 ≤ file_width) (e : StandAt bs i (32 ∷ 32 ∷ 32 ∷ b ∷ [])) where
    three_spaces : OnlySpaces bs (i + 3)
    three_spaces = spaces_more 3 (omega arith) (λ k lt. e k (omega arith) ∙ space k lt)
      where
        space : (k : ℕ) → k < 3 → get_or {A = ℕ} (32 ∷ 32 ∷ 32 ∷ b ∷ []) k 0 ≡ 32
        space zero lt = refl
        space (suc zero) lt = refl
        space (suc (suc zero)) lt = refl
        space (suc (suc (suc k))) lt = absurd (omega arith)

    fourth : {c : Kept} → Stepped (record { phase = 6; value = 0 }) b c → Partway bs (i + 4) c
    fourth s =
        let f : i + 4 ≡ i + 3 + 1 = omega arith in
        rw f (part_next three_spaces (omega arith) (omega arith) (sym (e 3 (omega arith))) s)

  pub spaces_block : i + 4 ≤ file_width → StandAt bs i (32 ∷ 32 ∷ 32 ∷ 32 ∷ []) → OnlySpaces bs (i + 4)
  spaces_block m e = fourth m e space_stepped

  -- the last block, a zero alone
  pub zero_block : i + 4 ≡ file_width → StandAt bs i (32 ∷ 32 ∷ 32 ∷ 48 ∷ [])
      → Some (pos 0) ≡ reading_of (read_column bs)
  zero_block m e =
      part_last (fourth (omega arith) e zero_stepped) (omega arith)
      (said_up _ (pos 0) (omega arith) (λ d. omega arith) refl)

-- ---- the promise

pub in_one_pass : InOnePass
unfolding phase_after value_over
in_one_pass = record {
  starts = refl;
  goes_on = λ bs b. rw (phase_more blank bs b, value_more 0 bs b);
  fixed_size = value_below;
  says = λ bs h. one_pass bs;
}
