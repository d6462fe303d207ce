-- The report line has 113 bytes and its columns say what the verdict is: no text is longer than its column, so each
-- column is the text right-justified, and says what the text says.
use mathlib.Core.Path.{◌≡◌, refl, ap, ◌∙◌}
use mathlib.Core.Logic.{◌↔◌}
use mathlib.Core.List.{List, [], ◌∷◌, ◌++◌}
use mathlib.Core.Option.{some}
use Prim.Native.Nat.{ℕ, zero, suc, ◌+◌, ◌*◌, ◌^◌, ◌≤◌, ◌<◌}
use native.Mathlib.Omega.{arith}
use lib.IntN.{ℤ, pos, negsuc, nat_abs, ◌*ℤ◌, ◌+ℤ◌, ◌-ℤ◌}
use lib.Signed.{le_z_yes}
use lib.ListN.{length, take, drop, length-append}
use lib.Seq.{take_at, drop-append-add}
use Rattle.integer.proofs.Order.{≤ℤ_pos}
use Rattle.integer.specs.Fraction.{◌over◌, ◌≤ᶠ◌, ◌<ᶠ◌}
use Rattle.integer.specs.Decimal.{digits_within, digits, last_digits, right_justified}
use Rattle.integer.proofs.DecimalLaws.{right_justified-length}
use Rattle.integer.specs.Round.{floor_div, ceil_div, Floor, Ceil}
use Rattle.integer.proofs.RoundLaws.{floor_div_is, ceil_div_is}
use Rattle.scope.specs.Cases.Load.{Load}
use Rattle.scope.specs.Cases.Load.{Absent, Exact}
use Rattle.scope.specs.Cases.OpenRows.{OpenRows}
use Rattle.scope.specs.Cases.OpenRows.{Absent as NoCount, Count}
use Rattle.scope.specs.Cases.Verdict.{Verdict}
use Rattle.scope.specs.Cases.Verdict.{Accepted, Refused}
use Rattle.scope.specs.Answer.{place_number}
use Rattle.report.specs.Text.{pointed, fixed, none_text, Said, word, number, said}
use Rattle.report.specs.Report.{column_bytes, most_decimals, load_text, lower_text, upper_text, open_text}
use Rattle.report.specs.Report.{four_columns, report_line}
use Rattle.report.specs.Says.{column_of, HeldLoad, HeldRows, Held, NoLoad, NoLower, NoUpper}
use Rattle.report.specs.Says.{LoadSays, no_load, rounded, RowsSay, no_rows, rows}
use Rattle.report.specs.Says.{Says, says_accepted, says_refused, LineSays}
use Rattle.report.proofs.DivisionLaws.{floor_small, ceil_small, units_small}
use Rattle.report.proofs.Text.{said-column, said_none, said-fixed, said-digits, digits-length-64, fixed-length}

-- ---- four texts in four columns

past : (i : ℕ) (a rest : List ℕ) → length a ≤ 28
    → drop (suc i * 28) (right_justified 28 a ++ rest) ≡ drop (i * 28) rest
past i a rest h =
    let e = right_justified-length 28 a h in
    let n : suc i * 28 ≡ length (right_justified 28 a) + i * 28 = omega arith in
    rw n (drop-append-add (right_justified 28 a) rest (i * 28))

next-column : (i : ℕ) (a rest : List ℕ) → length a ≤ 28
    → column_of (suc i) (right_justified 28 a ++ rest) ≡ column_of i rest
unfolding column_of
next-column i a rest h = ap (take 28) (past i a rest h)

this_column : (a rest : List ℕ) → length a ≤ 28 → said (column_of 0 (right_justified 28 a ++ rest)) ≡ said a
unfolding column_of
this_column a rest h = ap said (take_at (right_justified 28 a) rest 28 (right_justified-length 28 a h))
    ∙ said-column 28 a

module _ (a b c e : List ℕ) (ha : length a ≤ 28) (hb : length b ≤ 28) (hc : length c ≤ 28) (he : length e ≤ 28) where
  after_third : List ℕ
  after_third = right_justified 28 e ++ (10 ∷ [])

  after_second : List ℕ
  after_second = right_justified 28 c ++ after_third

  after_first : List ℕ
  after_first = right_justified 28 b ++ after_second

  four_length : length (four_columns a b c e) ≡ 113
  unfolding four_columns
  four_length = simp (length-append, right_justified-length) refl

  four_end : drop 112 (four_columns a b c e) ≡ 10 ∷ []
  unfolding four_columns after_first after_second after_third
  four_end = past 3 a after_first ha ∙ past 2 b after_second hb ∙ past 1 c after_third hc ∙ past 0 e (10 ∷ []) he

  said_first : said (column_of 0 (four_columns a b c e)) ≡ said a
  unfolding four_columns after_first after_second after_third
  said_first = this_column a after_first ha

  said_second : said (column_of 1 (four_columns a b c e)) ≡ said b
  unfolding four_columns after_first after_second after_third
  said_second = ap said (next-column 0 a after_first ha) ∙ this_column b after_second hb

  said_third : said (column_of 2 (four_columns a b c e)) ≡ said c
  unfolding four_columns after_first after_second after_third
  said_third =
      ap said (next-column 1 a after_first ha ∙ next-column 0 b after_second hb) ∙ this_column c after_third hc

  said_fourth : said (column_of 3 (four_columns a b c e)) ≡ said e
  unfolding four_columns after_first after_second after_third
  said_fourth =
      ap said (next-column 2 a after_first ha ∙ next-column 1 b after_second hb ∙ next-column 0 c after_third hc)
      ∙ this_column e (10 ∷ []) he

-- a text that has room in its column, and says s
record Fits (text : List ℕ) (s : Said) : Type 0 where
  room : length text ≤ 28
  reads : said text ≡ some s

four_say : (d : ℕ) (v : Verdict) {a b c e : List ℕ} {p q r s : Said} → Fits a p → Fits b q → Fits c r → Fits e s
    → Says d v p q r s → LineSays d v (four_columns a b c e)
four_say d v {a} {b} {c} {e} {p} {q} {r} {s} fa fb fc fe x = record {
  bytes = four_length a b c e fa.room fb.room fc.room fe.room;
  end = four_end a b c e fa.room fb.room fc.room fe.room;
  first = p;
  second = q;
  third = r;
  fourth = s;
  read_first = said_first a b c e fa.room fb.room fc.room fe.room ∙ fa.reads;
  read_second = said_second a b c e fa.room fb.room fc.room fe.room ∙ fb.reads;
  read_third = said_third a b c e fa.room fb.room fc.room fe.room ∙ fc.reads;
  read_fourth = said_fourth a b c e fa.room fb.room fc.room fe.room ∙ fe.reads;
  says = x;
}

-- ---- the texts

fits_none : Fits none_text word
unfolding none_text
fits_none = record { room = omega arith; reads = said_none }

fits_digits : (k : ℕ) → k < 2 ^ 64 → Fits (digits k) (number (pos k) 0)
fits_digits k h = let l = digits-length-64 k h in record { room = omega arith; reads = said-digits k }

fits_fixed : (d : ℕ) (num v : ℤ) → d ≤ 7 → nat_abs num ≤ 2 ^ 63 → nat_abs v ≤ nat_abs (num *ℤ pos (10 ^ d))
    → Fits (fixed d v) (number v d)
fits_fixed d num v h k l =
    let n : nat_abs v ≤ 10 ^ d * 2 ^ 63 = omega (arith, units_small num d k) in
    let r = fixed-length d v n in
    record { room = omega arith; reads = said-fixed d v }

-- a load's text and what it says, for a way of rounding that makes no number larger
module _ (R : ℤ → ℕ → ℤ → Type 0) (round : ℤ → ℕ → ℤ)
    (small : (z : ℤ) (den : ℕ) → nat_abs (round z den) ≤ nat_abs z)
    (is : (z : ℤ) (den : ℕ) → 0 < den → R z den (round z den)) (d : ℕ) (h : d ≤ 7) where
  load_fits : (load : Load) → HeldLoad load → (s : Said) × Fits (load_text round d load) s × LoadSays R d load s
  unfolding load_text
  load_fits Absent x = (word, fits_none, no_load tt)
  load_fits (Exact num (pos zero)) x = (word, fits_none, no_load (le_z_yes tt))
  load_fits (Exact num (pos (suc k))) x =
      let z = num *ℤ pos (10 ^ d) in
      let v = round z (suc k) in
      let s = rounded num v (suc k) (omega arith) (is z (suc k) (omega arith)) in
      (number v d, fits_fixed d num v h x (small z (suc k)), s)
  load_fits (Exact num (negsuc k)) x = (word, fits_none, no_load (le_z_yes tt))

lower_fits : (d : ℕ) → d ≤ 7 → (load : Load) → HeldLoad load
    → (s : Said) × Fits (lower_text d load) s × LoadSays Floor d load s
unfolding lower_text
lower_fits = load_fits Floor floor_div floor_small (λ z den p. floor_div_is z p)

upper_fits : (d : ℕ) → d ≤ 7 → (load : Load) → HeldLoad load
    → (s : Said) × Fits (upper_text d load) s × LoadSays Ceil d load s
unfolding upper_text
upper_fits = load_fits Ceil ceil_div ceil_small (λ z den p. ceil_div_is z p)

-- "in the same 28 characters": 19 digits, a minus, a point and seven decimals
pub lower_room : (d : ℕ) (load : Load) → d ≤ most_decimals → HeldLoad load → length (lower_text d load) ≤ column_bytes
lower_room d load h x = (lower_fits d h load x).1.room

pub upper_room : (d : ℕ) (load : Load) → d ≤ most_decimals → HeldLoad load → length (upper_text d load) ≤ column_bytes
upper_room d load h x = (upper_fits d h load x).1.room

-- the load that 64 bits hold farthest from 0 fills its column
pub widest_fills : length (lower_text most_decimals (Exact (negsuc 9223372036854775807) (pos 1))) ≡ column_bytes
unfolding lower_text load_text fixed pointed digits_within digits last_digits
widest_fills = refl

rows_fit : (o : OpenRows) → HeldRows o → (s : Said) × Fits (open_text o) s × RowsSay o s
unfolding open_text
rows_fit NoCount x = (word, fits_none, no_rows)
rows_fit (Count k) x = (number (pos k) 0, fits_digits k x, rows k)

-- ---- the line

-- up to seven decimals, the line has 113 bytes and its columns say what the verdict is
pub line_says : (d : ℕ) (v : Verdict) → d ≤ 7 → Held v → LineSays d v (report_line d v)
unfolding report_line
line_says d (Accepted o lower upper) h x =
    let (b, fb, sb) = rows_fit o x.0 in
    let (c, fc, sc) = lower_fits d h lower x.1 in
    let (e, fe, se) = upper_fits d h upper x.2 in
    four_say d (Accepted o lower upper) (fits_digits 0 (omega arith)) fb fc fe (says_accepted sb sc se)
line_says d (Refused k place) h x =
    let a = fits_digits k (omega (arith, x.0)) in
    let b = fits_digits (place_number place) (omega (arith, x.1)) in
    four_say d (Refused k place) a b fits_none fits_none (says_refused k place)

-- ---- the word none

load_none : {R : ℤ → ℕ → ℤ → Type 0} {d : ℕ} {load : Load} {s : Said} → LoadSays R d load s → (s ≡ word) ↔ NoLoad load
load_none (no_load h) = (λ e. h, λ n. refl)
load_none (rounded num v den p r) =
    (λ e. let z : ◌≡◌ {A = ℕ} 0 1 = cc in absurd (omega arith), λ n. absurd (omega (arith, ≤ℤ_pos n)))

third_none : {d : ℕ} {v : Verdict} {a b c e : Said} → Says d v a b c e → (c ≡ word) ↔ NoLower v
third_none (says_accepted b l u) = load_none l
third_none (says_refused k place) = (λ e. tt, λ n. refl)

fourth_none : {d : ℕ} {v : Verdict} {a b c e : Said} → Says d v a b c e → (e ≡ word) ↔ NoUpper v
fourth_none (says_accepted b l u) = load_none u
fourth_none (says_refused k place) = (λ e. tt, λ n. refl)

second_none : {d : ℕ} {o : OpenRows} {lower upper : Load} {a b c e : Said} → Says d (Accepted o lower upper) a b c e
    → (b ≡ word) ↔ (o ≡ NoCount)
second_none (says_accepted no_rows l u) = (λ e. refl, λ n. refl)
second_none (says_accepted (rows k) l u) = (
  λ e. let z : ◌≡◌ {A = ℕ} 0 1 = cc in absurd (omega arith),
  λ n. let z : ◌≡◌ {A = ℕ} 0 1 = cc in absurd (omega arith),
)

-- the second column of an accepted claim has the word none exactly when there is no count of open rows
pub rows_none : (d : ℕ) (o : OpenRows) (lower upper : Load) → d ≤ 7 → Held (Accepted o lower upper)
    → (said (column_of 1 (report_line d (Accepted o lower upper))) ≡ some word) ↔ (o ≡ NoCount)
rows_none d o lower upper h x =
    let l = line_says d (Accepted o lower upper) h x in
    let t = second_none l.says in
    (λ e. t.0 (cc l.read_second), λ n. l.read_second ∙ ap some (t.1 n))

-- the third column has the word none exactly when the field is absent or the claim is refused, the fourth when the
-- multipliers are absent or the claim is refused
pub lower_none : (d : ℕ) (v : Verdict) → d ≤ 7 → Held v
    → (said (column_of 2 (report_line d v)) ≡ some word) ↔ NoLower v
lower_none d v h x =
    let l = line_says d v h x in
    let t = third_none l.says in
    (λ e. t.0 (cc l.read_third), λ n. l.read_third ∙ ap some (t.1 n))

pub upper_none : (d : ℕ) (v : Verdict) → d ≤ 7 → Held v
    → (said (column_of 3 (report_line d v)) ≡ some word) ↔ NoUpper v
upper_none d v h x =
    let l = line_says d v h x in
    let t = fourth_none l.says in
    (λ e. t.0 (cc l.read_fourth), λ n. l.read_fourth ∙ ap some (t.1 n))

-- ---- the printed loads

-- the floor is at most the load, by less than 10^-d: 0 ≤ load - printed < 10^-d
pub lower_within : (d den : ℕ) (num v : ℤ) → Floor (num *ℤ pos (10 ^ d)) den v
    → (v over pos (10 ^ d) ≤ᶠ num over pos den) × (num over pos den <ᶠ (v +ℤ pos 1) over pos (10 ^ d))
lower_within d den num v f = (record { cross-≤ = f.at_most }, record { cross-< = f.next_above })

-- the ceiling is at least the load, by less than 10^-d: 0 ≤ printed - load < 10^-d
pub upper_within : (d den : ℕ) (num v : ℤ) → Ceil (num *ℤ pos (10 ^ d)) den v
    → (num over pos den ≤ᶠ v over pos (10 ^ d)) × ((v -ℤ pos 1) over pos (10 ^ d) <ᶠ num over pos den)
upper_within d den num v c = (record { cross-≤ = c.at_least }, record { cross-< = c.last_below })
