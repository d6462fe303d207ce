-- The promises of a verdict that is answered, and of a claim on a mesh as it is read, hold of every call: the theorems
-- about the definitions, read off what is returned and written.
use mathlib.Core.Path.{◌≡◌, refl, sym, ◌∙◌, ap, subst}
use mathlib.Core.Logic.{◌≢◌}
use mathlib.Core.List.{List, ◌++◌}
use mathlib.Core.Option.{some}
use Prim.Native.Nat.{ℕ, ◌^◌, ◌≤◌, ◌<◌}
use native.Mathlib.Omega.{arith}
use lib.Dec.{ltb}
use lib.IntN.{ℤ, pos, nat_abs, ◌+ℤ◌, ◌-ℤ◌}
use lib.Signed.{◌<ℤ◌, <ℤ_irrefl, <ℤ-≤ℤ_trans}
use lib.Ieee.Bits.{is_true}
use lib.ListN.{length, take, drop, length-append, length-drop}
use lib.Seq.{take_at, drop_at}
use borrow.Author.Tests.{ltb-true, ltb-false}
use borrow.Table.Steps.{cases}
use Rattle.integer.specs.Fraction.{◌over◌, ◌≤ᶠ◌, ◌<ᶠ◌}
use Rattle.integer.specs.Round.{Floor, Ceil}
use Rattle.integer.specs.Tests.{eq_z}
use Rattle.integer.proofs.TestLaws.{yes_eq_z}
use Rattle.scope.specs.Cases.Load.{Load}
use Rattle.scope.specs.Cases.Load.{Exact}
use Rattle.scope.specs.Cases.OpenRows.{OpenRows}
use Rattle.scope.specs.Cases.Verdict.{Verdict}
use Rattle.scope.specs.Cases.Verdict.{Accepted}
use Rattle.scope.specs.Answer.{number_of, place_of}
use Rattle.scope.specs.Columns.{at, has_field, has_multipliers, n, l}
use Rattle.scope.specs.Mesh.{ListsDirection}
use Rattle.scope.specs.Rows.{rows_of}
use Rattle.scope.specs.Sums.{open_rows, live_sum, limit_sum}
use Rattle.scope.specs.Claim.{stress, multiplier}
use Rattle.scope.specs.Verdict.{verdict, lower_load, upper_load, open_count}
use Rattle.scope.specs.Statements.{HasField, HasMultipliers}
use Rattle.scope.specs.Accepted.{ClaimAccepted}
use Rattle.scope.specs.Parts.{carried, allowed}
use Rattle.scope.proofs.Decides.{is_no}
use Rattle.scope.proofs.Directions.{lists_direction}
use Rattle.scope.proofs.Exactly.{accepted_exactly, returns_zero, claim_by_parts}
use Rattle.scope.proofs.Parts.{field-n, open_rows_count}
use Rattle.numbers.specs.Promises.{Returned}
use Rattle.numbers.proofs.Promises.{returns_zero_exactly, refuses_exactly, numbers_listed, rows_refused}
use Rattle.numbers.proofs.Promises.{field_exactly, multipliers_exactly, pairs_asked, sides_asked, overlaps_asked}
use Rattle.numbers.proofs.Promises.{criterion_for_each_pair, directions_asked, jumps_asked, tractions_on_joints}
use Rattle.numbers.proofs.Promises.{triangles_asked}
use Rattle.report.specs.Text.{Said, number as shows, said}
use Rattle.report.specs.Report.{report_bytes, report_line, most_decimals, Decimals, is_decimals}
use Rattle.report.specs.Says.{LoadSays, no_load, rounded, Says, says_accepted, says_refused, LineSays}
use Rattle.report.proofs.Text.{minus-said}
use Rattle.report.proofs.Line.{line_says, lower_within, upper_within, lower_room, upper_room}
use Rattle.report.proofs.BufferLaws.{decimals_told, other_told, decimals_small}
use Rattle.pechuvo.specs.Check.{answered}
use Rattle.pechuvo.specs.Answers.{AnswersFor, AnswersOn}
use Rattle.pechuvo.specs.Promises.{claim_in, Room, AnyCall, OnMesh, MinusBelowZero, LowerPrinted, UpperPrinted}
use Rattle.pechuvo.specs.Promises.{Millionths, TextsFit, Prints, OpenRowsPrinted}
use Rattle.pechuvo.proofs.VerdictFits.{held, lower_held, upper_held, Sayable, sayable}
use Rattle.pechuvo.proofs.Words.{lower_word, upper_word, rows_word}
use Rattle.pechuvo.proofs.OpenColumn.{open_column}

-- ---- the three cases of a call

module _ (v : Verdict) (z : ℤ) (before : List ℕ) (number place : ℕ) (after : List ℕ) where
  -- nothing is written, and k is returned
  pub record Untouched (k : ℕ) : Type 0 where
    pub number_is : number ≡ k
    pub place_0 : place ≡ 0
    pub untouched : after ≡ before

  pub record LineWritten : Type 0 where
    pub returns : (number ≡ number_of v) × (place ≡ place_of v)
    pub writes : after ≡ report_line (nat_abs z) v ++ drop report_bytes before

  pub data Cases : Type 0 where
    other : ¬ Decimals z → Untouched 43 → Cases
    short : Decimals z → length before < report_bytes → Untouched 41 → Cases
    line : Room z before → LineWritten → Cases

  pub by_cases : AnswersFor v z before number place after → Cases
  unfolding answered
  by_cases h =
      cases (is_decimals z)
      (λ s.
      cases (ltb (length before) report_bytes)
      (λ t. short (decimals_told z s) (ltb-true (length before) report_bytes t) (untouched 41 (rw (s, t, answered))))
      (λ t. line (record { decimals = decimals_told z s; bytes = ltb-false (length before) report_bytes t })
      (written (rw (s, t, answered)))))
      (λ s. other (other_told z s) (untouched 43 (rw (s, answered))))
    where
      untouched : (k : ℕ) → answered v z before ≡ record { number = k; place = 0; buffer = before } → Untouched k
      untouched k e = record {
        number_is = h.number_is ∙ ap (λ x. x.number) e;
        place_0 = h.place_is ∙ ap (λ x. x.place) e;
        untouched = h.buffer_is ∙ ap (λ x. x.buffer) e;
      }

      written : answered v z before
          ≡ record {
            number = number_of v;
            place = place_of v;
            buffer =
                report_line (nat_abs z) v ++ drop report_bytes before;
          } → LineWritten
      written e = record {
        returns = (h.number_is ∙ ap (λ x. x.number) e, h.place_is ∙ ap (λ x. x.place) e);
        writes = h.buffer_is ∙ ap (λ x. x.buffer) e;
      }

-- the line that is printed
says_line : (d : ℕ) → d ≤ most_decimals → (m c : List ℤ) → LineSays d (verdict m c) (report_line d (verdict m c))
says_line d h m c = line_says d (verdict m c) h (held m c)

-- in a text that reads as a number, a minus stands before a number below 0 only
minus_below_zero : (v : ℤ) (d : ℕ) {column : List ℕ} → said column ≡ some (shows v d) → MinusBelowZero v column
minus_below_zero v d r k rest e = minus-said k rest v d (sym (ap said e) ∙ r)

-- ---- what the columns of a verdict's line say

first_says : {d : ℕ} {v : Verdict} {a b c e : Said} → Says d v a b c e → a ≡ shows (pos (number_of v)) 0
first_says (says_accepted r x y) = refl
first_says (says_refused k p) = refl

second_refused : {d : ℕ} {v : Verdict} {a b c e : Said} → Says d v a b c e → number_of v ≢ 0
    → b ≡ shows (pos (place_of v)) 0
second_refused (says_accepted r x y) z = absurd (z refl)
second_refused (says_refused k p) z = refl

third_says : {d : ℕ} {o : OpenRows} {lower upper : Load} {a b c e : Said} → Says d (Accepted o lower upper) a b c e
    → LoadSays Floor d lower c
third_says (says_accepted r x y) = x

fourth_says : {d : ℕ} {o : OpenRows} {lower upper : Load} {a b c e : Said} → Says d (Accepted o lower upper) a b c e
    → LoadSays Ceil d upper e
fourth_says (says_accepted r x y) = y

-- a load over a number above 0, rounded down and rounded up
floor_says : {d : ℕ} {num den : ℤ} {s : Said} → pos 0 <ℤ den → LoadSays Floor d (Exact num den) s
    → (v : ℤ) × (s ≡ shows v d) × (v over pos (10 ^ d) ≤ᶠ num over den)
    × (num over den <ᶠ (v +ℤ pos 1) over pos (10 ^ d))
floor_says p (no_load h) = absurd (<ℤ_irrefl (<ℤ-≤ℤ_trans p h))
floor_says {d} p (rounded num v den q f) = let b = lower_within d den num v f in (v, refl, b.0, b.1)

ceil_says : {d : ℕ} {num den : ℤ} {s : Said} → pos 0 <ℤ den → LoadSays Ceil d (Exact num den) s
    → (v : ℤ) × (s ≡ shows v d) × (num over den ≤ᶠ v over pos (10 ^ d))
    × ((v -ℤ pos 1) over pos (10 ^ d) <ᶠ num over den)
ceil_says p (no_load h) = absurd (<ℤ_irrefl (<ℤ-≤ℤ_trans p h))
ceil_says {d} p (rounded num v den q f) = let b = upper_within d den num v f in (v, refl, b.0, b.1)

module _ (m c : List ℤ) where
  lower_exact : HasField c → ¬ ListsDirection m → lower_load m c ≡ Exact (l c) (n c)
  unfolding lower_load has_field
  lower_exact f none = rw (is_true (eq_z (at c 0) (pos 1)) (yes_eq_z f), is_no (lists_direction m) none)

  upper_exact : HasMultipliers c → upper_load m c ≡ Exact (limit_sum (multiplier m c) (rows_of m))
      (live_sum (multiplier m c) (rows_of m))
  unfolding upper_load has_multipliers
  upper_exact f = rw (is_true (eq_z (at c 1) (pos 1)) (yes_eq_z f))

  accepted : number_of (verdict m c) ≡ 0 → verdict m c ≡ Accepted (open_count m c) (lower_load m c) (upper_load m c)
  accepted z = (accepted_exactly m c).1 ((returns_zero m c).0 z)

  module _ (d : ℕ) (h : d ≤ most_decimals) where
    prints_lower : number_of (verdict m c) ≡ 0 → HasField c → ¬ ListsDirection m
        → LowerPrinted d c (report_line d (verdict m c))
    unfolding carried
    prints_lower z f none =
        let line = says_line d h m c in
        let says : LoadSays Floor d (Exact (l c) (n c)) line.third =
        subst (λ (x : Load). LoadSays Floor d x line.third) (lower_exact f none)
        (third_says (subst (λ (v : Verdict). Says d v line.first line.second line.third line.fourth)
        (accepted z) line.says)) in
        let (v, e, a, b) = floor_says (field-n m c (((claim_by_parts m c).0 ((returns_zero m c).0 z)).2 f)) says in
        let r = line.read_third ∙ ap some e in
        record { units = v; reads = r; at_most = a; within = b; minus = minus_below_zero v d r }

    prints_upper : number_of (verdict m c) ≡ 0 → HasMultipliers c → UpperPrinted d m c (report_line d (verdict m c))
    unfolding allowed
    prints_upper z f =
        let line = says_line d h m c in
        let says : LoadSays Ceil d
        (Exact (limit_sum (multiplier m c) (rows_of m)) (live_sum (multiplier m c) (rows_of m))) line.fourth =
        subst (λ (x : Load). LoadSays Ceil d x line.fourth) (upper_exact f)
        (fourth_says (subst (λ (v : Verdict). Says d v line.first line.second line.third line.fourth)
        (accepted z) line.says)) in
        let (v, e, a, b) = ceil_says (((returns_zero m c).0 z).multipliers_meet f).live says in
        let r = line.read_fourth ∙ ap some e in
        record { units = v; reads = r; at_least = a; within = b; minus = minus_below_zero v d r }

    prints : Prints d m c (number_of (verdict m c)) (place_of (verdict m c)) (report_line d (verdict m c))
    prints =
        let line = says_line d h m c in
        record {
          first = line.read_first ∙ ap some (first_says line.says);
          refused = λ z. line.read_second ∙ ap some (second_refused line.says z);
          lower = prints_lower;
          lower_none = lower_word m c d h;
          upper = prints_upper;
          upper_none = upper_word m c d h;
          rows_none = rows_word m c d h;
        }

    prints_open : number_of (verdict m c) ≡ 0 → HasField c → HasMultipliers c
        → OpenRowsPrinted m c (report_line d (verdict m c))
    prints_open z f w =
        let a : ClaimAccepted m c = (returns_zero m c).0 z in
        let parts = (claim_by_parts m c).0 a in
        let count = open_rows_count m c (parts.2 f) (parts.3 w) in
        record {
          number = open_rows (stress m c) (l c) (n c) (multiplier m c) (rows_of m);
          reads = open_column d m c h a f w;
          count = count.number;
          closed = count.none;
        }

    -- "in the same 28 characters"
    pub texts_fit : ClaimAccepted m c → TextsFit d m c
    texts_fit a = record {
      lower = lower_room d (lower_load m c) h (lower_held m c a);
      upper =
          upper_room d (upper_load m c) h (upper_held m c a);
    }

-- six decimals are millionths
pub millionths : {m c : List ℤ} {place : ℕ} {line : List ℕ} → Prints 6 m c 0 place line → Millionths m c line
millionths p = record {
  lower = λ f none. let l = p.lower refl f none in (l.units, l.reads, l.at_most, l.within);
  upper = λ f. let u = p.upper refl f in (u.units, u.reads, u.at_least, u.within);
}

-- ==== Demand 1

module _ (v : Verdict) (ok : Sayable v) (z : ℤ) (before : List ℕ) (number place : ℕ) (after : List ℕ)
    (h : AnswersFor v z before number place after) where
  came : Cases v z before number place after
  came = by_cases v z before number place after h

  pub written : Room z before → LineWritten v z before number place after
  written b = by came
    where
      by : Cases v z before number place after → LineWritten v z before number place after
      by (other n u) = absurd (n b.decimals)
      by (short d l u) = absurd (omega (arith, l, b.bytes))
      by (line r w) = w

  line_bytes_lem : Decimals z → length (report_line (nat_abs z) v) ≡ report_bytes
  line_bytes_lem d = (line_says (nat_abs z) v (decimals_small z d) ok.held).bytes

  pub line_is : Room z before → take report_bytes after ≡ report_line (nat_abs z) v
  line_is b = ap (take report_bytes) (written b).writes ∙ take_at (report_line (nat_abs z) v)
      (drop report_bytes before) report_bytes (line_bytes_lem b.decimals)

  pub any_call : AnyCall v z before number place after
  any_call = record {
    other_decimals = λ n. forty_three n came;
    only_others = λ e. then_others e came;
    too_short = λ d l. forty_one d l came;
    only_then = λ e. then_short e came;
    returns = λ b. (written b).returns;
    line = line_is;
    says = λ b. rw (line_is b) (line_says (nat_abs z) v (decimals_small z b.decimals) ok.held);
    rest = beyond came;
    size = as_long came;
  }
    where
      forty_three : ¬ Decimals z → Cases v z before number place after → (number ≡ 43) × (place ≡ 0) × (after ≡ before)
      forty_three n (other o u) = (u.number_is, u.place_0, u.untouched)
      forty_three n (short d l u) = absurd (n d)
      forty_three n (line r w) = absurd (n r.decimals)

      then_others : number ≡ 43 → Cases v z before number place after → ¬ Decimals z
      then_others e (other o u) = o
      then_others e (short d l u) = absurd (omega (arith, u.number_is))
      then_others e (line r w) = absurd (ok.not_43 (sym w.returns.0 ∙ e))

      forty_one : Decimals z → length before < report_bytes → Cases v z before number place after
          → (number ≡ 41) × (place ≡ 0) × (after ≡ before)
      forty_one d l (other o u) = absurd (o d)
      forty_one d l (short e k u) = (u.number_is, u.place_0, u.untouched)
      forty_one d l (line r w) = absurd (omega (arith, r.bytes))

      then_short : number ≡ 41 → Cases v z before number place after → Decimals z × (length before < report_bytes)
      then_short e (other o u) = absurd (omega (arith, u.number_is))
      then_short e (short d l u) = (d, l)
      then_short e (line r w) = absurd (ok.not_41 (sym w.returns.0 ∙ e))

      beyond : Cases v z before number place after → drop report_bytes after ≡ drop report_bytes before
      beyond (other o u) = ap (drop report_bytes) u.untouched
      beyond (short d l u) = ap (drop report_bytes) u.untouched
      beyond (line r w) = ap (drop report_bytes) w.writes ∙ drop_at (report_line (nat_abs z) v)
          (drop report_bytes before) report_bytes (line_bytes_lem r.decimals)

      as_long : Cases v z before number place after → length after ≡ length before
      as_long (other o u) = ap length u.untouched
      as_long (short d l u) = ap length u.untouched
      as_long (line r w) = omega (
        arith,
        ap length w.writes,
        length-append (report_line (nat_abs z) v) (drop report_bytes before),
        line_bytes_lem r.decimals,
        length-drop report_bytes before,
        r.bytes,
      )

-- ==== Demand 2

-- a claim file on a mesh as it is read
module _ (m : List ℤ) (claim : List ℕ) (z : ℤ) (before : List ℕ) (number place : ℕ) (after : List ℕ)
    (h : AnswersOn m claim z before number place after) where
  abbrev c : List ℤ
  c = claim_in m claim

  returned_on : Room z before → Returned m c number place
  returned_on b = let w = (written (verdict m c) (sayable m c) z before number place after h b).returns in record
      { number_is = w.0; place_is = w.1 }

  pub on_mesh : Room z before → OnMesh m c number place
  on_mesh b =
      let r : Returned m c number place = returned_on b in
      record {
        returns_zero = returns_zero_exactly m c number place r;
        refuses = refuses_exactly m c number place r;
        listed = numbers_listed m c number place r;
        rows = rows_refused m c number place r;
        field = field_exactly m c number place r;
        multipliers = multipliers_exactly m c number place r;
        triangles = triangles_asked m;
        pairs = pairs_asked m c number place r;
        criterion = criterion_for_each_pair m c number place r;
        directions = directions_asked m c number place r;
        jumps = jumps_asked m;
        sides = sides_asked m c number place r;
        overlaps = overlaps_asked m c number place r;
        tractions = tractions_on_joints m c number place r;
      }

  line_on : Room z before → take report_bytes after ≡ report_line (nat_abs z) (verdict m c)
  line_on b = line_is (verdict m c) (sayable m c) z before number place after h b

  pub prints_columns : Room z before → Prints (nat_abs z) m c number place (take report_bytes after)
  prints_columns b = let r = returned_on b in rw (r.number_is, r.place_is, line_on b)
      (prints m c (nat_abs z) (decimals_small z b.decimals))

  -- ==== Demand 3

  pub prints_open_rows : Room z before → number ≡ 0 → HasField c → HasMultipliers c
      → OpenRowsPrinted m c (take report_bytes after)
  prints_open_rows b e f w =
      rw (line_on b) (prints_open m c (nat_abs z) (decimals_small z b.decimals) (sym (returned_on b).number_is ∙ e) f w)
