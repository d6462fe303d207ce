-- A run goes claim by claim: those that are done and those that are left are together all that get a report.
use mathlib.Core.Path.{◌≡◌, refl, sym, ap, ap₂, ◌∙◌, subst}
use mathlib.Core.Bool.{Bool, true, false, cond}
use mathlib.Core.List.{List, [], ◌∷◌, ◌++◌, append_assoc, append-nil, flat_map}
use Prim.Native.Nat.{ℕ, zero, suc, ◌+◌, ◌*◌, ◌-◌, ◌/◌, ◌≤◌, ◌<◌}
use native.Mathlib.Nat.{zero-mul, suc-mul, sub-zero, div-eq_of_lt, div-eq-sub-div}
use native.Mathlib.Numerals.{add-one}
use native.Mathlib.Omega.{arith}
use lib.IntN.{ℤ, pos}
use lib.ListN.{length, take, drop, get_or, length-append, length-drop, drop_of_length-le}
use lib.Seq.{take_all, take_at, drop_at, drop-drop, drop-length}
use borrow.Author.Tests.{le-ltb}
use borrow.Rule.Slice.PartMut.{mid_of, put_mid}
use Rattle.scope.specs.declared.Place.{Place}
use Rattle.scope.specs.Cases.Outcome.{Outcome}
use Rattle.scope.specs.Cases.Outcome.{Passed, Refused as Fails}
use Rattle.scope.specs.Cases.Verdict.{Verdict}
use Rattle.scope.specs.Cases.Verdict.{Refused}
use Rattle.scope.specs.Verdict.{answer, claim_verdict}
use Rattle.report.specs.Report.{report_bytes, report_line, is_decimals, usual_decimals}
use Rattle.report.specs.Buffer.{Written, reported, after_answer, after_report, Reports}
use Rattle.reader.specs.File.{file_width}
use Rattle.judge.specs.Judge.{claim_numbers}
use Rattle.run.specs.declared.RunAnswer.{RunAnswer}
use Rattle.run.specs.Run.{own_bytes, verdict_on, ends_run, taken_of, line_of, claims_judged, ran, run, RunAnswers}
use Rattle.run.proofs.NextLaws.{own_length}

-- ---- the claims that get a report

pub judged_none : (m : List ℤ) (room : ℕ) → claims_judged room Passed m [] ≡ []
unfolding claims_judged
judged_none m zero = refl
judged_none m (suc room) = refl

pub judged-next : (m : List ℤ) (room : ℕ) (left : List ℕ) → 0 < length left
    → claims_judged (suc room) Passed m left ≡ own_bytes m left ∷ cond
    (ends_run (verdict_on Passed m (own_bytes m left))) []
    (claims_judged room Passed m (drop (length (own_bytes m left)) left))
unfolding claims_judged
judged-next m room [] l = absurd (omega arith)
judged-next m room (b ∷ bs) l = refl

pub judged_refused : (o : Outcome) (k : ℕ) (p : Place) → o ≡ Fails k p → (room : ℕ) (m : List ℤ) (left : List ℕ)
    → claims_judged (suc room) o m left ≡ [] ∷ []
unfolding claims_judged
judged_refused o k p e room m left = rw (e, claims_judged)

pub no_room : (n : ℕ) → n < report_bytes → n / report_bytes ≡ 0
no_room n l = div-eq_of_lt l

pub one_room : (n : ℕ) → report_bytes ≤ n → n / report_bytes ≡ suc ((n - report_bytes) / report_bytes)
one_room n l = div-eq-sub-div {m = report_bytes} {n = n} (omega arith) l ∙ add-one ((n - report_bytes) / report_bytes)

-- ---- a part of a list, and a report in it

-- a part up to the end is all that is left, and nothing follows it
pub up_to_end : (from : ℕ) (l : List ℕ) → take (length l - from) (drop from l) ≡ drop from l
up_to_end from l = take_all (length l - from) (drop from l) (omega (arith, length-drop from l))

none_after : (from : ℕ) (l : List ℕ) → drop (length l - from) (drop from l) ≡ []
none_after from l = drop_of_length-le (drop from l) {i = length l - from} (omega (arith, length-drop from l))

written-there : {after : List ℕ} {w : Written} (v : Verdict) (before : List ℕ) → report_bytes ≤ length before
    → Reports (pos usual_decimals) v before after w → after ≡ report_line usual_decimals v ++ drop report_bytes before
unfolding after_report after_answer reported is_decimals usual_decimals
written-there v before l r = r.buffer ∙ rw (le-ltb (length before) report_bytes l, reported)

-- ---- lists of lists

pub flat_append : (f : List ℕ → List ℕ) (xs ys : List (List ℕ)) → flat_map f (xs ++ ys) ≡ flat_map f xs ++ flat_map f ys
unfolding flat_map
flat_append f [] ys = refl
flat_append f (x ∷ xs) ys = ap (λ (l : List ℕ). f x ++ l) (flat_append f xs ys)
    ∙ sym (append_assoc (f x) (flat_map f xs) (flat_map f ys))

pub flat_last : (f : List ℕ → List ℕ) (xs : List (List ℕ)) (x : List ℕ)
    → flat_map f (xs ++ (x ∷ [])) ≡ flat_map f xs ++ f x
unfolding flat_map
flat_last f xs x = flat_append f xs (x ∷ []) ∙ ap (λ (l : List ℕ). flat_map f xs ++ l) (append-nil (f x))

-- where each list has k elements, they stand k apart
module _ (f : List ℕ → List ℕ) (k : ℕ) (each : (x : List ℕ) → length (f x) ≡ k) where
  pub flat_length : (xs : List (List ℕ)) → length (flat_map f xs) ≡ length xs * k
  unfolding flat_map
  flat_length [] = sym (zero-mul k)
  flat_length (x ∷ xs) =
      omega (arith, length-append (f x) (flat_map f xs), each x, flat_length xs, suc-mul (length xs) k)

  pub flat_at : (xs : List (List ℕ)) (tail : List ℕ) (i : ℕ) → i < length xs
      → take k (drop (i * k) (flat_map f xs ++ tail)) ≡ f (get_or xs i [])
  unfolding flat_map
  flat_at [] tail i l = absurd (omega arith)
  flat_at (x ∷ xs) tail zero l = rw (zero-mul k, append_assoc (f x) (flat_map f xs) tail)
      (take_at (f x) (flat_map f xs ++ tail) k (each x))
  flat_at (x ∷ xs) tail (suc i) l =
      let e : suc i * k ≡ k + i * k = omega (arith, suc-mul i k) in
      rw (e, append_assoc (f x) (flat_map f xs) tail)
      (ap (take k) (sym (drop-drop (i * k) k (f x ++ (flat_map f xs ++ tail)))
      ∙ ap (drop (i * k)) (drop_at (f x) (flat_map f xs ++ tail) k (each x)))
      ∙ flat_at xs tail i (omega arith))

-- ---- so far

-- the claims `done` on a mesh that passes have their reports: `at` bytes of the claims are taken, and the bytes before
-- `from` are written
pub record SoFar (m : List ℤ) (claims before : List ℕ) (at from count : ℕ) (buffer : List ℕ) : Type 0 where
  pub done : List (List ℕ)
  pub all : claims_judged (length before / report_bytes) Passed m claims
      ≡ done ++ claims_judged ((length before - from) / report_bytes) Passed m (drop at claims)
  pub counts : count ≡ length done
  pub places : from ≡ count * report_bytes
  pub room : from ≤ length before
  pub takes : at ≡ length (flat_map (taken_of Passed m) done)
  pub within : at ≤ length claims
  pub lines : length (flat_map (line_of Passed m) done) ≡ from
  pub written : buffer ≡ flat_map (line_of Passed m) done ++ drop from before

pub none_done : (m : List ℤ) (claims before : List ℕ) → SoFar m claims before 0 0 0 before
unfolding flat_map
none_done m claims before = record {
  done = [];
  all = rw (sub-zero (length before));
  counts = refl;
  places = refl;
  room = omega arith;
  takes = refl;
  within = omega arith;
  lines = refl;
  written = refl;
}

-- a run whose claims are `done`
pub ran_over : {o : Outcome} {m : List ℤ} {claims before after : List ℕ} {r : RunAnswer} (done : List (List ℕ))
    → claims_judged (length before / report_bytes) o m claims ≡ done → r.reports ≡ length done
    → r.bytes ≡ length (flat_map (taken_of o m) done) → after
    ≡ flat_map (line_of o m) done ++ drop (length (flat_map (line_of o m) done)) before
    → RunAnswers o m claims before r after
unfolding run ran
ran_over {o} {m} {claims} {before} done e a b w = record {
  reports_are = a ∙ ap length (sym e);
  bytes_are = b ∙ ap (λ (cs : List (List ℕ)). length (flat_map (taken_of o m) cs)) (sym e);
  buffer_is = w ∙ ap (λ (cs : List (List ℕ)). flat_map (line_of o m) cs ++ drop
      (length (flat_map (line_of o m) cs)) before) (sym e);
}

pub same_mesh : {o q : Outcome} {m n : List ℤ} {claims before after : List ℕ} {r : RunAnswer} → o ≡ q → m ≡ n
    → RunAnswers o m claims before r after → RunAnswers q n claims before r after
same_mesh {q = q} {m} {claims = claims} {before} {after} {r} e f h =
    subst (λ (n : List ℤ). RunAnswers q n claims before r after) f
    (subst (λ (o : Outcome). RunAnswers o m claims before r after) e h)

module _ {m : List ℤ} {claims before : List ℕ} {at from count : ℕ} {buffer : List ℕ}
    (h : SoFar m claims before at from count buffer) where
  ended : claims_judged ((length before - from) / report_bytes) Passed m (drop at claims) ≡ []
      → RunAnswers Passed m claims before (record { reports = count; bytes = at }) buffer
  ended e =
      ran_over h.done
      (h.all ∙ ap (λ (cs : List (List ℕ)). h.done ++ cs) e ∙ append-nil h.done)
      h.counts
      h.takes
      (h.written ∙ ap (λ (n : ℕ). flat_map (line_of Passed m) h.done ++ drop n before) (sym h.lines))

  -- "A run ends first of all when the buffer lacks 113 bytes for the next report"
  pub ends_for_room : length before - from < report_bytes
      → RunAnswers Passed m claims before (record { reports = count; bytes = at }) buffer
  unfolding claims_judged
  ends_for_room l = ended (ap (λ (n : ℕ). claims_judged n Passed m (drop at claims)) (no_room (length before - from) l))

  -- "With no claim byte left it ends without a further report"
  pub ends_for_claims : at ≡ length claims
      → RunAnswers Passed m claims before (record { reports = count; bytes = at }) buffer
  ends_for_claims l =
      ended
      (ap (claims_judged ((length before - from) / report_bytes) Passed m)
      (ap (λ (n : ℕ). drop n claims) l ∙ drop-length claims)
      ∙ judged_none m ((length before - from) / report_bytes))

  pub same_size : length buffer ≡ length before
  same_size = ap length h.written
      ∙ omega (
        arith,
        length-append (flat_map (line_of Passed m) h.done) (drop from before),
        length-drop from before,
        h.lines,
        h.room,
      )

  -- the next claim, the verdict on it, and the part of the buffer that its report was written into
  module _ (more : report_bytes ≤ length buffer - from) (left : at < length claims) {claim : List ℕ} {v : Verdict}
      {w : Written} (part : List ℕ) (claim_is : claim ≡ own_bytes m (take (length claims - at) (drop at claims)))
      (judged : v ≡ claim_verdict m (claim_numbers file_width m claim))
      (rep : Reports (pos usual_decimals) v (mid_of from (length buffer - from) buffer) part w)
      (same : length part ≡ length (mid_of from (length buffer - from) buffer)) where
    own : List ℕ
    own = own_bytes m (drop at claims)

    own_is : claim ≡ own
    unfolding own
    own_is = claim_is ∙ ap (own_bytes m) (up_to_end at claims)

    verdict_is : v ≡ verdict_on Passed m own
    unfolding verdict_on answer
    verdict_is = judged ∙ ap (λ (bs : List ℕ). claim_verdict m (claim_numbers file_width m bs)) own_is

    mid_long : length (mid_of from (length buffer - from) buffer) ≡ length buffer - from
    mid_long = ap length (up_to_end from buffer) ∙ length-drop from buffer

    part_is : part ≡ report_line usual_decimals v ++ drop report_bytes (drop from buffer)
    part_is =
        written-there v (mid_of from (length buffer - from) buffer) (omega (arith, mid_long)) rep
        ∙ ap (λ (l : List ℕ). report_line usual_decimals v ++ drop report_bytes l) (up_to_end from buffer)

    long : length (report_line usual_decimals v) ≡ report_bytes
    long = omega (
      arith,
      ap length part_is,
      same,
      mid_long,
      length-append (report_line usual_decimals v)
          (drop report_bytes (drop from buffer)),
      length-drop report_bytes (drop from buffer),
      length-drop from buffer,
    )

    -- the buffer with one report more
    abbrev pub one_more : List ℕ
    one_more = put_mid from (length buffer - from) buffer part

    put_is : one_more ≡ take from buffer ++ (report_line usual_decimals v ++ drop report_bytes (drop from buffer))
    put_is = ap (λ (l : List ℕ). take from buffer ++ l)
        (ap (λ (l : List ℕ). part ++ l) (none_after from buffer) ∙ append-nil part ∙ part_is)

    line_is : line_of Passed m own ≡ report_line usual_decimals v
    unfolding line_of
    line_is = ap (report_line usual_decimals) (sym verdict_is)

    lines_more : flat_map (line_of Passed m) (h.done ++ (own ∷ []))
        ≡ flat_map (line_of Passed m) h.done ++ report_line usual_decimals v
    lines_more = flat_last (line_of Passed m) h.done own ∙ ap
        (λ (l : List ℕ). flat_map (line_of Passed m) h.done ++ l) line_is

    lines_long : length (flat_map (line_of Passed m) (h.done ++ (own ∷ []))) ≡ from + report_bytes
    lines_long = ap length lines_more
        ∙ omega (
          arith,
          length-append (flat_map (line_of Passed m) h.done) (report_line usual_decimals v),
          h.lines,
          long,
        )

    written_more : one_more ≡ flat_map (line_of Passed m) (h.done ++ (own ∷ [])) ++ drop (from + report_bytes) before
    written_more =
        let front = ap (take from) h.written ∙ take_at (flat_map (line_of Passed m) h.done)
        (drop from before) from h.lines in
        let back = ap (drop from) h.written ∙ drop_at (flat_map (line_of Passed m) h.done)
        (drop from before) from h.lines in
        put_is
        ∙ ap₂ (λ (x y : List ℕ). x ++ (report_line usual_decimals v ++ drop report_bytes y)) front back
        ∙ rw (drop-drop report_bytes from before, lines_more, append_assoc)

    room_less : (length before - from) / report_bytes ≡ suc ((length before - (from + report_bytes)) / report_bytes)
    room_less =
        let e : length before - from - report_bytes ≡ length before - (from + report_bytes) = omega arith in
        one_room (length before - from) (omega (arith, same_size)) ∙ ap (λ (n : ℕ). suc (n / report_bytes)) e

    all_next : claims_judged (length before / report_bytes) Passed m claims
        ≡ h.done ++ (own ∷ cond (ends_run v) []
        (claims_judged ((length before - (from + report_bytes)) / report_bytes) Passed m
        (drop (at + length claim) claims)))
    unfolding own
    all_next =
        h.all
        ∙ ap (λ (cs : List (List ℕ)). h.done ++ cs)
        (ap (λ (n : ℕ). claims_judged n Passed m (drop at claims)) room_less
        ∙ judged-next m ((length before - (from + report_bytes)) / report_bytes) (drop at claims)
        (omega (arith, length-drop at claims))
        ∙ rw (verdict_is, own_is, drop-drop (length own) at claims))

    taken_more : flat_map (taken_of Passed m) (h.done ++ (own ∷ []))
        ≡ flat_map (taken_of Passed m) h.done ++ cond (ends_run v) [] own
    unfolding taken_of
    taken_more =
        flat_last (taken_of Passed m) h.done own
        ∙ ap (λ (u : Verdict). flat_map (taken_of Passed m) h.done ++ cond (ends_run u) [] own) (sym verdict_is)

    none_more : ends_run v ≡ true → flat_map (taken_of Passed m) (h.done ++ (own ∷ []))
        ≡ flat_map (taken_of Passed m) h.done
    none_more e = taken_more ∙ rw e (append-nil (flat_map (taken_of Passed m) h.done))

    own_more : ends_run v ≡ false → flat_map (taken_of Passed m) (h.done ++ (own ∷ []))
        ≡ flat_map (taken_of Passed m) h.done ++ own
    own_more e = taken_more ∙ rw e

    counts_more : count + 1 ≡ length (h.done ++ (own ∷ []))
    counts_more = omega (arith, length-append h.done (own ∷ []), h.counts)

    -- "A claim refused with 11, 12 or 13 ends the run after its report, and its bytes aren't taken"
    pub ends_for_claim : ends_run v ≡ true
        → RunAnswers Passed m claims before (record { reports = count + 1; bytes = at }) one_more
    ends_for_claim e =
        ran_over (h.done ++ (own ∷ []))
        (all_next ∙ rw e)
        counts_more
        (h.takes ∙ ap length (sym (none_more e)))
        (written_more ∙ ap (λ (n : ℕ). flat_map (line_of Passed m) (h.done ++ (own ∷ [])) ++ drop n before)
        (sym lines_long))

    pub taken_within : at + length claim ≤ length claims
    unfolding own
    taken_within = omega (arith, ap length own_is, own_length m (drop at claims), length-drop at claims)

    takes_more : ends_run v ≡ false → at + length claim ≡ length (flat_map (taken_of Passed m) (h.done ++ (own ∷ [])))
    takes_more e =
        ap₂ (λ (x y : ℕ). x + y) h.takes (ap length own_is)
        ∙ sym (length-append (flat_map (taken_of Passed m) h.done) own)
        ∙ ap length (sym (own_more e))

    -- "Bytes after a full claim begin the next"
    pub goes_on : ends_run v ≡ false → SoFar m claims before (at + length claim) (from + report_bytes)
        (count + 1) one_more
    goes_on e = record {
      done = h.done ++ (own ∷ []);
      all = all_next ∙ rw e
          (sym (append_assoc h.done (own ∷ [])
          (claims_judged ((length before - (from + report_bytes)) / report_bytes) Passed m
          (drop (at + length claim) claims))));
      counts = counts_more;
      places = omega (arith, h.places);
      room = omega (arith, h.room, same_size);
      takes = takes_more e;
      within = taken_within;
      lines = lines_long;
      written = written_more;
    }

-- ---- a refused mesh

-- the verdict on every claim is the mesh's refusal
refused_line_lem : (k : ℕ) (p : Place) (m : List ℤ) → line_of (Fails k p) m []
    ≡ report_line usual_decimals (Refused k p)
unfolding line_of verdict_on answer
refused_line_lem k p m = refl

-- and no byte is taken
pub none_taken : (o : Outcome) (m : List ℤ) → length (flat_map (taken_of o m) ([] ∷ [])) ≡ 0
unfolding flat_map taken_of
none_taken o m = by (ends_run (verdict_on o m []))
  where
    by : (b : Bool) → length {A = ℕ} (cond b [] [] ++ []) ≡ 0
    by true = refl
    by false = refl

module _ (k : ℕ) (p : Place) (m : List ℤ) (claims before : List ℕ) where
  -- "A refused mesh writes its report once, even with no claim byte, and takes no claim"
  pub mesh_reported : {after : List ℕ} {w : Written} → report_bytes ≤ length before
      → Reports (pos usual_decimals) (Refused k p) before after w → length after ≡ length before
      → RunAnswers (Fails k p) m claims before (record { reports = 1; bytes = 0 }) after
  unfolding flat_map
  mesh_reported {after = after} room w same =
      let is = written-there (Refused k p) before room w in
      let long : length (report_line usual_decimals (Refused k p)) ≡ report_bytes =
      omega (
        arith,
        ap length is,
        same,
        length-append (report_line usual_decimals (Refused k p))
            (drop report_bytes before),
        length-drop report_bytes before,
      ) in
      let line : flat_map (line_of (Fails k p) m) ([] ∷ []) ≡ report_line usual_decimals (Refused k p) =
      append-nil (line_of (Fails k p) m []) ∙ refused_line_lem k p m in
      ran_over ([] ∷ [])
      (ap (λ (n : ℕ). claims_judged n (Fails k p) m claims) (one_room (length before) room)
      ∙ judged_refused (Fails k p) k p refl ((length before - report_bytes) / report_bytes) m claims)
      refl
      (sym (none_taken (Fails k p) m))
      (is ∙ sym (ap (λ (l : List ℕ). l ++ drop (length l) before) line
      ∙ ap (λ (n : ℕ). report_line usual_decimals (Refused k p) ++ drop n before) long))

  pub no_report : length before < report_bytes
      → RunAnswers (Fails k p) m claims before (record { reports = 0; bytes = 0 }) before
  unfolding claims_judged flat_map
  no_report short =
      ran_over [] (ap (λ (n : ℕ). claims_judged n (Fails k p) m claims) (no_room (length before) short)) refl refl refl
