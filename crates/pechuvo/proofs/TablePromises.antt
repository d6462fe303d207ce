-- The promises with a table hold of every call: the verdict on three files came early, by the table, or is the one on
-- the mesh that is read.
use mathlib.Core.Path.{◌≡◌, refl, sym, ◌∙◌, ap, ap₂, subst}
use mathlib.Core.Logic.{◌⊎◌, inl, inr}
use mathlib.Core.List.Memᴰ
use mathlib.Core.List.{List, [], ◌∷◌, map, append-nil}
use Prim.Native.Nat.{ℕ, ◌≤◌, ◌<◌}
use native.Mathlib.Omega.{arith}
use lib.IntN.{ℤ, pos}
use Rattle.scope.specs.Cases.Outcome.{Passed}
use Rattle.scope.specs.Cases.Verdict.{Verdict}
use Rattle.scope.specs.Answer.{number_of, place_of}
use Rattle.integer.specs.Members.{◌∈◌}
use Rattle.scope.specs.Accepted.{FieldAccepted, MultipliersAccepted}
use Rattle.scope.specs.Statements.{HasMultipliers}
use Rattle.scope.specs.Phases.{check_phases}
use Rattle.scope.specs.Verdict.{mesh_check, verdict}
use Rattle.scope.specs.Table.{has_table, mesh_read, tabled_check}
use Rattle.scope.specs.TableVerdict.{tabled_verdict, TableFits}
use Rattle.scope.proofs.Checks.{then_passed}
use Rattle.scope.proofs.Table.{no_table}
use Rattle.scope.proofs.Refusals.{mesh_passed}
use Rattle.scope.proofs.TableVerdict.{table_phases, OfTable, Came, early, late, came, table_phases_exact, in_two, fits_late}
use Rattle.scope.proofs.TableVerdict.{early_number, no_table_verdict, read_as_it_was}
use Rattle.numbers.specs.Promises.{returned_numbers, Returned, TellsField}
use Rattle.numbers.specs.TablePromises.{TableReturned}
use Rattle.numbers.proofs.Promises.{field_exactly, multipliers_exactly}
use Rattle.numbers.proofs.Reported.{fractions_allowed}
use Rattle.numbers.proofs.TablePromises.{table_returned, table_exactly, filled_mesh}
use Rattle.report.specs.Report.{report_line, is_decimals, usual_decimals}
use Rattle.report.proofs.BufferLaws.{these_decimals}
use Rattle.reader.specs.File.{file_width, line_bytes, read_line, left_over, read_rows, table_numbers_of}
use Rattle.judge.specs.Judge.{mesh_from, mesh_outcome, claim_numbers, files_verdict}
use Rattle.judge.specs.Handed.{Handed, mesh_of, claim_of}
use Rattle.judge.proofs.Handed.{handed_bracket}
use Rattle.pechuvo.specs.Check.{answered, check}
use Rattle.pechuvo.specs.Sheets.{Sheet, printed_with, printed, starred, tabled_sheets}
use Rattle.pechuvo.specs.Answers.{AnswersFor, Answers, AnswersOn}
use Rattle.pechuvo.specs.Promises.{mesh_in, table_in, mesh_with, claim_in, MeshAccepted, Room, AnyCall, AsRead}
use Rattle.pechuvo.specs.Promises.{NoTable, OnTable, Call, on_files, on_numbers, TwoCalls, CallAndMultipliers}
use Rattle.pechuvo.specs.Promises.{FractionsAndCall, Written}
use Rattle.pechuvo.proofs.VerdictFits.{Sayable, tabled_sayable, tabled_listed}
use Rattle.pechuvo.proofs.Promises.{Cases, other, short, line, Untouched, by_cases, written, line_is, any_call}
use Rattle.pechuvo.proofs.Sheets.{starred_sheets, tabled_sheets_lem}

-- ---- without a table

no_numbers : table_in [] ≡ []
unfolding table_numbers_of read_rows read_line line_bytes left_over
no_numbers = refl

module _ (mesh : List ℕ) where
  read_plain : mesh_with mesh [] ≡ mesh_in mesh
  unfolding mesh_from mesh_read has_table
  read_plain = ap (λ (t : List ℤ). mesh_read t (mesh_in mesh)) no_numbers

  verdict_plain : (claim : List ℕ) → files_verdict file_width mesh [] claim
      ≡ verdict (mesh_in mesh) (claim_in (mesh_in mesh) claim)
  unfolding files_verdict
  verdict_plain claim =
      ap₂ (λ (t f : List ℤ). tabled_verdict t (mesh_in mesh) (claim_numbers file_width f claim)) no_numbers read_plain
      ∙ no_table_verdict (mesh_in mesh) (claim_in (mesh_in mesh) claim)

  pub no_table_file : NoTable mesh
  unfolding mesh_outcome
  no_table_file = record {
    read = read_plain;
    outcome = ap (λ (t : List ℤ). tabled_check t (mesh_in mesh)) no_numbers ∙ no_table (mesh_in mesh);
    verdicts = verdict_plain;
    calls = λ claim z before number place after. (
      subst (λ (v : Verdict). AnswersFor v z before number place after) (verdict_plain claim),
      subst (λ (v : Verdict). AnswersFor v z before number place after) (sym (verdict_plain claim)),
    );
  }

-- ---- the mesh that is read

module _ (mesh table : List ℕ) where
  abbrev t : List ℤ
  t = table_in table

  abbrev m : List ℤ
  m = mesh_in mesh

  -- the mesh and its table pass
  pub accepted_mesh : mesh_outcome file_width mesh table ≡ Passed → MeshAccepted mesh table
  unfolding mesh_outcome mesh_from
  accepted_mesh e =
      let (a, b) = (then_passed (check_phases (table_phases t m)) (mesh_check (mesh_read t m))).0
      (sym (in_two t m) ∙ e) in
      record { fits = (table_phases_exact t m).passes.says a; sound = (mesh_passed (mesh_read t m)).says b }

  pub mesh_accepted : MeshAccepted mesh table → mesh_outcome file_width mesh table ≡ Passed
  unfolding mesh_outcome mesh_from
  mesh_accepted a =
      in_two t m
      ∙ (then_passed (check_phases (table_phases t m)) (mesh_check (mesh_read t m))).1
      ((table_phases_exact t m).passes.passed a.fits, (mesh_passed (mesh_read t m)).passed a.sound)

module _ (mesh table claim : List ℕ) where
  abbrev c : List ℤ
  c = claim_in (mesh_with mesh table) claim

  pub files_sayable : Sayable (files_verdict file_width mesh table claim)
  unfolding files_verdict
  files_sayable = tabled_sayable (t mesh table) (m mesh table) c

  files_fit : TableFits (t mesh table) (m mesh table) → files_verdict file_width mesh table claim
      ≡ verdict (mesh_with mesh table) c
  unfolding files_verdict mesh_from
  files_fit f = fits_late (t mesh table) (m mesh table) c f

  module _ (z : ℤ) (before : List ℕ) (number place : ℕ) (after : List ℕ)
      (h : Answers mesh table claim z before number place after) where
    for : {v : Verdict} → files_verdict file_width mesh table claim ≡ v → AnswersFor v z before number place after
    for e = subst (λ (v : Verdict). AnswersFor v z before number place after) e h

    pub any_files : AnyCall (files_verdict file_width mesh table claim) z before number place after
    any_files = any_call (files_verdict file_width mesh table claim) files_sayable z before number place after h

    pub as_read : AsRead mesh table claim z before number place after
    unfolding mesh_from
    as_read = record {
      fits = λ f. for (files_fit f);
      none = λ e. for (ap (λ (u : List ℕ). files_verdict file_width mesh u claim) e
          ∙ (no_table_file mesh).verdicts claim);
      own_soils = λ f own. subst (λ (x : List ℤ). AnswersOn x claim z before number place after)
          (read_as_it_was (t mesh table) (m mesh table) own) (for (files_fit f));
    }

    tabled : Room z before → TableReturned (t mesh table) (m mesh table) c number place
    unfolding files_verdict
    tabled b = let w = (written (files_verdict file_width mesh table claim) files_sayable z before number place after h
        b).returns in record { number_is = w.0; place_is = w.1 }

    pub on_table : Room z before → OnTable mesh table claim number place
    unfolding mesh_from
    on_table b = record {
      exactly = table_exactly (t mesh table) (m mesh table) c number place (tabled b);
      listed = subst (λ (k : ℕ). k ∈ 45 ∷ 46 ∷ returned_numbers) (sym (tabled b).number_is)
          (tabled_listed (t mesh table) (m mesh table) c);
      filled = filled_mesh (t mesh table) (m mesh table);
    }

-- ==== Demand 3

-- a number that tells of a part is not the table's: it is that of the verdict on the mesh that is read
tells_read : (t m c : List ℤ) {i : ℕ} → i ≡ number_of (tabled_verdict t m c) → (i ≡ 0) ⊎ ((31 ≤ i) × (i ≤ 33))
    → Returned (mesh_read t m) c i (place_of (verdict (mesh_read t m) c))
tells_read t m c {i} e h = by (came t m c)
  where
    own : {k : ℕ} → OfTable k → (k ≡ 0) ⊎ ((31 ≤ k) × (k ≤ 33)) → ⊥
    own (p, inl l) (inl z) = omega arith
    own (p, inl l) (inr z) = omega (arith, z.0)
    own (p, inr (inl l)) (inl z) = omega arith
    own (p, inr (inl l)) (inr z) = omega (arith, z.1)
    own (p, inr (inr l)) (inl z) = omega arith
    own (p, inr (inr l)) (inr z) = omega (arith, z.1)

    by : Came t m c → Returned (mesh_read t m) c i (place_of (verdict (mesh_read t m) c))
    by (early k p r d) = absurd
        (own (early_number t m k p r) (subst (λ (n : ℕ). (n ≡ 0) ⊎ ((31 ≤ n) × (n ≤ 33))) (e ∙ ap number_of d) h))
    by (late f d) = record { number_is = e ∙ ap number_of d; place_is = refl }

-- the number of a call that tells of a part, on files or on numbers
call_read : {a : Handed} {i : ℕ} → Call a i → (i ≡ 0) ⊎ ((31 ≤ i) × (i ≤ 33))
    → Returned (mesh_of a) (claim_of a) i (place_of (verdict (mesh_of a) (claim_of a)))
unfolding mesh_of claim_of files_verdict mesh_from
call_read (on_files mesh table claim z before number place after h) t =
    tells_read (table_in table) (mesh_in mesh) (claim_in (mesh_with mesh table) claim)
    (by (by_cases v z before number place after h)) t
  where
    v : Verdict
    v = files_verdict file_width mesh table claim

    not_above_lem : (k : ℕ) → 33 < k → Untouched v z before number place after k
        → (number ≡ 0) ⊎ ((31 ≤ number) × (number ≤ 33)) → ⊥
    not_above_lem k a u (inl e) = omega (arith, a, u.number_is)
    not_above_lem k a u (inr e) = omega (arith, a, u.number_is, e.1)

    by : Cases v z before number place after → number ≡ number_of
        (tabled_verdict (table_in table) (mesh_in mesh) (claim_in (mesh_with mesh table) claim))
    by (other o u) = absurd (not_above_lem 43 (omega arith) u t)
    by (short d l u) = absurd (not_above_lem 41 (omega arith) u t)
    by (line r w) = w.returns.0
call_read (on_numbers m t c r h) e = tells_read t m c (table_returned {t = t} {m = m} {c = c} h).number_is e

-- an accepted field, and accepted multipliers, of a call
pub call_field : {a : Handed} {i : ℕ} → Call a i → TellsField (claim_of a) i → FieldAccepted (mesh_of a) (claim_of a)
call_field {a} {i} p t =
    (field_exactly (mesh_of a) (claim_of a) i (place_of (verdict (mesh_of a) (claim_of a))) (call_read p t.1)).told.1 t

call_multipliers : {a : Handed} {i : ℕ} → Call a i → HasMultipliers (claim_of a) → i ≡ 0
    → MultipliersAccepted (mesh_of a) (claim_of a)
call_multipliers {a} {i} p t e =
    ((multipliers_exactly (mesh_of a) (claim_of a) i (place_of (verdict (mesh_of a) (claim_of a)))
    (call_read p (inl e))).told.0 (t, e)).0

-- the field of one call and the multipliers of another or of the same, each on files or on numbers, on meshes with the
-- same rows
pub calls_bracket : {a b : Handed} {i j : ℕ} → TwoCalls a b i j
calls_bracket {a} {b} p q same t w z = handed_bracket a b same (call_field p t) (call_multipliers q w z)

-- against accepted multipliers of any claim, one that is refused for its field too
pub accepted_parts : {a : Handed} {i : ℕ} → CallAndMultipliers a i
accepted_parts {a} p b same t w = handed_bracket a b same (call_field p t) w

-- a field in fractions against the multipliers of a call
pub fractions_bracket : {b : Handed} {j : ℕ} → FractionsAndCall b j
fractions_bracket {b} q w z m sound same = fractions_allowed m (mesh_of b) (claim_of b) sound same
    (call_multipliers q w z)

-- ---- the sheets

same_at : {A B : Type 0} (f g : A → B) (xs : List A) → map f xs ≡ map g xs → (x : A) → x ∈ xs → f x ≡ g x
same_at f g (a ∷ xs) e x (Memᴰ.head p) = let h : f a ≡ g a = cc in rw p h
same_at f g (a ∷ xs) e x (Memᴰ.tail t) = let h : map f xs ≡ map g xs = cc in same_at f g xs h x t
same_at {A = A} {B = B} f g [] e x x4 = elim x4 [ ]

printed_line : (s : Sheet) → printed s ≡ report_line usual_decimals (files_verdict file_width s.mesh s.table s.claim)
unfolding printed printed_with check answered is_decimals usual_decimals
printed_line s = append-nil (report_line 6 (files_verdict file_width s.mesh s.table s.claim))

-- the sheets of a table
written_in : (ss : List Sheet) → map printed ss ≡ map (λ s. s.line) ss → (s : Sheet) → s ∈ ss → Written s
unfolding usual_decimals
written_in ss all s i before after number place h b =
    line_is (files_verdict file_width s.mesh s.table s.claim) (files_sayable s.mesh s.table s.claim)
    (pos usual_decimals) before number place after h (record { decimals = these_decimals (omega arith); bytes = b })
    ∙ sym (printed_line s)
    ∙ same_at printed (λ s. s.line) ss all s i

-- the starred sheets, and those with a borehole table
pub starred-written : (s : Sheet) → s ∈ starred → Written s
starred-written = written_in starred starred_sheets

pub tabled_written : (s : Sheet) → s ∈ tabled_sheets → Written s
tabled_written = written_in tabled_sheets tabled_sheets_lem
