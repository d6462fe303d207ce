-- The promises of a run hold of every call: each report has 113 bytes, so that report i stands where it is looked for.
use mathlib.Core.Path.{◌≡◌, refl, sym, ap, ◌∙◌, subst}
use mathlib.Core.List.{List, [], ◌∷◌, ◌++◌, flat_map}
use Prim.Native.Nat.{ℕ, ◌*◌, ◌-◌, ◌/◌, ◌≤◌, ◌<◌}
use native.Mathlib.Nat.{le-div_iff_mul-le}
use native.Mathlib.Omega.{arith}
use lib.IntN.{ℤ, pos}
use lib.ListN.{length, drop, length-append, length-drop}
use lib.Seq.{drop_at}
use Rattle.scope.specs.declared.Place.{Place}
use Rattle.scope.specs.Cases.Outcome.{Outcome}
use Rattle.scope.specs.Cases.Outcome.{Passed, Refused as Fails}
use Rattle.scope.specs.Verdict.{answer}
use Rattle.scope.specs.TableVerdict.{tabled_verdict}
use Rattle.scope.proofs.Refusals.{mesh_passed}
use Rattle.reader.specs.File.{file_width}
use Rattle.report.specs.Report.{report_bytes, report_line, most_decimals, usual_decimals}
use Rattle.report.proofs.Line.{line_says}
use Rattle.report.proofs.BufferLaws.{these_decimals}
use Rattle.judge.specs.Judge.{mesh_from, mesh_outcome, files_verdict}
use Rattle.run.specs.declared.RunAnswer.{RunAnswer}
use Rattle.run.specs.Run.{verdict_on, line_of, taken_of, claims_judged, ran, run}
use Rattle.run.specs.InTurn.{claim_at, InTurn}
use Rattle.run.proofs.RunLaws.{judged_refused, no_room, one_room, flat_at, flat_length, none_taken}
use Rattle.run.proofs.InTurn.{in_turn, few_judged}
use Rattle.pechuvo.specs.Promises.{mesh_with, MeshAccepted, RunAsked, report_at, SingleCall, judged_in, RunCall}
use Rattle.pechuvo.proofs.Promises.{line_is}
use Rattle.pechuvo.proofs.TablePromises.{files_sayable, accepted_mesh, mesh_accepted}

few_decimals : usual_decimals ≤ most_decimals
unfolding usual_decimals
few_decimals = omega arith

module _ (mesh table : List ℕ) where
  abbrev o : Outcome
  o = mesh_outcome file_width mesh table

  abbrev m : List ℤ
  m = mesh_with mesh table

  -- the verdict of a run is that of a single call
  on_files : (claim : List ℕ) → verdict_on o m claim ≡ files_verdict file_width mesh table claim
  unfolding verdict_on files_verdict tabled_verdict mesh_outcome mesh_from
  on_files claim = refl

  line_files : (claim : List ℕ) → line_of o m claim ≡ report_line usual_decimals
      (files_verdict file_width mesh table claim)
  unfolding line_of
  line_files claim = ap (report_line usual_decimals) (on_files claim)

  -- a single call writes the line of its claim
  single : (claim line : List ℕ) → line ≡ line_of o m claim → SingleCall mesh table claim line
  single claim line e before after number place h b =
      line_is (files_verdict file_width mesh table claim) (files_sayable mesh table claim)
      (pos usual_decimals) before number place after h
      (record { decimals = these_decimals few_decimals; bytes = b })
      ∙ sym (e ∙ line_files claim)

  -- every claim on a refused mesh has the mesh's line
  same_line : (k : ℕ) (p : Place) → o ≡ Fails k p → (a b : List ℕ) → line_of o m a ≡ line_of o m b
  unfolding line_of verdict_on answer
  same_line k p e a b = rw e

  line_long : (claim : List ℕ) → length (line_of o m claim) ≡ report_bytes
  line_long claim =
      ap length (line_files claim)
      ∙ (line_says usual_decimals (files_verdict file_width mesh table claim) few_decimals
      (files_sayable mesh table claim).held).bytes

module _ (mesh table claims before : List ℕ) (r : RunAnswer) (after : List ℕ)
    (h : RunAsked mesh table claims before r after) where
  abbrev judged : List (List ℕ)
  judged = judged_in mesh table claims before

  abbrev line_in : List ℕ → List ℕ
  line_in = line_of (o mesh table) (m mesh table)

  abbrev lines : List ℕ
  lines = flat_map line_in judged

  count : r.reports ≡ length judged
  unfolding run ran
  count = h.reports_are

  taken : r.bytes ≡ length (flat_map (taken_of (o mesh table) (m mesh table)) judged)
  unfolding run ran
  taken = h.bytes_are

  written : after ≡ lines ++ drop (length lines) before
  unfolding run ran
  written = h.buffer_is

  lines_long : length lines ≡ r.reports * report_bytes
  lines_long = flat_length line_in report_bytes (line_long mesh table) judged
      ∙ ap (λ (n : ℕ). n * report_bytes) (sym count)

  room_there : r.reports * report_bytes ≤ length before
  room_there = (le-div_iff_mul-le {k = report_bytes} {x = r.reports} {y = length before} (omega arith)).0
      (omega (arith, count, few_judged (o mesh table) (m mesh table) (length before / report_bytes) claims))

  report_is : (i : ℕ) → i < r.reports → report_at i after ≡ line_in (claim_at judged i)
  report_is i l =
      ap (report_at i) written
      ∙ flat_at line_in report_bytes (line_long mesh table) judged (drop (length lines) before) i (omega (arith, count))

  refused : (q : Outcome) → o mesh table ≡ q → (¬ MeshAccepted mesh table) → report_bytes ≤ length before
      → (r.reports ≡ 1) × (r.bytes ≡ 0) × ((claim : List ℕ) → SingleCall mesh table claim (report_at 0 after))
  refused Passed e n b = absurd (n (accepted_mesh mesh table e))
  refused (Fails k p) e n b =
      let one : judged ≡ [] ∷ [] = ap (λ (n : ℕ). claims_judged n (o mesh table) (m mesh table) claims)
      (one_room (length before) b) ∙ judged_refused (o mesh table) k p e
      ((length before - report_bytes) / report_bytes) (m mesh table) claims in
      let once : r.reports ≡ 1 = count ∙ ap length one in (
        once,
        taken ∙ ap (λ (cs : List (List ℕ)). length (flat_map (taken_of (o mesh table) (m mesh table)) cs)) one
            ∙ none_taken (o mesh table) (m mesh table),
        λ claim. single mesh table claim (report_at 0 after)
            (report_is 0 (omega (arith, once)) ∙ same_line mesh table k p e (claim_at judged 0) claim),
      )

  unwritten : length before < report_bytes → (r.reports ≡ 0) × (r.bytes ≡ 0) × (after ≡ before)
  unfolding claims_judged flat_map
  unwritten l =
      let none : judged ≡ [] = ap (λ (n : ℕ). claims_judged n (o mesh table) (m mesh table) claims)
      (no_room (length before) l) in (
        count ∙ ap length none,
        taken ∙ ap (λ (cs : List (List ℕ)). length (flat_map (taken_of (o mesh table) (m mesh table)) cs)) none,
        written ∙ ap (λ (cs : List (List ℕ)). flat_map line_in cs ++ drop (length (flat_map line_in cs)) before) none,
      )

  pub run_call : RunCall mesh table claims before judged r.reports r.bytes after
  run_call = record {
    count = count;
    single_calls = λ i l. single mesh table (claim_at judged i) (report_at i after) (report_is i l);
    rest = ap (drop (r.reports * report_bytes)) written ∙ drop_at lines (drop (length lines) before)
        (r.reports * report_bytes) lines_long ∙ ap (λ (n : ℕ). drop n before) lines_long;
    size = ap length written
        ∙ omega (
          arith,
          length-append lines (drop (length lines) before),
          length-drop (length lines) before,
          lines_long,
          room_there,
        );
    in_turn = λ s. subst (InTurn (m mesh table) (length before / report_bytes) claims judged) (sym taken)
        (in_turn (o mesh table) (m mesh table) (mesh_accepted mesh table s)
        ((mesh_passed (m mesh table)).passed s.sound) (length before / report_bytes) claims);
    mesh_refused = refused (o mesh table) refl;
    no_room = unwritten;
  }
