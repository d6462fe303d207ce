-- The promises about the bytes of the three files hold of every call: no accepted file is long, an accepted file is
-- the one of its numbers, numbers handed over are judged as files of them, and a refusal for form is one of a line's
-- bytes.
use mathlib.Core.Path.{◌≡◌, sym, ◌∙◌, ap, subst}
use mathlib.Core.Logic.Iff
use mathlib.Core.Logic.{◌↔◌, ◌⊎◌}
use mathlib.Core.Bool.{Bool}
use mathlib.Core.List.{List}
use Prim.Native.Nat.{ℕ, suc, ◌<◌}
use native.Mathlib.Omega.{arith}
use lib.IntN.{ℤ}
use lib.ListN.{length}
use Rattle.scope.specs.declared.Place.TheVariants.{Line}
use Rattle.scope.specs.Cases.Verdict.{Verdict}
use Rattle.scope.specs.Cases.Verdict.{Refused}
use Rattle.scope.specs.Answer.{place_for}
use Rattle.scope.specs.Columns.{has_field}
use Rattle.scope.specs.Mesh.{mesh_layout, layout_with}
use Rattle.scope.specs.Claim.{claim_layout}
use Rattle.scope.specs.Accepted.{ClaimAccepted}
use Rattle.scope.specs.Table.{has_table}
use Rattle.scope.specs.TableVerdict.{TableFits}
use Rattle.scope.specs.Verdict.{lines_check}
use Rattle.scope.proofs.Refusals.{lines_passed}
use Rattle.scope.proofs.TableVerdict.{tabled_refused}
use Rattle.numbers.specs.declared.numbers_answer.NumbersAnswer.{NumbersAnswer}
use Rattle.numbers.specs.NumbersAnswer.{answer_of}
use Rattle.numbers.specs.TablePromises.{TableAnswers}
use Rattle.reader.specs.File.{file_width, file_of, table_of}
use Rattle.reader.specs.WellFormed.{FormFails}
use Rattle.reader.proofs.Regular.{layout_regular, same_numbers, claim_regular}
use Rattle.reader.proofs.WrittenBack.{written_back}
use Rattle.judge.specs.Judge.{mesh_numbers, mesh_from, claim_numbers, files_verdict}
use Rattle.judge.proofs.Form as Form
use Rattle.judge.proofs.Numbers.{some_side_lem, numbers-verdict, width-there}
use Rattle.pechuvo.specs.Check.{most_file_bytes}
use Rattle.pechuvo.specs.Answers.{AnswersFor, Answers}
use Rattle.pechuvo.specs.Promises.{mesh_in, table_in, mesh_with, claim_in, MeshAccepted, Room, LongFiles, FormExactly}
use Rattle.pechuvo.specs.Promises.{AcceptedFiles, AsAFile}
use Rattle.pechuvo.proofs.TableFile.{layout_file}
use Rattle.pechuvo.proofs.Check.{check_cut, longer_refused, mesh_lines_lem, table_written}
use Rattle.pechuvo.proofs.Promises.{Cases, other, short, line, by_cases}
use Rattle.pechuvo.proofs.TablePromises.{on_table}

module _ (mesh table claim : List ℕ) (z : ℤ) (before : List ℕ) (number place : ℕ) (after : List ℕ)
    (h : Answers mesh table claim z before number place after) where
  abbrev t : List ℤ
  t = table_in table

  abbrev m : List ℤ
  m = mesh_in mesh

  abbrev f : List ℤ
  f = mesh_with mesh table

  abbrev c : List ℤ
  c = claim_in f claim

  pub long_files : LongFiles mesh table claim z before number place after
  long_files = record {
    cut = subst (λ (v : Verdict). AnswersFor v z before number place after) (check_cut mesh table claim) h;
    never_accepted = λ b e. by b e (by_cases v z before number place after h);
  }
    where
      v : Verdict
      v = files_verdict file_width mesh table claim

      by : (most_file_bytes < length mesh) ⊎ ((most_file_bytes < length table) ⊎ (most_file_bytes < length claim))
          → number ≡ 0 → Cases v z before number place after → ⊥
      by b e (other o u) = omega (arith, u.number_is)
      by b e (short d l u) = omega (arith, u.number_is)
      by b e (line r w) = longer_refused mesh table claim b (sym w.returns.0 ∙ e)

  pub form_exactly : Room z before → FormExactly mesh table claim number place
  unfolding place_for files_verdict
  form_exactly b =
      let refuses = (on_table mesh table claim z before number place after h b).exactly.refuses in
      record {
        mesh_form = λ j. Iff.trans (refuses 1 (suc j) (λ e. omega arith))
            (Iff.trans (Iff.symm (tabled_refused t m c 1 (Line (suc j))))
            (Form.mesh_form file_width mesh table claim j));
        claim_form = λ j. Iff.trans (refuses 11 (suc j) (λ e. omega arith))
            (Iff.trans (Iff.symm (tabled_refused t m c 11 (Line (suc j)))) (accepted j));
      }
    where
      accepted : (j : ℕ) → (files_verdict file_width mesh table claim ≡ Refused 11 (Line (suc j))) ↔
          (MeshAccepted mesh table × FormFails file_width (claim_layout f) claim j)
      accepted j = let x = Form.claim_form file_width mesh table claim j in
          (λ e. let (a, y) = x.0 e in (record { fits = a.0; sound = a.1 }, y), λ e. x.1 ((e.0.fits, e.0.sound), e.1))

  -- what is accepted passes the checks of its lines, so its bytes are those of its numbers
  pub accepted_files : Room z before → AcceptedFiles mesh table claim number
  unfolding mesh_numbers mesh_from claim_numbers table_of
  accepted_files b =
      let accepted : number ≡ 0 → TableFits t m × ClaimAccepted f c =
      (on_table mesh table claim z before number place after h b).exactly.zero.0 in
      record {
        mesh_file = λ e.
            let (fits, a) = accepted e in
            let tabled : Bool = has_table t in
            let same = same_numbers tabled file_width mesh in
            written_back file_width (layout_with tabled) (layout_regular tabled) mesh
            (ap (lines_check (layout_with tabled)) same ∙ (lines_passed (layout_with tabled) m).passed
            (mesh_lines_lem t m fits a.mesh))
            ∙ layout_file file_width tabled _
            ∙ ap (file_of file_width mesh_layout) same;
        table_file = λ e. table_written mesh table (accepted e).0;
        claim_file = λ e.
            let (fits, a) = accepted e in
            let mesh_lines_lem = (lines_passed mesh_layout f).passed a.mesh.lines in
            written_back file_width (claim_layout f) (claim_regular f (some_side_lem f mesh_lines_lem)) claim
            ((lines_passed (claim_layout f) c).passed a.lines);
      }

-- numbers handed over as files of them
pub as_a_file : {t m c : List ℤ} {r : NumbersAnswer} → TableAnswers t m c r → AsAFile t m c r
as_a_file {t} {m} {c} h = record {
  some_width = let (w, x, y, z) = width-there m t c in (w, y, x, z);
  every_width = λ w y x z. h ∙ ap (answer_of (has_field c)) (sym (numbers-verdict w m t c x y z));
}
