-- A verdict, reported and answered, is answered as the definition says.
use mathlib.Core.Path.{◌≡◌, ap, ap₂, ◌∙◌}
use mathlib.Core.List.{List}
use Prim.Native.Nat.{ℕ}
use lib.Dec.{ltb}
use lib.IntN.{ℤ}
use lib.ListN.{length}
use mir.Syntax.{w64}
use mir.Val.{SFits}
use mir.Facts.{to_z-of_z}
use borrow.Table.Steps.{cases}
use Rattle.scope.specs.Cases.Verdict.{Verdict}
use Rattle.report.specs.Report.{report_bytes, is_decimals}
use Rattle.report.specs.Buffer.{Written, reported, after_answer, after_report, reported_number, reported_place, Reports}
use Rattle.integer.proofs.Wide.{read}
use Rattle.pechuvo.specs.Check.{answered}
use Rattle.pechuvo.specs.Answers.{AnswersFor}

module _ (v : Verdict) (z : ℤ) (buffer : List ℕ) where
  -- each part of the answer is the same test by test
  number_checked : reported_number v (reported z buffer) ≡ (answered v z buffer).number
  unfolding answered reported
  number_checked =
      cases (is_decimals z)
      (λ s.
      cases (ltb (length buffer) report_bytes)
      (λ t. rw (s, t, answered, reported))
      (λ t. rw (s, t, answered, reported)))
      (λ s. rw (s, answered, reported))

  place_checked : reported_place v (reported z buffer) ≡ (answered v z buffer).place
  unfolding answered reported
  place_checked =
      cases (is_decimals z)
      (λ s.
      cases (ltb (length buffer) report_bytes)
      (λ t. rw (s, t, answered, reported))
      (λ t. rw (s, t, answered, reported)))
      (λ s. rw (s, answered, reported))

  buffer_checked : after_report z v buffer ≡ (answered v z buffer).buffer
  unfolding answered reported after_report after_answer
  buffer_checked =
      cases (is_decimals z)
      (λ s.
      cases (ltb (length buffer) report_bytes)
      (λ t. rw (s, t, answered, reported))
      (λ t. rw (s, t, answered, reported)))
      (λ s. rw (s, answered, reported))

-- the number of decimals is handed on as the machine reads it
pub answers : {before after : List ℕ} {z : ℤ} {u v : Verdict} {w : Written} {number place : ℕ} → SFits w64 z → v ≡ u
    → Reports (read z) v before after w → number ≡ reported_number v w → place ≡ reported_place v w
    → AnswersFor u z before number place after
answers {before} {after} {z} {u} {v} {w} f e q number place =
    let p : Reports z v before after w = rw (to_z-of_z f) at q in
    record {
      number_is = number ∙ ap₂ reported_number e p.answer ∙ number_checked u z before;
      place_is = place ∙ ap₂ reported_place e p.answer ∙ place_checked u z before;
      buffer_is = p.buffer ∙ ap (λ v. after_report z v before) e ∙ buffer_checked u z before;
    }
