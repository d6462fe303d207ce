-- What one call of the check answers and leaves in the buffer that is lent: the whole check's equations.
use Rattle.std.specs.Prelude.{◌≡◌, List, ℕ, ℤ}
use Rattle.scope.specs.Cases.Verdict.{Verdict}
use Rattle.scope.specs.Verdict.{verdict}
use Rattle.reader.specs.File.{file_width}
use Rattle.judge.specs.Judge.{claim_numbers, files_verdict}
use Rattle.pechuvo.specs.Check.{answered}

-- a verdict, with z decimals asked for, is answered with a number and a place, and makes the bytes `before` of the
-- buffer `after`
pub record AnswersFor (v : Verdict) (z : ℤ) (before : List ℕ) (number place : ℕ) (after : List ℕ) : Type 0 where
  pub number_is : number ≡ (answered v z before).number
  pub place_is : place ≡ (answered v z before).place
  pub buffer_is : after ≡ (answered v z before).buffer

-- the check of three files answers: the contract of `pechuvo_check`
abbrev pub Answers : (mesh table claim : List ℕ) (z : ℤ) (before : List ℕ) (number place : ℕ) (after : List ℕ) → Type 0
Answers mesh table claim z before number place after =
    AnswersFor (files_verdict file_width mesh table claim) z before number place after

-- what a claim file is answered on the mesh with the numbers m, as it is read
abbrev pub AnswersOn : (m : List ℤ) (claim : List ℕ) (z : ℤ) (before : List ℕ) (number place : ℕ) (after : List ℕ)
    → Type 0
AnswersOn m claim z before number place after =
    AnswersFor (verdict m (claim_numbers file_width m claim)) z before number place after
