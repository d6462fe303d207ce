-- What a solver that hands over numbers is answered (document 01, 'Verdict and report'): document 01's number and
-- values for each case of the verdict.
use Rattle.std.specs.Prelude.{Bool, true, false, ℕ, ℤ, pos}
use Rattle.scope.specs.Cases.Load.{Load}
use Rattle.scope.specs.Cases.Load.{Absent, Exact}
use Rattle.scope.specs.Cases.OpenRows.{OpenRows}
use Rattle.scope.specs.Cases.OpenRows.{Absent as NoCount, Count}
use Rattle.scope.specs.Cases.Verdict.{Verdict}
use Rattle.scope.specs.Cases.Verdict.{Accepted, Refused}
use Rattle.scope.specs.Answer.{place_number}
use Rattle.numbers.specs.declared.numbers_answer.NumbersAnswer.{NumbersAnswer}

-- whether a part is there
abbrev pub flag : Bool → ℕ
flag true = 1
flag false = 0

-- whether a load is there, and its two numbers
abbrev pub there : Load → ℕ
there Absent = 0
there (Exact num den) = 1

abbrev pub numerator : Load → ℤ
numerator Absent = pos 0
numerator (Exact num den) = num

abbrev pub denominator : Load → ℤ
denominator Absent = pos 0
denominator (Exact num den) = den

abbrev pub counted : OpenRows → ℕ
counted NoCount = 0
counted (Count k) = k

-- "Accepted returns 0, place 0, and reports: 0; the open rows ..; l/n; W/m"; "Refused: number, place, none, none". An
-- accepted claim's field is there, whether or not its load is told (document 02, N14)
abbrev pub answer_of : Bool → Verdict → NumbersAnswer
answer_of field (Accepted o lower upper) = record {
  number = 0;
  place = 0;
  field = flag field;
  multipliers = there upper;
  l = numerator lower;
  n = denominator lower;
  w = numerator upper;
  m = denominator upper;
  open_rows = counted o;
}
answer_of field (Refused k at) = record {
  number = k;
  place = place_number at;
  field = 0;
  multipliers = 0;
  l = pos 0;
  n = pos 0;
  w = pos 0;
  m = pos 0;
  open_rows = 0;
}
