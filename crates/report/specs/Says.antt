-- What a report line says of a verdict (document 01, 'Verdict and report'), by its four columns as they are read, with
-- no look at how they were written.
use Rattle.std.specs.Prelude.{◌≡◌, List, [], ◌∷◌, ℕ, ◌*◌, ◌^◌, ◌≤◌, ◌<◌, length, take, drop}
use Rattle.std.specs.Prelude.{ℤ, pos, nat_abs, ◌*ℤ◌, ◌≤ℤ◌}
use Rattle.std.proofs.Math.Option.{some}
use Rattle.integer.specs.Round.{Floor, Ceil}
use Rattle.scope.specs.declared.Place.{Place}
use Rattle.scope.specs.Cases.Load.{Load}
use Rattle.scope.specs.Cases.Load.{Absent, Exact}
use Rattle.scope.specs.Cases.OpenRows.{OpenRows}
use Rattle.scope.specs.Cases.OpenRows.{Absent as NoCount, Count}
use Rattle.scope.specs.Cases.Verdict.{Verdict}
use Rattle.scope.specs.Cases.Verdict.{Accepted, Refused}
use Rattle.scope.specs.Answer.{place_number}
use Rattle.report.specs.Text.{Said, word, number, said}
use Rattle.report.specs.Report.{column_bytes, report_bytes}

-- column i of a line, counted from 0: "four columns of 28"
unfoldable pub column_of : ℕ → List ℕ → List ℕ
column_of i line = take column_bytes (drop (i * column_bytes) line)

-- ---- the numbers that can come, by a verdict's machine types

-- a load's numerator is within ±2^63; its denominator may be any
abbrev pub HeldLoad : Load → Type 0
HeldLoad Absent = Unit {0}
HeldLoad (Exact num den) = nat_abs num ≤ 2 ^ 63

abbrev pub HeldRows : OpenRows → Type 0
HeldRows NoCount = Unit {0}
HeldRows (Count k) = k < 2 ^ 64

abbrev pub Held : Verdict → Type 0
Held (Accepted o lower upper) = HeldRows o × HeldLoad lower × HeldLoad upper
Held (Refused k place) = (k < 2 ^ 32) × (place_number place < 2 ^ 32)

-- ---- what a column says

-- there is no load: the part is absent, or its denominator is not above 0 (an accepted claim has no such load)
abbrev pub NoLoad : Load → Type 0
NoLoad Absent = Unit {0}
NoLoad (Exact num den) = den ≤ℤ pos 0

abbrev pub NoLower : Verdict → Type 0
NoLower (Accepted o lower upper) = NoLoad lower
NoLower (Refused k place) = Unit {0}

abbrev pub NoUpper : Verdict → Type 0
NoUpper (Accepted o lower upper) = NoLoad upper
NoUpper (Refused k place) = Unit {0}

-- of a load: none where there is none, else v/10^d where v is the load times 10^d rounded as R says, to its floor or
-- to its ceiling
pub data LoadSays (R : ℤ → ℕ → ℤ → Type 0) (d : ℕ) : Load → Said → Type 0 where
  no_load : {load : Load} → NoLoad load → LoadSays R d load word
  rounded : (num v : ℤ) (den : ℕ) → 0 < den → R (num *ℤ pos (10 ^ d)) den v
      → LoadSays R d (Exact num (pos den)) (number v d)

-- of the open rows: "open rows need both parts"
pub data RowsSay : OpenRows → Said → Type 0 where
  no_rows : RowsSay NoCount word
  rows : (k : ℕ) → RowsSay (Count k) (number (pos k) 0)

-- the four columns: "Accepted .. reports: 0; the open rows ..; l/n; W/m", "The lower goes towards minus infinity, the
-- upper towards plus infinity"; "Refused: number, place, none, none"
pub data Says (d : ℕ) : Verdict → Said → Said → Said → Said → Type 0 where
  says_accepted : {o : OpenRows} {lower upper : Load} {b c e : Said} → RowsSay o b → LoadSays Floor d lower c
      → LoadSays Ceil d upper e → Says d (Accepted o lower upper) (number (pos 0) 0) b c e
  says_refused : (k : ℕ) (place : Place)
      → Says d (Refused k place) (number (pos k) 0) (number (pos (place_number place)) 0) word word

-- a line of as many bytes as the report has, byte 10 after its four columns, whose columns say that
pub record LineSays (d : ℕ) (v : Verdict) (line : List ℕ) : Type 0 where
  pub bytes : length line ≡ report_bytes
  pub end : drop (4 * column_bytes) line ≡ 10 ∷ []
  pub first : Said
  pub second : Said
  pub third : Said
  pub fourth : Said
  pub read_first : said (column_of 0 line) ≡ some first
  pub read_second : said (column_of 1 line) ≡ some second
  pub read_third : said (column_of 2 line) ≡ some third
  pub read_fourth : said (column_of 3 line) ≡ some fourth
  pub says : Says d v first second third fourth
