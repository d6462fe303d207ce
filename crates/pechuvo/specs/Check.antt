-- The whole check (document 01, 'What the product does' and 'Verdict and report'; document 02, N5 and N8): from the
-- bytes of a mesh, a table and a claim, a number of decimals and a buffer to what is returned and what the buffer then
-- holds.
use Rattle.std.specs.Prelude.{true, false, List, ◌++◌, ℕ, ltb, ℤ, nat_abs, length, drop}
use Rattle.scope.specs.Cases.Verdict.{Verdict}
use Rattle.scope.specs.Answer.{number_of, place_of}
use Rattle.reader.specs.File.{file_width}
use Rattle.judge.specs.Judge.{files_verdict}
use Rattle.report.specs.Report.{report_bytes, report_line, is_decimals}

-- "at most 65,536 bytes of each" file are read
abbrev pub most_file_bytes : ℕ
most_file_bytes = 65536

-- what is returned and what the buffer holds afterwards
pub record Answered : Type 0 where
  pub number : ℕ
  pub place : ℕ
  pub buffer : List ℕ

-- "43, place 0, buffer untouched, for any other number [of decimals than 0 to 7], checked before 41"; "41, place 0,
-- untouched: buffer under 113 bytes"; else the report at the buffer's front: "Bytes beyond 113 are never written"
unfoldable pub answered : Verdict → ℤ → List ℕ → Answered
answered v z buffer =
    elim (is_decimals z) [
      | false ↦ record { number = 43; place = 0; buffer = buffer }
      | true ↦
          elim (ltb (length buffer) report_bytes) [
            | true ↦ record { number = 41; place = 0; buffer = buffer }
            | false ↦ record {
              number = number_of v;
              place = place_of v;
              buffer = report_line (nat_abs z) v ++ drop report_bytes buffer;
            }
          ]
    ]

-- "Every call that takes a mesh takes the table too" (document 02, N8); an empty file is no table
unfoldable pub check : (mesh table claim : List ℕ) → ℤ → List ℕ → Answered
check mesh table claim z buffer = answered (files_verdict file_width mesh table claim) z buffer
