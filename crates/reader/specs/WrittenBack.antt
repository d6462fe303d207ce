-- A file that passes the checks of its lines is the file of its numbers, byte by byte: there is one spelling of each
-- number, and one way to write a line.
use Rattle.std.specs.Prelude.{◌≡◌, List, ℕ}
use Rattle.scope.specs.Cases.Outcome.{Passed}
use Rattle.scope.specs.Layout.{Layout}
use Rattle.scope.specs.Verdict.{lines_check}
use Rattle.reader.specs.File.{numbers_of, file_of}

abbrev pub WrittenBack : ℕ → Layout → List ℕ → Type 0
WrittenBack w f bs = lines_check f (numbers_of w f bs) ≡ Passed → bs ≡ file_of w f (numbers_of w f bs)
