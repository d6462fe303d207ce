-- The sheet of `numbers/specs/MixedSheet.antt` as three files, and what each promise says of a call on them: triangles,
-- pairs, a joint and a table, with 12 or 108 sides and clay of either kind.
use Rattle.std.specs.Prelude.{◌≡◌, ◌≢◌, ◌⊎◌, List, [], ◌∷◌, ℕ, ◌-◌, ℤ, pos, length, take, replicate}
use Prim.Native.String.{String}
use Rattle.integer.specs.Fraction.{◌≈ᶠ◌}
use Rattle.integer.specs.Members.{◌∈◌}
use Rattle.scope.specs.Columns.{n, l}
use Rattle.scope.specs.Mesh.{mesh_layout}
use Rattle.scope.specs.Claim.{claim_layout, stress, multiplier}
use Rattle.scope.specs.Accepted.{ClaimAccepted}
use Rattle.scope.specs.Printed.{MeetsPrinted}
use Rattle.scope.specs.PrintedColumns.{MultipliersPrinted}
use Rattle.scope.specs.AcceptedField.{MeetsCriterion}
use Rattle.scope.specs.Jumps.{SameTraction}
use Rattle.scope.specs.Parts.{carried, allowed}
use Rattle.numbers.specs.MixedSheet.{MeshSays, unfilled, soils_written, two_layers, lower_layer, mixed_claim}
use Rattle.numbers.specs.MixedSheet.{claim_108, bedded_claim, even}
use Rattle.numbers.specs.Promises.{returned_numbers, FractionsBracket}
use Rattle.reader.specs.File.{file_of, table_of, file_width}
use Rattle.judge.specs.Handed.{Handed, files, mesh_of, claim_of, HandedBracket, HandedBlends}
use Rattle.report.specs.Report.{report_bytes}
use Rattle.report.specs.Says.{LineSays}
use Rattle.judge.specs.Judge.{files_verdict}
use Rattle.book.specs.History.{asks, commits, Shut, InOrder}
use Rattle.pechuvo.specs.declared.books.BookForC.{BookForC}
use Rattle.pechuvo.specs.declared.books.BookAnswer.{BookAnswer}
use Rattle.pechuvo.specs.BookInC.{book_of}
use Rattle.pechuvo.specs.BookPromises.{CommitAnswers, BookCall, KeepsTheBest}
use Rattle.pechuvo.specs.Bytes.{bytes}
use Rattle.pechuvo.specs.Answers.{AnswersOn}
use Rattle.pechuvo.specs.Sheets.{Sheet}
use Rattle.pechuvo.specs.Promises.{mesh_in, table_in, mesh_with, claim_in, MeshAccepted, UpperPrinted, Millionths}
use Rattle.pechuvo.specs.Promises.{TextsFit, OpenRowsPrinted}

-- ---- the files

unfoldable pub mixed_sheet : (side_count kind : ℕ) → (t c : List ℤ) → String → Sheet
mixed_sheet side_count kind t c line = record {
  mesh = file_of file_width mesh_layout (unfilled side_count kind);
  table = table_of file_width t;
  claim = file_of file_width (claim_layout (soils_written side_count kind)) c;
  line = bytes line;
}

unfoldable pub mixed_files : Sheet
mixed_files =
    mixed_sheet 12 0 two_layers (mixed_claim 64 even)
    "                           0                           0                   64.000000                   64.000000\n"

-- one more than the clay carries: 22, row 13, row 1 of node 1 with the clay
unfoldable pub beyond_files : Sheet
beyond_files =
    mixed_sheet 12 0 two_layers (mixed_claim 65 even)
    "                          22                          13                        none                        none\n"

-- the lower layer alone: 45 at 12 quarters
unfoldable pub gap_files : Sheet
gap_files =
    mixed_sheet 12 0 lower_layer (mixed_claim 64 even)
    "                          45                          12                        none                        none\n"

unfoldable pub many_files : Sheet
many_files =
    mixed_sheet 108 0 two_layers (claim_108 64 even)
    "                           0                           0                   64.000000                   64.000000\n"

unfoldable pub bedded_files : Sheet
bedded_files =
    mixed_sheet 12 1 two_layers (bedded_claim 65 even)
    "                           0                           0                        none                   65.000000\n"

-- a claim that lacks its last byte
unfoldable pub cut_claim : Sheet → List ℕ
cut_claim s = take (length s.claim - 1) s.claim

-- the answer to an ask or a commit that keeps the book b
abbrev pub told : BookForC → BookAnswer
told b = record { number = 0; place = 0; book = b }

-- ---- what the promises say

-- of an accepted call on the mesh m, as it is read, and the claim c, that wrote this line
pub record CallSays (m c : List ℤ) (line : List ℕ) : Type 0 where
  -- `OnMesh`: its triangles, pairs, overlaps, jumps and sides; and the rest of it
  pub mesh : MeshSays m
  pub accepted : ClaimAccepted m c
  pub rows_met : MeetsPrinted m (stress m c) (l c) (n c)
  pub columns : MultipliersPrinted m (multiplier m c)
  pub fill : MeetsCriterion m c (record { at = 2; soil = 0 })
  pub joint : SameTraction m (stress m c) 0
  -- `Prints`, `Millionths`, `TextsFit`, `OpenRowsPrinted`
  pub upper : UpperPrinted 6 m c line
  pub millionths : Millionths m c line
  pub texts : TextsFit 6 m c
  pub open_rows : OpenRowsPrinted m c line
  pub closed : carried c ≈ᶠ allowed m c

-- of the three files s, handed over as f, that a call accepts
pub record FilesSay (s : Sheet) (f : Handed) : Type 0 where
  -- `AnyCall`, `AsRead`, `OnTable`
  pub line : LineSays 6 (files_verdict file_width s.mesh s.table s.claim) (take report_bytes s.line)
  pub as_read : AnswersOn (mesh_with s.mesh s.table) s.claim (pos 6) (replicate report_bytes 0) 0 0 s.line
  pub mesh_accepted : MeshAccepted s.mesh s.table
  pub listed : 0 ∈ 45 ∷ 46 ∷ returned_numbers
  -- `AcceptedFiles`
  pub mesh_file : s.mesh ≡ file_of file_width mesh_layout (mesh_in s.mesh)
  pub table_file : s.table ≡ table_of file_width (table_in s.table)
  pub claim_file : s.claim
      ≡ file_of file_width (claim_layout (mesh_with s.mesh s.table)) (claim_in (mesh_with s.mesh s.table) s.claim)
  -- `TwoCalls`, `CallAndMultipliers`, `FractionsAndCall`, `BlendedCalls`
  pub bracket : HandedBracket f f
  pub parts_bracket : HandedBracket f f
  pub fractions : FractionsBracket (mesh_of f) (mesh_of f) (claim_of f) (allowed (mesh_of f) (claim_of f))
  pub blended : HandedBlends 1 2 f f

-- of an empty book that is asked, and then told to commit: it keeps b (`BookAsked`, `BookCommitted`, `AskThenCommit`,
-- `AfterAnyCalls`)
pub record BookSays (s : Sheet) (c b : BookForC) : Type 0 where
  pub asked : BookCall c s.mesh s.table s.claim (Shut (book_of c)) (told b)
  pub committed : BookCall c s.mesh s.table s.claim ((0 ≢ c.count) ⊎ Shut (book_of c)) (told b)
  pub agree : (r : BookAnswer) → CommitAnswers c 0 s.mesh s.table s.claim r → told b ≡ r
  pub kept : KeepsTheBest (asks (files s.mesh s.table s.claim) ∷ commits 0 (files s.mesh s.table s.claim) ∷ []) b
  pub bracket : InOrder (book_of b).lower (book_of b).upper
