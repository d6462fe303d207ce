-- What a caller of `pechuvo_check` may rely on: demands 1, 2 and 3 of document 01, with the decimals of document 02,
-- N5, and the table of N8, each promise a plain statement about the number and the place that are returned and about
-- the bytes of the buffer; and callers of `pechuvo_check_run` (N3) and `pechuvo_mesh_sizes` (N7).
-- Each is proved of every call (`proofs/Promises.antt`, `TablePromises.antt`, `FilePromises.antt`, `RunPromises.antt`,
-- `SizesPromises.antt`) and applied to document 01's sheet (`proofs/PromisesApplied.antt`, `LoadsApplied.antt`,
-- `TableApplied.antt`, `RunApplied.antt`, `SizesApplied.antt`) and to one that has all that document 02 adds
-- (`MixedApplied.antt`, `MixedCalls.antt`). What number and place say of the files' numbers is said as for numbers
-- handed over (`numbers/specs/Promises.antt`, `TablePromises.antt`).
-- A table is refused before 5 with its own numbers; where it fits, and without one, a call is one on the mesh as it is
-- read (`AsRead`), and what the promises say of a mesh with the numbers m they say of that one.
use Rattle.std.specs.Prelude.{◌≡◌, ◌↔◌, ◌⊎◌, ◌≢◌, List, [], ◌∷◌, ◌++◌, ℕ, suc, ◌+◌, ◌*◌, ◌/◌, ◌^◌, ◌≤◌, ◌<◌, ℤ, pos}
use Rattle.std.specs.Prelude.{nat_abs, ◌+ℤ◌, ◌-ℤ◌, ◌<ℤ◌, length, take, drop, replicate}
use Rattle.std.proofs.Math.Option.{some}
use Rattle.integer.specs.Fraction.{◌over◌, ◌≈ᶠ◌, ◌≤ᶠ◌, ◌<ᶠ◌}
use Rattle.scope.specs.Columns.{at, has_field, n, l}
use Rattle.scope.specs.Cases.Verdict.{Verdict}
use Rattle.integer.specs.Members.{◌∈◌}
use Rattle.scope.specs.Mesh.{mesh_layout, nodes, elements, edges, sides, jumps, ListsDirection}
use Rattle.scope.specs.Answer.{place_for, number_of, place_of}
use Rattle.scope.specs.Rows.{Row, pair_count, balance_rows, side_rows, jump_rows, strength_rows, rows_of}
use Rattle.scope.specs.Claim.{claim_header_columns, claim_layout, stress, multiplier}
use Rattle.scope.specs.Statements.{LinesSound, MeshSound, HasField, HasMultipliers}
use Rattle.scope.specs.Phases.{RefusedBy}
use Rattle.scope.specs.Filled.{soil_place}
use Rattle.scope.specs.Table.{mesh_read, tabled_phases}
use Rattle.scope.specs.TableVerdict.{TablePasses, TableFits}
use Rattle.scope.specs.TabledRefusals.{TabledMeshRefusalRow}
use Rattle.scope.specs.Bracket.{Open}
use Rattle.scope.specs.Parts.{carried, allowed, SameRows, NumberOf}
use Rattle.scope.specs.Tests.{row_at}
use Rattle.scope.specs.Verdict.{mesh_check, verdict, lower_load, upper_load}
use Rattle.numbers.specs.declared.numbers_answer.NumbersAnswer.{NumbersAnswer}
use Rattle.numbers.specs.Promises.{returned_numbers, ReturnsZero, RefusesExactly, NumbersListed, TellsField}
use Rattle.numbers.specs.Promises.{RowsRefused, FieldExactly, MultipliersExactly, CriterionForEachPair}
use Rattle.numbers.specs.Promises.{DirectionsAsked, PairsAsked, SidesAsked, OverlapsAsked, JumpsAsked}
use Rattle.numbers.specs.Promises.{TractionsOnJoints, TrianglesAsked, FractionsBracket}
use Rattle.numbers.specs.NumbersAnswer.{answer_of}
use Rattle.numbers.specs.TablePromises.{TableAnswers, TableExactly, FilledMesh}
use Rattle.reader.specs.File.{file_of, table_of, table_numbers_of, file_width, line_bytes}
use Rattle.reader.specs.WellFormed.{Fit, FormFails}
use Rattle.report.specs.Text.{word, number as shows, said}
use Rattle.report.specs.Report.{column_bytes, report_bytes, lower_text, upper_text, report_line, Decimals}
use Rattle.report.specs.Report.{usual_decimals}
use Rattle.report.specs.Says.{column_of, LineSays}
use Rattle.judge.specs.Judge.{mesh_numbers, mesh_from, mesh_outcome, claim_numbers, files_verdict}
use Rattle.judge.specs.Form.{MeshFormFails}
use Rattle.judge.specs.declared.room.MeshSizes.{MeshSizes}
use Rattle.judge.specs.Room.{no_sizes, mesh_sizes}
use Rattle.judge.specs.Handed.{Handed, files, numbers, mesh_of, claim_of, HasAcceptedMultipliers, OnTheSameMesh}
use Rattle.judge.specs.Handed.{HandedBracket, HandedBlends}
use Rattle.run.specs.declared.RunAnswer.{RunAnswer}
use Rattle.run.specs.Run.{claims_judged, RunAnswers}
use Rattle.run.specs.InTurn.{claim_at, InTurn}
use Rattle.pechuvo.specs.Check.{most_file_bytes}
use Rattle.pechuvo.specs.Answers.{Answers, AnswersOn}
use Rattle.pechuvo.specs.Sheets.{Sheet}

-- the numbers of a mesh file and of a table file, the mesh as all after its lines reads it, and the numbers of a claim
-- file on the mesh with the numbers m
abbrev pub mesh_in : List ℕ → List ℤ
mesh_in mesh = mesh_numbers file_width mesh

abbrev pub table_in : List ℕ → List ℤ
table_in table = table_numbers_of file_width table

abbrev pub mesh_with : List ℕ → List ℕ → List ℤ
mesh_with mesh table = mesh_from file_width mesh table

abbrev pub claim_in : List ℤ → List ℕ → List ℤ
claim_in m claim = claim_numbers file_width m claim

-- the table fits the mesh, or there is none, and the mesh that is read passes all before 11
pub record MeshAccepted (mesh table : List ℕ) : Type 0 where
  pub fits : TableFits (table_in table) (mesh_in mesh)
  pub sound : MeshSound (mesh_with mesh table)

-- a line is asked for that can be written: with 0 to 7 decimals, in a buffer that has its bytes
pub record Room (z : ℤ) (before : List ℕ) : Type 0 where
  pub decimals : Decimals z
  pub bytes : report_bytes ≤ length before

-- ==== Demand 1: what any call returns and writes

-- of a verdict v, which is that on three files
pub record AnyCall (v : Verdict) (z : ℤ) (before : List ℕ) (number place : ℕ) (after : List ℕ) : Type 0 where
  -- "43, place 0, buffer untouched, for any other number", and 43 in no other case (document 02, N5)
  pub other_decimals : ¬ Decimals z → (number ≡ 43) × (place ≡ 0) × (after ≡ before)
  pub only_others : number ≡ 43 → ¬ Decimals z
  -- "41, place 0, untouched: buffer under 113 bytes", and 41 in no other case: 43 is "checked before 41"
  pub too_short : Decimals z → length before < report_bytes → (number ≡ 41) × (place ≡ 0) × (after ≡ before)
  pub only_then : number ≡ 41 → Decimals z × (length before < report_bytes)
  -- else the verdict's number and place, and its line: "four columns of 28, right-justified, and byte 10"
  pub returns : Room z before → (number ≡ number_of v) × (place ≡ place_of v)
  pub line : Room z before → take report_bytes after ≡ report_line (nat_abs z) v
  pub says : Room z before → LineSays (nat_abs z) v (take report_bytes after)
  -- "Bytes beyond 113 are never written"
  pub rest : drop report_bytes after ≡ drop report_bytes before
  pub size : length after ≡ length before

-- "at most 65,536 bytes of each ..; a longer file is too long for any mesh or claim and is refused as its first 65,536
-- bytes are"; so is a table
pub record LongFiles (mesh table claim : List ℕ) (z : ℤ) (before : List ℕ) (number place : ℕ) (after : List ℕ)
    : Type 0 where
  pub cut : Answers (take most_file_bytes mesh) (take most_file_bytes table)
      (take most_file_bytes claim) z before number place
      after
  pub never_accepted : (most_file_bytes < length mesh)
      ⊎ ((most_file_bytes < length table) ⊎ (most_file_bytes < length claim))
      → number ≢ 0

-- ==== Soils from a borehole table (document 02, N8)

-- where the table fits, the call is one on the mesh that is read; with an empty file, on the mesh as it stands; and so
-- it is where no element has soil 0
pub record AsRead (mesh table claim : List ℕ) (z : ℤ) (before : List ℕ) (number place : ℕ)
    (after : List ℕ) : Type 0 where
  pub fits : TableFits (table_in table) (mesh_in mesh)
      → AnswersOn (mesh_with mesh table) claim z before number place after
  pub none : table ≡ [] → AnswersOn (mesh_in mesh) claim z before number place after
  pub own_soils : TableFits (table_in table) (mesh_in mesh)
      → ((e : ℕ) → e < elements (mesh_in mesh) → ¬ (at (mesh_in mesh) (soil_place (mesh_in mesh) e) ≡ pos 0))
      → AnswersOn (mesh_in mesh) claim z before number place after

-- "handed over as a third file; an empty one is no table": every call without one is exactly the call on two files, so
-- that "Without a table, soil 0 still gets 4"
pub record NoTable (mesh : List ℕ) : Type 0 where
  pub read : mesh_with mesh [] ≡ mesh_in mesh
  pub outcome : mesh_outcome file_width mesh [] ≡ mesh_check (mesh_in mesh)
  pub verdicts : (claim : List ℕ)
      → files_verdict file_width mesh [] claim ≡ verdict (mesh_in mesh) (claim_in (mesh_in mesh) claim)
  pub calls : (claim : List ℕ) (z : ℤ) (before : List ℕ) (number place : ℕ) (after : List ℕ)
      → Answers mesh [] claim z before number place after ↔ AnswersOn (mesh_in mesh) claim z before number place after

-- 0 exactly when, each refusal with its place exactly when, by the order and by rows said by hand, what a table's own
-- 1, 2, 4, 46 and 45 tell, a table that does not fit with 1 to 4, 45 or 46; no number but those; and what the filled
-- mesh is
pub record OnTable (mesh table claim : List ℕ) (number place : ℕ) : Type 0 where
  pub exactly : TableExactly (table_in table) (mesh_in mesh) (claim_in (mesh_with mesh table) claim) number place
  pub listed : number ∈ 45 ∷ 46 ∷ returned_numbers
  pub filled : TablePasses (table_in table) (mesh_in mesh) → FilledMesh (table_in table) (mesh_in mesh)

-- ==== Demand 2: what is accepted, what is refused, what is printed; where a line is written (`Room`)

-- 0 exactly when, each refusal with its place exactly when, no number but those of the table, each part accepted
-- exactly when, the triangles, the pairs with the criterion for each, strength by direction, the elements that lie on
-- each other, the jumps with the tractions on their joints, and what goes by the number of sides
pub record OnMesh (m c : List ℤ) (number place : ℕ) : Type 0 where
  pub returns_zero : ReturnsZero m c number place
  pub refuses : RefusesExactly m c number place
  pub listed : NumbersListed number place
  pub rows : RowsRefused m c number place
  pub field : FieldExactly m c number
  pub multipliers : MultipliersExactly m c number
  pub triangles : TrianglesAsked m
  pub pairs : PairsAsked m number place
  pub criterion : TellsField c number → CriterionForEachPair m c
  pub directions : DirectionsAsked m c number
  pub jumps : JumpsAsked m
  pub sides : SidesAsked m c number place
  pub overlaps : OverlapsAsked m number place
  pub tractions : TractionsOnJoints m c number

-- "mesh form: length, character, spelling, bytes missing or left over", and "claim form", said of the bytes; the
-- table's form is told with the mesh's, its lines "numbered from 1,001"
pub record FormExactly (mesh table claim : List ℕ) (number place : ℕ) : Type 0 where
  pub mesh_form : (j : ℕ) → ((number ≡ 1) × (place ≡ suc j)) ↔ MeshFormFails file_width mesh table j
  pub claim_form : (j : ℕ)
      → ((number ≡ 11) × (place ≡ suc j))
      ↔ (MeshAccepted mesh table × FormFails file_width (claim_layout (mesh_with mesh table)) claim j)

-- an accepted file is the file of its numbers, byte by byte: no other file has them
pub record AcceptedFiles (mesh table claim : List ℕ) (number : ℕ) : Type 0 where
  pub mesh_file : number ≡ 0 → mesh ≡ file_of file_width mesh_layout (mesh_in mesh)
  pub table_file : number ≡ 0 → table ≡ table_of file_width (table_in table)
  pub claim_file : number ≡ 0
      → claim ≡ file_of file_width (claim_layout (mesh_with mesh table)) (claim_in (mesh_with mesh table) claim)

-- a printed text of this number: "a zero has no minus", so where the text has one, the number is below 0
abbrev pub MinusBelowZero : ℤ → List ℕ → Type 0
MinusBelowZero v column = (k : ℕ) (rest : List ℕ) → column ≡ replicate k 32 ++ (45 ∷ rest) → v <ℤ pos 0

-- "each load is still rounded once in its own direction and is off by less than one in the last place" (document 02,
-- N5); "The lower goes towards minus infinity". With d decimals the third column reads as v in the last place,
-- v/10^d ≤ l/n < (v + 1)/10^d
pub record LowerPrinted (d : ℕ) (c : List ℤ) (line : List ℕ) : Type 0 where
  pub units : ℤ
  pub reads : said (column_of 2 line) ≡ some (shows units d)
  pub at_most : units over pos (10 ^ d) ≤ᶠ carried c
  pub within : carried c <ᶠ (units +ℤ pos 1) over pos (10 ^ d)
  pub minus : MinusBelowZero units (column_of 2 line)

-- ".. the upper towards plus infinity": the fourth column, (v - 1)/10^d < W/m ≤ v/10^d
pub record UpperPrinted (d : ℕ) (m c : List ℤ) (line : List ℕ) : Type 0 where
  pub units : ℤ
  pub reads : said (column_of 3 line) ≡ some (shows units d)
  pub at_least : allowed m c ≤ᶠ units over pos (10 ^ d)
  pub within : (units -ℤ pos 1) over pos (10 ^ d) <ᶠ allowed m c
  pub minus : MinusBelowZero units (column_of 3 line)

-- the case of six decimals, demand 2's millionth: 0 ≤ l/n - v/10^6 < 10^-6, and 0 ≤ v/10^6 - W/m < 10^-6
pub record Millionths (m c : List ℤ) (line : List ℕ) : Type 0 where
  pub lower : HasField c → ¬ ListsDirection m → (v : ℤ)
      × (said (column_of 2 line) ≡ some (shows v 6)) × (v over pos 1000000 ≤ᶠ carried c)
      × (carried c <ᶠ (v +ℤ pos 1) over pos 1000000)
  pub upper : HasMultipliers c → (v : ℤ)
      × (said (column_of 3 line) ≡ some (shows v 6)) × (allowed m c ≤ᶠ v over pos 1000000)
      × ((v -ℤ pos 1) over pos 1000000 <ᶠ allowed m c)

-- "in the same 28 characters": no load of an accepted claim has a longer text
pub record TextsFit (d : ℕ) (m c : List ℤ) : Type 0 where
  pub lower : length (lower_text d (lower_load m c)) ≤ column_bytes
  pub upper : length (upper_text d (upper_load m c)) ≤ column_bytes

-- the four columns: "Accepted .. reports: 0; the open rows ..; l/n; W/m"; "Refused: number, place, none, none";
-- "Whichever part the claim lacks gives the four letters none", and so does the lower load on "a mesh that lists" a
-- soil by direction, "used or not" (document 02, N14)
pub record Prints (d : ℕ) (m c : List ℤ) (number place : ℕ) (line : List ℕ) : Type 0 where
  pub first : said (column_of 0 line) ≡ some (shows (pos number) 0)
  pub refused : number ≢ 0 → said (column_of 1 line) ≡ some (shows (pos place) 0)
  pub lower : number ≡ 0 → HasField c → ¬ ListsDirection m → LowerPrinted d c line
  pub lower_none : (said (column_of 2 line) ≡ some word) ↔ ((number ≢ 0) ⊎ ((¬ HasField c) ⊎ ListsDirection m))
  pub upper : number ≡ 0 → HasMultipliers c → UpperPrinted d m c line
  pub upper_none : (said (column_of 3 line) ≡ some word) ↔ ((number ≢ 0) ⊎ (¬ HasMultipliers c))
  pub rows_none : number ≡ 0 → (said (column_of 1 line) ≡ some word) ↔ ((¬ HasField c) ⊎ (¬ HasMultipliers c))

-- ==== Demand 3: loads compared

-- "the open rows (strength rows with multiplier above 0 and left side below right)": the second column of an accepted
-- claim with both parts reads as their number, and it is 0 exactly when l/n and W/m are equal
pub record OpenRowsPrinted (m c : List ℤ) (line : List ℕ) : Type 0 where
  pub number : ℕ
  pub reads : said (column_of 1 line) ≡ some (shows (pos number) 0)
  pub count : NumberOf (λ k. Open (stress m c) (l c) (n c) (multiplier m c k) (row_at (rows_of m) k))
      (length (rows_of m)) number
  pub closed : (number ≡ 0) ↔ (carried c ≈ᶠ allowed m c)

-- a call that was made, on three files or on numbers, and the number that it returned
pub data Call : Handed → ℕ → Type 0 where
  on_files : (mesh table claim : List ℕ) (z : ℤ) (before : List ℕ) (number place : ℕ) (after : List ℕ)
      → Answers mesh table claim z before number place after → Call (files mesh table claim) number
  on_numbers : (m t c : List ℤ) (r : NumbersAnswer) → TableAnswers t m c r → Call (numbers m t c) r.number

-- "Parts are on the same mesh when they are judged against the same rows": the field of one call and the multipliers
-- of another or of the same, each on files or on numbers
abbrev pub TwoCalls : (a b : Handed) (i j : ℕ) → Type 0
TwoCalls a b i j = Call a i → Call b j → OnTheSameMesh a b → TellsField (claim_of a) i → HasMultipliers (claim_of b)
    → j ≡ 0 → HandedBracket a b

-- the field of a call against accepted multipliers of any claim, one that is refused for its field too
abbrev pub CallAndMultipliers : (a : Handed) (i : ℕ) → Type 0
CallAndMultipliers a i = Call a i → (b : Handed) → OnTheSameMesh a b → TellsField (claim_of a) i
    → HasAcceptedMultipliers b → HandedBracket a b

-- a field in fractions, on any mesh with the same rows, against the multipliers of a call
abbrev pub FractionsAndCall : (b : Handed) (j : ℕ) → Type 0
FractionsAndCall b j = Call b j → HasMultipliers (claim_of b) → j ≡ 0 → (m : List ℤ) → MeshSound m
    → SameRows m (mesh_of b) → FractionsBracket m (mesh_of b) (claim_of b) (allowed (mesh_of b) (claim_of b))

-- "two accepted fields, weighted with whole numbers not below zero and not both zero, give a field in exact fractions
-- that meets every row and carries the weighted load .. no such blend passes any accepted limit" (document 02, N11):
-- the fields of two calls, or of one twice, each on files or on numbers
abbrev pub BlendedCalls : (a b : Handed) (i j : ℕ) → Type 0
BlendedCalls a b i j = Call a i → Call b j → OnTheSameMesh a b → TellsField (claim_of a) i → TellsField (claim_of b) j
    → (u v : ℕ) → 0 < u + v → HandedBlends u v a b

-- "Numbers handed to it get the refusals that a file of them, with columns as wide as needed, would get"
pub record AsAFile (t m c : List ℤ) (r : NumbersAnswer) : Type 0 where
  pub some_width : (w : ℕ) × Fit w t × Fit w m × Fit w c
  pub every_width : (w : ℕ) → Fit w t → Fit w m → Fit w c
      → r ≡ answer_of (has_field c)
      (files_verdict w (file_of w mesh_layout m) (table_of w t) (file_of w (claim_layout (mesh_read t m)) c))

-- ==== The sheets

-- each sheet's line, which has six decimals, stands at the front of the buffer
abbrev pub Written : Sheet → Type 0
Written s = (before after : List ℕ) (number place : ℕ)
    → Answers s.mesh s.table s.claim (pos usual_decimals) before number place after
    → report_bytes ≤ length before → take report_bytes after ≡ s.line

-- ==== A solver's run handed over whole (document 02, N3)

-- a run of claims on a mesh and a table that was answered: the contract of `pechuvo_check_run`
abbrev pub RunAsked : (mesh table claims before : List ℕ) (r : RunAnswer) (after : List ℕ) → Type 0
RunAsked mesh table claims before r after =
    RunAnswers (mesh_outcome file_width mesh table) (mesh_with mesh table) claims before r after

-- report i of a run
abbrev pub report_at : ℕ → List ℕ → List ℕ
report_at i buffer = take report_bytes (drop (i * report_bytes) buffer)

-- a line is what each single call on this mesh, this table and this claim writes with six decimals
abbrev pub SingleCall : (mesh table claim line : List ℕ) → Type 0
SingleCall mesh table claim line = (before after : List ℕ) (number place : ℕ)
    → Answers mesh table claim (pos usual_decimals) before number place after → report_bytes ≤ length before
    → take report_bytes after ≡ line

-- the claims that have a report, each by its own bytes
abbrev pub judged_in : (mesh table claims before : List ℕ) → List (List ℕ)
judged_in mesh table claims before =
    claims_judged (length before / report_bytes) (mesh_outcome file_width mesh table) (mesh_with mesh table) claims

-- "The answer counts reports written and claim bytes taken"
pub record RunCall (mesh table claims before : List ℕ) (judged : List (List ℕ)) (reports bytes : ℕ) (after : List ℕ)
    : Type 0 where
  pub count : reports ≡ length judged
  -- "the reports equal those of single calls", and no other byte is written
  pub single_calls : (i : ℕ) → i < reports → SingleCall mesh table (claim_at judged i) (report_at i after)
  pub rest : drop (reports * report_bytes) after ≡ drop (reports * report_bytes) before
  pub size : length after ≡ length before
  -- on an accepted mesh: which claims, how many bytes, and where it ends
  pub in_turn : MeshAccepted mesh table
      → InTurn (mesh_with mesh table) (length before / report_bytes) claims judged bytes
  -- "A refused mesh writes its report once, even with no claim byte, and takes no claim"; so does a refused table
  pub mesh_refused : (¬ MeshAccepted mesh table) → report_bytes ≤ length before
      → (reports ≡ 1) × (bytes ≡ 0) × ((claim : List ℕ) → SingleCall mesh table claim (report_at 0 after))
  -- "A run ends first of all when the buffer lacks 113 bytes for the next report, without 41"
  pub no_room : length before < report_bytes → (reports ≡ 0) × (bytes ≡ 0) × (after ≡ before)

-- ==== Room worked out beforehand (document 02, N7)

-- a call on the mesh and the table that told these sizes
abbrev pub SizesAsked : (mesh table : List ℕ) (r : MeshSizes) → Type 0
SizesAsked mesh table r = r ≡ mesh_sizes mesh table

-- so many rows as the definition lists, and as a reader counts them
abbrev pub Counts : (k : ℕ) (rows : List Row) (counted : ℕ) → Type 0
Counts k rows counted = (k ≡ length rows) × (k ≡ counted)

-- "Every claim that passes 11, 12 and 13 has exactly the length said for its kind"
pub record ClaimLengths (m : List ℤ) (r : MeshSizes) (claim : List ℕ) : Type 0 where
  pub field : HasField (claim_in m claim) → (¬ HasMultipliers (claim_in m claim)) → length claim ≡ r.field_bytes
  pub multipliers : (¬ HasField (claim_in m claim)) → HasMultipliers (claim_in m claim)
      → length claim ≡ r.multipliers_bytes
  pub both : HasField (claim_in m claim) → HasMultipliers (claim_in m claim) → length claim ≡ r.both_bytes

-- "the row and column counts are those of the definition": two balance rows for each element, four side rows for each
-- edge and four jump rows for each jump, "unfixed ones counted", a strength row for each side of each pair, "three a
-- node"; of the mesh that is read
pub record SizesOf (m : List ℤ) (r : MeshSizes) : Type 0 where
  pub balance : Counts r.balance_rows (balance_rows m) (2 * elements m)
  pub side : Counts r.side_rows (side_rows m) (4 * edges m)
  pub jump : Counts r.jump_rows (jump_rows m) (4 * jumps m)
  pub strength : Counts r.strength_rows (strength_rows m) (pair_count m * sides m)
  pub rows : r.balance_rows + r.side_rows + r.jump_rows + r.strength_rows ≡ length (rows_of m)
  pub columns : r.columns ≡ 3 * nodes m
  pub lengths : (claim : List ℕ) → LinesSound (claim_layout m) (claim_in m claim) → ClaimLengths m r claim
  -- a claim with both parts has one header
  pub one_header_more : r.field_bytes + r.multipliers_bytes ≡ r.both_bytes + line_bytes file_width claim_header_columns

pub record SizesTold (mesh table : List ℕ) (r : MeshSizes) : Type 0 where
  -- 0 exactly when the mesh is accepted; else "its refusal and no sizes"
  pub accepted : (r.number ≡ 0) ↔ MeshAccepted mesh table
  pub place_zero : r.number ≡ 0 → r.place ≡ 0
  -- each refusal with its place exactly when the order has it, and exactly when a row said by hand has it
  pub refused : (k j : ℕ) → k ≢ 0
      → ((r.number ≡ k) × (r.place ≡ j)) ↔ RefusedBy (tabled_phases (table_in table) (mesh_in mesh)) k (place_for k j)
  pub row : (k j : ℕ) → k ≢ 0
      → ((r.number ≡ k) × (r.place ≡ j)) ↔ TabledMeshRefusalRow (table_in table) (mesh_in mesh) k (place_for k j)
  pub refused_sizes : r.number ≢ 0 → r ≡ no_sizes r.number r.place
  pub sizes : r.number ≡ 0 → SizesOf (mesh_with mesh table) r
