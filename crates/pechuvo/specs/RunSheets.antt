-- Runs of claims (document 02, N3), each with all that is written, the reports and the bytes that are taken. Meshes
-- and claims are shown as in Sheets.
use mathlib.Core.List.{List, [], ◌∷◌, ◌++◌, flat_map}
use Rattle.std.specs.Prelude.{ℕ, ◌-◌, length, take, replicate}
use Prim.Native.String.{String}
use Rattle.scope.specs.Mesh.{mesh_layout}
use Rattle.scope.specs.Claim.{claim_layout}
use Rattle.reader.specs.File.{file_of, table_of, file_width}
use Rattle.judge.specs.Judge.{mesh_from, mesh_outcome}
use Rattle.run.specs.Run.{Ran, run}
use Rattle.pechuvo.specs.Bytes.{bytes, numbers}
use Rattle.pechuvo.specs.Sheets.{worked_mesh, soil_zero_mesh}

-- the bytes of a mesh file, of a table file and of the claims, those of the buffer, and what a run of them gives
pub record RunSheet : Type 0 where
  pub mesh : List ℕ
  pub table : List ℕ
  pub claims : List ℕ
  pub room : ℕ
  pub reports : ℕ
  pub taken : ℕ
  pub written : List ℕ

-- claims one after another
unfoldable pub claims_on : String → List String → List ℕ
claims_on m cs = flat_map (λ c. file_of file_width (claim_layout (numbers m)) (numbers c)) cs

unfoldable pub run_sheet_with : String → String → List ℕ → ℕ → ℕ → ℕ → List String → RunSheet
run_sheet_with m t claims room reports taken lines = record {
  mesh = file_of file_width mesh_layout (numbers m);
  table = table_of file_width (numbers t);
  claims = claims;
  room = room;
  reports = reports;
  taken = taken;
  written = flat_map bytes lines;
}

-- without a table
unfoldable pub run_sheet : String → List ℕ → ℕ → ℕ → ℕ → List String → RunSheet
run_sheet m claims room reports taken lines = run_sheet_with m "" claims room reports taken lines

-- a buffer of bytes 7 before, and what is to be answered and left in it
abbrev pub lent : RunSheet → List ℕ
lent s = replicate s.room 7

abbrev pub left : RunSheet → List ℕ
left s = s.written ++ replicate (s.room - length s.written) 7

unfoldable pub ran_on : RunSheet → Ran
ran_on s =
    run (mesh_outcome file_width s.mesh s.table) (mesh_from file_width s.mesh s.table) s.claims (lent s)

unfoldable pub told : RunSheet → Ran
told s = record { reports = s.reports; bytes = s.taken; buffer = left s }

-- ---- document 01's sheet, its neighbours, and a mesh that is refused

unfoldable pub good : String
good = "1 1 1 20 / 0 -20 0 / 0 -20 0 / 0 -20 0 / 0 -20 0 / 0 0 / 30 0 0 0 / 0 0 -30 0 / 0 0 0 0 / 0 0 0 0 0 0 0 0 0 0 0 0 / 0 0 0 0 0 0 0 0 0 0 0 0 / 1 0 0 0 0 0 0 0 0 0 0 1 / 0 0 0 0 0 0 0 0 0 0 0 0"

-- beyond its strength: 22
unfoldable pub beyond : String
beyond = "1 1 1 21 / 0 -21 0 / 0 -21 0 / 0 -21 0 / 0 -21 0 / 0 0 / 30 0 0 0 / 0 0 -30 0 / 0 0 0 0 / 0 0 0 0 0 0 0 0 0 0 0 0 / 0 0 0 0 0 0 0 0 0 0 0 0 / 1 0 0 0 0 0 0 0 0 0 0 1 / 0 0 0 0 0 0 0 0 0 0 0 0"

-- a field alone, which is shorter
unfoldable pub field : String
field = "1 0 1 19 / 0 -19 0 / 0 -19 0 / 0 -19 0 / 0 -19 0"

-- a multiplier beyond its limit in line 7: 12
unfoldable pub limit : String
limit = "1 1 1 20 / 0 -20 0 / 0 -20 0 / 0 -20 0 / 0 -20 0 / 0 0 / 30 0 0 100001 / 0 0 -30 0 / 0 0 0 0 / 0 0 0 0 0 0 0 0 0 0 0 0 / 0 0 0 0 0 0 0 0 0 0 0 0 / 1 0 0 0 0 0 0 0 0 0 0 1 / 0 0 0 0 0 0 0 0 0 0 0 0"

-- soil 3 4 6: 3, line 2
unfoldable pub refused_mesh : String
refused_mesh = "4 1 1 3 12 0 / 3 4 6 10 0 0 0 0 0 0 / 0 0 / 1 0 / 1 1 / 0 1 / 1 2 3 4 1 / 3 4 3 0 0 -1 0 / 2 3 3 0 0 0 0 / 4 1 3 0 0 0 0"

unfoldable pub refused_line : String
refused_line = "                           3                           2                        none                        none\n"

unfoldable pub good_line : String
good_line = "                           0                           0                   20.000000                   20.000000\n"

-- ---- the runs: a claim has 949 bytes, and a field alone 197

-- 22 does not end a run and 12 does: the last claim is not looked at, and 949 + 949 + 197 bytes are taken
unfoldable pub several : RunSheet
several =
    run_sheet worked_mesh (claims_on worked_mesh (good ∷ beyond ∷ field ∷ limit ∷ good ∷ [])) 572 4 2095
    (good_line
    ∷ "                          22                           1                        none                        none\n"
    ∷ "                           0                        none                   19.000000                        none\n"
    ∷ "                          12                           7                        none                        none\n"
    ∷ [])

-- a refused mesh, with no claim byte
unfoldable pub mesh_alone : RunSheet
mesh_alone = run_sheet refused_mesh [] 120 1 0 (refused_line ∷ [])

-- document 01's sheet with soil 0, and a table that gives its soil; a table that ends at the highest node: 45, place 4
unfoldable pub tabled_run : RunSheet
tabled_run =
    run_sheet_with soil_zero_mesh "0 2 1" (claims_on worked_mesh (good ∷ beyond ∷ [])) 240 2 1898
    (good_line
    ∷ "                          22                           1                        none                        none\n"
    ∷ [])

unfoldable pub table_refused : RunSheet
table_refused = run_sheet_with soil_zero_mesh "0 1 1" (claims_on worked_mesh (good ∷ [])) 240 1 0
    ("                          45                           4                        none                        none\n" ∷ [])

unfoldable pub run_sheets : List RunSheet
run_sheets =
    several
    ∷ mesh_alone
    ∷ tabled_run
    ∷ table_refused
    -- room for two reports and 112 bytes more
    ∷ run_sheet worked_mesh (claims_on worked_mesh (good ∷ good ∷ good ∷ [])) 338 2 1898 (good_line ∷ good_line ∷ [])
    -- a claim cut short by a byte: 11 in its last line, and its bytes aren't taken
    ∷ run_sheet worked_mesh (take 1897 (claims_on worked_mesh (good ∷ good ∷ []))) 565 2 949
    (good_line
    ∷ "                          11                          13                        none                        none\n"
    ∷ [])
    -- a header without parts: 13, whatever follows
    ∷ run_sheet worked_mesh (claims_on worked_mesh ("0 0 0 0" ∷ good ∷ [])) 565 1 0
    ("                          13                           1                        none                        none\n"
    ∷ [])
    -- no claim byte, and no room
    ∷ run_sheet worked_mesh [] 565 0 0 []
    ∷ run_sheet worked_mesh (claims_on worked_mesh (good ∷ [])) 112 0 0 []
    -- a refused mesh with a claim, and without room
    ∷ run_sheet refused_mesh (claims_on worked_mesh (good ∷ [])) 565 1 0 (refused_line ∷ [])
    ∷ run_sheet refused_mesh [] 112 0 0 []
    ∷ []
