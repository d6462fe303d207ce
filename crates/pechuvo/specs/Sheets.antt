-- Document 01's sheets, 'A whole sheet, and its neighbours', each with the line that is printed; and small sheets of
-- our own that notice what those do not.
-- Lines are shown with one space between numbers and a stroke between lines; the files are written from them with
-- columns of 12 characters.
use Rattle.std.specs.Prelude.{List, [], ◌∷◌, ℕ, ℤ, pos, replicate}
use Prim.Native.String.{String}
use Rattle.scope.specs.Mesh.{mesh_layout}
use Rattle.scope.specs.Claim.{claim_layout}
use Rattle.scope.specs.Table.{mesh_read}
use Rattle.reader.specs.File.{file_of, table_of, file_width}
use Rattle.pechuvo.specs.Bytes.{bytes, numbers}
use Rattle.report.specs.Report.{report_bytes, usual_decimals}
use Rattle.pechuvo.specs.Check.{check}

-- the bytes of three files, an empty table being none, and the line that they give
pub record Sheet : Type 0 where
  pub mesh : List ℕ
  pub table : List ℕ
  pub claim : List ℕ
  pub line : List ℕ

-- a sheet from its mesh, its table, its claim and its line
unfoldable pub sheet_with : String → String → String → String → Sheet
sheet_with m t c line = record {
  mesh = file_of file_width mesh_layout (numbers m);
  table = table_of file_width (numbers t);
  claim = file_of file_width (claim_layout (mesh_read (numbers t) (numbers m))) (numbers c);
  line = bytes line;
}

-- without a table
unfoldable pub sheet : String → String → String → Sheet
sheet m c line = record {
  mesh = file_of file_width mesh_layout (numbers m);
  table = [];
  claim = file_of file_width (claim_layout (numbers m)) (numbers c);
  line = bytes line;
}

-- what the check writes into a buffer of 113 bytes, with z decimals, and with six
unfoldable pub printed_with : ℤ → Sheet → List ℕ
printed_with z s = (check s.mesh s.table s.claim z (replicate report_bytes 0)).buffer

unfoldable pub printed : Sheet → List ℕ
printed = printed_with (pos usual_decimals)

-- ---- the starred sheets

unfoldable pub worked_mesh : String
worked_mesh = "4 1 1 3 12 0 / 0 1 1 10 0 0 0 0 0 0 / 0 0 / 1 0 / 1 1 / 0 1 / 1 2 3 4 1 / 3 4 3 0 0 -1 0 / 2 3 3 0 0 0 0 / 4 1 3 0 0 0 0"

-- a dead pull of 40 and a live pull of 60 on that mesh: -1/3
unfoldable pub pull_mesh : String
pull_mesh = "4 1 1 3 12 0 / 0 1 1 10 0 0 0 0 0 0 / 0 0 / 1 0 / 1 1 / 0 1 / 1 2 3 4 1 / 3 4 3 40 0 60 0 / 2 3 3 0 0 0 0 / 4 1 3 0 0 0 0"

unfoldable pub pull_claim : String
pull_claim = "1 1 3 -1 / 0 60 0 / 0 60 0 / 0 60 0 / 0 60 0 / 0 0 / -30 0 0 0 / 0 0 30 0 / 0 0 0 0 / 0 0 0 0 0 0 0 0 0 0 0 0 / 0 0 0 0 0 0 0 0 0 0 0 0 / 0 0 0 0 0 1 1 0 0 0 0 0 / 0 0 0 0 0 0 0 0 0 0 0 0"

unfoldable pub starred : List Sheet
starred =
    -- the sheet; m = 30, W = 600
    sheet worked_mesh
    "1 1 1 20 / 0 -20 0 / 0 -20 0 / 0 -20 0 / 0 -20 0 / 0 0 / 30 0 0 0 / 0 0 -30 0 / 0 0 0 0 / 0 0 0 0 0 0 0 0 0 0 0 0 / 0 0 0 0 0 0 0 0 0 0 0 0 / 1 0 0 0 0 0 0 0 0 0 0 1 / 0 0 0 0 0 0 0 0 0 0 0 0"
    "                           0                           0                   20.000000                   20.000000\n"
    -- l 19, sy -19: two open rows
    ∷ sheet worked_mesh
    "1 1 1 19 / 0 -19 0 / 0 -19 0 / 0 -19 0 / 0 -19 0 / 0 0 / 30 0 0 0 / 0 0 -30 0 / 0 0 0 0 / 0 0 0 0 0 0 0 0 0 0 0 0 / 0 0 0 0 0 0 0 0 0 0 0 0 / 1 0 0 0 0 0 0 0 0 0 0 1 / 0 0 0 0 0 0 0 0 0 0 0 0"
    "                           0                           2                   19.000000                   20.000000\n"
    -- l 21, sy -21: 22, row 1
    ∷ sheet worked_mesh
    "1 1 1 21 / 0 -21 0 / 0 -21 0 / 0 -21 0 / 0 -21 0 / 0 0 / 30 0 0 0 / 0 0 -30 0 / 0 0 0 0 / 0 0 0 0 0 0 0 0 0 0 0 0 / 0 0 0 0 0 0 0 0 0 0 0 0 / 1 0 0 0 0 0 0 0 0 0 0 1 / 0 0 0 0 0 0 0 0 0 0 0 0"
    "                          22                           1                        none                        none\n"
    -- l 20, sy -21: 21, row 3
    ∷ sheet worked_mesh
    "1 1 1 20 / 0 -21 0 / 0 -21 0 / 0 -21 0 / 0 -21 0 / 0 0 / 30 0 0 0 / 0 0 -30 0 / 0 0 0 0 / 0 0 0 0 0 0 0 0 0 0 0 0 / 0 0 0 0 0 0 0 0 0 0 0 0 / 1 0 0 0 0 0 0 0 0 0 0 1 / 0 0 0 0 0 0 0 0 0 0 0 0"
    "                          21                           3                        none                        none\n"
    -- the -30 as -29: 32, column 7
    ∷ sheet worked_mesh
    "1 1 1 20 / 0 -20 0 / 0 -20 0 / 0 -20 0 / 0 -20 0 / 0 0 / 30 0 0 0 / 0 0 -29 0 / 0 0 0 0 / 0 0 0 0 0 0 0 0 0 0 0 0 / 0 0 0 0 0 0 0 0 0 0 0 0 / 1 0 0 0 0 0 0 0 0 0 0 1 / 0 0 0 0 0 0 0 0 0 0 0 0"
    "                          32                           7                        none                        none\n"
    -- empty mesh: 1, line 1
    ∷ sheet ""
    ""
    "                           1                           1                        none                        none\n"
    -- soil 3 4 6: 3, line 2
    ∷ sheet "4 1 1 3 12 0 / 3 4 6 10 0 0 0 0 0 0 / 0 0 / 1 0 / 1 1 / 0 1 / 1 2 3 4 1 / 3 4 3 0 0 -1 0 / 2 3 3 0 0 0 0 / 4 1 3 0 0 0 0"
    ""
    "                           3                           2                        none                        none\n"
    -- 1/3 as lower 0.333333, as upper 0.333334, with 0 open rows: a live pressure of 60
    ∷ sheet "4 1 1 3 12 0 / 0 1 1 10 0 0 0 0 0 0 / 0 0 / 1 0 / 1 1 / 0 1 / 1 2 3 4 1 / 3 4 3 0 0 -60 0 / 2 3 3 0 0 0 0 / 4 1 3 0 0 0 0"
    "1 1 3 1 / 0 -60 0 / 0 -60 0 / 0 -60 0 / 0 -60 0 / 0 0 / 30 0 0 0 / 0 0 -30 0 / 0 0 0 0 / 0 0 0 0 0 0 0 0 0 0 0 0 / 0 0 0 0 0 0 0 0 0 0 0 0 / 1 0 0 0 0 0 0 0 0 0 0 1 / 0 0 0 0 0 0 0 0 0 0 0 0"
    "                           0                           0                    0.333333                    0.333334\n"
    -- -1/3 as lower -0.333334, as upper -0.333333
    ∷ sheet pull_mesh
    pull_claim
    "                           0                           0                   -0.333334                   -0.333333\n"
    -- -1/3000000 as upper 0.000000: a dead pull of 1 on a side of length 1 against a live force of 1,000 on 3,000
    -- units of area
    ∷ sheet "6 2 1 6 12 0 / 0 1 1 10 0 0 1000 0 0 0 / 0 0 / 1000 0 / 1000 1 / 0 1 / 1000 3 / 0 3 / 1 2 3 4 1 / 4 3 5 6 1 / 1 2 3 0 0 0 0 / 2 3 3 1 0 0 0 / 3 5 3 0 0 0 0 / 5 6 3 0 0 0 0 / 6 4 3 0 0 0 0 / 4 1 3 0 0 0 0"
    "0 1 0 0 / 1000 0 / 1000 0 / 0 -1 0 -1 / -1000 0 -1000 0 / -500 0 -500 0 / 0 1 0 1 / 500 0 500 0 / 1000 0 1000 0 / 0 0 0 0 0 0 0 0 0 0 0 0 / 0 0 0 0 0 0 0 0 0 0 0 0 / 0 0 0 0 0 0 0 0 0 0 0 0 / 0 0 0 0 0 0 0 0 0 0 0 0 / 0 0 0 0 0 0 0 0 0 0 0 0 / 0 0 0 0 0 0 0 0 0 0 0 0"
    "                           0                        none                        none                    0.000000\n"
    ∷ []

-- ---- sheets of our own

unfoldable pub unit_square : String
unit_square = "4 1 1 0 12 0 / 0 1 1 10 0 0 0 0 0 0 / 0 0 / 1 0 / 1 1 / 0 1 / 1 2 3 4 1"

-- a seam of clay (c = 10) between two layers of fill (c = 30): nodes 3 to 6 are corners of both, and the fill has the
-- lower elements ("Soft clay under fill was passed at the fill's strength", document 02, N2)
unfoldable pub seam_mesh : String
seam_mesh = "8 3 2 8 12 0 / 0 1 1 30 0 0 0 0 0 0 / 0 1 1 10 0 0 0 0 0 0 / 0 0 / 10 0 / 0 10 / 10 10 / 0 20 / 10 20 / 0 30 / 10 30 / 1 2 4 3 1 / 5 6 8 7 1 / 3 4 6 5 2 / 1 2 2 0 0 0 0 / 2 4 3 0 0 0 0 / 3 1 2 0 0 0 0 / 6 8 3 0 0 0 0 / 8 7 3 0 0 -1 0 / 7 5 2 0 0 0 0 / 4 6 3 0 0 0 0 / 5 3 2 0 0 0 0"

-- a field of 60, the fill's strength, which document 01 accepted: 22, row 37, side 1 of node 3 with the clay, pair 4
unfoldable pub seam_fault : Sheet
seam_fault =
    sheet seam_mesh
    "1 0 1 60 / 0 -60 0 / 0 -60 0 / 0 -60 0 / 0 -60 0 / 0 -60 0 / 0 -60 0 / 0 -60 0 / 0 -60 0"
    "                          22                          37                        none                        none\n"

-- two blocks on a joint, with shared nodes and with a jump (document 02, N6): the left one is loaded, the right one's
-- top is free, and sy jumps from -40 to 0 where both press on the joint with 20
unfoldable pub joint_mesh : String
joint_mesh = "8 2 1 6 12 1 / 0 1 1 10 0 0 0 0 0 0 / 0 0 / 10 0 / 10 0 / 20 0 / 0 10 / 10 10 / 10 10 / 20 10 / 1 2 6 5 1 / 3 4 8 7 1 / 1 2 2 0 0 0 0 / 6 5 3 0 0 -1 0 / 5 1 2 0 0 0 0 / 3 4 2 0 0 0 0 / 4 8 2 0 0 0 0 / 8 7 3 0 0 0 0 / 2 6 3 7"

unfoldable pub joint_blocks : Sheet
joint_blocks =
    sheet joint_mesh
    "1 1 1 40 / -20 -40 0 / -20 -40 0 / -20 0 0 / -20 0 0 / -20 -40 0 / -20 -40 0 / -20 0 0 / -20 0 0 / 30 -30 / 30 30 / 0 2 0 -4 / 3 0 6 8 / 0 0 0 0 / 0 -4 0 2 / 0 0 0 -8 / -6 0 -3 0 / -6 0 -3 0 / 20 0 0 0 0 0 0 0 0 0 0 0 / 20 0 0 0 0 0 0 0 0 0 0 0 / 0 0 0 0 0 20 0 0 0 0 0 0 / 0 0 0 0 0 20 0 0 0 0 0 0 / 20 0 0 0 0 0 0 0 0 0 0 0 / 0 0 0 0 0 0 0 0 0 0 0 0 / 0 0 0 0 0 0 0 0 0 0 0 0 / 0 0 0 0 0 20 0 0 0 0 0 0"
    "                           0                           0                   40.000000                   40.000000\n"

-- each field and each rule of the mesh and the claim that the starred sheets leave at 0 or do not reach
unfoldable pub noticing : List Sheet
noticing =
    -- a dead and a live body force, on an element with no parallel sides, with stresses linear in x and y
    sheet "4 1 1 0 12 0 / 0 1 1 10000 2 3 5 7 0 0 / 0 0 / 4 1 / 6 5 / 1 3 / 1 2 3 4 1"
    "1 0 2 3 / 0 0 0 / -84 -30 14 / -126 -150 28 / -21 -90 9"
    "                           0                        none                    1.500000                        none\n"
    -- a dead pull and a live shear on a sloping side
    ∷ sheet "4 1 1 1 12 0 / 0 1 1 10000 0 0 0 0 0 0 / 0 0 / 4 1 / 6 5 / 1 3 / 1 2 3 4 1 / 2 3 3 4 0 0 7"
    "1 0 1 1 / 10 0 5 / 10 0 5 / 10 0 5 / 10 0 5"
    "                           0                        none                    1.000000                        none\n"
    -- a dead and a live pull and shear, all different, on that side
    ∷ sheet "4 1 1 1 12 0 / 0 1 1 10000 0 0 0 0 0 0 / 0 0 / 4 1 / 6 5 / 1 3 / 1 2 3 4 1 / 2 3 3 3 5 2 1"
    "1 0 2 3 / 22 0 7 / 22 0 7 / 22 0 7 / 22 0 7"
    "                           0                        none                    1.500000                        none\n"
    -- friction: at its strength, and one unit beyond it
    ∷ sheet "4 1 1 0 12 0 / 3 4 5 10 0 0 0 0 0 0 / 0 0 / 1 0 / 1 1 / 0 1 / 1 2 3 4 1"
    "1 0 1 0 / -10 -80 0 / -10 -80 0 / -10 -80 0 / -10 -80 0"
    "                           0                        none                    0.000000                        none\n"
    ∷ sheet "4 1 1 0 12 0 / 3 4 5 10 0 0 0 0 0 0 / 0 0 / 1 0 / 1 1 / 0 1 / 1 2 3 4 1"
    "1 0 1 0 / -10 -81 0 / -10 -81 0 / -10 -81 0 / -10 -81 0"
    "                          22                           1                        none                        none\n"
    -- an unfixed shear: the field may have any, and a multiplier on it is refused
    ∷ sheet "4 1 1 1 12 0 / 0 1 1 10 0 0 0 0 0 0 / 0 0 / 1 0 / 1 1 / 0 1 / 1 2 3 4 1 / 2 3 1 0 0 0 0"
    "1 0 1 0 / 0 0 3 / 0 0 3 / 0 0 3 / 0 0 3"
    "                           0                        none                    0.000000                        none\n"
    ∷ sheet "4 1 1 1 12 0 / 0 1 1 10 0 0 0 0 0 0 / 0 0 / 1 0 / 1 1 / 0 1 / 1 2 3 4 1 / 2 3 1 0 0 0 0"
    "0 1 0 0 / 0 0 / 0 1 0 0 / 0 0 0 0 0 0 0 0 0 0 0 0 / 0 0 0 0 0 0 0 0 0 0 0 0 / 0 0 0 0 0 0 0 0 0 0 0 0 / 0 0 0 0 0 0 0 0 0 0 0 0"
    "                          31                           4                        none                        none\n"
    -- two soils at a node, within the stronger one's strength, which is the first element's: 22, row 25, node 2 with
    -- the other
    ∷ sheet "6 2 2 0 12 0 / 0 1 1 10 0 0 0 0 0 0 / 0 1 1 5 0 0 0 0 0 0 / 0 0 / 1 0 / 1 1 / 0 1 / 2 0 / 2 1 / 1 2 3 4 1 / 2 5 6 3 2"
    "1 0 1 0 / 0 -20 0 / 0 -20 0 / 0 -20 0 / 0 -20 0 / 0 -10 0 / 0 -10 0"
    "                          22                          25                        none                        none\n"
    -- 20 sides: at the third corner, and beyond it
    ∷ sheet "4 1 1 0 20 0 / 0 1 1 25 0 0 0 0 0 0 / 0 0 / 1 0 / 1 1 / 0 1 / 1 2 3 4 1"
    "1 0 1 0 / 40 0 15 / 40 0 15 / 40 0 15 / 40 0 15"
    "                           0                        none                    0.000000                        none\n"
    ∷ sheet "4 1 1 0 20 0 / 0 1 1 25 0 0 0 0 0 0 / 0 0 / 1 0 / 1 1 / 0 1 / 1 2 3 4 1"
    "1 0 1 0 / 40 0 16 / 40 0 16 / 40 0 16 / 40 0 16"
    "                          22                           2                        none                        none\n"
    -- 36 sides: at the third corner, and beyond it
    ∷ sheet "4 1 1 0 36 0 / 0 1 1 65 0 0 0 0 0 0 / 0 0 / 1 0 / 1 1 / 0 1 / 1 2 3 4 1"
    "1 0 1 0 / 120 0 25 / 120 0 25 / 120 0 25 / 120 0 25"
    "                           0                        none                    0.000000                        none\n"
    ∷ sheet "4 1 1 0 36 0 / 0 1 1 65 0 0 0 0 0 0 / 0 0 / 1 0 / 1 1 / 0 1 / 1 2 3 4 1"
    "1 0 1 0 / 120 0 26 / 120 0 26 / 120 0 26 / 120 0 26"
    "                          22                           2                        none                        none\n"
    -- an element clockwise: 5, element 1
    ∷ sheet "4 1 1 0 12 0 / 0 1 1 10 0 0 0 0 0 0 / 0 0 / 1 0 / 1 1 / 0 1 / 1 4 3 2 1"
    ""
    "                           5                           1                        none                        none\n"
    -- 101 nodes: 2, line 1
    ∷ sheet "101 1 1 0 12 0"
    ""
    "                           2                           1                        none                        none\n"
    -- an element names a node that isn't there: 4, line 7
    ∷ sheet "4 1 1 0 12 0 / 0 1 1 10 0 0 0 0 0 0 / 0 0 / 1 0 / 1 1 / 0 1 / 1 2 3 5 1"
    ""
    "                           4                           7                        none                        none\n"
    -- a dart, whose fourth corner turns right: 5, element 1
    ∷ sheet "4 1 1 0 12 0 / 0 1 1 10 0 0 0 0 0 0 / 0 0 / 4 0 / 0 4 / 1 1 / 1 2 3 4 1"
    ""
    "                           5                           1                        none                        none\n"
    -- one element twice: 6, element 2; and a third one clockwise, which 5 finds first: element 3
    ∷ sheet "4 2 1 0 12 0 / 0 1 1 10 0 0 0 0 0 0 / 0 0 / 1 0 / 1 1 / 0 1 / 1 2 3 4 1 / 1 2 3 4 1"
    ""
    "                           6                           2                        none                        none\n"
    ∷ sheet "4 3 1 0 12 0 / 0 1 1 10 0 0 0 0 0 0 / 0 0 / 1 0 / 1 1 / 0 1 / 1 2 3 4 1 / 1 2 3 4 1 / 1 4 3 2 1"
    ""
    "                           5                           3                        none                        none\n"
    -- a fifth node in no element, beside an edge that is no side: 7, node 5
    ∷ sheet "5 1 1 1 12 0 / 0 1 1 10 0 0 0 0 0 0 / 0 0 / 1 0 / 1 1 / 0 1 / 2 2 / 1 2 3 4 1 / 3 2 3 0 0 0 0"
    ""
    "                           7                           5                        none                        none\n"
    -- one edge twice: 8, line 9
    ∷ sheet "4 1 1 2 12 0 / 0 1 1 10 0 0 0 0 0 0 / 0 0 / 1 0 / 1 1 / 0 1 / 1 2 3 4 1 / 3 4 3 0 0 0 0 / 3 4 3 0 0 0 0"
    ""
    "                           8                           9                        none                        none\n"
    -- a claim that breaks off in its third line: 11, line 3
    ∷ sheet unit_square
    "1 0 1 0 / 0 0 0 / 0"
    "                          11                           3                        none                        none\n"
    -- one number left over: 11, line 6
    ∷ sheet unit_square
    "1 0 1 0 / 0 0 0 / 0 0 0 / 0 0 0 / 0 0 0 / 0"
    "                          11                           6                        none                        none\n"
    -- n beyond its limit: 12, line 1
    ∷ sheet unit_square
    "1 0 100001 0"
    "                          12                           1                        none                        none\n"
    -- no field, and l not 0: 13, line 1
    ∷ sheet unit_square
    "0 1 0 5"
    "                          13                           1                        none                        none\n"
    -- all multipliers 0: 33, column 0
    ∷ sheet unit_square
    "0 1 0 0 / 0 0 / 0 0 0 0 0 0 0 0 0 0 0 0 / 0 0 0 0 0 0 0 0 0 0 0 0 / 0 0 0 0 0 0 0 0 0 0 0 0 / 0 0 0 0 0 0 0 0 0 0 0 0"
    "                          33                           0                        none                        none\n"
    -- stresses at their limit
    ∷ sheet unit_square
    "1 0 1 0 / 1000000000 1000000000 0 / 1000000000 1000000000 0 / 1000000000 1000000000 0 / 1000000000 1000000000 0"
    "                           0                        none                    0.000000                        none\n"
    -- the sheet's square as two triangles that repeat their third corners: accepted
    ∷ sheet "4 2 1 3 12 0 / 0 1 1 10 0 0 0 0 0 0 / 0 0 / 1 0 / 1 1 / 0 1 / 1 2 3 3 1 / 1 3 4 4 1 / 3 4 3 0 0 -1 0 / 2 3 3 0 0 0 0 / 4 1 3 0 0 0 0"
    "1 0 1 20 / 0 -20 0 / 0 -20 0 / 0 -20 0 / 0 -20 0"
    "                           0                        none                   20.000000                        none\n"
    -- four triangles that all repeat the node in their middle, each beside one and across from another: accepted
    ∷ sheet "5 4 1 4 12 0 / 0 1 1 10 0 0 0 0 0 0 / 0 0 / 2 0 / 2 2 / 0 2 / 1 1 / 1 2 5 5 1 / 2 3 5 5 1 / 3 4 5 5 1 / 4 1 5 5 1 / 3 4 3 0 0 -1 0 / 2 3 3 0 0 0 0 / 4 1 3 0 0 0 0 / 1 2 2 0 0 0 0"
    "1 0 1 20 / 0 -20 0 / 0 -20 0 / 0 -20 0 / 0 -20 0 / 0 -20 0"
    "                           0                        none                   20.000000                        none\n"
    -- a body force on a triangle with corners (0, 0), (3, 1) and (1, 2), linear stresses: D is 5, twice its area
    ∷ sheet "4 2 1 0 12 0 / 0 1 1 10000 2 3 5 7 0 0 / 0 0 / 3 1 / 1 2 / 0 3 / 1 2 3 3 1 / 1 3 4 4 1"
    "1 0 2 3 / 0 0 0 / -57 -27 0 / -19 -54 0 / 0 -81 0"
    "                           0                        none                    1.500000                        none\n"
    -- the first two nodes the same, and the second and the third: 5, element 1
    ∷ sheet "4 1 1 0 12 0 / 0 1 1 10 0 0 0 0 0 0 / 0 0 / 1 0 / 1 1 / 0 1 / 1 1 2 3 1"
    ""
    "                           5                           1                        none                        none\n"
    ∷ sheet "4 1 1 0 12 0 / 0 1 1 10 0 0 0 0 0 0 / 0 0 / 1 0 / 1 1 / 0 1 / 1 2 2 3 1"
    ""
    "                           5                           1                        none                        none\n"
    -- an edge from the repeated node to itself is on no side: 8, line 9
    ∷ sheet "4 2 1 1 12 0 / 0 1 1 10 0 0 0 0 0 0 / 0 0 / 1 0 / 1 1 / 0 1 / 1 2 3 3 1 / 1 3 4 4 1 / 3 3 3 0 0 0 0"
    ""
    "                           8                           9                        none                        none\n"
    -- two soils at a node: the fault, and the load of the clay with the multipliers of each pair, 0 open rows
    ∷ seam_fault
    ∷ sheet seam_mesh
    "1 1 1 20 / 0 0 0 / 0 -40 0 / 0 -20 0 / 0 -20 0 / 0 -20 0 / 0 -20 0 / 0 -20 0 / 0 -20 0 / 0 0 / 0 -30 / 15 -15 / 0 0 0 0 / 0 0 -3 2 / 0 -1 0 0 / -3 2 0 3 / 3 0 3 3 / 0 0 0 -7 / 0 0 0 0 / 0 0 0 0 / 0 0 0 0 0 0 0 0 0 0 0 0 / 0 0 0 0 0 0 0 0 0 0 0 0 / 0 0 0 0 0 0 0 0 0 0 0 0 / 10 0 0 0 0 0 0 0 0 0 0 0 / 0 0 0 0 0 0 0 0 0 0 0 0 / 10 0 0 0 0 0 0 0 0 0 0 0 / 0 0 0 0 0 0 0 0 0 0 0 0 / 10 0 0 0 0 0 0 0 0 0 0 0 / 0 0 0 0 0 0 0 0 0 0 0 0 / 10 0 0 0 0 0 0 0 0 0 0 0 / 0 0 0 0 0 0 0 0 0 0 0 0 / 0 0 0 0 0 0 0 0 0 0 0 0"
    "                           0                           0                   20.000000                   20.000000\n"
    -- two blocks on a joint: 40 carried and allowed; the same blocks with shared nodes carry nothing; pressed with 20
    -- from the left and 19 from the right: 21 at row 29, the first of the jump's four
    ∷ joint_blocks
    ∷ sheet "6 2 1 6 12 0 / 0 1 1 10 0 0 0 0 0 0 / 0 0 / 10 0 / 20 0 / 0 10 / 10 10 / 20 10 / 1 2 5 4 1 / 2 3 6 5 1 / 1 2 2 0 0 0 0 / 5 4 3 0 0 -1 0 / 4 1 2 0 0 0 0 / 2 3 2 0 0 0 0 / 3 6 2 0 0 0 0 / 6 5 3 0 0 0 0"
    "1 1 1 0 / 0 0 0 / 0 0 0 / 0 0 0 / -20 0 0 / -20 0 0 / -20 0 0 / 0 0 / 0 0 / 0 0 0 0 / 1 0 0 0 / 0 0 0 0 / 0 0 0 0 / 0 0 0 0 / 0 0 -1 0 / 0 0 0 0 0 0 0 0 0 0 0 0 / 0 0 0 0 0 0 0 0 0 0 0 0 / 0 0 0 0 0 0 0 0 0 0 0 0 / 0 0 0 0 0 0 0 0 0 0 0 0 / 0 0 0 0 0 0 0 0 0 0 0 0 / 0 0 0 0 0 0 0 0 0 0 0 0"
    "                           0                           0                    0.000000                    0.000000\n"
    ∷ sheet joint_mesh
    "1 0 1 40 / -20 -40 0 / -20 -40 0 / -19 0 0 / -19 0 0 / -20 -40 0 / -20 -40 0 / -19 0 0 / -19 0 0"
    "                          21                          29                        none                        none\n"
    -- the jump's facing nodes in the other order: 44, line 19; a jump that names a node that isn't there: 4, line 19
    ∷ sheet "8 2 1 6 12 1 / 0 1 1 10 0 0 0 0 0 0 / 0 0 / 10 0 / 10 0 / 20 0 / 0 10 / 10 10 / 10 10 / 20 10 / 1 2 6 5 1 / 3 4 8 7 1 / 1 2 2 0 0 0 0 / 6 5 3 0 0 -1 0 / 5 1 2 0 0 0 0 / 3 4 2 0 0 0 0 / 4 8 2 0 0 0 0 / 8 7 3 0 0 0 0 / 2 6 7 3"
    ""
    "                          44                          19                        none                        none\n"
    ∷ sheet "8 2 1 6 12 1 / 0 1 1 10 0 0 0 0 0 0 / 0 0 / 10 0 / 10 0 / 20 0 / 0 10 / 10 10 / 10 10 / 20 10 / 1 2 6 5 1 / 3 4 8 7 1 / 1 2 2 0 0 0 0 / 6 5 3 0 0 -1 0 / 5 1 2 0 0 0 0 / 3 4 2 0 0 0 0 / 4 8 2 0 0 0 0 / 8 7 3 0 0 0 0 / 2 6 3 9"
    ""
    "                           4                          19                        none                        none\n"
    -- two bars that cross: 47, element 2
    ∷ sheet "8 2 1 0 12 0 / 0 1 1 10 0 0 0 0 0 0 / 0 2 / 6 2 / 6 4 / 0 4 / 2 0 / 4 0 / 4 6 / 2 6 / 1 2 3 4 1 / 5 6 7 8 1"
    ""
    "                          47                           2                        none                        none\n"
    -- a square on its corner and a bar that it touches, in both orders: only a side of the bar parts them, and they
    -- pass
    ∷ sheet "8 2 1 0 12 0 / 0 1 1 10 0 0 0 0 0 0 / 2 0 / 4 2 / 2 4 / 0 2 / 4 0 / 6 0 / 6 4 / 4 4 / 1 2 3 4 1 / 5 6 7 8 1"
    ""
    "                          11                           1                        none                        none\n"
    ∷ sheet "8 2 1 0 12 0 / 0 1 1 10 0 0 0 0 0 0 / 2 0 / 4 2 / 2 4 / 0 2 / 4 0 / 6 0 / 6 4 / 4 4 / 5 6 7 8 1 / 1 2 3 4 1"
    ""
    "                          11                           1                        none                        none\n"
    -- document 01's header, of five columns: 1, line 1
    ∷ record {
      mesh = bytes "           4           1           1           3          12\n";
      table = [];
      claim = [];
      line = bytes "                           1                           1                        none                        none\n";
    }
    ∷ []

-- ---- with a borehole table (document 02, N8)

-- document 01's sheet with soil 0, and its claim
unfoldable pub soil_zero_mesh : String
soil_zero_mesh = "4 1 1 3 12 0 / 0 1 1 10 0 0 0 0 0 0 / 0 0 / 1 0 / 1 1 / 0 1 / 1 2 3 4 0 / 3 4 3 0 0 -1 0 / 2 3 3 0 0 0 0 / 4 1 3 0 0 0 0"

unfoldable pub worked_claim : String
worked_claim = "1 1 1 20 / 0 -20 0 / 0 -20 0 / 0 -20 0 / 0 -20 0 / 0 0 / 30 0 0 0 / 0 0 -30 0 / 0 0 0 0 / 0 0 0 0 0 0 0 0 0 0 0 0 / 0 0 0 0 0 0 0 0 0 0 0 0 / 1 0 0 0 0 0 0 0 0 0 0 1 / 0 0 0 0 0 0 0 0 0 0 0 0"

-- the seam of clay with soil 0 throughout, and with the clay's element by its own soil
unfoldable pub seam_zero : String
seam_zero = "8 3 2 8 12 0 / 0 1 1 30 0 0 0 0 0 0 / 0 1 1 10 0 0 0 0 0 0 / 0 0 / 10 0 / 0 10 / 10 10 / 0 20 / 10 20 / 0 30 / 10 30 / 1 2 4 3 0 / 5 6 8 7 0 / 3 4 6 5 0 / 1 2 2 0 0 0 0 / 2 4 3 0 0 0 0 / 3 1 2 0 0 0 0 / 6 8 3 0 0 0 0 / 8 7 3 0 0 -1 0 / 7 5 2 0 0 0 0 / 4 6 3 0 0 0 0 / 5 3 2 0 0 0 0"

unfoldable pub seam_mixed : String
seam_mixed = "8 3 2 8 12 0 / 0 1 1 30 0 0 0 0 0 0 / 0 1 1 10 0 0 0 0 0 0 / 0 0 / 10 0 / 0 10 / 10 10 / 0 20 / 10 20 / 0 30 / 10 30 / 1 2 4 3 0 / 5 6 8 7 0 / 3 4 6 5 2 / 1 2 2 0 0 0 0 / 2 4 3 0 0 0 0 / 3 1 2 0 0 0 0 / 6 8 3 0 0 0 0 / 8 7 3 0 0 -1 0 / 7 5 2 0 0 0 0 / 4 6 3 0 0 0 0 / 5 3 2 0 0 0 0"

unfoldable pub seam_claim : String
seam_claim = "1 0 1 60 / 0 -60 0 / 0 -60 0 / 0 -60 0 / 0 -60 0 / 0 -60 0 / 0 -60 0 / 0 -60 0 / 0 -60 0"

unfoldable pub tabled_sheets : List Sheet
tabled_sheets =
    -- `0 2 1` gives the sheet's soil
    sheet_with soil_zero_mesh
    "0 2 1"
    worked_claim
    "                           0                           0                   20.000000                   20.000000\n"
    -- `0 1 1`: the highest node's height, four quarters, is in no layer: 45
    ∷ sheet_with soil_zero_mesh
    "0 1 1"
    worked_claim
    "                          45                           4                        none                        none\n"
    -- a table is judged where no element has soil 0: two layers share a height, 46 with the later line
    ∷ sheet_with worked_mesh
    "0 2 1 / 1 3 1"
    worked_claim
    "                          46                        1002                        none                        none\n"
    -- soil 0 without a table: 4, line 7; soil 0 in the table: 4, line 1,001
    ∷ sheet soil_zero_mesh
    worked_claim
    "                           4                           7                        none                        none\n"
    ∷ sheet_with soil_zero_mesh
    "0 2 0"
    worked_claim
    "                           4                        1001                        none                        none\n"
    -- a second line that is not whole: 1, line 1,002
    ∷ sheet_with soil_zero_mesh
    "0 2 1 / 2"
    worked_claim
    "                           1                        1002                        none                        none\n"
    -- three layers, in no order: the seam's fault, and the same with the clay's element by its own soil and a table of
    -- fill alone
    ∷ sheet_with seam_zero
    "20 31 1 / 0 10 1 / 10 20 2"
    seam_claim
    "                          22                          37                        none                        none\n"
    ∷ sheet_with seam_mixed
    "0 31 1"
    seam_claim
    "                          22                          37                        none                        none\n"
    -- nodes from 5 to 6 high: what is below 5 needs no layer, and 24 quarters do
    ∷ sheet_with "4 1 1 0 12 0 / 0 1 1 10 0 0 0 0 0 0 / 2 5 / 3 5 / 3 6 / 2 6 / 1 2 3 4 0"
    "5 7 1"
    "1 0 1 0 / 0 0 0 / 0 0 0 / 0 0 0 / 0 0 0"
    "                           0                        none                    0.000000                        none\n"
    ∷ sheet_with "4 1 1 0 12 0 / 0 1 1 10 0 0 0 0 0 0 / 2 5 / 3 5 / 3 6 / 2 6 / 1 2 3 4 0"
    "5 6 1"
    ""
    "                          45                          24                        none                        none\n"
    -- corners 0, 0, 2 and 1 high: three quarters, in the lower layer, whose soil holds; 0, 0, 3 and 2: five, in the
    -- upper one, whose soil does not: 22, row 1; and a triangle of 0, 1 and twice 2: five too
    ∷ sheet_with "4 1 2 0 12 0 / 0 1 1 10 0 0 0 0 0 0 / 0 1 1 5 0 0 0 0 0 0 / 0 0 / 2 0 / 2 2 / 0 1 / 1 2 3 4 0"
    "0 1 1 / 1 4 2"
    "1 0 1 0 / 0 -15 0 / 0 -15 0 / 0 -15 0 / 0 -15 0"
    "                           0                        none                    0.000000                        none\n"
    ∷ sheet_with "4 1 2 0 12 0 / 0 1 1 10 0 0 0 0 0 0 / 0 1 1 5 0 0 0 0 0 0 / 0 0 / 2 0 / 2 3 / 0 2 / 1 2 3 4 0"
    "0 1 1 / 1 4 2"
    "1 0 1 0 / 0 -15 0 / 0 -15 0 / 0 -15 0 / 0 -15 0"
    "                          22                           1                        none                        none\n"
    ∷ sheet_with "4 2 2 0 12 0 / 0 1 1 10 0 0 0 0 0 0 / 0 1 1 5 0 0 0 0 0 0 / 0 0 / 2 1 / 0 2 / 2 3 / 1 2 3 3 0 / 2 4 3 3 0"
    "0 1 1 / 1 4 2"
    "1 0 1 0 / 0 -15 0 / 0 -15 0 / 0 -15 0 / 0 -15 0"
    "                          22                           1                        none                        none\n"
    -- the lowest bottom and the highest top
    ∷ sheet_with "4 1 1 0 12 0 / 0 1 1 10 0 0 0 0 0 0 / 2 5 / 3 5 / 3 6 / 2 6 / 1 2 3 4 0"
    "-1000 2000 1"
    "1 0 1 0 / 0 0 0 / 0 0 0 / 0 0 0 / 0 0 0"
    "                           0                        none                    0.000000                        none\n"
    ∷ []

-- ---- other decimals (document 02, N5)

-- document 01's sheet under a live pressure of 30: 2/3
unfoldable pub two_thirds_mesh : String
two_thirds_mesh = "4 1 1 3 12 0 / 0 1 1 10 0 0 0 0 0 0 / 0 0 / 1 0 / 1 1 / 0 1 / 1 2 3 4 1 / 3 4 3 0 0 -30 0 / 2 3 3 0 0 0 0 / 4 1 3 0 0 0 0"

unfoldable pub two_thirds_claim : String
two_thirds_claim =
    "1 1 3 2 / 0 -60 0 / 0 -60 0 / 0 -60 0 / 0 -60 0 / 0 0 / 30 0 0 0 / 0 0 -30 0 / 0 0 0 0 / 0 0 0 0 0 0 0 0 0 0 0 0 / 0 0 0 0 0 0 0 0 0 0 0 0 / 1 0 0 0 0 0 0 0 0 0 0 1 / 0 0 0 0 0 0 0 0 0 0 0 0"

-- each with its number of decimals
unfoldable pub with_decimals : List (ℤ × Sheet)
with_decimals =
    -- -1/3: lower to -1 and upper to 0, which has no minus; no point at 0 decimals
    (
      pos 0,
      sheet pull_mesh pull_claim
          "                           0                           0                          -1                           0\n",
    )
    ∷ (
      pos 3,
      sheet pull_mesh pull_claim
          "                           0                           0                      -0.334                      -0.333\n",
    )
    ∷ (
      pos 7,
      sheet pull_mesh pull_claim
          "                           0                           0                  -0.3333334                  -0.3333333\n",
    )
    -- 2/3
    ∷ (
      pos 0,
      sheet two_thirds_mesh two_thirds_claim
          "                           0                           0                           0                           1\n",
    )
    ∷ (
      pos 3,
      sheet two_thirds_mesh two_thirds_claim
          "                           0                           0                       0.666                       0.667\n",
    )
    ∷ (
      pos 7,
      sheet two_thirds_mesh two_thirds_claim
          "                           0                           0                   0.6666666                   0.6666667\n",
    )
    -- the widest load that we have of an accepted claim, with loads and multipliers at their limits: m is 1, and W is
    -- 8·10,000 times 26,356, the cross products around the polygon, times 2·1,000·10,000 for strength, and 8·100,000
    -- times 999²·10,000 for the dead shear; the small square, at a corner of the large one, makes m
    ∷ (
      pos 7,
      sheet "8 2 1 6 36 0 / 0 1000 1000 10000 0 0 0 0 0 0 / 0 0 / 999 0 / 999 999 / 0 999 / 999 999 / 1000 999 / 1000 1000 / 999 1000 / 1 2 3 4 1 / 5 6 7 8 1 / 1 2 3 0 10000 0 0 / 2 3 3 0 10000 0 0 / 3 4 3 0 10000 0 0 / 4 1 3 0 10000 0 0 / 5 6 3 0 0 0 0 / 6 7 3 0 0 0 -1"
          "0 1 0 0 / 0 0 / 0 0 / 0 100000 0 100000 / 0 100000 0 100000 / 0 100000 0 100000 / 0 100000 0 100000 / 0 0 0 1 / 0 1 0 0 / 10000 10000 10000 10000 10000 10000 10000 10000 10000 10000 10000 10000 10000 10000 10000 10000 10000 10000 10000 10000 10000 10000 10000 10000 10000 10000 10000 10000 10000 10000 10000 10000 10000 10000 10000 10000 / 10000 10000 10000 10000 10000 10000 10000 10000 10000 10000 10000 10000 10000 10000 10000 10000 10000 10000 10000 10000 10000 10000 10000 10000 10000 10000 10000 10000 10000 10000 10000 10000 10000 10000 10000 10000 / 10000 10000 10000 10000 10000 10000 10000 10000 10000 10000 10000 10000 10000 10000 10000 10000 10000 10000 10000 10000 10000 10000 10000 10000 10000 10000 10000 10000 10000 10000 10000 10000 10000 10000 10000 10000 / 10000 10000 10000 10000 10000 10000 10000 10000 10000 10000 10000 10000 10000 10000 10000 10000 10000 10000 10000 10000 10000 10000 10000 10000 10000 10000 10000 10000 10000 10000 10000 10000 10000 10000 10000 10000 / 10000 10000 10000 10000 10000 10000 10000 10000 10000 10000 10000 10000 10000 10000 10000 10000 10000 10000 10000 10000 10000 10000 10000 10000 10000 10000 10000 10000 10000 10000 10000 10000 10000 10000 10000 10000 / 10000 10000 10000 10000 10000 10000 10000 10000 10000 10000 10000 10000 10000 10000 10000 10000 10000 10000 10000 10000 10000 10000 10000 10000 10000 10000 10000 10000 10000 10000 10000 10000 10000 10000 10000 10000 / 10000 10000 10000 10000 10000 10000 10000 10000 10000 10000 10000 10000 10000 10000 10000 10000 10000 10000 10000 10000 10000 10000 10000 10000 10000 10000 10000 10000 10000 10000 10000 10000 10000 10000 10000 10000 / 10000 10000 10000 10000 10000 10000 10000 10000 10000 10000 10000 10000 10000 10000 10000 10000 10000 10000 10000 10000 10000 10000 10000 10000 10000 10000 10000 10000 10000 10000 10000 10000 10000 10000 10000 10000"
          "                           0                        none                        none   50153608000000000.0000000\n",
    )
    ∷ []
