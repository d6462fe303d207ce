-- Sheets at limits that document 02's requests brought, and one beyond each.
use Rattle.std.specs.Prelude.{List, [], ◌∷◌, ℕ, ℤ, pos, negsuc, replicate}
use Prim.Native.String.{String}
use Rattle.report.specs.Report.{report_bytes}
use Rattle.pechuvo.specs.Sheets.{Sheet, sheet, sheet_with}

unfoldable pub limit_sheets : List Sheet
limit_sheets =
    -- 61 jumps: 2, line 1; with 60 the next line is missed
    sheet "4 1 1 0 12 61"
    ""
    "                           2                           1                        none                        none\n"
    ∷ sheet "4 1 1 0 12 60"
    ""
    "                           1                           2                        none                        none\n"
    -- a jump's multiplier of 100,001, and of -100,001: 12, line 4; with -100,000 the next line is missed
    ∷ sheet "8 2 1 0 12 1 / 0 1 1 10 0 0 0 0 0 0 / 0 0 / 1 0 / 1 1 / 0 1 / 1 0 / 2 0 / 2 1 / 1 1 / 1 2 3 4 1 / 5 6 7 8 1 / 2 3 5 8"
    "0 1 0 0 / 0 0 / 0 0 / 0 0 100001 0"
    "                          12                           4                        none                        none\n"
    ∷ sheet "8 2 1 0 12 1 / 0 1 1 10 0 0 0 0 0 0 / 0 0 / 1 0 / 1 1 / 0 1 / 1 0 / 2 0 / 2 1 / 1 1 / 1 2 3 4 1 / 5 6 7 8 1 / 2 3 5 8"
    "0 1 0 0 / 0 0 / 0 0 / 0 0 0 -100001"
    "                          12                           4                        none                        none\n"
    ∷ sheet "8 2 1 0 12 1 / 0 1 1 10 0 0 0 0 0 0 / 0 0 / 1 0 / 1 1 / 0 1 / 1 0 / 2 0 / 2 1 / 1 1 / 1 2 3 4 1 / 5 6 7 8 1 / 2 3 5 8"
    "0 1 0 0 / 0 0 / 0 0 / 100000 0 0 -100000"
    "                          11                           5                        none                        none\n"
    -- a table of 33 lines: 1, line 1,033; 32 lines are read, and share their heights: 46
    ∷ sheet_with "4 1 1 0 12 0 / 0 1 1 10 0 0 0 0 0 0 / 0 0 / 1 0 / 1 1 / 0 1 / 1 2 3 4 1"
    "0 2 1 / 0 2 1 / 0 2 1 / 0 2 1 / 0 2 1 / 0 2 1 / 0 2 1 / 0 2 1 / 0 2 1 / 0 2 1 / 0 2 1 / 0 2 1 / 0 2 1 / 0 2 1 / 0 2 1 / 0 2 1 / 0 2 1 / 0 2 1 / 0 2 1 / 0 2 1 / 0 2 1 / 0 2 1 / 0 2 1 / 0 2 1 / 0 2 1 / 0 2 1 / 0 2 1 / 0 2 1 / 0 2 1 / 0 2 1 / 0 2 1 / 0 2 1 / 0 2 1"
    ""
    "                           1                        1033                        none                        none\n"
    ∷ sheet_with "4 1 1 0 12 0 / 0 1 1 10 0 0 0 0 0 0 / 0 0 / 1 0 / 1 1 / 0 1 / 1 2 3 4 1"
    "0 2 1 / 0 2 1 / 0 2 1 / 0 2 1 / 0 2 1 / 0 2 1 / 0 2 1 / 0 2 1 / 0 2 1 / 0 2 1 / 0 2 1 / 0 2 1 / 0 2 1 / 0 2 1 / 0 2 1 / 0 2 1 / 0 2 1 / 0 2 1 / 0 2 1 / 0 2 1 / 0 2 1 / 0 2 1 / 0 2 1 / 0 2 1 / 0 2 1 / 0 2 1 / 0 2 1 / 0 2 1 / 0 2 1 / 0 2 1 / 0 2 1 / 0 2 1"
    ""
    "                          46                        1002                        none                        none\n"
    ∷ []

-- -1 and 8 decimals: 43 and a buffer as it was
unfoldable pub other_decimals : List (ℤ × Sheet)
other_decimals =
    (negsuc 0, record { mesh = []; table = []; claim = []; line = replicate report_bytes 0 })
    ∷ (pos 8, record { mesh = []; table = []; claim = []; line = replicate report_bytes 0 })
    ∷ []

-- the same 33 lines as numbers that are handed over
unfoldable pub table_of_33 : String
table_of_33 = "0 2 1 / 0 2 1 / 0 2 1 / 0 2 1 / 0 2 1 / 0 2 1 / 0 2 1 / 0 2 1 / 0 2 1 / 0 2 1 / 0 2 1 / 0 2 1 / 0 2 1 / 0 2 1 / 0 2 1 / 0 2 1 / 0 2 1 / 0 2 1 / 0 2 1 / 0 2 1 / 0 2 1 / 0 2 1 / 0 2 1 / 0 2 1 / 0 2 1 / 0 2 1 / 0 2 1 / 0 2 1 / 0 2 1 / 0 2 1 / 0 2 1 / 0 2 1 / 0 2 1"

unfoldable pub mesh_of_33 : String
mesh_of_33 = "4 1 1 0 12 0 / 0 1 1 10 0 0 0 0 0 0 / 0 0 / 1 0 / 1 1 / 0 1 / 1 2 3 4 1"

-- 8 and -1 decimals, with room for a report and without
unfoldable pub asked_for : List (ℤ × ℕ)
asked_for = (pos 8, 113) ∷ (pos 8, 112) ∷ (negsuc 0, 113) ∷ (negsuc 0, 112) ∷ []

-- quadrilaterals of two soils in turn with a triangle at the end, whose tip brings the 101st pair, and with 108 sides
-- the 41st: 42, with that node
unfoldable pub pair_sheets : List Sheet
pair_sheets =
    sheet "53 26 2 0 12 0 / 0 1 1 10 0 0 0 0 0 0 / 0 1 1 5 0 0 0 0 0 0 / 0 0 / 0 1 / 1 0 / 1 1 / 2 0 / 2 1 / 3 0 / 3 1 / 4 0 / 4 1 / 5 0 / 5 1 / 6 0 / 6 1 / 7 0 / 7 1 / 8 0 / 8 1 / 9 0 / 9 1 / 10 0 / 10 1 / 11 0 / 11 1 / 12 0 / 12 1 / 13 0 / 13 1 / 14 0 / 14 1 / 15 0 / 15 1 / 16 0 / 16 1 / 17 0 / 17 1 / 18 0 / 18 1 / 19 0 / 19 1 / 20 0 / 20 1 / 21 0 / 21 1 / 22 0 / 22 1 / 23 0 / 23 1 / 24 0 / 24 1 / 25 0 / 25 1 / 26 0 / 1 3 4 2 1 / 3 5 6 4 2 / 5 7 8 6 1 / 7 9 10 8 2 / 9 11 12 10 1 / 11 13 14 12 2 / 13 15 16 14 1 / 15 17 18 16 2 / 17 19 20 18 1 / 19 21 22 20 2 / 21 23 24 22 1 / 23 25 26 24 2 / 25 27 28 26 1 / 27 29 30 28 2 / 29 31 32 30 1 / 31 33 34 32 2 / 33 35 36 34 1 / 35 37 38 36 2 / 37 39 40 38 1 / 39 41 42 40 2 / 41 43 44 42 1 / 43 45 46 44 2 / 45 47 48 46 1 / 47 49 50 48 2 / 49 51 52 50 1 / 51 53 52 52 1"
    ""
    "                          42                          53                        none                        none\n"
    ∷ sheet "23 11 2 0 108 0 / 0 1 1 10 0 0 0 0 0 0 / 0 1 1 5 0 0 0 0 0 0 / 0 0 / 0 1 / 1 0 / 1 1 / 2 0 / 2 1 / 3 0 / 3 1 / 4 0 / 4 1 / 5 0 / 5 1 / 6 0 / 6 1 / 7 0 / 7 1 / 8 0 / 8 1 / 9 0 / 9 1 / 10 0 / 10 1 / 11 0 / 1 3 4 2 1 / 3 5 6 4 2 / 5 7 8 6 1 / 7 9 10 8 2 / 9 11 12 10 1 / 11 13 14 12 2 / 13 15 16 14 1 / 15 17 18 16 2 / 17 19 20 18 1 / 19 21 22 20 2 / 21 23 22 22 2"
    ""
    "                          42                          23                        none                        none\n"
    ∷ []

-- clay in the first element and fill in the second: nodes 3 and 4 have soil 1 before soil 2
unfoldable pub clay_first : String
clay_first = "6 2 2 0 12 0 / 0 1 1 10 0 0 0 0 0 0 / 0 1 1 5 0 0 0 0 0 0 / 0 0 / 1 0 / 1 1 / 0 1 / 1 2 / 0 2 / 1 2 3 4 2 / 4 3 5 6 1"
