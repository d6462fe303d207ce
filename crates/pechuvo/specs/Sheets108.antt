-- Sheets with 108 sides (document 02, N9), each beside one that the same limit lets pass or that has fewer sides.
use Rattle.std.specs.Prelude.{List, [], ◌∷◌}
use Rattle.pechuvo.specs.Sheets.{Sheet, sheet}

-- 41 nodes: 2, line 1
unfoldable pub many_nodes : Sheet
many_nodes =
    sheet "41 1 1 0 108 0"
    ""
    "                           2                           1                        none                        none\n"

unfoldable pub sheets_108 : List Sheet
sheets_108 =
    -- at the third corner, and beyond it: 22, row 2
    sheet "4 1 1 0 108 0 / 0 1 1 1105 0 0 0 0 0 0 / 0 0 / 1 0 / 1 1 / 0 1 / 1 2 3 4 1"
    "1 0 1 0 / 2200 0 105 / 2200 0 105 / 2200 0 105 / 2200 0 105"
    "                           0                        none                    0.000000                        none\n"
    ∷ sheet "4 1 1 0 108 0 / 0 1 1 1105 0 0 0 0 0 0 / 0 0 / 1 0 / 1 1 / 0 1 / 1 2 3 4 1"
    "1 0 1 0 / 2200 0 106 / 2200 0 106 / 2200 0 106 / 2200 0 106"
    "                          22                           2                        none                        none\n"
    -- 41 nodes; with 40, and with 36 sides, the next line is missed
    ∷ many_nodes
    ∷ sheet "40 1 1 0 108 0"
    ""
    "                           1                           2                        none                        none\n"
    ∷ sheet "41 1 1 0 36 0"
    ""
    "                           1                           2                        none                        none\n"
    -- a strength multiplier of 301: 12, line 3; with 300 the next line is missed
    ∷ sheet "4 1 1 0 108 0 / 0 1 1 10 0 0 0 0 0 0 / 0 0 / 1 0 / 1 1 / 0 1 / 1 2 3 4 1"
    "0 1 0 0 / 0 0 / 301 0 0 0 0 0 0 0 0 0 0 0 0 0 0 0 0 0 0 0 0 0 0 0 0 0 0 0 0 0 0 0 0 0 0 0 0 0 0 0 0 0 0 0 0 0 0 0 0 0 0 0 0 0 0 0 0 0 0 0 0 0 0 0 0 0 0 0 0 0 0 0 0 0 0 0 0 0 0 0 0 0 0 0 0 0 0 0 0 0 0 0 0 0 0 0 0 0 0 0 0 0 0 0 0 0 0 0"
    "                          12                           3                        none                        none\n"
    ∷ sheet "4 1 1 0 108 0 / 0 1 1 10 0 0 0 0 0 0 / 0 0 / 1 0 / 1 1 / 0 1 / 1 2 3 4 1"
    "0 1 0 0 / 0 0 / 300 0 0 0 0 0 0 0 0 0 0 0 0 0 0 0 0 0 0 0 0 0 0 0 0 0 0 0 0 0 0 0 0 0 0 0 0 0 0 0 0 0 0 0 0 0 0 0 0 0 0 0 0 0 0 0 0 0 0 0 0 0 0 0 0 0 0 0 0 0 0 0 0 0 0 0 0 0 0 0 0 0 0 0 0 0 0 0 0 0 0 0 0 0 0 0 0 0 0 0 0 0 0 0 0 0 0 0"
    "                          11                           4                        none                        none\n"
    -- a strip of elements whose soils alternate, 44 pairs: node 22 brings the 41st; with 36 sides the claim is missed
    ∷ sheet "24 11 2 0 108 0 / 0 1 1 10 0 0 0 0 0 0 / 0 1 1 5 0 0 0 0 0 0 / 0 0 / 0 1 / 1 0 / 1 1 / 2 0 / 2 1 / 3 0 / 3 1 / 4 0 / 4 1 / 5 0 / 5 1 / 6 0 / 6 1 / 7 0 / 7 1 / 8 0 / 8 1 / 9 0 / 9 1 / 10 0 / 10 1 / 11 0 / 11 1 / 1 3 4 2 1 / 3 5 6 4 2 / 5 7 8 6 1 / 7 9 10 8 2 / 9 11 12 10 1 / 11 13 14 12 2 / 13 15 16 14 1 / 15 17 18 16 2 / 17 19 20 18 1 / 19 21 22 20 2 / 21 23 24 22 1"
    ""
    "                          42                          22                        none                        none\n"
    ∷ sheet "24 11 2 0 36 0 / 0 1 1 10 0 0 0 0 0 0 / 0 1 1 5 0 0 0 0 0 0 / 0 0 / 0 1 / 1 0 / 1 1 / 2 0 / 2 1 / 3 0 / 3 1 / 4 0 / 4 1 / 5 0 / 5 1 / 6 0 / 6 1 / 7 0 / 7 1 / 8 0 / 8 1 / 9 0 / 9 1 / 10 0 / 10 1 / 11 0 / 11 1 / 1 3 4 2 1 / 3 5 6 4 2 / 5 7 8 6 1 / 7 9 10 8 2 / 9 11 12 10 1 / 11 13 14 12 2 / 13 15 16 14 1 / 15 17 18 16 2 / 17 19 20 18 1 / 19 21 22 20 2 / 21 23 24 22 1"
    ""
    "                          11                           1                        none                        none\n"
    ∷ []
