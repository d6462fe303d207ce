-- Sheets with ground that is stronger one way (document 02, N14), each with the line that is printed.
use Rattle.std.specs.Prelude.{List, [], ◌∷◌}
use Rattle.pechuvo.specs.Sheets.{Sheet, sheet}

-- a block between smooth plates with ch = cv = 10: of the planes that 12 sides give, those with the normals (4, 3) and
-- (3, 4) have 24/25 of the greatest shear stress, so 2·10·25/24 is allowed and carried; no lower load is told
unfoldable pub bedded_block : Sheet
bedded_block =
    sheet "4 1 1 4 12 0 / 0 1 1 10 0 0 0 0 1 10 / 0 0 / 10 0 / 0 10 / 10 10 / 1 2 4 3 1 / 1 2 2 0 0 0 0 / 2 4 3 0 0 0 0 / 4 3 3 0 0 -1 0 / 3 1 2 0 0 0 0"
    "1 1 6 125 / 0 -125 0 / 0 -125 0 / 0 -125 0 / 0 -125 0 / 120 -120 / 0 -7 0 -31 / -24 0 -12 0 / 12 0 24 17 / 0 0 0 0 / 0 0 0 100 0 0 0 0 0 0 0 0 / 0 0 0 100 0 0 0 0 0 0 0 0 / 0 0 0 100 0 0 0 0 0 0 0 0 / 0 0 0 0 0 0 0 0 0 0 0 0"
    "                           0                           0                        none                   20.833334\n"

-- cv = ch/2: the plane with the normal (4, 3) has the cohesion 10 - 5·16/25 = 6.8, so 2·6.8·25/24
unfoldable pub bedded_half : Sheet
bedded_half =
    sheet "4 1 1 4 12 0 / 0 1 1 10 0 0 0 0 1 5 / 0 0 / 10 0 / 0 10 / 10 10 / 1 2 4 3 1 / 1 2 2 0 0 0 0 / 2 4 3 0 0 0 0 / 4 3 3 0 0 -1 0 / 3 1 2 0 0 0 0"
    "1 1 6 85 / 0 -85 0 / 0 -85 0 / 0 -85 0 / 0 -85 0 / 120 -120 / 0 -7 0 -31 / -24 0 -12 0 / 12 0 24 17 / 0 0 0 0 / 0 0 0 100 0 0 0 0 0 0 0 0 / 0 0 0 100 0 0 0 0 0 0 0 0 / 0 0 0 100 0 0 0 0 0 0 0 0 / 0 0 0 0 0 0 0 0 0 0 0 0"
    "                           0                           0                        none                   14.166667\n"

-- document 01's sheet with a bedded soil that no element has: "used or not", the lower load is none
unfoldable pub bedded_unused : Sheet
bedded_unused =
    sheet "4 1 2 3 12 0 / 0 1 1 10 0 0 0 0 0 0 / 0 1 1 10 0 0 0 0 1 5 / 0 0 / 1 0 / 1 1 / 0 1 / 1 2 3 4 1 / 3 4 3 0 0 -1 0 / 2 3 3 0 0 0 0 / 4 1 3 0 0 0 0"
    "1 1 1 20 / 0 -20 0 / 0 -20 0 / 0 -20 0 / 0 -20 0 / 0 0 / 30 0 0 0 / 0 0 -30 0 / 0 0 0 0 / 0 0 0 0 0 0 0 0 0 0 0 0 / 0 0 0 0 0 0 0 0 0 0 0 0 / 1 0 0 0 0 0 0 0 0 0 0 1 / 0 0 0 0 0 0 0 0 0 0 0 0"
    "                           0                           0                        none                   20.000000\n"

unfoldable pub bedded_sheets : List Sheet
bedded_sheets =
    bedded_block
    ∷ bedded_half
    ∷ bedded_unused
    -- one sixth more than the half's block carries: 22, row 4, pN - qT of the plane (4, 3) at node 1
    ∷ sheet "4 1 1 4 12 0 / 0 1 1 10 0 0 0 0 1 5 / 0 0 / 10 0 / 0 10 / 10 10 / 1 2 4 3 1 / 1 2 2 0 0 0 0 / 2 4 3 0 0 0 0 / 4 3 3 0 0 -1 0 / 3 1 2 0 0 0 0"
    "1 0 6 86 / 0 -86 0 / 0 -86 0 / 0 -86 0 / 0 -86 0"
    "                          22                           4                        none                        none\n"
    -- kind 0: its cv is read by nothing
    ∷ sheet "4 1 1 3 12 0 / 0 1 1 10 0 0 0 0 0 5 / 0 0 / 1 0 / 1 1 / 0 1 / 1 2 3 4 1 / 3 4 3 0 0 -1 0 / 2 3 3 0 0 0 0 / 4 1 3 0 0 0 0"
    "1 1 1 20 / 0 -20 0 / 0 -20 0 / 0 -20 0 / 0 -20 0 / 0 0 / 30 0 0 0 / 0 0 -30 0 / 0 0 0 0 / 0 0 0 0 0 0 0 0 0 0 0 0 / 0 0 0 0 0 0 0 0 0 0 0 0 / 1 0 0 0 0 0 0 0 0 0 0 1 / 0 0 0 0 0 0 0 0 0 0 0 0"
    "                           0                           0                   20.000000                   20.000000\n"
    -- kind 2, and cv beyond 10,000: 2, line 2
    ∷ sheet "4 1 1 3 12 0 / 0 1 1 10 0 0 0 0 2 0 / 0 0 / 1 0 / 1 1 / 0 1 / 1 2 3 4 1 / 3 4 3 0 0 -1 0 / 2 3 3 0 0 0 0 / 4 1 3 0 0 0 0"
    ""
    "                           2                           2                        none                        none\n"
    ∷ sheet "4 1 1 3 12 0 / 0 1 1 10 0 0 0 0 0 10001 / 0 0 / 1 0 / 1 1 / 0 1 / 1 2 3 4 1 / 3 4 3 0 0 -1 0 / 2 3 3 0 0 0 0 / 4 1 3 0 0 0 0"
    ""
    "                           2                           2                        none                        none\n"
    -- kind 1 with 108 sides: 2 with the soil's line, before 3; with 36 sides 3 comes
    ∷ sheet "4 1 1 3 108 0 / 3 4 6 10 0 0 0 0 1 0 / 0 0 / 1 0 / 1 1 / 0 1 / 1 2 3 4 1 / 3 4 3 0 0 -1 0 / 2 3 3 0 0 0 0 / 4 1 3 0 0 0 0"
    ""
    "                           2                           2                        none                        none\n"
    ∷ sheet "4 1 1 3 36 0 / 3 4 6 10 0 0 0 0 1 0 / 0 0 / 1 0 / 1 1 / 0 1 / 1 2 3 4 1 / 3 4 3 0 0 -1 0 / 2 3 3 0 0 0 0 / 4 1 3 0 0 0 0"
    ""
    "                           3                           2                        none                        none\n"
    -- friction and shear: at the strength of pN - qT on the plane (4, 3), and beyond it: 22, row 4; of pN + qT on (3,
    -- 4), and beyond it: row 5; of pN + qT on (-4, 3), and beyond it: row 11
    ∷ sheet "4 1 1 0 12 0 / 3 4 5 10 0 0 0 0 1 5 / 0 0 / 1 0 / 1 1 / 0 1 / 1 2 3 4 1"
    "1 0 1 0 / 4 -12 1 / 4 -12 1 / 4 -12 1 / 4 -12 1"
    "                           0                        none                        none                        none\n"
    ∷ sheet "4 1 1 0 12 0 / 3 4 5 10 0 0 0 0 1 5 / 0 0 / 1 0 / 1 1 / 0 1 / 1 2 3 4 1"
    "1 0 1 0 / 4 -12 2 / 4 -12 2 / 4 -12 2 / 4 -12 2"
    "                          22                           4                        none                        none\n"
    ∷ sheet "4 1 1 0 12 0 / 3 4 5 10 0 0 0 0 1 5 / 0 0 / 1 0 / 1 1 / 0 1 / 1 2 3 4 1"
    "1 0 1 0 / -12 5 2 / -12 5 2 / -12 5 2 / -12 5 2"
    "                           0                        none                        none                        none\n"
    ∷ sheet "4 1 1 0 12 0 / 3 4 5 10 0 0 0 0 1 5 / 0 0 / 1 0 / 1 1 / 0 1 / 1 2 3 4 1"
    "1 0 1 0 / -12 5 3 / -12 5 3 / -12 5 3 / -12 5 3"
    "                          22                           5                        none                        none\n"
    ∷ sheet "4 1 1 0 12 0 / 3 4 5 10 0 0 0 0 1 5 / 0 0 / 1 0 / 1 1 / 0 1 / 1 2 3 4 1"
    "1 0 1 0 / 4 -12 -1 / 4 -12 -1 / 4 -12 -1 / 4 -12 -1"
    "                           0                        none                        none                        none\n"
    ∷ sheet "4 1 1 0 12 0 / 3 4 5 10 0 0 0 0 1 5 / 0 0 / 1 0 / 1 1 / 0 1 / 1 2 3 4 1"
    "1 0 1 0 / 4 -12 -2 / 4 -12 -2 / 4 -12 -2 / 4 -12 -2"
    "                          22                          11                        none                        none\n"
    -- the second soil alone is bedded: within the strength of both, and beyond the beds' at node 2: 22, row 28 of the
    -- third pair
    ∷ sheet "6 2 2 0 12 0 / 0 1 1 10 0 0 0 0 0 0 / 0 1 1 10 0 0 0 0 1 5 / 0 0 / 1 0 / 1 1 / 0 1 / 2 0 / 2 1 / 1 2 3 4 1 / 2 5 6 3 2"
    "1 0 1 0 / 0 -14 0 / 0 -14 0 / 0 -14 0 / 0 -14 0 / 0 -14 0 / 0 -14 0"
    "                           0                        none                        none                        none\n"
    ∷ sheet "6 2 2 0 12 0 / 0 1 1 10 0 0 0 0 0 0 / 0 1 1 10 0 0 0 0 1 5 / 0 0 / 1 0 / 1 1 / 0 1 / 2 0 / 2 1 / 1 2 3 4 1 / 2 5 6 3 2"
    "1 0 1 0 / 0 -15 0 / 0 -15 0 / 0 -15 0 / 0 -15 0 / 0 -15 0 / 0 -15 0"
    "                          22                          28                        none                        none\n"
    ∷ []
