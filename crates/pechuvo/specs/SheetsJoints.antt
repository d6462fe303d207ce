-- Sheets with joints (document 02, N6), beside those in Sheets, whose joints are upright: what may jump on a sloping
-- one, and which sides make no joint.
use Rattle.std.specs.Prelude.{List, [], ◌∷◌}
use Rattle.pechuvo.specs.Sheets.{Sheet, sheet}

unfoldable pub joint_sheets : List Sheet
joint_sheets =
    -- a sloping joint, of step (1, 2): a stress along it, (1, 4, 2), jumps freely; what changes the shear on it alone
    -- does not:
    -- 21, row 6; nor what changes the normal stress alone: 21, row 5
    sheet "8 2 1 0 12 1 / 0 1 1 10000 0 0 0 0 0 0 / 0 0 / 1 0 / 2 2 / 0 2 / 1 0 / 4 0 / 4 2 / 2 2 / 1 2 3 4 1 / 5 6 7 8 1 / 2 3 5 8"
    "1 0 1 0 / 10 20 3 / 10 20 3 / 10 20 3 / 10 20 3 / 11 24 5 / 11 24 5 / 11 24 5 / 11 24 5"
    "                           0                        none                    0.000000                        none\n"
    ∷ sheet "8 2 1 0 12 1 / 0 1 1 10000 0 0 0 0 0 0 / 0 0 / 1 0 / 2 2 / 0 2 / 1 0 / 4 0 / 4 2 / 2 2 / 1 2 3 4 1 / 5 6 7 8 1 / 2 3 5 8"
    "1 0 1 0 / 10 20 3 / 10 20 3 / 10 20 3 / 10 20 3 / 11 20 4 / 11 20 4 / 11 20 4 / 11 20 4"
    "                          21                           6                        none                        none\n"
    ∷ sheet "8 2 1 0 12 1 / 0 1 1 10000 0 0 0 0 0 0 / 0 0 / 1 0 / 2 2 / 0 2 / 1 0 / 4 0 / 4 2 / 2 2 / 1 2 3 4 1 / 5 6 7 8 1 / 2 3 5 8"
    "1 0 1 0 / 10 20 3 / 10 20 3 / 10 20 3 / 10 20 3 / 13 20 1 / 13 20 1 / 13 20 1 / 13 20 1"
    "                          21                           5                        none                        none\n"
    -- coordinates that differ: y at both ends, at from, at to: 44
    ∷ sheet "8 2 1 0 12 1 / 0 1 1 10 0 0 0 0 0 0 / 0 0 / 1 0 / 1 1 / 0 1 / 1 1 / 2 1 / 2 2 / 1 2 / 1 2 3 4 1 / 5 6 7 8 1 / 2 3 5 8"
    ""
    "                          44                          13                        none                        none\n"
    ∷ sheet "8 2 1 0 12 1 / 0 1 1 10 0 0 0 0 0 0 / 0 1 / 1 1 / 1 2 / 0 2 / 1 0 / 2 0 / 2 2 / 1 2 / 1 2 3 4 1 / 5 6 7 8 1 / 2 3 5 8"
    ""
    "                          44                          13                        none                        none\n"
    ∷ sheet "8 2 1 0 12 1 / 0 1 1 10 0 0 0 0 0 0 / 0 0 / 1 0 / 1 1 / 0 1 / 1 0 / 2 0 / 2 2 / 1 2 / 1 2 3 4 1 / 5 6 7 8 1 / 2 3 5 8"
    ""
    "                          44                          13                        none                        none\n"
    -- a side between two elements: an edge on it gets 8, and a jump, though its ends agree, 44
    ∷ sheet "6 2 1 1 12 0 / 0 1 1 10 0 0 0 0 0 0 / 0 0 / 1 0 / 1 1 / 0 1 / 2 0 / 2 1 / 1 2 3 4 1 / 2 5 6 3 1 / 2 3 3 0 0 0 0"
    ""
    "                           8                          11                        none                        none\n"
    ∷ sheet "6 2 1 0 12 1 / 0 1 1 10 0 0 0 0 0 0 / 0 0 / 1 0 / 1 1 / 0 1 / 2 0 / 2 1 / 1 2 3 4 1 / 2 5 6 3 1 / 2 3 2 3"
    ""
    "                          44                          11                        none                        none\n"
    ∷ []
