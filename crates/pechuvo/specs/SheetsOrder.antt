-- Sheets with two faults each, and the line of the one that comes first in the order of document 02's refusals.
use Rattle.std.specs.Prelude.{List, [], ◌∷◌}
use Rattle.pechuvo.specs.Sheets.{Sheet, sheet, sheet_with}

unfoldable pub order_sheets : List Sheet
order_sheets =
    -- a node in no element, and two elements on each other: 7; these and an edge that is no side: 47; an edge that is
    -- no side and a jump that is no joint: 8
    sheet "9 2 1 0 12 0 / 0 1 1 10 0 0 0 0 0 0 / 0 2 / 6 2 / 6 4 / 0 4 / 2 0 / 4 0 / 4 6 / 2 6 / 9 9 / 1 2 3 4 1 / 5 6 7 8 1"
    ""
    "                           7                           9                        none                        none\n"
    ∷ sheet "8 2 1 1 12 0 / 0 1 1 10 0 0 0 0 0 0 / 0 2 / 6 2 / 6 4 / 0 4 / 2 0 / 4 0 / 4 6 / 2 6 / 1 2 3 4 1 / 5 6 7 8 1 / 2 1 3 0 0 0 0"
    ""
    "                          47                           2                        none                        none\n"
    ∷ sheet "8 2 1 1 12 1 / 0 1 1 10 0 0 0 0 0 0 / 0 0 / 1 0 / 1 1 / 0 1 / 1 0 / 2 0 / 2 1 / 1 1 / 1 2 3 4 1 / 5 6 7 8 1 / 3 2 3 0 0 0 0 / 3 2 5 8"
    ""
    "                           8                          13                        none                        none\n"
    -- 44 pairs with 108 sides, and a jump that is no joint: 44; and an edge that is no side: 8
    ∷ sheet "24 11 2 0 108 1 / 0 1 1 10 0 0 0 0 0 0 / 0 1 1 5 0 0 0 0 0 0 / 0 0 / 0 1 / 1 0 / 1 1 / 2 0 / 2 1 / 3 0 / 3 1 / 4 0 / 4 1 / 5 0 / 5 1 / 6 0 / 6 1 / 7 0 / 7 1 / 8 0 / 8 1 / 9 0 / 9 1 / 10 0 / 10 1 / 11 0 / 11 1 / 1 3 4 2 1 / 3 5 6 4 2 / 5 7 8 6 1 / 7 9 10 8 2 / 9 11 12 10 1 / 11 13 14 12 2 / 13 15 16 14 1 / 15 17 18 16 2 / 17 19 20 18 1 / 19 21 22 20 2 / 21 23 24 22 1 / 1 3 1 3"
    ""
    "                          44                          39                        none                        none\n"
    ∷ sheet "24 11 2 1 108 0 / 0 1 1 10 0 0 0 0 0 0 / 0 1 1 5 0 0 0 0 0 0 / 0 0 / 0 1 / 1 0 / 1 1 / 2 0 / 2 1 / 3 0 / 3 1 / 4 0 / 4 1 / 5 0 / 5 1 / 6 0 / 6 1 / 7 0 / 7 1 / 8 0 / 8 1 / 9 0 / 9 1 / 10 0 / 10 1 / 11 0 / 11 1 / 1 3 4 2 1 / 3 5 6 4 2 / 5 7 8 6 1 / 7 9 10 8 2 / 9 11 12 10 1 / 11 13 14 12 2 / 13 15 16 14 1 / 15 17 18 16 2 / 17 19 20 18 1 / 19 21 22 20 2 / 21 23 24 22 1 / 3 1 3 0 0 0 0"
    ""
    "                           8                          39                        none                        none\n"
    -- a soil that is no right angle, and a table that breaks off: 3; a table that ends too low, and an element
    -- clockwise: 45
    ∷ sheet_with "4 1 1 0 12 0 / 3 4 6 10 0 0 0 0 0 0 / 0 0 / 1 0 / 1 1 / 0 1 / 1 2 3 4 1"
    "0 2"
    ""
    "                           3                           2                        none                        none\n"
    ∷ sheet_with "4 1 1 0 12 0 / 0 1 1 10 0 0 0 0 0 0 / 0 0 / 1 0 / 1 1 / 0 1 / 1 4 3 2 1"
    "0 1 1"
    ""
    "                          45                           4                        none                        none\n"
    -- a layer of soil 0 after one without height: 4; two layers that share their heights and end too low: 46
    ∷ sheet_with "4 1 1 0 12 0 / 0 1 1 10 0 0 0 0 0 0 / 0 0 / 1 0 / 1 1 / 0 1 / 1 2 3 4 1"
    "5 5 1 / 0 2 0"
    ""
    "                           4                        1002                        none                        none\n"
    ∷ sheet_with "4 1 1 0 12 0 / 0 1 1 10 0 0 0 0 0 0 / 0 0 / 1 0 / 1 1 / 0 1 / 1 2 3 4 1"
    "0 1 1 / 0 1 1"
    ""
    "                          46                        1002                        none                        none\n"
    ∷ []
