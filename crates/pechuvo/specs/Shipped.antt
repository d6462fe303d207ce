-- The files of sheets/ that document 01 stars, those that show the fault of document 02, N2, those of two blocks on a
-- joint (N6) and three with bedded clay (N14), byte for byte, so that they can be compared with what the definition of
-- a written file gives. tests/sheets compares these bytes with the files.
use Rattle.std.specs.Prelude.{List, [], ◌∷◌, ◌++◌, ℕ, take, drop}
use Rattle.pechuvo.specs.Bytes.{bytes}
use Rattle.pechuvo.specs.Sheets.{Sheet, starred, seam_fault, joint_blocks}
use Rattle.pechuvo.specs.SheetsBeds.{bedded_block, bedded_half, bedded_unused}

-- the starred sheets that ship as files, the first five and 1/3; the fault; the joint; and the bedded ones
unfoldable pub as_files : List Sheet
as_files = take 5 starred ++ take 1 (drop 7 starred)
    ++ (seam_fault ∷ joint_blocks ∷ bedded_block ∷ bedded_half ∷ bedded_unused ∷ [])

-- mesh and claim of each
unfoldable pub shipped : List (List ℕ × List ℕ)
shipped =
    -- worked
    (bytes "           4           1           1           3          12           0\n           0           1           1          10           0           0           0           0           0           0\n           0           0\n           1           0\n           1           1\n           0           1\n           1           2           3           4           1\n           3           4           3           0           0          -1           0\n           2           3           3           0           0           0           0\n           4           1           3           0           0           0           0\n", bytes "           1           1           1          20\n           0         -20           0\n           0         -20           0\n           0         -20           0\n           0         -20           0\n           0           0\n          30           0           0           0\n           0           0         -30           0\n           0           0           0           0\n           0           0           0           0           0           0           0           0           0           0           0           0\n           0           0           0           0           0           0           0           0           0           0           0           0\n           1           0           0           0           0           0           0           0           0           0           0           1\n           0           0           0           0           0           0           0           0           0           0           0           0\n")
    -- worked_below
    ∷ (bytes "           4           1           1           3          12           0\n           0           1           1          10           0           0           0           0           0           0\n           0           0\n           1           0\n           1           1\n           0           1\n           1           2           3           4           1\n           3           4           3           0           0          -1           0\n           2           3           3           0           0           0           0\n           4           1           3           0           0           0           0\n", bytes "           1           1           1          19\n           0         -19           0\n           0         -19           0\n           0         -19           0\n           0         -19           0\n           0           0\n          30           0           0           0\n           0           0         -30           0\n           0           0           0           0\n           0           0           0           0           0           0           0           0           0           0           0           0\n           0           0           0           0           0           0           0           0           0           0           0           0\n           1           0           0           0           0           0           0           0           0           0           0           1\n           0           0           0           0           0           0           0           0           0           0           0           0\n")
    -- worked_above
    ∷ (bytes "           4           1           1           3          12           0\n           0           1           1          10           0           0           0           0           0           0\n           0           0\n           1           0\n           1           1\n           0           1\n           1           2           3           4           1\n           3           4           3           0           0          -1           0\n           2           3           3           0           0           0           0\n           4           1           3           0           0           0           0\n", bytes "           1           1           1          21\n           0         -21           0\n           0         -21           0\n           0         -21           0\n           0         -21           0\n           0           0\n          30           0           0           0\n           0           0         -30           0\n           0           0           0           0\n           0           0           0           0           0           0           0           0           0           0           0           0\n           0           0           0           0           0           0           0           0           0           0           0           0\n           1           0           0           0           0           0           0           0           0           0           0           1\n           0           0           0           0           0           0           0           0           0           0           0           0\n")
    -- worked_unbalanced
    ∷ (bytes "           4           1           1           3          12           0\n           0           1           1          10           0           0           0           0           0           0\n           0           0\n           1           0\n           1           1\n           0           1\n           1           2           3           4           1\n           3           4           3           0           0          -1           0\n           2           3           3           0           0           0           0\n           4           1           3           0           0           0           0\n", bytes "           1           1           1          20\n           0         -21           0\n           0         -21           0\n           0         -21           0\n           0         -21           0\n           0           0\n          30           0           0           0\n           0           0         -30           0\n           0           0           0           0\n           0           0           0           0           0           0           0           0           0           0           0           0\n           0           0           0           0           0           0           0           0           0           0           0           0\n           1           0           0           0           0           0           0           0           0           0           0           1\n           0           0           0           0           0           0           0           0           0           0           0           0\n")
    -- worked_column
    ∷ (bytes "           4           1           1           3          12           0\n           0           1           1          10           0           0           0           0           0           0\n           0           0\n           1           0\n           1           1\n           0           1\n           1           2           3           4           1\n           3           4           3           0           0          -1           0\n           2           3           3           0           0           0           0\n           4           1           3           0           0           0           0\n", bytes "           1           1           1          20\n           0         -20           0\n           0         -20           0\n           0         -20           0\n           0         -20           0\n           0           0\n          30           0           0           0\n           0           0         -29           0\n           0           0           0           0\n           0           0           0           0           0           0           0           0           0           0           0           0\n           0           0           0           0           0           0           0           0           0           0           0           0\n           1           0           0           0           0           0           0           0           0           0           0           1\n           0           0           0           0           0           0           0           0           0           0           0           0\n")
    -- third
    ∷ (bytes "           4           1           1           3          12           0\n           0           1           1          10           0           0           0           0           0           0\n           0           0\n           1           0\n           1           1\n           0           1\n           1           2           3           4           1\n           3           4           3           0           0         -60           0\n           2           3           3           0           0           0           0\n           4           1           3           0           0           0           0\n", bytes "           1           1           3           1\n           0         -60           0\n           0         -60           0\n           0         -60           0\n           0         -60           0\n           0           0\n          30           0           0           0\n           0           0         -30           0\n           0           0           0           0\n           0           0           0           0           0           0           0           0           0           0           0           0\n           0           0           0           0           0           0           0           0           0           0           0           0\n           1           0           0           0           0           0           0           0           0           0           0           1\n           0           0           0           0           0           0           0           0           0           0           0           0\n")
    -- seam_fault
    ∷ (bytes "           8           3           2           8          12           0\n           0           1           1          30           0           0           0           0           0           0\n           0           1           1          10           0           0           0           0           0           0\n           0           0\n          10           0\n           0          10\n          10          10\n           0          20\n          10          20\n           0          30\n          10          30\n           1           2           4           3           1\n           5           6           8           7           1\n           3           4           6           5           2\n           1           2           2           0           0           0           0\n           2           4           3           0           0           0           0\n           3           1           2           0           0           0           0\n           6           8           3           0           0           0           0\n           8           7           3           0           0          -1           0\n           7           5           2           0           0           0           0\n           4           6           3           0           0           0           0\n           5           3           2           0           0           0           0\n", bytes "           1           0           1          60\n           0         -60           0\n           0         -60           0\n           0         -60           0\n           0         -60           0\n           0         -60           0\n           0         -60           0\n           0         -60           0\n           0         -60           0\n")
    -- joint_blocks
    ∷ (bytes "           8           2           1           6          12           1\n           0           1           1          10           0           0           0           0           0           0\n           0           0\n          10           0\n          10           0\n          20           0\n           0          10\n          10          10\n          10          10\n          20          10\n           1           2           6           5           1\n           3           4           8           7           1\n           1           2           2           0           0           0           0\n           6           5           3           0           0          -1           0\n           5           1           2           0           0           0           0\n           3           4           2           0           0           0           0\n           4           8           2           0           0           0           0\n           8           7           3           0           0           0           0\n           2           6           3           7\n", bytes "           1           1           1          40\n         -20         -40           0\n         -20         -40           0\n         -20           0           0\n         -20           0           0\n         -20         -40           0\n         -20         -40           0\n         -20           0           0\n         -20           0           0\n          30         -30\n          30          30\n           0           2           0          -4\n           3           0           6           8\n           0           0           0           0\n           0          -4           0           2\n           0           0           0          -8\n          -6           0          -3           0\n          -6           0          -3           0\n          20           0           0           0           0           0           0           0           0           0           0           0\n          20           0           0           0           0           0           0           0           0           0           0           0\n           0           0           0           0           0          20           0           0           0           0           0           0\n           0           0           0           0           0          20           0           0           0           0           0           0\n          20           0           0           0           0           0           0           0           0           0           0           0\n           0           0           0           0           0           0           0           0           0           0           0           0\n           0           0           0           0           0           0           0           0           0           0           0           0\n           0           0           0           0           0          20           0           0           0           0           0           0\n")
    -- bedded_block
    ∷ (bytes "           4           1           1           4          12           0\n           0           1           1          10           0           0           0           0           1          10\n           0           0\n          10           0\n           0          10\n          10          10\n           1           2           4           3           1\n           1           2           2           0           0           0           0\n           2           4           3           0           0           0           0\n           4           3           3           0           0          -1           0\n           3           1           2           0           0           0           0\n", bytes "           1           1           6         125\n           0        -125           0\n           0        -125           0\n           0        -125           0\n           0        -125           0\n         120        -120\n           0          -7           0         -31\n         -24           0         -12           0\n          12           0          24          17\n           0           0           0           0\n           0           0           0         100           0           0           0           0           0           0           0           0\n           0           0           0         100           0           0           0           0           0           0           0           0\n           0           0           0         100           0           0           0           0           0           0           0           0\n           0           0           0           0           0           0           0           0           0           0           0           0\n")
    -- bedded_block_half
    ∷ (bytes "           4           1           1           4          12           0\n           0           1           1          10           0           0           0           0           1           5\n           0           0\n          10           0\n           0          10\n          10          10\n           1           2           4           3           1\n           1           2           2           0           0           0           0\n           2           4           3           0           0           0           0\n           4           3           3           0           0          -1           0\n           3           1           2           0           0           0           0\n", bytes "           1           1           6          85\n           0         -85           0\n           0         -85           0\n           0         -85           0\n           0         -85           0\n         120        -120\n           0          -7           0         -31\n         -24           0         -12           0\n          12           0          24          17\n           0           0           0           0\n           0           0           0         100           0           0           0           0           0           0           0           0\n           0           0           0         100           0           0           0           0           0           0           0           0\n           0           0           0         100           0           0           0           0           0           0           0           0\n           0           0           0           0           0           0           0           0           0           0           0           0\n")
    -- bedded_unused
    ∷ (bytes "           4           1           2           3          12           0\n           0           1           1          10           0           0           0           0           0           0\n           0           1           1          10           0           0           0           0           1           5\n           0           0\n           1           0\n           1           1\n           0           1\n           1           2           3           4           1\n           3           4           3           0           0          -1           0\n           2           3           3           0           0           0           0\n           4           1           3           0           0           0           0\n", bytes "           1           1           1          20\n           0         -20           0\n           0         -20           0\n           0         -20           0\n           0         -20           0\n           0           0\n          30           0           0           0\n           0           0         -30           0\n           0           0           0           0\n           0           0           0           0           0           0           0           0           0           0           0           0\n           0           0           0           0           0           0           0           0           0           0           0           0\n           1           0           0           0           0           0           0           0           0           0           0           1\n           0           0           0           0           0           0           0           0           0           0           0           0\n")
    ∷ []
