-- The promise about the places of 21, 31 and 32 (`RowsRefused`) at sheets as bytes: antt computes the number and the
-- place, and the promise says that this row or column fails and none below it.
use mathlib.Core.Path.{refl}
use mathlib.Core.List.{[]}
use lib.IntN.{pos}
use lib.ListN.{get_or}
use Rattle.scope.specs.RefusedRows.{Lowest, None, EqualityFails}
use Rattle.scope.specs.RefusedColumns.{UnfixedWeighed, ColumnFails}
use Rattle.pechuvo.specs.Sheets.{Sheet, sheet, noticing}
use Rattle.pechuvo.specs.Answers.{Answers}
use Rattle.pechuvo.specs.Promises.{mesh_in, claim_in}
use Rattle.pechuvo.proofs.Promises.{on_mesh}
use Rattle.pechuvo.proofs.PromisesApplied as A
use Rattle.pechuvo.proofs.PromisesApplied.{room, fits, plain, refused_answered, row_3-answered}

-- l 20, sy -21: 21, row 3; no row before it fails
pub row_3_lowest : Lowest (EqualityFails (mesh_in (A.at 3).mesh) (claim_in (mesh_in (A.at 3).mesh) (A.at 3).claim)) 3
row_3_lowest = (on_mesh (mesh_in (A.at 3).mesh) (A.at 3).claim (pos 6) room 21 3 (A.at 3).line
    (plain (A.at 3).mesh (A.at 3).claim row_3-answered) fits).rows.equality refl

-- the -30 as -29: 32, column 7; no column before it fails, and no unfixed row is weighed
pub column_7 : None (UnfixedWeighed (mesh_in (A.at 4).mesh) (claim_in (mesh_in (A.at 4).mesh) (A.at 4).claim))
    × Lowest (ColumnFails (mesh_in (A.at 4).mesh) (claim_in (mesh_in (A.at 4).mesh) (A.at 4).claim)) 7
column_7 = (on_mesh (mesh_in (A.at 4).mesh) (A.at 4).claim (pos 6) room 32 7 (A.at 4).line
    (plain (A.at 4).mesh (A.at 4).claim refused_answered) fits).rows.column refl

-- a multiplier on an unfixed shear: 31, row 4
abbrev free : Sheet
free = get_or noticing 6 (sheet "" "" "")

free_answered : Answers free.mesh [] free.claim (pos 6) room 31 4 free.line
unfolding A.opened noticing
free_answered = record { number_is = refl; place_is = refl; buffer_is = refl }

pub unfixed_4 : Lowest (UnfixedWeighed (mesh_in free.mesh) (claim_in (mesh_in free.mesh) free.claim)) 4
unfixed_4 = (on_mesh (mesh_in free.mesh) free.claim (pos 6) room 31 4 free.line
    (plain free.mesh free.claim free_answered) fits).rows.unfixed refl
