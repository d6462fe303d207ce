-- The promises about strength by direction (document 02, N14) at sheets with bedded clay, used and not; those without
-- are in `PromisesApplied`.
use mathlib.Core.Path.{◌≡◌, refl}
use mathlib.Core.Logic.{inl, inr}
use mathlib.Core.List.Memᴰ
use mathlib.Core.List.{List, []}
use mathlib.Core.Option.{some}
use Prim.Native.Nat.{ℕ, ◌<◌}
use native.Mathlib.Omega.{arith}
use lib.IntN.{ℤ, pos}
use lib.ListN.{take}
use Rattle.integer.specs.Fraction.{◌≈ᶠ◌}
use Rattle.scope.specs.Columns.{n}
use Rattle.scope.specs.Claim.{stress}
use Rattle.scope.specs.Mesh.{elements, element_soil, corner, ByDirection, ListsDirection}
use Rattle.scope.specs.Polygon.{point}
use Rattle.scope.specs.Statements.{HasField, HasMultipliers}
use Rattle.scope.specs.AcceptedField.{MeetsCriterion}
use Rattle.scope.specs.Planes.{PlaneHoldsAt}
use Rattle.scope.specs.Parts.{carried, allowed}
use Rattle.report.specs.Text.{word, number as shows, said}
use Rattle.report.specs.Report.{report_bytes}
use Rattle.report.specs.Says.{column_of}
use Rattle.pechuvo.specs.SheetsBeds.{bedded_block, bedded_unused}
use Rattle.pechuvo.specs.Answers.{Answers, AnswersOn}
use Rattle.pechuvo.specs.Promises.{mesh_in, claim_in, OnMesh, OpenRowsPrinted}
use Rattle.pechuvo.proofs.Promises.{on_mesh, prints_columns, prints_open_rows}
use Rattle.pechuvo.proofs.PromisesApplied.{opened, room, fits, plain}

-- ---- bedded clay: no lower load, though the field carries what is allowed

abbrev bedded : List ℤ
bedded = mesh_in bedded_block.mesh

abbrev claimed : List ℤ
claimed = claim_in bedded bedded_block.claim

bedded_answered : Answers bedded_block.mesh [] bedded_block.claim (pos 6) room 0 0 bedded_block.line
unfolding opened bedded_block
bedded_answered = record { number_is = refl; place_is = refl; buffer_is = refl }

bedded_plain : AnswersOn bedded bedded_block.claim (pos 6) room 0 0 bedded_block.line
bedded_plain = plain bedded_block.mesh bedded_block.claim bedded_answered

bedded_there : ListsDirection bedded × HasField claimed × HasMultipliers claimed
unfolding opened bedded_block
bedded_there = ((0, omega arith, refl), refl, refl)

pub bedded_none : said (column_of 2 (take report_bytes bedded_block.line)) ≡ some word
bedded_none = (prints_columns bedded bedded_block.claim (pos 6) room 0 0 bedded_block.line bedded_plain
    fits).lower_none.1 (inr (inr bedded_there.0))

bedded_open : OpenRowsPrinted bedded claimed (take report_bytes bedded_block.line)
bedded_open = prints_open_rows bedded bedded_block.claim (pos 6) room 0 0 bedded_block.line bedded_plain fits refl
    bedded_there.1 bedded_there.2

no_row_open : said (column_of 1 (take report_bytes bedded_block.line)) ≡ some (shows (pos 0) 0)
unfolding opened bedded_block
no_row_open = refl

pub bedded_closed : carried claimed ≈ᶠ allowed bedded claimed
bedded_closed = bedded_open.closed.0 (let a = bedded_open.reads in let b = no_row_open in cc)

bedded_call : OnMesh bedded claimed 0 0
bedded_call = on_mesh bedded bedded_block.claim (pos 6) room 0 0 bedded_block.line bedded_plain fits

-- the plane (4, 3) at node 1
pub bedded_plane : PlaneHoldsAt bedded (stress bedded claimed) (n claimed) (record { at = 0; soil = 0 })
    (point (pos 4) (pos 3))
unfolding opened bedded_block
bedded_plane =
    bedded_call.directions.accepted (bedded_there.1, inl refl) (record { at = 0; soil = 0 }) (Memᴰ.head refl) refl
    (point (pos 4) (pos 3))
    (Memᴰ.tail (Memᴰ.head refl))

-- ---- document 01's sheet with a bedded soil that no element has: none too, and its pairs still meet the criterion

abbrev unused : List ℤ
unused = mesh_in bedded_unused.mesh

unused_answered : Answers bedded_unused.mesh [] bedded_unused.claim (pos 6) room 0 0 bedded_unused.line
unfolding opened bedded_unused
unused_answered = record { number_is = refl; place_is = refl; buffer_is = refl }

unused_plain : AnswersOn unused bedded_unused.claim (pos 6) room 0 0 bedded_unused.line
unused_plain = plain bedded_unused.mesh bedded_unused.claim unused_answered

unused_there : ListsDirection unused × HasField (claim_in unused bedded_unused.claim)
    × (0 < elements unused) × (corner unused 0 2 ≡ 2) × (¬ ByDirection unused (element_soil unused 0))
unfolding opened bedded_unused
unused_there = ((1, omega arith, refl), refl, omega arith, refl, λ e. let z : ◌≡◌ {A = ℕ} 0 1 = cc in omega arith)

pub unused_none : said (column_of 2 (take report_bytes bedded_unused.line)) ≡ some word
unused_none = (prints_columns unused bedded_unused.claim (pos 6) room 0 0 bedded_unused.line unused_plain
    fits).lower_none.1 (inr (inr unused_there.0))

pub unused_criterion : MeetsCriterion unused (claim_in unused bedded_unused.claim)
    (record { at = 2; soil = element_soil unused 0 })
unused_criterion =
    ((on_mesh unused bedded_unused.claim (pos 6) room 0 0 bedded_unused.line unused_plain fits).criterion
    (unused_there.1, inl refl)).around 2 0 unused_there.2
    (2, omega arith, unused_there.3) unused_there.4
