-- What is answered (document 01, 'Verdict and report'): the number and the place of each case of each enum. (Loads and
-- open rows have theirs where they are printed, `report/specs/Report.antt`.)
use Rattle.std.specs.Prelude.{cond, ◌||◌, ℕ, eqb, Result, Ok, Err, Option, None, Some}
use Rattle.scope.specs.declared.Place.{Place}
use Rattle.scope.specs.declared.Place.TheVariants.{Line, Row, Column, Node, Element, Height}
use Rattle.scope.specs.declared.Reason.{Reason}
use Rattle.scope.specs.declared.Reason.TheVariants.{MeshForm, MeshLimit, RightAngle, Name, LeftTurn, OwnSide}
use Rattle.scope.specs.declared.Reason.TheVariants.{NoElement, Edge, ClaimForm, ClaimLimit, Parts, Equality, Strength}
use Rattle.scope.specs.declared.Reason.TheVariants.{Unfixed, Live, Pairs, Joint, Gap, Layer, Overlap}
use Rattle.scope.specs.declared.Reason.TheVariants as R
use Rattle.scope.specs.declared.Refusal.{Refusal}
use Rattle.scope.specs.declared.Load.{Load}
use Rattle.scope.specs.declared.Accepted.{Accepted}
use Rattle.scope.specs.Cases.Outcome.{Outcome, Passed, Refused as Fails}
use Rattle.scope.specs.Cases.Load as L
use Rattle.scope.specs.Cases.OpenRows.{OpenRows, Absent as NoCount, Count}
use Rattle.scope.specs.Cases.Verdict.{Verdict}
use Rattle.scope.specs.Cases.Verdict as V

-- "A place is a line, a row, a column, a node or an element", and from document 02, N8, a height in quarters: the
-- number that is printed and returned for it
abbrev pub place_number : Place → ℕ
place_number (Line k) = k
place_number (Row k) = k
place_number (Column k) = k
place_number (Node k) = k
place_number (Element k) = k
place_number (Height k) = k

-- the table's "What is returned", "1, line" to "33, column 0", and document 02's 42, "with the node", 44, "with the
-- line", 46, "with the first line", 45, "with the lowest such height", and 47, "with the higher element": what the
-- place j of a refusal with the number k is
unfoldable pub place_for : ℕ → ℕ → Place
place_for k j =
    cond (eqb k 5 || eqb k 6 || eqb k 47) (Element j)
    (cond (eqb k 7 || eqb k 42) (Node j)
    (cond (eqb k 21 || eqb k 22 || eqb k 31) (Row j)
    (cond (eqb k 32 || eqb k 33) (Column j)
    (cond (eqb k 45) (Height j)
    (Line j)))))

-- the numbers of that table, and document 02's, of what the code calls by a reason
abbrev pub reason_number : Reason → ℕ
reason_number MeshForm = 1
reason_number MeshLimit = 2
reason_number RightAngle = 3
reason_number Name = 4
reason_number LeftTurn = 5
reason_number OwnSide = 6
reason_number NoElement = 7
reason_number Edge = 8
reason_number ClaimForm = 11
reason_number ClaimLimit = 12
reason_number Parts = 13
reason_number Equality = 21
reason_number Strength = 22
reason_number Unfixed = 31
reason_number R.Column = 32
reason_number Live = 33
reason_number Pairs = 42
reason_number Joint = 44
reason_number Gap = 45
reason_number Layer = 46
reason_number Overlap = 47

-- what the code answers, as the definitions speak of it: of a check, of a load, of the open rows, of a verdict
abbrev pub outcome_of : {A : Type 0} → Result A Refusal → Outcome
outcome_of (Ok x) = Passed
outcome_of (Err e) = Fails e.number e.place

abbrev pub load_of : Option Load → L.Load
load_of None = L.Absent
load_of (Some x) = L.Exact x.num x.den

abbrev pub open_rows_of : Option ℕ → OpenRows
open_rows_of None = NoCount
open_rows_of (Some k) = Count k

abbrev pub verdict_of : Result Accepted Refusal → Verdict
verdict_of (Ok a) = V.Accepted (open_rows_of a.open_rows) (load_of a.lower) (load_of a.upper)
verdict_of (Err e) = V.Refused e.number e.place

-- "Accepted returns 0, place 0"; "Refused: number, place"
abbrev pub number_of : Verdict → ℕ
number_of (V.Accepted o l u) = 0
number_of (V.Refused n p) = n

abbrev pub place_of : Verdict → ℕ
place_of (V.Accepted o l u) = 0
place_of (V.Refused n p) = place_number p

-- the same of a mesh: what passes has no number and no place
abbrev pub mesh_number_of : Outcome → ℕ
mesh_number_of Passed = 0
mesh_number_of (Fails n p) = n

abbrev pub mesh_place_of : Outcome → ℕ
mesh_place_of Passed = 0
mesh_place_of (Fails n p) = place_number p
