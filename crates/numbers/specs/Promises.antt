-- What a caller that hands over numbers may rely on: demands 2 and 3 for `check`, which C calls as
-- `pechuvo_check_numbers`, each promise a plain statement about the answer r to the numbers m of a mesh and c of a
-- claim.
-- Each is proved of every answer (`proofs/Promises.antt`, `Reported.antt`), applied to document 01's sheet
-- (`proofs/PromisesApplied.antt`) and to one that has all that document 02 adds (`MixedApplied.antt`). Those about the
-- number and the place alone serve the check of files too.
use Rattle.std.specs.Prelude.{◌≡◌, ◌↔◌, ◌⊎◌, ◌≢◌, List, ◌∷◌, ℕ, suc, ◌+◌, ◌*◌, ◌≤◌, ◌<◌, ℤ, pos, ◌≤ℤ◌, ◌<ℤ◌}
use Rattle.std.specs.Prelude.{length, Result}
use Rattle.integer.specs.Fraction.{Frac, ◌over◌, ◌≈ᶠ◌, ◌≤ᶠ◌}
use Rattle.integer.specs.Members.{◌∈◌}
use Rattle.scope.specs.Columns.{at, has_field, n, l}
use Rattle.scope.specs.Mesh.{mesh_header_columns, mesh_layout, nodes, elements, soils, sides, corner, ByDirection}
use Rattle.scope.specs.Mesh.{ListsDirection, pairs_with}
use Rattle.scope.specs.Polygon.{Point}
use Rattle.scope.specs.Rows.{rows_of, twice_area, pair_count}
use Rattle.scope.specs.Sums.{live_sum, limit_sum}
use Rattle.scope.specs.Claim.{claim_layout, stress, multiplier}
use Rattle.scope.specs.declared.Refusal as Answered
use Rattle.scope.specs.Verdict.{mesh_check, verdict}
use Rattle.scope.specs.Answer.{outcome_of, place_for, number_of, place_of}
use Rattle.scope.specs.AnsweredMesh.{MeshExactly}
use Rattle.scope.specs.Statements.{Complete, LinesSound, MeshSound, HasField, HasMultipliers}
use Rattle.scope.specs.Refusals.{SoundTo, Refusal}
use Rattle.scope.specs.Refusals.{refusal_numbers}
use Rattle.scope.specs.Accepted.{FieldAccepted, MultipliersAccepted, ClaimAccepted}
use Rattle.scope.specs.Printed.{MeetsPrinted}
use Rattle.scope.specs.RefusedRows.{Lowest, None, EqualityFails, StrengthFails}
use Rattle.scope.specs.RefusedColumns.{UnfixedWeighed, ColumnFails}
use Rattle.scope.specs.PrintedColumns.{MultipliersPrinted, printed_live, printed_limit}
use Rattle.scope.specs.AcceptedField.{CriterionEverywhere, CriterionAround, PlanesEverywhere, TractionsAgree}
use Rattle.scope.specs.Planes.{PlaneMeaning, CohesionMeaning}
use Rattle.scope.specs.Jumps.{SoundJumps, TipAsksNothing, NoJumps}
use Rattle.scope.specs.Bracket.{Open, NoneOpen}
use Rattle.scope.specs.Fractions.{FractionField, WrittenOver, FractionLaws, field_over}
use Rattle.scope.specs.AcceptedFractions.{MeetsMesh}
use Rattle.scope.specs.Blends.{BlendedClaims}
use Rattle.scope.specs.Parts.{carried, SameRows, PartsBracket, NumberOf}
use Rattle.scope.specs.Tests.{row_at}
use Rattle.scope.specs.Meaning.{Area, OutwardNormal}
use Rattle.scope.specs.Triangles.{ReadAsTriangle, PassedBefore, WithoutTriangles}
use Rattle.scope.specs.Pairs.{Pairs, SoundPairs, PairsFail}
use Rattle.scope.specs.Overlaps.{NoneOnEachOther, OnEachOther}
use Rattle.scope.specs.SideLimits.{strength_at, strength_line, LimitsBySides}
use Rattle.scope.specs.PolygonRule.{PolygonAsked}
use Rattle.numbers.specs.declared.numbers_answer.NumbersAnswer.{NumbersAnswer}
use Rattle.numbers.specs.NumbersAnswer.{answer_of}

-- what is answered where there is no table; with one, `TableAnswers` is the contract of `check` and of
-- `pechuvo_check_numbers`
abbrev pub Answers : List ℤ → List ℤ → NumbersAnswer → Type 0
Answers m c r = r ≡ answer_of (has_field c) (verdict m c)

-- the verdict's number and place: every answer returns them, and so does the check of files
pub record Returned (m c : List ℤ) (number place : ℕ) : Type 0 where
  pub number_is : number ≡ number_of (verdict m c)
  pub place_is : place ≡ place_of (verdict m c)

-- ==== Demand 2: what is accepted, and what is refused

-- "Accepted returns 0, place 0": 0 exactly when the mesh passes 1 to 8, 47, 44 and 42, the claim passes 11 to 13, a
-- field that is there meets every row, and multipliers that are there are zero on every unfixed row, make all 3·nodes
-- columns 0 and have m above 0
pub record ReturnsZero (m c : List ℤ) (number place : ℕ) : Type 0 where
  pub exactly : (number ≡ 0) ↔ ClaimAccepted m c
  pub place_zero : number ≡ 0 → place ≡ 0

-- "Refused: number, place": a number and a place are returned exactly when the table, with its order, has them
pub record RefusesExactly (m c : List ℤ) (number place : ℕ) : Type 0 where
  pub exactly : (k j : ℕ) → k ≢ 0 → ((number ≡ k) × (place ≡ j)) ↔ Refusal m c k (place_for k j)

-- the numbers that numbers handed over without a table can get, and 0; files can get 41 and 43 too, and with a table
-- both can get 45 and 46
abbrev pub returned_numbers : List ℕ
returned_numbers = 0 ∷ refusal_numbers

-- no other number is returned; "13, line 1"; "33, column 0"
pub record NumbersListed (number place : ℕ) : Type 0 where
  pub listed : number ∈ returned_numbers
  pub line_one : number ≡ 13 → place ≡ 1
  pub column_zero : number ≡ 33 → place ≡ 0

-- the place of 21 and of 22 is the number of a row that, as document 01 prints it, the field does not meet; that of 31,
-- of an unfixed row with a multiplier other than 0; that of 32, of a column whose sum is not 0. No lower one is so; and
-- with 22 no row has 21, with 32 none has 31
pub record RowsRefused (m c : List ℤ) (number place : ℕ) : Type 0 where
  pub equality : number ≡ 21 → Lowest (EqualityFails m c) place
  pub strength : number ≡ 22 → None (EqualityFails m c) × Lowest (StrengthFails m c) place
  pub unfixed : number ≡ 31 → Lowest (UnfixedWeighed m c) place
  pub column : number ≡ 32 → None (UnfixedWeighed m c) × Lowest (ColumnFails m c) place

-- the number tells of a field that is there that it is accepted: no refusal before 31 came
abbrev pub TellsField : List ℤ → ℕ → Type 0
TellsField c number = HasField c × ((number ≡ 0) ⊎ ((31 ≤ number) × (number ≤ 33)))

-- "A part is accepted when its own checks pass (21 and 22 for a field ..; mesh and claim have passed all before 21)":
-- the field meets each row as document 01 prints it
pub record FieldExactly (m c : List ℤ) (number : ℕ) : Type 0 where
  pub exactly : FieldAccepted m c
      ↔ (MeshSound m × LinesSound (claim_layout m) c × HasField c × MeetsPrinted m (stress m c) (l c) (n c))
  pub told : FieldAccepted m c ↔ TellsField c number

-- "(.. 31 to 33 for multipliers ..)": in the terms of the rows as document 01 prints them; the number tells it where
-- each other part that is there is accepted too
pub record MultipliersExactly (m c : List ℤ) (number : ℕ) : Type 0 where
  pub exactly : MultipliersAccepted m c
      ↔ (MeshSound m × LinesSound (claim_layout m) c × HasMultipliers c × MultipliersPrinted m (multiplier m c))
  pub told : (HasMultipliers c × (number ≡ 0)) ↔ (MultipliersAccepted m c × (HasField c → FieldAccepted m c))

-- the answer has a field exactly when the claim has one and is accepted; then the field carries the claim's load l/n,
-- which is told, n above 0, except "on a mesh that lists" a soil by direction, "used or not" (document 02, N14): there
-- l and n are 0
pub record FieldReported (m c : List ℤ) (r : NumbersAnswer) : Type 0 where
  pub exactly : (r.field ≡ 1) ↔ (HasField c × (r.number ≡ 0))
  pub carries : r.field ≡ 1 → (pos 0 <ℤ n c) × MeetsPrinted m (stress m c) (l c) (n c)
  pub told : (pos 0 <ℤ r.n) ↔ ((r.field ≡ 1) × (¬ ListsDirection m))
  pub load : r.field ≡ 1 → ¬ ListsDirection m → (r.l ≡ l c) × (r.n ≡ n c)
  pub untold : ListsDirection m → (r.l ≡ pos 0) × (r.n ≡ pos 0)
  pub none : r.field ≢ 1 → (r.field ≡ 0) × (r.l ≡ pos 0) × (r.n ≡ pos 0)

-- and so for multipliers, with W/m
pub record MultipliersReported (m c : List ℤ) (r : NumbersAnswer) : Type 0 where
  pub exactly : (r.multipliers ≡ 1) ↔ (HasMultipliers c × (r.number ≡ 0))
  pub limit : r.multipliers ≡ 1
      → (r.w ≡ limit_sum (multiplier m c) (rows_of m)) × (r.m ≡ live_sum (multiplier m c) (rows_of m))
  -- these are the sums over the printed rows
  pub printed : r.multipliers ≡ 1 → (r.w ≡ printed_limit m (multiplier m c)) × (r.m ≡ printed_live m (multiplier m c))
  pub m_above_0 : r.multipliers ≡ 1 → pos 0 <ℤ r.m
  pub none : r.multipliers ≢ 1 → (r.multipliers ≡ 0) × (r.w ≡ pos 0) × (r.m ≡ pos 0)

-- "the criterion is promised for each pair" (document 02, N2) whose soil is not by direction (N14): the Mohr-Coulomb
-- criterion (001, eq. 12) at each node with the strength of every such soil of the elements around it
pub record CriterionForEachPair (m c : List ℤ) : Type 0 where
  pub pairs : CriterionEverywhere m c
  pub around : CriterionAround m c

-- "Bedded clay has cohesion ch along and cv across" (document 02, N14): what the rows of a plane and its cohesion mean,
-- and that an accepted field is within the strength of each plane of the first half turn
pub record DirectionsAsked (m c : List ℤ) (number : ℕ) : Type 0 where
  pub planes : (r : ℤ) (v : Point) (p q ch cv n sx sy t : ℤ) → PlaneMeaning r v p q ch cv n sx sy t
  pub cohesion : (r ch cv : ℤ) → CohesionMeaning r ch cv
  pub accepted : TellsField c number → PlanesEverywhere m c

-- "a node has strength rows for each soil of the elements around it, soils ascending .. Pairs are at most 100.
-- Refused: 42, with the node that brings the 101st pair" (document 02, N2)
pub record PairsAsked (m : List ℤ) (number place : ℕ) : Type 0 where
  pub listed : Pairs m
  pub sound : MeshSound m → SoundPairs m
  pub refused : number ≡ 42 → PairsFail m (pairs_with (sides m)) place

-- "A mesh is refused if two elements share a point inside both, fractions included; .. Absent such a point the mesh is
-- never refused for this. .. Refused: 47, with the higher element of the pair whose higher number is least" (document
-- 02, N10)
pub record OverlapsAsked (m : List ℤ) (number place : ℕ) : Type 0 where
  pub sound : MeshSound m → NoneOnEachOther m
  pub refused : number ≡ 47 → OnEachOther m place
  pub never : NoneOnEachOther m → number ≢ 47

-- "Source 001, 2.3, lets stress jump across a side while normal and shear agree" (document 02, N6): both sides of a
-- joint are outer sides, used by no edge and by no other jump, and face each other; an end that isn't doubled asks
-- nothing; without jumps the rows are document 01's. A jump that is none of these gets 44 (`RefusesExactly`).
pub record JumpsAsked (m : List ℤ) : Type 0 where
  pub sound : MeshSound m → SoundJumps m
  pub tip : TipAsksNothing m
  pub none : NoJumps m

-- and on each joint an accepted field has the same traction from both sides
abbrev pub TractionsOnJoints : List ℤ → List ℤ → ℕ → Type 0
TractionsOnJoints m c number = TellsField c number → TractionsAgree m c

-- "Sides may also be 108: all whole-number points on the circle of radius 1105, in the same turning order. Such a mesh
-- has at most 40 nodes and 40 node-and-soil pairs, and its strength multipliers are at most 300; over these, 2, 42 and
-- 12 are given as for other limits. That every corner is on the circle, in order, with none left out is shown for the
-- whole list together, and what holds for a polygon of any listed number of sides now includes this one" (document 02,
-- N9)
pub record SidesAsked (m c : List ℤ) (number place : ℕ) : Type 0 where
  pub limits : LimitsBySides m
  pub many_nodes : mesh_header_columns ≤ length m → sides m ≡ 108 → pos 40 <ℤ at m 0 → (number ≡ 2) × (place ≡ 1)
  -- an accepted claim has none above 300; 12 with the line of one, if the mesh passes and the lines before it, and it
  -- has all its numbers
  pub small_multipliers : number ≡ 0 → HasMultipliers c → sides m ≡ 108 → (a i : ℕ) → a < pair_count m → i < sides m
      → strength_at m c a i ≤ℤ pos 300
  pub large_multiplier : MeshSound m → HasMultipliers c → sides m ≡ 108 → (a i : ℕ) → a < pair_count m → i < sides m
      → pos 300 <ℤ strength_at m c a i → SoundTo (claim_layout m) c (strength_line m c a)
      → Complete (claim_layout m) c (strength_line m c a)
      → (number ≡ 12) × (place ≡ suc (strength_line m c a))
  -- "Kind 1 with 108 sides gets 2, with the soil's line" (N14): of soil s, counted from 0, after the header, if the
  -- lines before it pass and it has all its numbers
  pub bedded_soil : sides m ≡ 108 → (s : ℕ) → s < soils m → ByDirection m s → SoundTo mesh_layout m (suc s)
      → Complete mesh_layout m (suc s) → (number ≡ 2) × (place ≡ suc (suc s))
  pub polygon : MeshSound m → PolygonAsked (sides m)

-- "An element whose third and fourth nodes are the same is to be read as a triangle: its balance rows are the same
-- sums, .. and three left turns are asked. The repeat makes no side .. Every other repeat still gets 5." (document 02,
-- N1)
pub record TrianglesRead (m : List ℤ) (e : ℕ) : Type 0 where
  pub triangle : ReadAsTriangle m e
  pub only_repeat : (i j : ℕ) → i < j → j < 4 → corner m e i ≡ corner m e j → (i ≡ 2) × (j ≡ 3)
  pub area : Area m e
  pub area_above_0 : pos 0 <ℤ twice_area m e
  pub outward : (g : ℕ) → OutwardNormal m g e
  pub passed_before : PassedBefore m e

-- of each element of a mesh that passes; and "A file that passed before gives the same report": on a mesh that passed
-- document 01's 5, and on every mesh without triangles, 5, 6 and 8 answer as document 01's own, with the same place
pub record TrianglesAsked (m : List ℤ) : Type 0 where
  pub read : MeshSound m → (e : ℕ) → e < elements m → TrianglesRead m e
  pub before : WithoutTriangles m

-- ==== Demand 3: loads compared

-- "A claim's field carries l/n and its multipliers allow W/m, both as exact fractions": the field of one call,
-- answered r, and the multipliers of one, answered s; l/n is the claim's, told or not
pub record CallsBracket (m c d k : List ℤ) (r s : NumbersAnswer) : Type 0 where
  pub n_above_0 : pos 0 <ℤ n c
  pub m_above_0 : pos 0 <ℤ s.m
  pub told : ¬ ListsDirection m → r.l over r.n ≡ carried c
  pub at_most : carried c ≤ᶠ s.w over s.m
  -- equal exactly when no strength row has both a multiplier above 0 and strength to spare
  pub equal : (carried c ≈ᶠ s.w over s.m) ↔ NoneOpen (stress m c) (l c) (n c) (multiplier d k) (rows_of d)

-- of two calls, or of one twice, on meshes with the same rows
abbrev pub TwoAnswers : (m c d k : List ℤ) (r s : NumbersAnswer) → Type 0
TwoAnswers m c d k r s = Answers m c r → Answers d k s → SameRows m d → r.field ≡ 1 → s.multipliers ≡ 1
    → CallsBracket m c d k r s

-- of a field that a call tells to be accepted, and accepted multipliers of any claim: either claim may be refused for
-- its other part
abbrev pub AnswerAndMultipliers : (m c d k : List ℤ) (r : NumbersAnswer) → Type 0
AnswerAndMultipliers m c d k r = Answers m c r → SameRows m d → TellsField c r.number → MultipliersAccepted d k
    → PartsBracket m c d k

-- "the open rows (strength rows with multiplier above 0 and left side below right)": their number where both parts are
-- there, else 0
pub record OpenRowsReported (m c : List ℤ) (r : NumbersAnswer) : Type 0 where
  pub count : r.field ≡ 1 → r.multipliers ≡ 1
      → NumberOf (λ k. Open (stress m c) (l c) (n c) (multiplier m c k) (row_at (rows_of m) k)) (length (rows_of m))
      r.open_rows
  pub closed : r.field ≡ 1 → r.multipliers ≡ 1 → (r.open_rows ≡ 0) ↔ (carried c ≈ᶠ r.w over r.m)
  pub one_part : (r.field ≢ 1) ⊎ (r.multipliers ≢ 1) → r.open_rows ≡ 0

-- "A field in fractions has any fractions as each node's sx, sy and t and as its load": on a mesh m that passes,
-- against the limit W/m of accepted multipliers of a claim k on a mesh d with the same rows
pub record FractionsBracket (m d k : List ℤ) (limit : Frac) : Type 0 where
  -- each can be written over one denominator, and whether it meets the rows is the same for every one
  pub laws : FractionLaws (3 * nodes m) (rows_of m)
  -- none that meets the rows carries more than the multipliers allow
  pub at_most : (f : FractionField) → MeetsMesh m f → f.load.value ≤ᶠ limit
  -- equal exactly when no strength row is open, over any denominator that it is written over
  pub equal : (f : FractionField) → MeetsMesh m f → (e : ℤ) (t : ℕ → ℤ) (j : ℤ) → WrittenOver (3 * nodes m) f e t j
      → (f.load.value ≈ᶠ limit) ↔ NoneOpen t j e (multiplier d k) (rows_of d)

-- against the multipliers that a call reports
abbrev pub FractionsAndAnswer : (d k : List ℤ) (s : NumbersAnswer) → Type 0
FractionsAndAnswer d k s = Answers d k s → s.multipliers ≡ 1 → (m : List ℤ) → MeshSound m → SameRows m d
    → FractionsBracket m d k (s.w over s.m)

-- the field of an accepted claim, over its n, is such a field
pub record FieldInFractions (m c : List ℤ) : Type 0 where
  pub above_0 : pos 0 <ℤ n c
  pub meets : MeetsMesh m (field_over (n c) above_0 (stress m c) (l c))

-- ==== Blended sheets

-- "two accepted fields, weighted with whole numbers not below zero and not both zero, give a field in exact fractions
-- that meets every row and carries the weighted load .. no such blend passes any accepted limit" (document 02, N11):
-- of two calls, or of one twice, on meshes with the same rows, whose numbers tell that their fields are accepted
abbrev pub BlendedAnswers : (m c d k : List ℤ) (r s : NumbersAnswer) → Type 0
BlendedAnswers m c d k r s = Answers m c r → Answers d k s → SameRows m d → TellsField c r.number
    → TellsField k s.number → (a b : ℕ) → 0 < a + b → BlendedClaims a b m c d k

-- ==== A mesh alone

-- the contract of `judge_mesh`, whatever it answers of a mesh that passes
abbrev pub MeshAnswered : {A : Type 0} → List ℤ → Result A Answered.Refusal → Type 0
MeshAnswered m r = outcome_of r ≡ mesh_check m

-- its answer, by document 01's number and place for each case of its outcome
abbrev pub MeshAnsweredExactly : {A : Type 0} → List ℤ → Result A Answered.Refusal → Type 0
MeshAnsweredExactly m r = MeshAnswered m r → MeshExactly m (outcome_of r)
