-- One small sheet with all that document 02 adds to a mesh: two triangles in two soils, which share two nodes, beside a
-- block on a joint, and a borehole table that gives the triangles their soils; with 12 or 108 sides, and clay of either
-- kind. And what each promise says of it.
use Rattle.std.specs.Prelude.{◌≡◌, ◌≢◌, List, [], ◌∷◌, ◌++◌, ℕ, ◌+◌, ◌*◌, ◌≤◌, ◌<◌, ℤ, pos, negsuc, neg_ℤ, ◌<ℤ◌}
use Rattle.std.specs.Prelude.{◌≤ℤ◌, length}
use Rattle.integer.specs.Fraction.{◌over◌, ◌≈ᶠ◌}
use Rattle.integer.specs.Members.{◌∈◌}
use Rattle.scope.specs.declared.Place.TheVariants.{Height}
use Rattle.scope.specs.Columns.{n, l}
use Rattle.scope.specs.Mesh.{mesh_layout, nodes, elements, sides, corner}
use Rattle.scope.specs.Polygon.{point, polygon_of}
use Rattle.scope.specs.Rows.{rows_of, strength_pairs, pair_count, pair_at, twice_area}
use Rattle.scope.specs.Claim.{stress, multiplier}
use Rattle.scope.specs.Accepted.{ClaimAccepted, FieldAccepted, MultipliersAccepted}
use Rattle.scope.specs.Printed.{MeetsPrinted, NormalAgreesAt, StrengthAt, PlaneMinusAt}
use Rattle.scope.specs.PrintedColumns.{MultipliersPrinted, printed_live, printed_limit}
use Rattle.scope.specs.RefusedRows.{Lowest, EqualityFails, StrengthFails}
use Rattle.scope.specs.Printed.{nth_corner, nth_side}
use Rattle.scope.specs.AcceptedField.{MeetsCriterion}
use Rattle.scope.specs.Planes.{PlaneHoldsAt}
use Rattle.scope.specs.Meaning.{Inward}
use Rattle.scope.specs.Triangles.{Triangle, AsBefore}
use Rattle.scope.specs.Pairs.{Before, SoundPairs}
use Rattle.scope.specs.Jumps.{SoundJumps, SameTraction}
use Rattle.scope.specs.Overlaps.{NoneOnEachOther}
use Rattle.scope.specs.SideLimits.{strength_at}
use Rattle.scope.specs.PolygonRule.{PolygonAsked}
use Rattle.scope.specs.Bracket.{Open, NoneOpen}
use Rattle.scope.specs.Parts.{carried, NumberOf, PartsBracket}
use Rattle.scope.specs.Blends.{BlendedClaims}
use Rattle.scope.specs.Tests.{row_at}
use Rattle.scope.specs.LayerRefusals.{OneLayer, FilledFrom}
use Rattle.scope.specs.Statements.{LinesSound}
use Rattle.scope.specs.Filled.{height_of, filled}
use Rattle.scope.specs.TableVerdict.{TabledRefusal, TableFits}
use Rattle.scope.specs.TabledRefusals.{LayersRefused}
use Rattle.scope.specs.Worked.{zeros}
use Rattle.scope.specs.WorkedTable.{layer}
use Rattle.numbers.specs.declared.numbers_answer.NumbersAnswer.{NumbersAnswer}
use Rattle.numbers.specs.Promises.{returned_numbers, CallsBracket, FractionsBracket, FieldInFractions}

-- ---- the sheet

-- "8 3 2 2 sides 1 / 0 1 1 20 0 0 0 0 0 0 / 0 1 1 12 0 0 0 0 kind 12 / 0 0 / 4 0 / 4 4 / 0 4 / 4 0 / 8 0 / 8 4 / 4 4 /
-- 1 2 3 3 lower / 1 3 4 4 upper / 5 6 7 8 1 / 3 4 3 0 0 -1 0 / 7 8 3 0 0 0 0 / 2 3 5 8": the left block is loaded, the
-- right block's top is free; nodes 1 and 3 are corners of both triangles
unfoldable pub mixed : (side_count kind lower upper : ℕ) → List ℤ
mixed side_count kind lower upper =
    (pos 8 ∷ pos 3 ∷ pos 2 ∷ pos 2 ∷ pos side_count ∷ pos 1 ∷ [])
    ++ (pos 0 ∷ pos 1 ∷ pos 1 ∷ pos 20 ∷ zeros 6)
    ++ (pos 0 ∷ pos 1 ∷ pos 1 ∷ pos 12 ∷ zeros 4)
    ++ (pos kind ∷ pos 12 ∷ [])
    ++ (pos 0 ∷ pos 0 ∷ pos 4 ∷ pos 0 ∷ pos 4 ∷ pos 4 ∷ pos 0 ∷ pos 4 ∷ [])
    ++ (pos 4 ∷ pos 0 ∷ pos 8 ∷ pos 0 ∷ pos 8 ∷ pos 4 ∷ pos 4 ∷ pos 4 ∷ [])
    ++ (pos 1 ∷ pos 2 ∷ pos 3 ∷ pos 3 ∷ pos lower ∷ [])
    ++ (pos 1 ∷ pos 3 ∷ pos 4 ∷ pos 4 ∷ pos upper ∷ [])
    ++ (pos 5 ∷ pos 6 ∷ pos 7 ∷ pos 8 ∷ pos 1 ∷ [])
    ++ (pos 3 ∷ pos 4 ∷ pos 3 ∷ pos 0 ∷ pos 0 ∷ negsuc 0 ∷ pos 0 ∷ [])
    ++ (pos 7 ∷ pos 8 ∷ pos 3 ∷ zeros 4)
    ++ (pos 2 ∷ pos 3 ∷ pos 5 ∷ pos 8 ∷ [])

-- "0 3 2 / 3 5 1": the lower triangle is 8 quarters high and in clay, the upper one 12 quarters and in fill
unfoldable pub two_layers : List ℤ
two_layers = layer (pos 0) (pos 3) (pos 2) ++ layer (pos 3) (pos 5) (pos 1)

-- the same lines the other way round; and the lower one alone, which ends below the highest node
unfoldable pub layers_turned : List ℤ
layers_turned = layer (pos 3) (pos 5) (pos 1) ++ layer (pos 0) (pos 3) (pos 2)

unfoldable pub lower_layer : List ℤ
lower_layer = layer (pos 0) (pos 3) (pos 2)

-- soils 0 0, and as the table fills them
abbrev pub unfilled : (side_count kind : ℕ) → List ℤ
unfilled side_count kind = mixed side_count kind 0 0

abbrev pub soils_written : (side_count kind : ℕ) → List ℤ
soils_written side_count kind = mixed side_count kind 2 1

-- "1 1 1 load"; sx -40 in both blocks, or z in the right one, and sy -load in the left one and 0 in the right one
unfoldable pub mixed_field : (load : ℕ) (z : ℤ) → List ℤ
mixed_field load z =
    let left : List ℤ = neg_ℤ (pos 40) ∷ neg_ℤ (pos load) ∷ pos 0 ∷ [] in
    let right : List ℤ = z ∷ pos 0 ∷ pos 0 ∷ [] in
    (pos 1 ∷ pos 1 ∷ pos 1 ∷ pos load ∷ []) ++ left ++ left ++ left ++ left ++ right ++ right ++ right ++ right

-- sx is -40 on both sides of the joint
abbrev pub even : ℤ
even = neg_ℤ (pos 40)

-- e for sy3 on the loaded top, -e for sy8 on the free one and for the joint at its upper end; then, of ten pairs of
-- k + k + 2 rows, those of node 3 with the clay, and 8 on each side at the corner (-r, 0) for node 8
unfoldable pub mixed_multipliers : (e : ℤ) (k : ℕ) → List ℤ → List ℤ
mixed_multipliers e k clay =
    zeros 6
    ++ (e ∷ zeros 5) ++ (neg_ℤ e ∷ pos 0 ∷ [])
    ++ zeros 2 ++ (neg_ℤ e ∷ pos 0 ∷ [])
    ++ zeros (8 * (k + 1)) ++ clay ++ zeros (8 * (k + 1))
    ++ zeros k ++ (pos 8 ∷ pos 8 ∷ []) ++ zeros k

-- 2·12 + 40 is carried and allowed: the clay's strength at node 3, and the fill's at node 8
unfoldable pub mixed_claim : ℕ → ℤ → List ℤ
mixed_claim load z = mixed_field load z ++ mixed_multipliers (pos 15) 5 (pos 8 ∷ zeros 10 ++ (pos 8 ∷ []))

-- with 108 sides, and with bedded clay: of its planes (4, 3) and (-4, 3) bound sx - sy by 12·25/12
unfoldable pub claim_108 : ℕ → ℤ → List ℤ
claim_108 load z = mixed_field load z ++ mixed_multipliers (pos 51935) 53 (pos 8 ∷ zeros 106 ++ (pos 8 ∷ []))

unfoldable pub bedded_claim : ℕ → ℤ → List ℤ
bedded_claim load z =
    mixed_field load z
    ++ mixed_multipliers (pos 15) 5 (zeros 3 ++ (pos 10 ∷ zeros 6) ++ (pos 10 ∷ zeros 1))

-- ---- what the promises say

-- of the mesh with its soils, which passes
pub record MeshSays (m : List ℤ) : Type 0 where
  -- `TrianglesRead`: two triangles, and a block that document 01's 5 passed
  pub triangles : Triangle m 0 × Triangle m 1
  pub no_repeat : (i j : ℕ) → i < j → j < 4 → corner m 2 i ≢ corner m 2 j
  pub as_before : AsBefore m 2
  pub areas : (e : ℕ) → e < elements m → pos 0 <ℤ twice_area m e
  -- node 1 lies inward of the loaded edge
  pub outward : Inward m 0 0
  -- `PairsAsked`: node 3 with the fill and with the clay, in that order
  pub fill_pair : record { at = 2; soil = 0 } ∈ strength_pairs m
  pub clay_pair : record { at = 2; soil = 1 } ∈ strength_pairs m
  pub in_order : Before (pair_at m 3) (pair_at m 4)
  pub pairs : SoundPairs m
  -- `OverlapsAsked`, `JumpsAsked`, `SidesAsked`
  pub apart : NoneOnEachOther m
  pub joints : SoundJumps m
  pub polygon : PolygonAsked (sides m)

-- of the mesh and the claim, with the answer r that accepts it
pub record ClaimSays (m c : List ℤ) (r : NumbersAnswer) : Type 0 where
  pub mesh : MeshSays m
  -- `ReturnsZero`, `NumbersListed`, `OverlapsAsked`
  pub accepted : ClaimAccepted m c
  pub place_zero : r.place ≡ 0
  pub listed : r.number ∈ returned_numbers
  pub never_47 : r.number ≢ 47
  -- `FieldExactly`, `FieldReported`
  pub field : FieldAccepted m c
  pub rows_met : MeetsPrinted m (stress m c) (l c) (n c)
  -- `MultipliersExactly`, `MultipliersReported`
  pub multipliers : MultipliersAccepted m c
  pub columns : MultipliersPrinted m (multiplier m c)
  pub limit : (r.w ≡ printed_limit m (multiplier m c)) × (r.m ≡ printed_live m (multiplier m c))
  pub m_above_0 : pos 0 <ℤ r.m
  -- `CriterionForEachPair`, `TractionsOnJoints`
  pub fill : MeetsCriterion m c (record { at = 2; soil = 0 })
  pub joint : SameTraction m (stress m c) 0
  -- `TwoAnswers`, `AnswerAndMultipliers`, `OpenRowsReported`
  pub bracket : CallsBracket m c m c r r
  pub parts : PartsBracket m c m c
  pub none_open : NoneOpen (stress m c) (l c) (n c) (multiplier m c) (rows_of m)
  pub open_rows : NumberOf (λ k. Open (stress m c) (l c) (n c) (multiplier m c k) (row_at (rows_of m) k))
      (length (rows_of m)) r.open_rows
  pub closed : carried c ≈ᶠ r.w over r.m
  -- `FractionsAndAnswer`, `FieldInFractions`, `BlendedAnswers`
  pub fractions : FractionsBracket m m c (r.w over r.m)
  pub in_fractions : FieldInFractions m c
  pub blended : BlendedClaims 1 2 m c m c

-- with clay of kind 0: node 3 meets the criterion with its strength too, and the load is told
pub record PlainSays (m c : List ℤ) (r : NumbersAnswer) : Type 0 where
  pub clay : MeetsCriterion m c (record { at = 2; soil = 1 })
  pub told : (pos 0 <ℤ r.n) × (r.l ≡ l c) × (r.n ≡ n c)
  pub exact : r.l over r.n ≡ carried c

-- with bedded clay: its plane (4, 3) holds at node 3, and no load is told (`DirectionsAsked`, `FieldReported`)
pub record BeddedSays (m c : List ℤ) (r : NumbersAnswer) : Type 0 where
  pub plane : PlaneHoldsAt m (stress m c) (n c) (record { at = 2; soil = 1 }) (point (pos 4) (pos 3))
  pub untold : (r.l ≡ pos 0) × (r.n ≡ pos 0)

-- with 108 sides (`SidesAsked`): no more nodes and pairs than such a mesh may have, and no larger multipliers
pub record FewNodes (m c : List ℤ) : Type 0 where
  pub few_nodes : nodes m ≤ 40
  pub few_pairs : pair_count m ≤ 40
  pub small_multipliers : (a i : ℕ) → a < pair_count m → i < sides m → strength_at m c a i ≤ℤ pos 300

-- of the table t and the mesh m with soil 0 (`TableExactly`, `FilledMesh`): it fits, each triangle's height is in one
-- layer, its lines in another order fill the mesh the same way, and nothing but soil 0 changes
pub record TableSays (t u m : List ℤ) : Type 0 where
  pub fits : TableFits t m
  pub lower : OneLayer t (height_of m 0)
  pub upper : OneLayer t (height_of m 1)
  pub any_order : filled t m ≡ filled u m
  pub lines : LinesSound mesh_layout (filled t m)
  pub only_soils : FilledFrom t m (filled t m)

-- of an answer that refuses a claim: no part is reported and no row counted
pub record RefusedSays (r : NumbersAnswer) : Type 0 where
  pub no_field : (r.field ≡ 0) × (r.l ≡ pos 0) × (r.n ≡ pos 0)
  pub no_multipliers : (r.multipliers ≡ 0) × (r.w ≡ pos 0) × (r.m ≡ pos 0)
  pub no_rows : r.open_rows ≡ 0

-- what is refused (`RowsRefused`, `TableExactly`): the joint pressed with 40 and with 39, its row 15 the normal one at
-- node 2, which node 5 faces; and the lower layer alone
pub record JointFails (m c : List ℤ) : Type 0 where
  pub lowest : Lowest (EqualityFails m c) 15
  pub named : ¬ NormalAgreesAt m (stress m c) (l c) (n c) 0 1 4

abbrev pub GapRefused : List ℤ → List ℤ → List ℤ → Type 0
GapRefused t m c = TabledRefusal t m c 45 (Height 12) × LayersRefused t m 45 (Height 12)

-- one more than the clay carries: row 1 of node 1 with the clay, at this place, or, where that is bedded, its row 4, of
-- the plane (4, 3)
pub record ClayFails (m c : List ℤ) (place : ℕ) : Type 0 where
  pub lowest : Lowest (StrengthFails m c) place
  pub named : ¬ StrengthAt m (stress m c) (l c) (n c) (polygon_of (sides m)).radius (record { at = 0; soil = 1 })
      (nth_side m 0)

pub record BedFails (m c : List ℤ) : Type 0 where
  pub lowest : Lowest (StrengthFails m c) 16
  pub named : ¬ PlaneMinusAt m (stress m c) (l c) (n c) (polygon_of (sides m)).radius (record { at = 0; soil = 1 })
      (nth_corner m 1)
