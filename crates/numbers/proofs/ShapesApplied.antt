-- The promises of N1 applied to two triangles, those of N2 to fill over clay, and those of N6 to two blocks on a joint,
-- each beside document 01's sheet, which lacks the new thing: antt computes the answer, and the promise says the rest.
use mathlib.Core.Path.{◌≡◌, refl, sym, ◌∙◌, ap, subst₂}
use mathlib.Core.Logic.{inl}
use mathlib.Core.List.{List, ◌++◌}
use Prim.Native.Nat.{ℕ, zero, suc, ◌<◌}
use native.Mathlib.Omega.{arith}
use lib.IntN.{ℤ, pos, neg_ℤ}
use lib.Signed.{lt_z_yes}
use Rattle.integer.specs.Members.{◌∈◌}
use Rattle.scope.specs.Rows.{balance_rows, side_rows, equality_rows, strength_pairs, strength_rows}
use Rattle.scope.specs.Claim.{stress}
use Rattle.scope.proofs.Computed.{computed}
use Rattle.scope.specs.Polygon.{polygon_of}
use Rattle.scope.specs.Printed.{nth_side}
use Rattle.scope.proofs.RefusedRows.{jump_normal_from_fails, side_fails}
use Rattle.scope.specs.Printed.{NormalAgreesAt, StrengthAt}
use Rattle.scope.specs.AcceptedField.{MeetsCriterion}
use Rattle.scope.specs.Worked.{zeros, worked_mesh, worked_stresses}
use Rattle.scope.specs.Worked.{sheet, two_triangles, field_alone, fill_over_clay}
use Rattle.scope.specs.Worked.{over_clay, blocks, block_edges, joint, two_blocks, on_joint}
use Rattle.scope.specs.Mesh.{elements, edges, sides, jumps, corner, element_soil, jump_from, facing_from}
use Rattle.scope.specs.Statements.{MeshSound}
use Rattle.scope.specs.RefusalTable.{AtAll}
use Rattle.scope.specs.Triangles.{Triangle, FourLeftTurns, OwnSidesBefore, OuterEdgeBefore, SameRefusals}
use Rattle.scope.specs.Pairs.{SoilAround, rows_before}
use Rattle.scope.specs.Jumps.{SameTraction}
use Rattle.numbers.specs.declared.numbers_answer.NumbersAnswer.{NumbersAnswer}
use Rattle.numbers.specs.Promises.{Answers, Returned}
use Rattle.numbers.proofs.Promises.{returned, returns_zero_exactly}
use Rattle.numbers.proofs.Promises.{criterion_for_each_pair}
use Rattle.numbers.proofs.Promises.{pairs_asked, jumps_asked, tractions_on_joints, rows_refused, triangles_asked}
use Rattle.numbers.proofs.PromisesApplied.{sheet-answered, sheet_accepted}

-- ---- triangles: the sheet's square as two of them, and as it stands

pub triangle_answer : NumbersAnswer
triangle_answer = record {
  number = 0;
  place = 0;
  field = 1;
  multipliers = 0;
  l = pos 20;
  n = pos 1;
  w = pos 0;
  m = pos 0;
  open_rows = 0;
}

pub triangles_answered : Answers two_triangles field_alone triangle_answer
unfolding computed zeros two_triangles worked_stresses field_alone triangle_answer
triangles_answered = refl

triangles_sound : MeshSound two_triangles
unfolding triangle_answer
triangles_sound = ((returns_zero_exactly two_triangles field_alone 0 0 (returned triangles_answered)).exactly.0
    refl).mesh

second_element : (1 < elements two_triangles) × (corner two_triangles 1 2 ≡ corner two_triangles 1 3)
unfolding computed zeros two_triangles
second_element = (omega arith, refl)

pub second_triangle : Triangle two_triangles 1
second_triangle = ((triangles_asked two_triangles).read triangles_sound 1 second_element.0).triangle second_element.1

-- the sheet's element has four different corners, as before
one_element : 0 < elements worked_mesh
unfolding computed zeros worked_mesh
one_element = omega arith

different : (corner worked_mesh 0 2 ≡ corner worked_mesh 0 3) → ⊥
unfolding computed zeros worked_mesh
different e = let z : ◌≡◌ {A = ℕ} 2 3 = e in omega arith

pub sheet_no_repeat : (i j : ℕ) → i < j → j < 4 → corner worked_mesh 0 i ≡ corner worked_mesh 0 j → ⊥
sheet_no_repeat i j l h same =
    let read = (triangles_asked worked_mesh).read sheet_accepted.mesh 0 one_element in
    let (second, third) = read.only_repeat i j l h same in
    different (subst₂ (λ (a b : ℕ). corner worked_mesh 0 a ≡ corner worked_mesh 0 b) second third same)

-- it passed document 01's 5, so that it passes document 01's own 6 and 8 as it passes today's
sheet_turns : AtAll (elements worked_mesh) (FourLeftTurns worked_mesh)
unfolding computed zeros worked_mesh
sheet_turns zero l zero h = lt_z_yes tt
sheet_turns zero l (suc zero) h = lt_z_yes tt
sheet_turns zero l (suc (suc zero)) h = lt_z_yes tt
sheet_turns zero l (suc (suc (suc zero))) h = lt_z_yes tt
sheet_turns zero l (suc (suc (suc (suc i)))) h = absurd (omega (arith, h))
sheet_turns (suc e) l i h = absurd (omega (arith, l))

sheet_before : SameRefusals worked_mesh
sheet_before = let before = (triangles_asked worked_mesh).before in before.same (before.passed_before sheet_turns)

pub sheet_passed_before : AtAll (elements worked_mesh) (OwnSidesBefore worked_mesh)
    × AtAll (edges worked_mesh) (OuterEdgeBefore worked_mesh)
sheet_passed_before =
    (sheet_before.six.pass.0 sheet_accepted.mesh.own_sides, sheet_before.eight.pass.0 sheet_accepted.mesh.outer_edges)

-- "which now get refusal 5": document 01's 5 refused the two triangles
pub triangles_refused_before : ¬ AtAll (elements two_triangles) (FourLeftTurns two_triangles)
triangles_refused_before left =
    (triangles_asked two_triangles).before.passed_before left 1 second_element.0 second_element.1

-- ---- pairs: fill over clay, whose nodes 3 and 4 have both soils

-- l 20, beyond the clay's strength at node 3: 22 at side 1 of the fourth pair
pub beyond_clay : NumbersAnswer
beyond_clay = record {
  number = 22;
  place = 37;
  field = 0;
  multipliers = 0;
  l = pos 0;
  n = pos 0;
  w = pos 0;
  m = pos 0;
  open_rows = 0;
}

pub beyond_clay_answered : Answers fill_over_clay (over_clay 20) beyond_clay
unfolding computed zeros fill_over_clay over_clay beyond_clay
beyond_clay_answered = refl

-- the row that is not met is that of node 3 with the clay, pair 4, and a row that document 01 did not have
pub clay_row_fails : ¬ StrengthAt fill_over_clay (stress fill_over_clay (over_clay 20)) (pos 20) (pos 1)
    (polygon_of (sides fill_over_clay)).radius (record { at = 2; soil = 1 })
    (nth_side fill_over_clay 0)
unfolding computed zeros fill_over_clay over_clay beyond_clay
clay_row_fails =
    side_fails fill_over_clay (over_clay 20) (inl refl)
    ((rows_refused fill_over_clay (over_clay 20) 22 37 (returned beyond_clay_answered)).strength refl).1.fails 3 0
    (omega arith) (omega arith) (λ e. let z : ◌≡◌ {A = ℕ} 0 1 = cc in omega arith) refl

-- l 10: accepted, and node 3 meets the criterion with the strength of the fill and with that of the clay
pub within_clay : NumbersAnswer
within_clay = record {
  number = 0;
  place = 0;
  field = 1;
  multipliers = 0;
  l = pos 10;
  n = pos 1;
  w = pos 0;
  m = pos 0;
  open_rows = 0;
}

pub within_clay_answered : Answers fill_over_clay (over_clay 10) within_clay
unfolding computed zeros fill_over_clay over_clay within_clay
within_clay_answered = refl

within_clay_returned : Returned fill_over_clay (over_clay 10) within_clay.number within_clay.place
within_clay_returned = returned within_clay_answered

pub criterion_for_both_soils : MeetsCriterion fill_over_clay (over_clay 10) (record { at = 2; soil = 0 })
    × MeetsCriterion fill_over_clay (over_clay 10) (record { at = 2; soil = 1 })
unfolding computed zeros fill_over_clay over_clay within_clay
criterion_for_both_soils =
    let criterion = criterion_for_each_pair fill_over_clay (over_clay 10) 0 0 within_clay_returned (refl, inl refl) in
    let none : pos 0 ≡ pos 1 → ⊥ = λ d. let z : ◌≡◌ {A = ℕ} 0 1 = cc in omega arith in (
      criterion.around 2 0 (omega arith) (1, omega arith, refl) none,
      criterion.around 2 1 (omega arith) (2, omega arith, refl) none,
    )

clay_sound : MeshSound fill_over_clay
unfolding within_clay
clay_sound = ((returns_zero_exactly fill_over_clay (over_clay 10) 0 0 (returned within_clay_answered)).exactly.0
    refl).mesh

-- node 3 with the clay is a pair by the clay's element, the second
pub clay_pair : record { at = 2; soil = 1 } ∈ strength_pairs fill_over_clay
unfolding computed zeros fill_over_clay within_clay
clay_pair =
    (((pairs_asked fill_over_clay (over_clay 10) 0 0 (returned within_clay_answered)).sound clay_sound).exactly
    (record { at = 2; soil = 1 })).1
    (record { element = 1; there = omega arith; has-corner = (2, omega arith, refl); same = refl })

-- document 01's sheet has one soil: its rows stay
only_soil : {v s : ℕ} → SoilAround worked_mesh v s → s ≡ element_soil worked_mesh 0
unfolding computed zeros worked_mesh
only_soil r = let there = r.there in let first : r.element ≡ 0 = omega arith in sym r.same
    ∙ ap (element_soil worked_mesh) first

pub sheet_rows_stay : strength_rows worked_mesh ≡ rows_before worked_mesh
sheet_rows_stay =
    ((pairs_asked worked_mesh sheet 0 0 (returned sheet-answered)).sound sheet_accepted.mesh).as_before
    (λ v s k a b. only_soil a ∙ sym (only_soil b))

-- ---- jumps: two blocks on a joint, the left one loaded

-- 40 carried, 1200/30 allowed, no row open
abbrev pub joint_claim : List ℤ
joint_claim = on_joint (neg_ℤ (pos 20)) (neg_ℤ (pos 30))

unfoldable pub joint_answer : NumbersAnswer
joint_answer = record {
  number = 0;
  place = 0;
  field = 1;
  multipliers = 1;
  l = pos 40;
  n = pos 1;
  w = pos 1200;
  m = pos 30;
  open_rows = 0;
}

pub joint-answered : Answers two_blocks joint_claim joint_answer
unfolding computed zeros blocks block_edges joint two_blocks on_joint joint_answer
joint-answered = refl

one_jump : 0 < jumps two_blocks
unfolding computed zeros blocks block_edges joint two_blocks
one_jump = omega arith

-- its two sides press on each other alike
pub joint_tractions : SameTraction two_blocks (stress two_blocks joint_claim) 0
unfolding computed on_joint joint_answer
joint_tractions = tractions_on_joints two_blocks joint_claim 0 0 (returned joint-answered) (refl, inl refl) 0 one_jump

-- -20 on the left and -19 on the right: 21 at the jump's first row, and the two normal stresses differ
pub uneven_answer : NumbersAnswer
uneven_answer = record {
  number = 21;
  place = 13;
  field = 0;
  multipliers = 0;
  l = pos 0;
  n = pos 0;
  w = pos 0;
  m = pos 0;
  open_rows = 0;
}

abbrev uneven_claim : List ℤ
uneven_claim = on_joint (neg_ℤ (pos 19)) (neg_ℤ (pos 30))

pub uneven_answered : Answers two_blocks uneven_claim uneven_answer
unfolding computed zeros blocks block_edges joint two_blocks on_joint uneven_answer
uneven_answered = refl

pub uneven_normal : ¬ NormalAgreesAt two_blocks (stress two_blocks uneven_claim) (pos 40) (pos 1) 0
    (jump_from two_blocks 0) (facing_from two_blocks 0)
unfolding computed zeros blocks block_edges joint two_blocks on_joint uneven_answer
uneven_normal =
    jump_normal_from_fails two_blocks uneven_claim
    ((rows_refused two_blocks uneven_claim 21 13 (returned uneven_answered)).equality refl).fails 0 (omega arith) refl

-- document 01's sheet has no jump: its equality rows stay
no_jump : jumps worked_mesh ≡ 0
unfolding computed zeros worked_mesh
no_jump = refl

pub sheet_equalities_stay : equality_rows worked_mesh ≡ balance_rows worked_mesh ++ side_rows worked_mesh
sheet_equalities_stay = (jumps_asked worked_mesh).none no_jump
