-- The theorems applied to document 01's sheet, to fill over clay and to two blocks on a joint: antt computes what
-- passes, and the theorems say the rest.
use mathlib.Core.Path.{◌≡◌, refl, sym, ◌∙◌, ap}
use mathlib.Core.List.{List, [], ◌∷◌}
use Prim.Native.Nat.{ℕ, zero, suc, ◌*◌, ◌<◌}
use mathlib.Core.Logic.{inl}
use lib.ListN.{length}
use Rattle.integer.proofs.Ring.{ring, terms}
use native.Mathlib.Omega.{arith}
use mathlib.Core.Bool.{Bool}
use lib.Dec.{lt→ltb}
use lib.IntN.{ℤ, pos, neg_ℤ, ◌*ℤ◌, ◌-ℤ◌}
use lib.Signed.{lt_z_yes}
use Rattle.integer.specs.Fraction.{◌over◌, ◌≈ᶠ◌, ◌≤ᶠ◌, Positive}
use Rattle.scope.specs.declared.Place.TheVariants.{Line, Column, Element, Row as PlaceRow}
use Rattle.scope.specs.Cases.Outcome.{Passed, Refused as Fails}
use Rattle.scope.specs.Cases.Verdict.{Refused}
use Rattle.scope.specs.Columns.{n, l}
use Rattle.scope.specs.Mesh.{nodes}
use Rattle.scope.specs.Rows.{Row, t, strength_pairs, equality_rows, strength_rows, rows_of}
use Rattle.scope.specs.Sums.{weighted_sum, weighed, unit, live_sum, limit_sum, open_rows}
use Rattle.scope.specs.Claim.{claim_layout, stress, multiplier}
use Rattle.scope.specs.Verdict.{mesh_check, field_check, multipliers_check, verdict, lines_check}
use Rattle.scope.proofs.Computed.{computed}
use Rattle.scope.specs.Accepted.{FieldAccepted, MultipliersAccepted}
use Rattle.scope.specs.PrintedColumns.{printed_column, printed_live, printed_limit}
use Rattle.scope.specs.Pairs.{soil_before, rows_before}
use Rattle.scope.specs.AcceptedField.{TractionsAgree}
use Rattle.scope.proofs.AcceptedField.{tractions_agree}
use Rattle.scope.specs.Bracket.{to_spare}
use Rattle.scope.specs.Parts.{carried, allowed, SameRows, SameRow, PartsBracket}
use Rattle.scope.proofs.SameRows.{judged_as, judged, same_judged, same_mesh, equal_numbers}
use Rattle.scope.specs.Worked.{turned_mesh, zeros, worked_mesh, worked_stresses, worked_multipliers, worked_claim}
use Rattle.scope.specs.Worked.{multipliers_alone, sheet, sheet19, sheet29, nineteen_fractions, nineteen_sixths}
use Rattle.scope.specs.Worked.{one_edge, free_shear, fill_over_clay, over_clay, blocks, block_edges, joint}
use Rattle.scope.specs.Worked.{two_blocks, on_joint, shared_blocks, on_shared, cut_with_tip, on_cut, against_its_side}
use Rattle.scope.specs.Worked.{facing_turned, side_with_edge, facing_with_edge, jump_twice, sides_apart}
use Rattle.scope.specs.Worked.{joint_from_behind, crossing_bars}
use Rattle.scope.specs.Fractions.{FractionField, WrittenOver}
use Rattle.scope.specs.AcceptedFractions.{MeetsMesh}
use Rattle.integer.specs.Tests.{eq_z}
use Rattle.scope.proofs.Decides.{all_below_lem, equalℤ}
use Rattle.scope.proofs.Pairs.{pair_of}
use Rattle.scope.proofs.Parts.{parts_bracket, open_rows_count}
use Rattle.scope.proofs.AcceptedMultipliers.{sums_printed, multipliers_as_printed}
use Rattle.scope.proofs.AcceptedFractions.{mesh_fractions}
use Rattle.scope.specs.Tests.{row_at}
use Rattle.scope.specs.Statements.{HasField, HasMultipliers}
use Rattle.scope.proofs.Refusals.{mesh_passed, lines_passed, field_passed, multipliers_passed}

-- ---- what passes is accepted

pub field_accepted : (m c : List ℤ) → mesh_check m ≡ Passed → lines_check (claim_layout m) c ≡ Passed → HasField c
    → field_check (equality_rows m) (strength_rows m) (stress m c) (l c) (n c) ≡ Passed → FieldAccepted m c
unfolding rows_of
field_accepted m c a b h e = record {
  mesh = (mesh_passed m).says a;
  lines = (lines_passed (claim_layout m) c).says b;
  there = h;
  meets = (field_passed (equality_rows m) (strength_rows m) (stress m c) (l c) (n c)).says e;
}

pub multipliers_accepted : (m c : List ℤ) → mesh_check m ≡ Passed → lines_check (claim_layout m) c ≡ Passed
    → HasMultipliers c → multipliers_check (equality_rows m) (rows_of m) (3 * nodes m) (multiplier m c) ≡ Passed
    → MultipliersAccepted m c
multipliers_accepted m c a b h e = record {
  mesh = (mesh_passed m).says a;
  lines = (lines_passed (claim_layout m) c).says b;
  there = h;
  meet = (multipliers_passed (equality_rows m) (rows_of m) (3 * nodes m) (multiplier m c)).says e;
}

-- ---- the sheet: m = 30, W = 600

pub sheet-field : FieldAccepted worked_mesh sheet
unfolding computed zeros worked_mesh worked_stresses worked_multipliers worked_claim multipliers_alone sheet sheet19
    sheet29
sheet-field = field_accepted worked_mesh sheet refl refl refl refl

pub sheet_multipliers : MultipliersAccepted worked_mesh sheet
unfolding computed zeros worked_mesh worked_stresses worked_multipliers worked_claim multipliers_alone sheet sheet19
    sheet29
sheet_multipliers = multipliers_accepted worked_mesh sheet refl refl refl refl

pub sheet_sums : (live_sum (multiplier worked_mesh sheet) (rows_of worked_mesh) ≡ pos 30)
    × (limit_sum (multiplier worked_mesh sheet) (rows_of worked_mesh) ≡ pos 600)
unfolding computed zeros worked_mesh worked_stresses worked_multipliers worked_claim multipliers_alone sheet sheet19
    sheet29
sheet_sums = (refl, refl)

-- the same as sums over the printed rows
pub sheet-printed : (printed_live worked_mesh (multiplier worked_mesh sheet) ≡ pos 30)
    × (printed_limit worked_mesh (multiplier worked_mesh sheet) ≡ pos 600)
sheet-printed = let sums = sums_printed worked_mesh sheet sheet_multipliers.mesh in
    (sym sums.live ∙ sheet_sums.0, sym sums.limit ∙ sheet_sums.1)

-- the t column of node 3, as printed
pub sheet-column-9 : printed_column worked_mesh (multiplier worked_mesh sheet) (t 2) ≡ pos 0
unfolding computed zeros worked_mesh
sheet-column-9 = (((multipliers_as_printed worked_mesh sheet).exactly.0 sheet_multipliers).3.columns 2 (omega arith)).2

-- 20 carried, 600/30 allowed, and no row open
pub sheet_bracket : PartsBracket worked_mesh sheet worked_mesh sheet
sheet_bracket = parts_bracket worked_mesh sheet worked_mesh sheet (same_mesh refl) sheet-field sheet_multipliers

pub sheet_open : open_rows (stress worked_mesh sheet) (l sheet) (n sheet) (multiplier worked_mesh sheet)
    (rows_of worked_mesh) ≡ 0
unfolding computed zeros worked_mesh worked_stresses worked_multipliers worked_claim multipliers_alone sheet sheet19
    sheet29
sheet_open = refl

pub sheet_closed : carried sheet ≈ᶠ allowed worked_mesh sheet
sheet_closed = (open_rows_count worked_mesh sheet sheet-field sheet_multipliers).none.0 sheet_open

-- ---- l 19: 600 - 570 = 15 + 15

pub nineteen_field : FieldAccepted worked_mesh sheet19
unfolding computed zeros worked_mesh worked_stresses worked_multipliers worked_claim multipliers_alone sheet sheet19
    sheet29
nineteen_field = field_accepted worked_mesh sheet19 refl refl refl refl

-- the strength rows 25 and 36, sides 1 and 12 of node 3, each with multiplier 1 and 15 to spare; they follow 14
-- equality rows
pub nineteen_spare : (to_spare (stress worked_mesh sheet19) (l sheet19) (n sheet19)
    (row_at (strength_rows worked_mesh) 24) ≡ pos 15)
    × (to_spare (stress worked_mesh sheet19) (l sheet19) (n sheet19) (row_at (strength_rows worked_mesh) 35) ≡ pos 15)
unfolding computed zeros worked_mesh worked_stresses worked_multipliers worked_claim multipliers_alone sheet sheet19
    sheet29 to_spare
nineteen_spare = (refl, refl)

pub nineteen_gap : weighted_sum (to_spare (stress worked_mesh sheet19) (l sheet19) (n sheet19))
    (weighed (multiplier worked_mesh sheet19) (rows_of worked_mesh)) ≡ pos 600 *ℤ pos 1 -ℤ pos 19 *ℤ pos 30
unfolding computed zeros worked_mesh worked_stresses worked_multipliers worked_claim multipliers_alone sheet sheet19
    sheet29 to_spare
nineteen_gap = refl

-- ---- the field of l 19 against the multipliers of another claim

pub alone_multipliers : MultipliersAccepted worked_mesh multipliers_alone
unfolding computed zeros worked_mesh worked_stresses worked_multipliers worked_claim multipliers_alone sheet sheet19
    sheet29
alone_multipliers = multipliers_accepted worked_mesh multipliers_alone refl refl refl refl

pub nineteen_alone : PartsBracket worked_mesh sheet19 worked_mesh multipliers_alone
nineteen_alone =
    parts_bracket worked_mesh sheet19 worked_mesh multipliers_alone (same_mesh refl) nineteen_field alone_multipliers

-- ---- an accepted field within a refused claim

pub refused_claim : verdict worked_mesh sheet29 ≡ Refused 32 (Column 7)
unfolding computed zeros worked_mesh worked_stresses worked_multipliers worked_claim multipliers_alone sheet sheet19
    sheet29
refused_claim = refl

pub field_of_refused : FieldAccepted worked_mesh sheet29
unfolding computed zeros worked_mesh worked_stresses worked_multipliers worked_claim multipliers_alone sheet sheet19
    sheet29
field_of_refused = field_accepted worked_mesh sheet29 refl refl refl refl

pub refused_bracket : PartsBracket worked_mesh sheet29 worked_mesh sheet
refused_bracket =
    parts_bracket worked_mesh sheet29 worked_mesh sheet (same_mesh refl) field_of_refused sheet_multipliers

-- ---- a field in fractions with different denominators

above_0 : (num : ℤ) (d : ℕ) → Positive (num over pos (suc d))
above_0 num d = record { positive = record { lt = lt→ltb 0 (suc d) (omega arith) } }

fractions : FractionField
fractions = record {
  stress = λ k. record {
    value = (nineteen_fractions k).0 over pos (suc (nineteen_fractions k).1);
    proper =
        above_0 (nineteen_fractions k).0 (nineteen_fractions k).1;
  };
  load = record { value = pos 38 over pos 2; proper = above_0 (pos 38) 1 };
}

-- each is the one over 6, tested at the twelve columns
sixths : WrittenOver (3 * nodes worked_mesh) fractions (pos 6) nineteen_sixths (pos 114)
unfolding computed zeros worked_mesh worked_stresses worked_multipliers worked_claim multipliers_alone sheet sheet19
    sheet29 nineteen_fractions nineteen_sixths fractions
sixths = record {
  above_0 = lt_z_yes tt;
  stresses = λ j h. record {
    cross-≡ = (all_below_lem {f = test} {P = Same}
        (λ j. equalℤ (nineteen_sixths j *ℤ pos (suc (nineteen_fractions j).1)) ((nineteen_fractions j).0 *ℤ pos 6))
        12).holds tt j h;
  };
  load = record { cross-≡ = refl };
}
  where
    test : ℕ → Bool
    test j = eq_z (nineteen_sixths j *ℤ pos (suc (nineteen_fractions j).1)) ((nineteen_fractions j).0 *ℤ pos 6)

    Same : ℕ → Type 0
    Same j = nineteen_sixths j *ℤ pos (suc (nineteen_fractions j).1) ≡ (nineteen_fractions j).0 *ℤ pos 6

fractions_meet : MeetsMesh worked_mesh fractions
unfolding computed zeros worked_mesh worked_stresses worked_multipliers worked_claim multipliers_alone sheet sheet19
    sheet29 nineteen_fractions nineteen_sixths fractions
fractions_meet = record {
  denominator = pos 6;
  numerators = nineteen_sixths;
  numerator = pos 114;
  written = sixths;
  meets = (field_passed (equality_rows worked_mesh) (strength_rows worked_mesh) nineteen_sixths (pos 114) (pos 6)).says
      refl;
}

pub fractions_at_most : pos 38 over pos 2 ≤ᶠ allowed worked_mesh sheet
unfolding fractions
fractions_at_most = (mesh_fractions worked_mesh sheet-field.mesh).at_most sheet fractions sheet_multipliers
    fractions_meet

-- ---- meshes that differ in a number of an unfixed part: the same rows, though not the same numbers

pub one_edge_rows : SameRows (one_edge (pos 0)) (one_edge (pos 5))
unfolding computed zeros one_edge judged_as judged
one_edge_rows = same_judged (one_edge (pos 0)) (one_edge (pos 5)) refl

-- row 4 of each, the unfixed shear at the edge's from-node, has another right side
pub one_edge_numbers : ¬ (rows_of (one_edge (pos 0)) ≡ rows_of (one_edge (pos 5)))
unfolding computed zeros one_edge
one_edge_numbers e = let z : ◌≡◌ {A = ℤ} (pos 0) (pos 5) = ap (λ (rs : List Row). (row_at rs 3).right) e in let y : ◌≡◌
    {A = ℕ} 0 5 = cc in omega arith

-- a field on the one mesh and multipliers on the other
pub free_field : FieldAccepted (free_shear (pos 0)) sheet19
unfolding computed zeros free_shear worked_stresses worked_multipliers worked_claim sheet19
free_field = field_accepted (free_shear (pos 0)) sheet19 refl refl refl refl

pub free_multipliers : MultipliersAccepted (free_shear (pos 5)) sheet
unfolding computed zeros free_shear worked_stresses worked_multipliers worked_claim sheet
free_multipliers = multipliers_accepted (free_shear (pos 5)) sheet refl refl refl refl

pub free_rows : SameRows (free_shear (pos 0)) (free_shear (pos 5))
unfolding computed zeros free_shear judged_as judged
free_rows = same_judged (free_shear (pos 0)) (free_shear (pos 5)) refl

pub free_bracket : PartsBracket (free_shear (pos 0)) sheet19 (free_shear (pos 5)) sheet
free_bracket = parts_bracket (free_shear (pos 0)) sheet19 (free_shear (pos 5)) sheet free_rows free_field
    free_multipliers

-- ---- an element written from another corner: the same rows, though their coefficients stand in another order

turned_row : (k : ℕ) → k < length (rows_of worked_mesh)
    → SameRow (row_at (rows_of worked_mesh) k) (row_at (rows_of turned_mesh) k)
unfolding computed zeros worked_mesh turned_mesh
turned_row zero h = inl (record {
  kind = refl;
  coefficients = λ j.
      ring (unit j 0 ∷ unit j 2 ∷ unit j 3 ∷ unit j 5 ∷ unit j 6 ∷ unit j 8 ∷ unit j 9 ∷ unit j 11 ∷ [])
      (search terms depth 100) refl;
  live = refl;
  right = refl;
})
turned_row (suc zero) h = inl (record {
  kind = refl;
  coefficients = λ j.
      ring (unit j 1 ∷ unit j 2 ∷ unit j 4 ∷ unit j 5 ∷ unit j 7 ∷ unit j 8 ∷ unit j 10 ∷ unit j 11 ∷ [])
      (search terms depth 100) refl;
  live = refl;
  right = refl;
})
turned_row (suc (suc k)) h = inl (equal_numbers refl)

pub turned_rows : SameRows worked_mesh turned_mesh
unfolding computed zeros worked_mesh turned_mesh
turned_rows = record { as_many = refl; each = turned_row }

-- ---- fill over clay: nodes 3 and 4 have two pairs each

pub clay_pairs : strength_pairs fill_over_clay
    ≡ pair_of 0 1 ∷ pair_of 1 1 ∷ pair_of 2 0 ∷ pair_of 2 1 ∷ pair_of 3 0 ∷ pair_of 3 1 ∷ pair_of 4 0 ∷ pair_of 5 0 ∷ []
unfolding computed zeros fill_over_clay
clay_pairs = refl

-- at 20 document 01's rows were met: a field within the fill's strength passed
pub clay_passed_before : field_check (equality_rows fill_over_clay) (rows_before fill_over_clay)
    (stress fill_over_clay (over_clay 20)) (l (over_clay 20)) (n (over_clay 20)) ≡ Passed
unfolding computed zeros fill_over_clay over_clay soil_before rows_before
clay_passed_before = refl

-- at 20 the first row that fails is side 1 of the fourth pair, node 3 with the clay: (4-1)·12 + 1; at 10 the clay holds
-- too
pub clay_refused : verdict fill_over_clay (over_clay 20) ≡ Refused 22 (PlaceRow 37)
unfolding computed zeros fill_over_clay over_clay
clay_refused = refl

pub clay_accepted : FieldAccepted fill_over_clay (over_clay 10)
unfolding computed zeros fill_over_clay over_clay
clay_accepted = field_accepted fill_over_clay (over_clay 10) refl refl refl refl

-- ---- two blocks on a joint: 40 carried, 1200/30 allowed, and sy jumps from -40 to 0

abbrev joint_claim : List ℤ
joint_claim = on_joint (neg_ℤ (pos 20)) (neg_ℤ (pos 30))

pub joint-field : FieldAccepted two_blocks joint_claim
unfolding computed zeros blocks block_edges joint two_blocks on_joint
joint-field = field_accepted two_blocks joint_claim refl refl refl refl

pub joint_multipliers : MultipliersAccepted two_blocks joint_claim
unfolding computed zeros blocks block_edges joint two_blocks on_joint
joint_multipliers = multipliers_accepted two_blocks joint_claim refl refl refl refl

pub joint_closed : carried joint_claim ≈ᶠ allowed two_blocks joint_claim
unfolding computed zeros blocks block_edges joint two_blocks on_joint
joint_closed = (open_rows_count two_blocks joint_claim joint-field joint_multipliers).none.0 refl

pub joint_tractions : TractionsAgree two_blocks joint_claim
joint_tractions = tractions_agree two_blocks joint_claim joint-field

-- pressed unevenly: the first of the jump's rows fails, after 4 balance rows and 8 side rows
pub joint_uneven : verdict two_blocks (on_joint (neg_ℤ (pos 19)) (neg_ℤ (pos 30))) ≡ Refused 21 (PlaceRow 13)
unfolding computed zeros blocks block_edges joint two_blocks on_joint
joint_uneven = refl

-- the jump's multiplier left out: the sx column of node 3
pub joint-column : verdict two_blocks (on_joint (neg_ℤ (pos 20)) (pos 0)) ≡ Refused 32 (Column 7)
unfolding computed zeros blocks block_edges joint two_blocks on_joint
joint-column = refl

-- the same blocks with common nodes carry nothing: 0/1 is the limit, so the jump raises what is carried to 40
pub shared_multipliers : MultipliersAccepted shared_blocks on_shared
unfolding computed zeros shared_blocks on_shared
shared_multipliers = multipliers_accepted shared_blocks on_shared refl refl refl refl

pub jump_raises : (allowed shared_blocks on_shared ≡ pos 0 over pos 1) × (carried joint_claim ≡ pos 40 over pos 1)
unfolding computed zeros blocks block_edges joint two_blocks on_joint shared_blocks on_shared carried allowed
jump_raises = (refl, refl)

-- a cut whose tip isn't doubled carries 20
pub cut_field : FieldAccepted cut_with_tip on_cut
unfolding computed zeros cut_with_tip on_cut
cut_field = field_accepted cut_with_tip on_cut refl refl refl refl

-- ---- 44 for each reason, with the line of the jump

pub refused_44 : (mesh_check against_its_side ≡ Fails 44 (Line 15)) × (mesh_check facing_turned ≡ Fails 44 (Line 15))
    × (mesh_check side_with_edge ≡ Fails 44 (Line 14)) × (mesh_check facing_with_edge ≡ Fails 44 (Line 14))
    × (mesh_check sides_apart ≡ Fails 44 (Line 13)) × (mesh_check jump_twice ≡ Fails 44 (Line 14))
    × (mesh_check joint_from_behind ≡ Fails 44 (Line 14))
unfolding computed zeros blocks block_edges joint against_its_side facing_turned side_with_edge facing_with_edge
    jump_twice sides_apart joint_from_behind
refused_44 = (refl, refl, refl, refl, refl, refl, refl)

-- ---- 47: no corner of a bar is inside the other, and the block touches both

pub refused_47 : mesh_check crossing_bars ≡ Fails 47 (Element 3)
unfolding computed zeros crossing_bars
refused_47 = refl
