-- The promises about sides (document 02, N9 and N14) and about 42 at sheets with 108 sides, and at document 01's sheet,
-- which has 12.
use mathlib.Core.Path.{◌≡◌, refl, subst}
use mathlib.Core.List.{List, []}
use Prim.Native.Nat.{ℕ, zero, suc, ◌≤◌, ◌<◌}
use native.Mathlib.Omega.{arith}
use lib.IntN.{ℤ, pos}
use lib.Signed.{◌<ℤ◌, ◌≤ℤ◌, lt_z_yes}
use lib.ListN.{length, get_or}
use Rattle.scope.specs.Cases.Outcome.{Passed}
use Rattle.scope.specs.Columns.{at}
use Rattle.scope.specs.Mesh.{mesh_header_columns, mesh_layout, soils, sides, ByDirection, pairs_with}
use Rattle.scope.specs.Rows.{pair_count}
use Rattle.scope.specs.Claim.{claim_layout}
use Rattle.scope.specs.Verdict.{line_at, mesh_check}
use Rattle.scope.specs.Statements.{Complete, HasMultipliers}
use Rattle.scope.specs.Refusals.{SoundTo}
use Rattle.scope.specs.SideLimits.{strength_at, strength_line}
use Rattle.scope.proofs.Refusals.{line_passed, mesh_passed}
use Rattle.scope.specs.Pairs.{PairsFail}
use Rattle.pechuvo.specs.Sheets.{Sheet, sheet}
use Rattle.pechuvo.specs.Sheets108.{many_nodes, sheets_108}
use Rattle.pechuvo.specs.SheetsBeds.{bedded_block, bedded_half, bedded_unused, bedded_sheets}
use Rattle.pechuvo.specs.Answers.{Answers}
use Rattle.pechuvo.specs.Promises.{mesh_in, claim_in}
use Rattle.pechuvo.proofs.Sheets.{computed_line}
use Rattle.pechuvo.proofs.Promises.{on_mesh}
use Rattle.pechuvo.proofs.PromisesApplied as A
use Rattle.pechuvo.proofs.PromisesApplied.{room, fits, plain, sheet-answered}

many : (mesh_header_columns ≤ length (mesh_in many_nodes.mesh)) × (sides (mesh_in many_nodes.mesh) ≡ 108)
    × (pos 40 <ℤ at (mesh_in many_nodes.mesh) 0)
unfolding computed_line many_nodes
many = (omega arith, refl, lt_z_yes tt)

-- 41 nodes with 108 sides: any answer has 2, line 1
pub forty_one_nodes : (number place : ℕ) (after : List ℕ) → Answers many_nodes.mesh [] many_nodes.claim
    (pos 6) room number place after → (number ≡ 2) × (place ≡ 1)
forty_one_nodes number place after h =
    (on_mesh (mesh_in many_nodes.mesh) many_nodes.claim (pos 6) room number place after
    (plain many_nodes.mesh many_nodes.claim h) fits).sides.many_nodes many.0 many.1 many.2

-- document 01's sheet: its 12 sides leave 100 pairs
twelve : ¬ (sides (mesh_in (A.at 0).mesh) ≡ 108)
unfolding computed_line
twelve e = omega arith

pub sheet_pairs : pair_count (mesh_in (A.at 0).mesh) ≤ 100
sheet_pairs =
    let answered = plain (A.at 0).mesh (A.at 0).claim sheet-answered in
    let call = on_mesh (mesh_in (A.at 0).mesh) (A.at 0).claim (pos 6) room 0 0 (A.at 0).line answered fits in
    (call.sides.limits.with_fewer twelve).pairs_few (call.returns_zero.exactly.0 refl).mesh

-- and its strength multipliers are at most 10,000
sheet_has_multipliers : HasMultipliers (claim_in (mesh_in (A.at 0).mesh) (A.at 0).claim)
unfolding computed_line
sheet_has_multipliers = refl

pub sheet_multipliers : (a i : ℕ) → a < pair_count (mesh_in (A.at 0).mesh) → i < sides (mesh_in (A.at 0).mesh)
    → strength_at (mesh_in (A.at 0).mesh) (claim_in (mesh_in (A.at 0).mesh) (A.at 0).claim) a i ≤ℤ pos 10000
sheet_multipliers =
    let answered = plain (A.at 0).mesh (A.at 0).claim sheet-answered in
    let call = on_mesh (mesh_in (A.at 0).mesh) (A.at 0).claim (pos 6) room 0 0 (A.at 0).line answered fits in
    let accepted = call.returns_zero.exactly.0 refl in
    λ a i h l. ((call.sides.limits.with_fewer twelve).strength_few (claim_in (mesh_in (A.at 0).mesh) (A.at 0).claim)
    accepted.mesh accepted.lines sheet_has_multipliers a i h l).most

-- a multiplier of 301 in line 3: any answer has 12 there
abbrev large : Sheet
large = get_or sheets_108 5 (sheet "" "" "")

abbrev large_mesh : List ℤ
large_mesh = mesh_in large.mesh

abbrev large_claim : List ℤ
large_claim = claim_in large_mesh large.claim

large_facts : (mesh_check large_mesh ≡ Passed) × HasMultipliers large_claim × (sides large_mesh ≡ 108)
    × (0 < pair_count large_mesh) × (0 < sides large_mesh) × (pos 300 <ℤ strength_at large_mesh large_claim 0 0)
    × (line_at (claim_layout large_mesh) large_claim 0 ≡ Passed)
    × (line_at (claim_layout large_mesh) large_claim 1 ≡ Passed)
    × Complete (claim_layout large_mesh) large_claim 2 × (strength_line large_mesh large_claim 0 ≡ 2)
unfolding computed_line many_nodes sheets_108
large_facts = (refl, refl, refl, omega arith, omega arith, lt_z_yes tt, refl, refl, refl, refl)

large_before : SoundTo (claim_layout large_mesh) large_claim 2
large_before zero h = (line_passed (claim_layout large_mesh) large_claim 0).says large_facts.6
large_before (suc zero) h = (line_passed (claim_layout large_mesh) large_claim 1).says large_facts.7
large_before (suc (suc k)) h = absurd (omega (arith, h))

pub large_multiplier : (number place : ℕ) (after : List ℕ) → Answers large.mesh [] large.claim
    (pos 6) room number place after → (number ≡ 12) × (place ≡ 3)
large_multiplier number place after h =
    let call = on_mesh large_mesh large.claim (pos 6) room number place after (plain large.mesh large.claim h) fits in
    let sound = (mesh_passed large_mesh).says large_facts.0 in
    subst (λ (k : ℕ). (number ≡ 12) × (place ≡ suc k)) large_facts.9
    (call.sides.large_multiplier sound large_facts.1 large_facts.2 0 0 large_facts.3 large_facts.4 large_facts.5
    (rw large_facts.9 large_before) (rw large_facts.9 large_facts.8))

-- bedded clay in line 2: any answer has 2 there
abbrev bedded : Sheet
bedded = get_or bedded_sheets 7 (sheet "" "" "")

bedded_facts : (sides (mesh_in bedded.mesh) ≡ 108) × (0 < soils (mesh_in bedded.mesh))
    × ByDirection (mesh_in bedded.mesh) 0 × (line_at mesh_layout (mesh_in bedded.mesh) 0 ≡ Passed)
    × Complete mesh_layout (mesh_in bedded.mesh) 1
unfolding computed_line bedded_block bedded_half bedded_unused bedded_sheets
bedded_facts = (refl, omega arith, refl, refl, refl)

bedded_before : SoundTo mesh_layout (mesh_in bedded.mesh) 1
bedded_before zero h = (line_passed mesh_layout (mesh_in bedded.mesh) 0).says bedded_facts.3
bedded_before (suc k) h = absurd (omega (arith, h))

pub bedded_soil : (number place : ℕ) (after : List ℕ) → Answers bedded.mesh [] bedded.claim
    (pos 6) room number place after → (number ≡ 2) × (place ≡ 2)
bedded_soil number place after h =
    (on_mesh (mesh_in bedded.mesh) bedded.claim (pos 6) room number place after
    (plain bedded.mesh bedded.claim h) fits).sides.bedded_soil
    bedded_facts.0 0 bedded_facts.1 bedded_facts.2 bedded_before bedded_facts.4

-- a strip of elements whose soils alternate: 42 at node 22, which brings the 41st pair
abbrev strip : Sheet
strip = get_or sheets_108 7 (sheet "" "" "")

strip_answered : Answers strip.mesh [] strip.claim (pos 6) room 42 22 strip.line
unfolding A.opened many_nodes sheets_108
strip_answered = record { number_is = refl; place_is = refl; buffer_is = refl }

strip_sides : pairs_with (sides (mesh_in strip.mesh)) ≡ 40
unfolding computed_line sheets_108
strip_sides = refl

pub pair_41 : PairsFail (mesh_in strip.mesh) 40 22
pair_41 =
    subst (λ (most : ℕ). PairsFail (mesh_in strip.mesh) most 22) strip_sides (
    (on_mesh (mesh_in strip.mesh) strip.claim (pos 6) room 42 22 strip.line
    (plain strip.mesh strip.claim strip_answered) fits).pairs.refused
    refl)
