-- The promises applied to one sheet with triangles, pairs, a joint and a table, with 12 and with 108 sides and with
-- bedded clay: antt computes the answers, and `MixedSays` says the rest.
use mathlib.Core.Path.{◌≡◌, refl, subst}
use mathlib.Core.Logic.{◌⊎◌, inl, inr}
use mathlib.Core.List.Memᴰ
use Prim.Native.Nat.{ℕ, zero, suc, ◌+◌, ◌*◌, ◌<◌, ◌≤◌}
use native.Mathlib.Omega.{arith}
use mathlib.Core.List.{List}
use lib.IntN.{ℤ, pos, neg_ℤ}
use Rattle.std.specs.Prelude.{Result}
use Rattle.scope.specs.declared.Refusal as Answered
use Rattle.scope.specs.Mesh.{mesh_layout, soils, sides, ByDirection, ListsDirection}
use Rattle.scope.specs.Cases.Outcome.{Passed}
use Rattle.scope.specs.Verdict.{line_at}
use Rattle.integer.specs.Members.{◌∈◌}
use Rattle.scope.specs.Layers.{Has}
use Rattle.scope.specs.Polygon.{point, half_turn, polygon_of}
use Rattle.scope.specs.Rows.{Pair, pair_count, pair_at}
use Rattle.scope.specs.Claim.{stress}
use Rattle.scope.specs.Columns.{n, l}
use Rattle.scope.specs.Printed.{StrengthAt}
use Rattle.scope.specs.Printed.{nth_side}
use Rattle.scope.specs.Answer.{outcome_of, place_for, mesh_number_of}
use Rattle.scope.specs.declared.Place.TheVariants.{Row}
use Rattle.scope.specs.Refusals.{SoundTo, Refusal}
use Rattle.scope.specs.Statements.{Complete, HasField, HasMultipliers}
use Rattle.scope.proofs.Refusals.{line_passed}
use Rattle.scope.specs.TableVerdict.{TableFits}
use Rattle.scope.proofs.RefusedRows.{jump_normal_from_fails, side_fails, plane_minus_fails}
use Rattle.numbers.specs.declared.numbers_answer.NumbersAnswer.{NumbersAnswer}
use Rattle.numbers.specs.Promises.{Answers, Returned, MeshAnswered}
use Rattle.numbers.specs.TablePromises.{TableAnswers}
use Rattle.numbers.specs.MixedSheet.{two_layers, layers_turned, lower_layer, unfilled, soils_written, even}
use Rattle.numbers.specs.MixedSheet.{mixed_claim, claim_108, bedded_claim}
use Rattle.numbers.specs.MixedSheet.{ClaimSays, PlainSays, BeddedSays, FewNodes, TableSays, RefusedSays, JointFails}
use Rattle.numbers.specs.MixedSheet.{ClayFails, BedFails, GapRefused}
use Rattle.numbers.proofs.Promises.{returned, refuses_exactly, rows_refused, sides_asked}
use Rattle.numbers.proofs.TablePromises.{table_returned, table_exactly}
use Rattle.numbers.proofs.MixedSays.{opened, facts_lem, filled_lem, mesh_alone, claim_says, plain_says, bedded_says}
use Rattle.numbers.proofs.MixedSays.{many_says_lem, refused_says, table_fits, on_filled, table_facts, answer, refusal}

-- ---- 12 sides: 64 is carried, 15,360/240 allowed, no row open

abbrev pub mixed_answer : NumbersAnswer
mixed_answer = answer 64 1 15360 240

pub mixed_answered : TableAnswers two_layers (unfilled 12 0) (mixed_claim 64 even) mixed_answer
unfolding opened
mixed_answered = refl

fits_lem : TableFits two_layers (unfilled 12 0)
fits_lem = table_fits two_layers (unfilled 12 0) (mixed_claim 64 even) mixed_answer mixed_answered refl

mixed_on_filled : Answers (soils_written 12 0) (mixed_claim 64 even) mixed_answer
mixed_on_filled =
    on_filled two_layers (unfilled 12 0) (mixed_claim 64 even) mixed_answer mixed_answered fits_lem (filled_lem 12 0)

pub mixed_parts : HasField (mixed_claim 64 even) × HasMultipliers (mixed_claim 64 even)
unfolding opened
mixed_parts = (refl, refl)

pub mixed_says : ClaimSays (soils_written 12 0) (mixed_claim 64 even) mixed_answer
mixed_says =
    claim_says (soils_written 12 0) (mixed_claim 64 even) mixed_answer mixed_on_filled refl (facts_lem 12 0)
    mixed_parts.0 mixed_parts.1 refl

pub mixed_kinds : (¬ ByDirection (soils_written 12 0) 1) × (¬ ListsDirection (soils_written 12 0))
unfolding opened
mixed_kinds = (λ e. let z : ◌≡◌ {A = ℕ} 0 1 = cc in omega arith, none)
  where
    none : ¬ ListsDirection (soils_written 12 0)
    none (zero, h, e) = let z : ◌≡◌ {A = ℕ} 0 1 = cc in omega arith
    none (suc zero, h, e) = let z : ◌≡◌ {A = ℕ} 0 1 = cc in omega arith
    none (suc (suc s), h, e) = absurd (omega (arith, h))

pub mixed_plain : PlainSays (soils_written 12 0) (mixed_claim 64 even) mixed_answer
mixed_plain =
    plain_says (soils_written 12 0) (mixed_claim 64 even) mixed_answer mixed_on_filled refl (facts_lem 12 0)
    mixed_parts.0 mixed_parts.1 mixed_kinds.0 mixed_kinds.1

-- without a claim
pub mixed_alone : {A : Type 0} (a : Result A Answered.Refusal) → MeshAnswered (soils_written 12 0) a
    → mesh_number_of (outcome_of a) ≡ 0
mixed_alone = mesh_alone (soils_written 12 0) (mixed_claim 64 even) mixed_answer mixed_on_filled refl (facts_lem 12 0)

pub mixed_table : TableSays two_layers layers_turned (unfilled 12 0)
mixed_table = table_facts 12 0 fits_lem

-- one more than the clay carries; 39 on the right of the joint; the lower layer alone
beyond_answered : TableAnswers two_layers (unfilled 12 0) (mixed_claim 65 even) (refusal 22 13)
unfolding opened
beyond_answered = refl

beyond_on_filled : Answers (soils_written 12 0) (mixed_claim 65 even) (refusal 22 13)
beyond_on_filled =
    on_filled two_layers (unfilled 12 0) (mixed_claim 65 even) (refusal 22 13) beyond_answered fits_lem
    (filled_lem 12 0)

pub clay_fails : ClayFails (soils_written 12 0) (mixed_claim 65 even) 13
unfolding opened
clay_fails =
    let lowest =
    ((rows_refused (soils_written 12 0) (mixed_claim 65 even) 22 13 (returned beyond_on_filled)).strength refl).1 in
    record {
      lowest = lowest;
      named = side_fails (soils_written 12 0) (mixed_claim 65 even) (inl refl) lowest.fails 1 0 (omega arith)
          (omega arith) mixed_kinds.0 refl;
    }

pub clay_refusal : Refusal (soils_written 12 0) (mixed_claim 65 even) 22 (Row 13)
unfolding place_for
clay_refusal =
    ((refuses_exactly (soils_written 12 0) (mixed_claim 65 even) 22 13 (returned beyond_on_filled)).exactly 22 13
    (λ e. omega arith)).0 (refl, refl)

pub clay_refused : RefusedSays (refusal 22 13)
clay_refused = refused_says (soils_written 12 0) (mixed_claim 65 even) (refusal 22 13) beyond_on_filled
    (λ e. omega arith) (λ e. omega arith)

uneven_answered : TableAnswers two_layers (unfilled 12 0) (mixed_claim 64 (neg_ℤ (pos 39))) (refusal 21 15)
unfolding opened
uneven_answered = refl

pub joint_fails : JointFails (soils_written 12 0) (mixed_claim 64 (neg_ℤ (pos 39)))
unfolding opened
joint_fails =
    let on = on_filled two_layers (unfilled 12 0) (mixed_claim 64 (neg_ℤ (pos 39)))
    (refusal 21 15) uneven_answered fits_lem (filled_lem 12 0) in
    let lowest =
    (rows_refused (soils_written 12 0) (mixed_claim 64 (neg_ℤ (pos 39))) 21 15 (returned on)).equality refl in
    record {
      lowest = lowest;
      named = jump_normal_from_fails (soils_written 12 0) (mixed_claim 64 (neg_ℤ (pos 39))) lowest.fails 0 (omega arith)
          refl;
    }

gap_answered : TableAnswers lower_layer (unfilled 12 0) (mixed_claim 64 even) (refusal 45 12)
unfolding opened
gap_answered = refl

pub gap_refused : GapRefused lower_layer (unfilled 12 0) (mixed_claim 64 even)
unfolding place_for
gap_refused =
    let told = table_exactly lower_layer (unfilled 12 0) (mixed_claim 64 even) 45 12 (table_returned gap_answered) in (
      (told.refuses 45 12 (λ e. omega arith)).0 (refl, refl),
      (told.layers_asked.exactly 45 12 (inl refl)).0 (refl, refl),
    )

lower_unfit : ¬ TableFits lower_layer (unfilled 12 0)
unfolding opened
lower_unfit f = let top = (f refl).sound.once 16 (omega arith) (omega arith) in above top.layer top.there top.has
  where
    above : (i : ℕ) → i < 1 → Has lower_layer 16 i → ⊥
    above zero l h = h.1.lt
    above (suc i) l h = absurd (omega (arith, l))

-- and any answer with that table has the number of a line or of the table
pub gap_numbers : {r : NumbersAnswer} → TableAnswers lower_layer (unfilled 12 0) (mixed_claim 64 even) r
    → (r.number ≤ 4) ⊎ ((r.number ≡ 45) ⊎ (r.number ≡ 46))
gap_numbers {r} h =
    (table_exactly lower_layer (unfilled 12 0) (mixed_claim 64 even) r.number r.place (table_returned h)).unfit
    lower_unfit

-- ---- 108 sides: 64 is carried, 53,181,440/830,960 allowed, no row open

abbrev pub many_answer : NumbersAnswer
many_answer = answer 64 1 53181440 830960

pub many_answered : TableAnswers two_layers (unfilled 108 0) (claim_108 64 even) many_answer
unfolding opened
many_answered = refl

many_fits : TableFits two_layers (unfilled 108 0)
many_fits = table_fits two_layers (unfilled 108 0) (claim_108 64 even) many_answer many_answered refl

many_on_filled : Answers (soils_written 108 0) (claim_108 64 even) many_answer
many_on_filled =
    on_filled two_layers (unfilled 108 0) (claim_108 64 even) many_answer many_answered many_fits (filled_lem 108 0)

pub many_parts : HasField (claim_108 64 even) × HasMultipliers (claim_108 64 even)
unfolding opened
many_parts = (refl, refl)

pub many_says : ClaimSays (soils_written 108 0) (claim_108 64 even) many_answer
many_says =
    claim_says (soils_written 108 0) (claim_108 64 even) many_answer many_on_filled refl (facts_lem 108 0)
    many_parts.0 many_parts.1 refl

pub many_sides : sides (soils_written 108 0) ≡ 108
unfolding opened
many_sides = refl

pub many_few : FewNodes (soils_written 108 0) (claim_108 64 even)
many_few =
    many_says_lem (soils_written 108 0) (claim_108 64 even) many_answer many_on_filled refl (facts_lem 108 0)
    many_parts.1 many_sides

-- and with clay of kind 1, line 3: any answer has 2 there
bedded_108 : (sides (soils_written 108 1) ≡ 108) × (1 < soils (soils_written 108 1))
    × ByDirection (soils_written 108 1) 1 × (line_at mesh_layout (soils_written 108 1) 0 ≡ Passed)
    × (line_at mesh_layout (soils_written 108 1) 1 ≡ Passed) × Complete mesh_layout (soils_written 108 1) 2
unfolding opened
bedded_108 = (refl, omega arith, refl, refl, refl, refl)

header_passes : SoundTo mesh_layout (soils_written 108 1) 2
header_passes zero h = (line_passed mesh_layout (soils_written 108 1) 0).says bedded_108.3
header_passes (suc zero) h = (line_passed mesh_layout (soils_written 108 1) 1).says bedded_108.4
header_passes (suc (suc k)) h = absurd (omega (arith, h))

pub bedded_108_refused : (c : List ℤ) (r : NumbersAnswer) → Answers (soils_written 108 1) c r
    → (r.number ≡ 2) × (r.place ≡ 3)
bedded_108_refused c r h =
    (sides_asked (soils_written 108 1) c r.number r.place (returned h)).bedded_soil bedded_108.0 1 bedded_108.1
    bedded_108.2 header_passes bedded_108.5

beyond_108 : TableAnswers two_layers (unfilled 108 0) (claim_108 65 even) (refusal 22 109)
unfolding opened
beyond_108 = refl

pub many_kinds : (¬ ByDirection (soils_written 108 0) 1) × (¬ ListsDirection (soils_written 108 0))
unfolding opened
many_kinds = (λ e. let z : ◌≡◌ {A = ℕ} 0 1 = cc in omega arith, none)
  where
    none : ¬ ListsDirection (soils_written 108 0)
    none (zero, h, e) = let z : ◌≡◌ {A = ℕ} 0 1 = cc in omega arith
    none (suc zero, h, e) = let z : ◌≡◌ {A = ℕ} 0 1 = cc in omega arith
    none (suc (suc s), h, e) = absurd (omega (arith, h))

pub many_plain : PlainSays (soils_written 108 0) (claim_108 64 even) many_answer
many_plain =
    plain_says (soils_written 108 0) (claim_108 64 even) many_answer many_on_filled refl (facts_lem 108 0)
    many_parts.0 many_parts.1 many_kinds.0 many_kinds.1

beyond_108_returned : Returned (soils_written 108 0) (claim_108 65 even) 22 109
beyond_108_returned =
    returned {m = soils_written 108 0} {c = claim_108 65 even} {r = refusal 22 109}
    (on_filled two_layers (unfilled 108 0) (claim_108 65 even) (refusal 22 109) beyond_108 many_fits (filled_lem 108 0))

many_row : (1 < pair_count (soils_written 108 0)) × (0 < sides (soils_written 108 0))
    × (109 ≡ 1 * sides (soils_written 108 0) + 1) × (pair_at (soils_written 108 0) 1 ≡ record { at = 0; soil = 1 })
unfolding opened
many_row = (omega arith, omega arith, refl, refl)

many_pair_kind : ¬ ByDirection (soils_written 108 0) (pair_at (soils_written 108 0) 1).soil
unfolding opened
many_pair_kind e = let z : ◌≡◌ {A = ℕ} 0 1 = cc in omega arith

pub many_clay_fails : ClayFails (soils_written 108 0) (claim_108 65 even) 109
many_clay_fails =
    let lowest =
    ((rows_refused (soils_written 108 0) (claim_108 65 even) 22 109 beyond_108_returned).strength refl).1 in
    record {
      lowest = lowest;
      named = subst (λ (a : Pair). ¬ StrengthAt (soils_written 108 0) (stress (soils_written 108 0) (claim_108 65 even))
          (l (claim_108 65 even)) (n (claim_108 65 even)) (polygon_of (sides (soils_written 108 0))).radius a
          (nth_side (soils_written 108 0) 0)) many_row.3
          (side_fails (soils_written 108 0) (claim_108 65 even) (inr (inr (inr many_sides))) lowest.fails 1 0 many_row.0
          many_row.1 many_pair_kind many_row.2);
    }

pub many_clay_refusal : Refusal (soils_written 108 0) (claim_108 65 even) 22 (Row 109)
unfolding place_for
many_clay_refusal =
    ((refuses_exactly (soils_written 108 0) (claim_108 65 even) 22 109 beyond_108_returned).exactly 22 109
    (λ e. omega arith)).0
    (refl, refl)

pub many_alone : {A : Type 0} (a : Result A Answered.Refusal) → MeshAnswered (soils_written 108 0) a
    → mesh_number_of (outcome_of a) ≡ 0
many_alone = mesh_alone (soils_written 108 0) (claim_108 64 even) many_answer many_on_filled refl (facts_lem 108 0)

pub many_table : TableSays two_layers layers_turned (unfilled 108 0)
many_table = table_facts 108 0 many_fits

-- ---- bedded clay: 65 is carried and not told, 15,600/240 is allowed, no row open

abbrev pub bedded_answer : NumbersAnswer
bedded_answer = answer 0 0 15600 240

pub bedded_answered : TableAnswers two_layers (unfilled 12 1) (bedded_claim 65 even) bedded_answer
unfolding opened
bedded_answered = refl

bedded_fits : TableFits two_layers (unfilled 12 1)
bedded_fits = table_fits two_layers (unfilled 12 1) (bedded_claim 65 even) bedded_answer bedded_answered refl

bedded_on_filled : Answers (soils_written 12 1) (bedded_claim 65 even) bedded_answer
bedded_on_filled =
    on_filled two_layers (unfilled 12 1) (bedded_claim 65 even) bedded_answer bedded_answered bedded_fits
    (filled_lem 12 1)

pub bedded_parts : HasField (bedded_claim 65 even) × HasMultipliers (bedded_claim 65 even)
unfolding opened
bedded_parts = (refl, refl)

pub bedded_claim_says : ClaimSays (soils_written 12 1) (bedded_claim 65 even) bedded_answer
bedded_claim_says =
    claim_says (soils_written 12 1) (bedded_claim 65 even) bedded_answer bedded_on_filled refl (facts_lem 12 1)
    bedded_parts.0 bedded_parts.1 refl

pub bedded_kind : ByDirection (soils_written 12 1) 1 × (1 < soils (soils_written 12 1))
    × (point (pos 4) (pos 3) ∈ half_turn (polygon_of (sides (soils_written 12 1))).corners)
unfolding opened
bedded_kind = (refl, omega arith, Memᴰ.tail (Memᴰ.head refl))

pub bedded_planes : BeddedSays (soils_written 12 1) (bedded_claim 65 even) bedded_answer
bedded_planes =
    bedded_says (soils_written 12 1) (bedded_claim 65 even) bedded_answer bedded_on_filled refl (facts_lem 12 1)
    bedded_parts.0 bedded_parts.1 bedded_kind.0 bedded_kind.1 bedded_kind.2

beyond_beds : TableAnswers two_layers (unfilled 12 1) (bedded_claim 66 even) (refusal 22 16)
unfolding opened
beyond_beds = refl

bed_returned : Returned (soils_written 12 1) (bedded_claim 66 even) 22 16
bed_returned =
    returned {m = soils_written 12 1} {c = bedded_claim 66 even} {r = refusal 22 16}
    (on_filled two_layers (unfilled 12 1) (bedded_claim 66 even) (refusal 22 16) beyond_beds bedded_fits
    (filled_lem 12 1))

pub bed_fails : BedFails (soils_written 12 1) (bedded_claim 66 even)
unfolding opened
bed_fails =
    let lowest = ((rows_refused (soils_written 12 1) (bedded_claim 66 even) 22 16 bed_returned).strength refl).1 in
    record {
      lowest = lowest;
      named = plane_minus_fails (soils_written 12 1) (bedded_claim 66 even) (inl refl) lowest.fails 1 1 (omega arith)
          (omega arith) refl refl;
    }

pub bed_refusal : Refusal (soils_written 12 1) (bedded_claim 66 even) 22 (Row 16)
unfolding place_for
bed_refusal =
    ((refuses_exactly (soils_written 12 1) (bedded_claim 66 even) 22 16 bed_returned).exactly 22 16
    (λ e. omega arith)).0 (refl, refl)

pub bedded_alone : {A : Type 0} (a : Result A Answered.Refusal) → MeshAnswered (soils_written 12 1) a
    → mesh_number_of (outcome_of a) ≡ 0
bedded_alone = mesh_alone (soils_written 12 1) (bedded_claim 65 even) bedded_answer bedded_on_filled refl
    (facts_lem 12 1)

pub bedded_table : TableSays two_layers layers_turned (unfilled 12 1)
bedded_table = table_facts 12 1 bedded_fits
