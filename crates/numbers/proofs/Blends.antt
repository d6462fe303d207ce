-- Blends of the fields of two calls (document 02, N11): each call's number says that its field is accepted, and
-- `scope` blends those. Then applied to document 01's sheet and its neighbours: antt computes the loads, and the
-- promise says the rest.
use mathlib.Core.Path.{refl}
use mathlib.Core.Logic.{inl}
use mathlib.Core.List.{List}
use Prim.Native.Nat.{◌*◌}
use native.Mathlib.Omega.{arith}
use lib.IntN.{ℤ, pos}
use Rattle.scope.proofs.SameRows.{same_mesh}
use Rattle.integer.specs.Fraction.{◌over◌, ◌≈ᶠ◌, ◌≤ᶠ◌}
use Rattle.scope.specs.Mesh.{nodes}
use Rattle.scope.specs.Fractions.{FractionField, field_over}
use Rattle.scope.specs.Claim.{stress}
use Rattle.scope.specs.Columns.{n, l}
use Rattle.scope.specs.Parts.{carried, allowed}
use Rattle.scope.specs.Blends.{mean, SameField, Carries, BlendedClaims}
use Rattle.scope.specs.Worked.{zeros, worked_mesh, worked_stresses, worked_multipliers, worked_claim, sheet, sheet19}
use Rattle.scope.specs.Worked.{sheet29}
use Rattle.scope.proofs.Computed.{computed}
use Rattle.scope.proofs.Applied.{sheet_multipliers}
use Rattle.scope.proofs.Blends.{blended_claims}
use Rattle.numbers.specs.declared.numbers_answer.NumbersAnswer.{NumbersAnswer}
use Rattle.numbers.specs.Promises.{TellsField, BlendedAnswers}
use Rattle.numbers.proofs.Promises.{returned, field_exactly}
use Rattle.numbers.proofs.Reported.{field_in_fractions}
use Rattle.numbers.proofs.PromisesApplied.{answer19, sheet-answered, nineteen_answered, refused_answered, tells_field}

pub blended_answers : {m c d k : List ℤ} {r s : NumbersAnswer} → BlendedAnswers m c d k r s
blended_answers {m} {c} {d} {k} {r} {s} h g same t u a b w =
    blended_claims a b m c d k w same ((field_exactly m c r.number r.place (returned h)).told.1 t)
    ((field_exactly d k s.number s.place (returned g)).told.1 u)

-- ---- applied

sheet_tells : TellsField sheet 0
unfolding computed zeros worked_stresses worked_multipliers worked_claim sheet
sheet_tells = (refl, inl refl)

nineteen_tells : TellsField sheet19 0
unfolding computed zeros worked_stresses worked_multipliers worked_claim sheet19
nineteen_tells = (refl, inl refl)

-- the sheet and l 19, as often the one as the other: 39/2 is carried, and is at most the sheet's limit
half_way : BlendedClaims 1 1 worked_mesh sheet worked_mesh sheet19
half_way = blended_answers sheet-answered nineteen_answered (same_mesh refl) sheet_tells nineteen_tells 1 1 (omega arith)

pub half_way_carried : (f : FractionField) × Carries worked_mesh f × (f.load.value ≈ᶠ pos 39 over pos 2)
unfolding computed zeros worked_stresses worked_multipliers worked_claim sheet sheet19 carried
half_way_carried = let (f, blend) = half_way.can_be_blended in let e = half_way.each f blend in (f, e.0, e.1)

pub half_way_at_most : half_way_carried.0.load.value ≤ᶠ allowed worked_mesh sheet
half_way_at_most = half_way_carried.1.at_most worked_mesh sheet (same_mesh refl) sheet_multipliers

-- that twice with l 19 once, a blend of a blend: (2·39/2 + 19)/3 is carried
pub again_carried : (f : FractionField) × Carries worked_mesh f
    × (f.load.value ≈ᶠ mean 2 1 half_way_carried.0.load.value (pos 19 over pos 1))
unfolding computed zeros worked_stresses worked_multipliers worked_claim sheet19
again_carried =
    let (g, carries, load) = half_way_carried in
    let nineteen = field_in_fractions worked_mesh sheet19 answer19 nineteen_answered refl in
    let k = field_over (pos 1) nineteen.above_0 (stress worked_mesh sheet19) (pos 19) in
    let blends = half_way.again in
    let (f, blend) = blends.laws.can_be_blended 2 1 (omega arith) g k in
    (f, blends.carries f (blends.laws.meets 2 1 (omega arith) g k f blend carries.meets nineteen.meets), blend.load)

-- weights 1 and 0 give the sheet's own field back
pub alone : BlendedClaims 1 0 worked_mesh sheet worked_mesh sheet19
alone = blended_answers sheet-answered nineteen_answered (same_mesh refl) sheet_tells nineteen_tells 1 0 (omega arith)

pub sheet_alone : (f : FractionField) × SameField (3 * nodes worked_mesh) f
    (field_over (n sheet) alone.n_above_0 (stress worked_mesh sheet) (l sheet))
sheet_alone = let (f, blend) = alone.can_be_blended in (f, alone.again.laws.first_alone 1 (omega arith) _ _ f blend)

-- a claim that is refused for its multipliers, blended with the sheet
pub refused_blended : BlendedClaims 2 3 worked_mesh sheet29 worked_mesh sheet
refused_blended = blended_answers refused_answered sheet-answered (same_mesh refl) tells_field sheet_tells 2 3 (omega arith)
