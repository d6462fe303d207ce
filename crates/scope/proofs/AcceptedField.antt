-- An accepted field meets the criterion, or the strength of each plane, and tractions agree on joints: its rows are the
-- printed ones, and the soil of a pair is a soil of the mesh.
use mathlib.Core.Path.{refl, sym}
use mathlib.Core.Logic.{⊎_elim}
use mathlib.Core.List.{List}
use lib.IntN.{ℤ}
use Rattle.integer.proofs.Order.{≤ℤ_split, suc≤ℤ→<ℤ}
use Rattle.scope.specs.Accepted.{FieldAccepted}
use Rattle.scope.specs.Columns.{n, l}
use Rattle.scope.specs.Mesh.{element_soil, sides, p, q, cohesion, cohesion_across}
use Rattle.scope.specs.Polygon.{polygon_of}
use Rattle.scope.specs.Rows.{sx, sy, t}
use Rattle.scope.specs.Claim.{stress}
use Rattle.scope.specs.AcceptedField.{CriterionEverywhere, CriterionAround, TractionsAgree, PlanesEverywhere}
use Rattle.scope.proofs.NumberRanges.{mesh_facts}
use Rattle.scope.proofs.ClaimNumberRanges.{claim_facts}
use Rattle.scope.proofs.Printed.{field-printed}
use Rattle.scope.proofs.Criterion.{field_criterion}
use Rattle.scope.proofs.Planes.{plane_meaning}
use Rattle.scope.proofs.Jumps.{same_traction}
use Rattle.scope.proofs.Pairs.{pairs, sound_pairs}

pub accepted_criterion : (m c : List ℤ) → FieldAccepted m c → CriterionEverywhere m c
accepted_criterion m c field a j d =
    let mesh = mesh_facts m field.mesh.lines in
    let claim = claim_facts m c field.lines mesh in
    let soil = mesh.soil a.soil (((pairs m).exactly a).0 j).1 in
    record {
      n_above_0 = ⊎_elim (λ above. above) (λ e. absurd (claim.parts_fit.with_field field.there (sym e)))
          (≤ℤ_split claim.n_range.least);
      right_angle = soil.right_angle;
      p_not_below_0 = soil.p_range.least;
      q_above_0 = suc≤ℤ→<ℤ soil.q_range.least;
      h_above_0 = suc≤ℤ→<ℤ soil.h_range.least;
      criterion = field_criterion m (stress m c) (l c) (n c) ((field-printed m (stress m c) (l c) (n c)).0 field.meets)
          a j d;
    }

pub criterion_around : (m c : List ℤ) → FieldAccepted m c → CriterionAround m c
criterion_around m c field v e h corner d =
    accepted_criterion m c field (record { at = v; soil = element_soil m e })
    (((sound_pairs m field.mesh).exactly (record { at = v; soil = element_soil m e })).1
    (record { element = e; there = h; has-corner = corner; same = refl })) d

pub planes_everywhere : (m c : List ℤ) → FieldAccepted m c → PlanesEverywhere m c
planes_everywhere m c field a j d v k =
    let x = stress m c (sx a.at) in
    let y = stress m c (sy a.at) in
    let z = stress m c (t a.at) in
    (plane_meaning (polygon_of (sides m)).radius v (p m a.soil) (q m a.soil) (cohesion m a.soil)
    (cohesion_across m a.soil) (n c) x y z).both.0
    (((field-printed m (stress m c) (l c) (n c)).0 field.meets).planes a j d v k)

pub tractions_agree : (m c : List ℤ) → FieldAccepted m c → TractionsAgree m c
tractions_agree m c field j h =
    same_traction m field.mesh (stress m c) (l c) (n c) ((field-printed m (stress m c) (l c) (n c)).0 field.meets) j h
