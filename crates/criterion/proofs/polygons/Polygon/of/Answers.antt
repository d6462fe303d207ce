-- `Polygon::of` meets its contract: the corners are those of the polygon, and so the sides are its.
use mathlib.Core.Path.{◌∙◌, sym, ap, subst}
use Prim.Native.Nat.{ℕ}
use native.Mathlib.Nat.{le_refl}
use native.Mathlib.Omega.{arith}
use Rattle.integer.proofs.Machine.{Is-read, Is-within, Is-Within}
use Rattle.scope.specs.Polygon.{polygon_of}
use Rattle.scope.proofs.PolygonRule.{listed_polygon}
use Rattle.criterion.specs.StrengthContracts.{SidesAre}
use Rattle.criterion.proofs.SideLaws.{table_of, radius_of, steps_counted, sides_of}
use Rattle.criterion.proofs.polygons.Polygon.of.Goals as goal

pub steps_from-requires : goal.steps_from-requires
steps_from-requires c = table_of (listed_polygon _ c.requires.listed) c.circle_of-radius.ensures.corners

pub invariant_of-result : goal.invariant_of-result
invariant_of-result c =
    let p = listed_polygon _ c.requires.listed in
    let circle = c.circle_of-radius.ensures in
    let steps = c.steps_from.result.items in
    let count = sym (steps_counted p steps circle.corners c.steps_from.ensures) in
    let radius = Is-read (Is-within (radius_of p circle.radius)) (omega arith) in
    record {
      radius_fits = Is-Within radius (le_refl _);
      circle = radius.same ∙ circle.radius ∙ ap (λ (k : ℕ). (polygon_of k).radius) count;
      drawn =
          subst (λ (k : ℕ). SidesAre (polygon_of k) steps) count
          (sides_of p steps circle.corners c.steps_from.ensures);
    }

pub returns : goal.returns
returns c =
    steps_counted (listed_polygon _ c.requires.listed) _ c.circle_of-radius.ensures.corners c.steps_from.ensures
