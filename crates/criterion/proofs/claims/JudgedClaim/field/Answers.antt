-- `field` meets its contract: the stresses are lent from the first on, and the load is read from the header.
use mathlib.Core.Path.{refl, sym, ◌∙◌}
use native.Mathlib.Nat.{le_refl}
use native.Mathlib.Omega.{arith}
use Rattle.integer.proofs.Machine.{Is-read, Is-within, Is-Within}
use Rattle.scope.specs.Columns.{at, n, l}
use Rattle.criterion.proofs.ClaimLaws.{scale_within, load_within, stress_of, stresses_there, stresses_within}
use Rattle.criterion.proofs.claims.JudgedClaim.field.Goals as goal

pub invariant_of-result : goal.invariant_of-result
unfolding at n l
invariant_of-result c =
    let claim = c.args.self.now in
    record {
      its_polygon = claim.its_polygon;
      there = stresses_there claim.facts (sym c.has_field.ensures ∙ c.if-not-has_field.false);
      stresses_fit = stresses_within claim.facts;
      l_fits = Is-Within (Is-read (Is-within (load_within claim.facts)) (omega arith)) (le_refl _);
      n_fits = Is-Within (Is-read (Is-within (scale_within claim.facts)) (omega arith)) (le_refl _);
    }

pub returns-clause-found : goal.returns-clause-found
unfolding at n l
returns-clause-found c =
    let claim = c.args.self.now in
    record {
      there = sym c.has_field.ensures ∙ c.if-not-has_field.false;
      its_mesh = refl;
      its_stresses = stress_of claim.mesh.mesh.numbers.now claim.numbers.now;
      its_load = (Is-read (Is-within (load_within claim.facts)) (omega arith)).same;
      its_scale = (Is-read (Is-within (scale_within claim.facts)) (omega arith)).same;
    }
