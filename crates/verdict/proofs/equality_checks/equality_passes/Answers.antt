-- `equality_passes` meets its contract: the field's numbers are there and within their bounds.
use native.Mathlib.Nat.{le_refl}
use native.Mathlib.Omega.{arith}
use Rattle.integer.proofs.Machine.{Is-read, Is-within, Is-Within}
use Rattle.verdict.proofs.equality_checks.equality_passes.Goals as goal

pub equality_holds-requires-clause-field_fits : goal.equality_holds-requires-clause-field_fits
equality_holds-requires-clause-field_fits c =
    let field = c.args.field.now in record {
      long = field.there;
      stresses = field.stresses_fit;
      load = Is-Within (Is-read (Is-within field.l_fits) (omega arith)) (le_refl _);
      scale = Is-Within (Is-read (Is-within field.n_fits) (omega arith)) (le_refl _);
    }
