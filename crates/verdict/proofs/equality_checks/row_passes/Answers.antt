-- `row_passes` meets its contract: the machine reads l and n as they are.
use mathlib.Core.Path.{◌∙◌, ap₂}
use native.Mathlib.Nat.{le_refl}
use native.Mathlib.Omega.{arith}
use lib.IntN.{ℤ}
use Rattle.integer.proofs.Machine.{Is-read, Is-within, Is-Within}
use Rattle.scope.specs.Columns.{at}
use Rattle.scope.specs.Sums.{row_holds}
use Rattle.equality.specs.EqualityContracts.{row_of}
use Rattle.equality.proofs.EntryLaws.{columns_wider}
use Rattle.verdict.proofs.equality_checks.row_passes.Goals as goal

pub holds-requires : goal.holds-requires
holds-requires c =
    let field = c.args.field.now in record {
      columns_there = columns_wider c.requires field.there;
      field_fits = field.stresses_fit;
      load_fits = Is-Within (Is-read (Is-within field.l_fits) (omega arith)) (le_refl _);
      scale_fits = Is-Within (Is-read (Is-within field.n_fits) (omega arith)) (le_refl _);
    }

pub returns : goal.returns
returns c =
    let field = c.args.field.now in
    let load = Is-read (Is-within field.l_fits) (omega arith) in
    let scale = Is-read (Is-within field.n_fits) (omega arith) in
    c.holds.ensures
    ∙ ap₂ (λ (l n : ℤ). row_holds (at field.stresses.now) l n (row_of c.args.row.now)) load.same scale.same
