-- `equality_holds` meets its contract: the row's numbers are those of the definition's row.
use mathlib.Core.Path.{◌∙◌, ap, ap₂}
use native.Mathlib.Nat.{le_refl}
use native.Mathlib.Omega.{arith}
use lib.IntN.{ℤ}
use Rattle.integer.proofs.Machine.{Is-read, Is-within, Is-Within}
use Rattle.scope.specs.Columns.{at}
use Rattle.scope.specs.Sums.{row_holds}
use Rattle.equality.specs.EqualityContracts.{row_of}
use Rattle.equality.proofs.EntryLaws.{columns_wider}
use Rattle.verdict.proofs.field_checks.equality_holds.Goals as goal

pub holds-requires : goal.holds-requires
holds-requires c =
    let field = c.requires.field_fits in record {
      columns_there = columns_wider c.equality_row.ensures.there field.long;
      field_fits = field.stresses;
      load_fits = Is-Within (Is-read (Is-within field.load) (omega arith)) (le_refl _);
      scale_fits = Is-Within (Is-read (Is-within field.scale) (omega arith)) (le_refl _);
    }

pub returns : goal.returns
returns c =
    let x = at c.args.x.now in
    let field = c.requires.field_fits in
    let load = Is-read (Is-within field.load) (omega arith) in
    let scale = Is-read (Is-within field.scale) (omega arith) in
    c.holds.ensures
    ∙ ap₂ (λ (l n : ℤ). row_holds x l n (row_of c.equality_row.result)) load.same scale.same
    ∙ ap (row_holds x c.args.l c.args.n) c.equality_row.ensures.is
